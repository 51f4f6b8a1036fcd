-- Document 02, P1: what a reader that votes promises where r and m are within the limits and the chunk has n bits. Assumes nothing.
use Rattle.std.specs.Prelude.{◌≡◌, true, ℕ, ◌^◌, ◌≤◌, ◌<◌}
use Rattle.bits.specs.Places.{bit}
use Rattle.model.specs.Card.{code_of}
use Rattle.model.specs.Order.{last_codeword}
use Rattle.model.specs.Reading.{chunk_distance, within_radius, chunk_reading, chunk_status, chunk_values}
use Rattle.model.specs.ReedMuller.{reed_muller, reed_muller_card, order_within_limits}
use Rattle.model.specs.VoteChunk.{vote_values}
use Rattle.model.specs.Reading.{Chunk}
use Rattle.model.specs.VoteChunk.{VoteAnswer, Voted}
use Rattle.model.specs.Refusals.{status_of}

-- What `ReadsChunks` (code_theory) promises of every chunk, said of one answer: a codeword within t of the chunk is answered, with the
-- count of bits by which they differ; and what is answered is a codeword of the code, within t, with that count.
pub record ReadAsPromised (r m chunk : ℕ) (answer : VoteAnswer) : Type 0 where
  pub reads : (p : ℕ) → p ≤ last_codeword (reed_muller r m) → within_radius (reed_muller r m) (bit chunk) p ≡ true
      → answer ≡ Voted p (chunk_distance (reed_muller r m) (bit chunk) p)
  pub within : (p e : ℕ) → answer ≡ Voted p e
      → (p ≤ last_codeword (reed_muller r m)) × (within_radius (reed_muller r m) (bit chunk) p ≡ true)
      × (e ≡ chunk_distance (reed_muller r m) (bit chunk) p)

abbrev pub KeepsPromise : (r m chunk : ℕ) (answer : VoteAnswer) → Type 0
KeepsPromise r m chunk answer = order_within_limits r m ≡ true → chunk < 2 ^ 2 ^ m → ReadAsPromised r m chunk answer

-- Both readers answer alike: on every chunk of n bits, readable or not, the status and the values are those of the chunk's reading by
-- search, on the made card of any track.
abbrev pub AnswersAsSearch : (r m chunk : ℕ) (answer : VoteAnswer) → Type 0
AnswersAsSearch r m chunk answer =
    (track : ℕ) → order_within_limits r m ≡ true → chunk < 2 ^ 2 ^ m
    → let read : Chunk = chunk_reading (code_of (reed_muller_card track r m)) (bit chunk) in
    (status_of answer ≡ chunk_status read) × (vote_values answer ≡ chunk_values read)

-- what is promised of a vote on a chunk beside the equation
pub record VotePromises (r m chunk : ℕ) (answer : VoteAnswer) : Type 0 where
  pub promised : KeepsPromise r m chunk answer
  pub as_search : AnswersAsSearch r m chunk answer
