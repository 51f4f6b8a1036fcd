-- A card's refusal, what is known of a sound card's code, and the chunk promise: what the theory of words and reading may know of it.
-- Assumes nothing.
use Rattle.std.specs.Prelude.{◌≡◌, Bool, true, List, ℕ, ◌+◌, ◌≤◌, ◌<◌}
use Rattle.model.specs.Card.{Code, card_refusal}
pub use Rattle.model.specs.SoundCode.{Sound}
use Rattle.model.specs.Order.{last_codeword, changed_weight, block_length, start}
use Rattle.model.specs.Reading.{chunk_distance, within_radius, chunk_reading}
use Rattle.model.specs.Levels.{chunk_wrong, within_erasures, erasure_reading}
use Rattle.code_theory.specs.LeastDistance.{codeword_distance}
use Rattle.model.specs.Reading.{Chunk, Codeword}
use Rattle.model.specs.declared.Refusal.{Refusal}

-- the refusal of a card that is not sound: its number, which is not 0
pub record RefusalOf (b : List ℕ) (refusal : Refusal) : Type 0 where
  pub number : card_refusal b ≡ refusal.number
  pub not_zero : refusal.number ≡ 0 → ⊥

-- What a reader of chunks promises, whatever its search, given codewords 0 to `last`, a test of which of them are near to a chunk, and a
-- count of the places in which the two differ. Two readers that promise it answer alike (`readers_agree`).
pub record ReadsNear (X : Type 0) (last : ℕ) (near : X → ℕ → Bool) (count : X → ℕ → ℕ) (read : X → Chunk) : Type 0 where
  -- a chunk to which codeword p is near reads p, with the count
  pub reads : (x : X) (p : ℕ) → p ≤ last → near x p ≡ true → read x ≡ Codeword p (count x p)
  -- codeword p, one of the code's, is near to a chunk that reads p, and the count is theirs
  pub within : (x : X) (p e : ℕ) → read x ≡ Codeword p e → (p ≤ last) × (near x p ≡ true) × (e ≡ count x p)

-- what a reader of code chunks promises where just these places are unerased: the codeword for which 2 × wrong + erased is below D, and how
-- many places are wrong
abbrev pub ReadsWithErasures : Code → (unerased : ℕ → Bool) → ((ℕ → ℕ) → Chunk) → Type 0
ReadsWithErasures C unerased read = ReadsNear (ℕ → ℕ) (last_codeword C) (within_erasures C unerased) (chunk_wrong C unerased) read

-- where nothing is erased: the codeword within the radius, and in how many places the two differ
abbrev pub ReadsChunks : Code → ((ℕ → ℕ) → Chunk) → Type 0
ReadsChunks C read = ReadsNear (ℕ → ℕ) (last_codeword C) (within_radius C) (chunk_distance C) read

-- The chunk promise: all that the laws of words and reading know of the code and its order (only the bounds on the size of numbers,
-- which code needs, go by the card's limits). On the reading of chunks it has two halves. Words of plain bits need only the first, which
-- the reader that votes keeps as well; words whose bits may be erased need the second.
pub record ChunkPromise (C : Code) : Type 0 where
  pub D-pos : 1 ≤ C.D
  -- there are two codewords at least, so every position lies on the way from one to the next
  pub two_codewords : 1 ≤ last_codeword C
  pub plain : ReadsChunks C (chunk_reading C)
  pub chunks : (unerased : ℕ → Bool) → ReadsWithErasures C unerased (erasure_reading C unerased)
  -- the first block starts at 0, and each one where the one before it ends
  pub start_zero : start C 0 ≡ 0
  pub start_next : (i : ℕ) → i < last_codeword C → start C (i + 1) ≡ start C i + block_length C i
  -- codewords that follow one another differ in A(i) places
  pub step : (i : ℕ) → i < last_codeword C → codeword_distance C i (i + 1) ≡ changed_weight C i
