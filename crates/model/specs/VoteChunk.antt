-- Document 02, P1: a vote on a chunk, a number of 64 bits. Assumes nothing.
use Rattle.std.specs.Prelude.{not, List, [], ◌∷◌, ℕ, ◌^◌, leb, Result, Ok}
use Rattle.bits.specs.Places.{bit}
use Rattle.model.specs.Refusals.{refuses, first_refusal, Refused, values_by, unless_refused}
use Rattle.model.specs.ReedMuller.{order_within_limits, voted_number, voted_distance, voted_within}
use Rattle.model.specs.declared.ReadChunk.{ReadChunk}
use Rattle.model.specs.declared.Refusal.{Refusal}

-- the answer to a vote on a chunk: the codeword that it reads as, and that answer by the codeword's number and the count of differing places
abbrev pub VoteAnswer : Type 0
VoteAnswer = Result ReadChunk Refusal

abbrev pub Voted : (p e : ℕ) → VoteAnswer
Voted p e = Ok (record { number = p; differing = e })

-- the refusal's number, or 0 where the chunk is read. 8 is a bit at n or above, and n is 2^m
unfoldable pub vote_refusal : (r m chunk : ℕ) → ℕ
vote_refusal r m chunk =
    first_refusal
    (refuses 13 (not (order_within_limits r m))
    ∷ refuses 8 (leb (2 ^ 2 ^ m) chunk)
    ∷ refuses 10 (not (voted_within r m (bit chunk)))
    ∷ [])

-- the answer
unfoldable pub vote_answer : (r m chunk : ℕ) → VoteAnswer
vote_answer r m chunk =
    unless_refused (vote_refusal r m chunk) Refused (Voted (voted_number r m (bit chunk)) (voted_distance r m (bit chunk)))

-- its values, none of a refusal
abbrev pub vote_values : VoteAnswer → List ℕ
vote_values answer = values_by (λ read. read.number ∷ read.differing ∷ []) answer

-- the values expected of a chunk that is read by voting, by the definitions: the codeword's number, and in how many bits the two differ
unfoldable pub vote_expected : (r m chunk : ℕ) → List ℕ
vote_expected r m chunk = voted_number r m (bit chunk) ∷ voted_distance r m (bit chunk) ∷ []
