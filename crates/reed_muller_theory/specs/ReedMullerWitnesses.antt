-- What is promised of made cards and of votes, held from below: of whatever is made or answered, each row says what the promise alone
-- gives, with just t bits damaged, with one more, at the widest chunk, and at the ends of the limits of r and m. A premise that nobody can
-- meet, or a bound looser than document 02's, no longer gives its row. Assumes nothing.
use Rattle.std.specs.Prelude.{◌≡◌, true, List, [], ◌∷◌, ℕ, pos}
use Rattle.model.specs.Card.{length_of, row_count_of, offset_of, code_of}
use Rattle.model.specs.ReedMuller.{order_within_limits}
use Rattle.model.specs.CheckCard.{card_answer}
use Rattle.model.specs.VoteChunk.{vote_values}
use Rattle.model.specs.declared.CardSummary.{CardSummary}
use Rattle.reed_muller_theory.specs.MadeCards.{IsReedMullerCard}
use Rattle.reed_muller_theory.specs.Votes.{KeepsPromise, AnswersAsSearch}
use Rattle.std.specs.Prelude.{Ok}
use Rattle.model.specs.VoteChunk.{VoteAnswer, Voted}
use Rattle.model.specs.Refusals.{status_of}

-- the card of order 1 in two variables for track 14: n 4, k 3, D 2, t 0, d 14, last position 86
abbrev pub summary12 : CardSummary
summary12 = record { n = 4; k = 3; track = 14; distance = 2; radius = 0; bits = 14; last = 86 }

-- chunks of order 1 in three variables, whose t is 1: one bit from codeword 12, and two or more from every codeword
abbrev pub one_off : ℕ
one_off = 0b01011110

abbrev pub two_off : ℕ
two_off = 0b00011110

pub record VotesWitnessed : Type 0 where
  -- the limits of r and m, from either end: m 1 and 6, r 0 and m, and the most rows, eleven
  pub fewest : order_within_limits 0 1 ≡ true
  pub most_variables : order_within_limits 1 6 ≡ true
  pub order_of_m : order_within_limits 3 3 ≡ true
  pub most_rows : order_within_limits 2 4 ≡ true
  -- a made card: a check answers its values, its offset is 0, and its second row is the first variable
  pub checked : (card : List ℕ) → IsReedMullerCard 14 1 2 card → card_answer card ≡ Ok summary12
  pub fields : (card : List ℕ) → IsReedMullerCard 14 1 2 card
      → (length_of card ≡ 4) × (row_count_of card ≡ 3) × ((code_of card).D ≡ 2) × (offset_of card ≡ pos 0) × ((code_of card).row 1 ≡ 0b1010)
  -- a vote: a chunk with t bits damaged is answered, one with more is not, and one of n ones is
  pub just_t : (answer : VoteAnswer) → KeepsPromise 1 3 one_off answer → answer ≡ Voted 12 1
  pub above_t : (p e : ℕ) → KeepsPromise 1 3 two_off (Voted p e) → ⊥
  pub widest : (answer : VoteAnswer) → KeepsPromise 0 2 0b1111 answer → answer ≡ Voted 1 0
  -- as by search, with t bits damaged, of n ones, and not read
  pub as_search : (answer : VoteAnswer) → AnswersAsSearch 0 2 0b0111 answer → (status_of answer ≡ 0) × (vote_values answer ≡ 1 ∷ 1 ∷ [])
  pub widest_as_search : (answer : VoteAnswer) → AnswersAsSearch 0 2 0b1111 answer
      → (status_of answer ≡ 0) × (vote_values answer ≡ 1 ∷ 0 ∷ [])
  pub refused_as_search : (answer : VoteAnswer) → AnswersAsSearch 0 2 0b0011 answer → (status_of answer ≡ 10) × (vote_values answer ≡ [])
