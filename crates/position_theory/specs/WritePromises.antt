-- What is promised of a write, as the contract of the call states it of the card, the position, the lent word, the answer and what the lent
-- word is left with. (Of demand 1, that every call ends is part of every proof, and that a call is refused by the table's number is the
-- equation with `write_answer`.) Assumes nothing.
use Rattle.std.specs.Prelude.{◌≡◌, List, ◌⊎◌, ℕ, ◌+◌, ◌≤◌, length}
use Rattle.bits.specs.Places.{differing_bits}
use Rattle.model.specs.Card.{code_of, SoundCard}
use Rattle.model.specs.Order.{last_position}
use Rattle.model.specs.Words.{word_length, word_bytes}
use Rattle.model.specs.WriteWord.{WriteAnswer, Written}

-- ---- clauses of their own

-- Demand 2, writing: the word of each neighbouring position differs from the written one in just one bit
unfoldable pub NeighboursDifferInOneBit : (card : List ℕ) (position : ℕ) (written : List ℕ) → Type 0
NeighboursDifferInOneBit card position written =
    (neighbour : ℕ) → neighbour ≤ last_position (code_of card)
    → (neighbour ≡ position + 1) ⊎ (position ≡ neighbour + 1)
    → differing_bits written (word_bytes (code_of card) neighbour) ≡ 1

-- Demand 2, writing: no other position has the written word
unfoldable pub NoOtherPositionsWord : (card : List ℕ) (position : ℕ) (written : List ℕ) → Type 0
NoOtherPositionsWord card position written =
    (other : ℕ) → other ≤ last_position (code_of card) → word_bytes (code_of card) other ≡ written → other ≡ position

-- ---- the clause `promises`

-- Demand 1, writing: for a sound card, a position on its track and a lent word of the right length, the word is written
unfoldable pub WrittenIfServable : (card : List ℕ) (position : ℕ) (lent : List ℕ) → WriteAnswer → Type 0
WrittenIfServable card position lent answer =
    SoundCard card → position ≤ last_position (code_of card) → length lent ≡ word_length (code_of card) → answer ≡ Written

-- Demand 1, writing: a write that is refused leaves the lent word as it was
unfoldable pub UnchangedIfRefused : (before after : List ℕ) → WriteAnswer → Type 0
UnchangedIfRefused before after answer = (answer ≡ Written → ⊥) → after ≡ before

pub record WritePromises (card : List ℕ) (position : ℕ) (lent : List ℕ) (answer : WriteAnswer) (left : List ℕ) : Type 0 where
  pub served : WrittenIfServable card position lent answer
  pub unchanged : UnchangedIfRefused lent left answer
