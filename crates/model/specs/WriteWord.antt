-- Document 01, "Where a call can be turned down": the write of a position's word into a lent word. Assumes nothing.
use Rattle.std.specs.Prelude.{not, List, [], ◌∷◌, ℕ, ltb, eqb, length, Result, Ok}
use Rattle.model.specs.Refusals.{refuses, refused_as, first_refusal, Refused, values_by, unless_refused}
use Rattle.model.specs.Card.{card_refusal, code_of}
use Rattle.model.specs.Order.{last_position}
use Rattle.model.specs.Words.{word_length, word_bytes}
use Rattle.model.specs.declared.Refusal.{Refusal}

-- the answer to a write
abbrev pub WriteAnswer : Type 0
WriteAnswer = Result Unit Refusal

-- the answer of a write that is not refused
pattern abbrev pub Written : WriteAnswer
Written = Ok tt

-- the refusal's number, or 0 where the word is written
unfoldable pub write_refusal : (card : List ℕ) (position : ℕ) (lent : List ℕ) → ℕ
write_refusal card position lent =
    first_refusal
    (refused_as (card_refusal card)
    ∷ refuses 6 (not (eqb (length lent) (word_length (code_of card))))
    ∷ refuses 7 (ltb (last_position (code_of card)) position)
    ∷ [])

-- the answer
unfoldable pub write_answer : (card : List ℕ) (position : ℕ) (lent : List ℕ) → WriteAnswer
write_answer card position lent = unless_refused (write_refusal card position lent) Refused Written

-- the bytes that the lent word is left with: as they were where the write is refused, or those of the position's word
unfoldable pub lent_after_write : (card : List ℕ) (position : ℕ) (lent : List ℕ) → List ℕ
lent_after_write card position lent =
    unless_refused (write_refusal card position lent) (λ refusal. lent) (word_bytes (code_of card) position)

-- its values: a write has none, served or refused
abbrev pub write_values : WriteAnswer → List ℕ
write_values answer = values_by (λ served. []) answer
