-- Documents 01, "Where a call can be turned down", and 02, P2: the distance of a position from the buffer face, a signed number. Assumes
-- nothing.
use Rattle.std.specs.Prelude.{List, [], ◌∷◌, ℕ, ltb, ℤ, Result, Ok}
use Rattle.model.specs.Refusals.{refuses, refused_as, first_refusal, Refused, values_by, unless_refused}
use Rattle.model.specs.Card.{card_refusal, code_of, offset_of}
use Rattle.model.specs.Order.{last_position}
use Rattle.model.specs.Words.{millimetres_of}
use Rattle.model.specs.declared.Refusal.{Refusal}

-- the answer to a call that asks for a signed distance
abbrev pub MillimetresAnswer : Type 0
MillimetresAnswer = Result ℤ Refusal

-- the refusal's number, or 0
unfoldable pub millimetres_refusal : (card : List ℕ) (position : ℕ) → ℕ
millimetres_refusal card position = first_refusal (refused_as (card_refusal card) ∷ refuses 7 (ltb (last_position (code_of card)) position) ∷ [])

-- the answer
unfoldable pub millimetres_answer : (card : List ℕ) (position : ℕ) → MillimetresAnswer
millimetres_answer card position =
    unless_refused (millimetres_refusal card position) Refused (Ok (millimetres_of (offset_of card) position))

-- its value, none of a refusal
abbrev pub millimetres_values : MillimetresAnswer → List ℤ
millimetres_values answer = values_by (λ distance. distance ∷ []) answer
