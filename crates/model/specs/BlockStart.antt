-- Document 01, "Where a call can be turned down": the start of a block. Assumes nothing.
use Rattle.std.specs.Prelude.{List, [], ◌∷◌, ℕ, ltb, Result, Ok}
use Rattle.model.specs.Refusals.{refuses, refused_as, first_refusal, Refused, values_by, unless_refused}
use Rattle.model.specs.Card.{card_refusal, code_of}
use Rattle.model.specs.Order.{last_codeword, start}
use Rattle.model.specs.declared.Refusal.{Refusal}

-- the answer to a call that asks for a number
abbrev pub NumberAnswer : Type 0
NumberAnswer = Result ℕ Refusal

-- the refusal's number, or 0
unfoldable pub start_refusal : (card : List ℕ) (block : ℕ) → ℕ
start_refusal card block = first_refusal (refused_as (card_refusal card) ∷ refuses 7 (ltb (last_codeword (code_of card)) block) ∷ [])

-- the answer: r(block)
unfoldable pub start_answer : (card : List ℕ) (block : ℕ) → NumberAnswer
start_answer card block = unless_refused (start_refusal card block) Refused (Ok (start (code_of card) block))

-- its value, none of a refusal
abbrev pub number_values : NumberAnswer → List ℕ
number_values answer = values_by (λ number. number ∷ []) answer
