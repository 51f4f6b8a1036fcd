-- What the call that asks for a block's start answers: the card's refusal, or on the code of a sound card refusal 7 or the start. The answer is
-- the one that the definition gives, of which the clauses of the contract are theorems. Assumes nothing.
use mathlib.Core.Path.{◌≡◌, refl}
use mathlib.Core.List.{List, [], ◌∷◌}
use Prim.Native.Nat.{ℕ, ◌≤◌, ◌<◌}
use borrow.Author.Tests.{eq-eqb, lt-ltb, le-ltb}
use Rattle.std.specs.Prelude.{Ok, Err}
use Rattle.model.specs.Refusals.{status_of, first_refusal, unless_refused, if_served}
use Rattle.model.specs.Card.{card_refusal, code_of}
use Rattle.model.specs.Decoded.{meaning}
use Rattle.model.specs.Order.{last_codeword, start}
use Rattle.model.specs.BlockStart.{NumberAnswer, start_refusal, start_answer, number_values}
use Rattle.model.specs.declared.DecodedCard.{DecodedCard}
use Rattle.model.specs.declared.Refusal.{Refusal}
use Rattle.code_theory.proofs.RefusalRows.{err_by_card, status_and_values_alone}
use Rattle.card_reader.specs.DecodedFrom.{DecodedCardOf}
use Rattle.code_theory.specs.Promise.{RefusalOf}
use Rattle.model.specs.Refusals.{Refused}

module _ (card : List ℕ) (block : ℕ) where
  pub start_by_card : (refusal : Refusal) → RefusalOf card refusal → Err refusal ≡ start_answer card block
  unfolding start_answer start_refusal
  start_by_card refusal is = err_by_card card refusal _ _ is

  module _ (decoded : DecodedCard) (from : DecodedCardOf card decoded) (last : ℕ) (is : last ≡ last_codeword (meaning decoded.code)) where
    pub start_above : last < block → Refused 7 ≡ start_answer card block
    unfolding start_answer start_refusal first_refusal unless_refused
    start_above h = rw (eq-eqb (card_refusal card) 0 from.sound_card, ← from.code, ← is, lt-ltb last block h)

    pub start_within : block ≤ last → (answer : ℕ) → answer ≡ start (meaning decoded.code) block → Ok answer ≡ start_answer card block
    unfolding start_answer start_refusal first_refusal unless_refused
    start_within h answer e =
        rw (eq-eqb (card_refusal card) 0 from.sound_card, ← from.code, ← is, ← e, le-ltb last block h)

  -- the contract, and that the definition's answer meets it
  abbrev StartMeets : NumberAnswer → Type 0
  StartMeets a =
      record {
        answer : a ≡ start_answer card block;
        status : status_of a ≡ start_refusal card block;
        values : number_values a ≡ if_served (status_of a) (start (code_of card) block ∷ []);
      }

  pub start_answered : {answer : NumberAnswer} → answer ≡ start_answer card block → StartMeets answer
  unfolding start_answer
  start_answered e =
      let (status, values) =
      status_and_values_alone (λ (number : ℕ). number ∷ []) (start_refusal card block) (start (code_of card) block) in
      rw e (record { answer = refl; status = status; values = values })
