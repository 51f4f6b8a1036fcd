-- What the call that asks for a distance answers: the card's refusal, or for a sound card refusal 7 or the distance. The answer is the one
-- that the definition gives, of which the clauses of the contract are theorems. And the signed sum: an offset within its range
-- and 50 mm for each step of the longest track fit 32 bits. Assumes nothing.
use mathlib.Core.Path.{◌≡◌, refl}
use mathlib.Core.Bool.{false}
use mathlib.Core.List.{List, [], ◌∷◌}
use Prim.Native.Nat.{ℕ, suc, ◌+◌, ◌≤◌, ◌<◌}
use native.Mathlib.Omega.{arith}
use borrow.Author.Tests.{eq-eqb, lt-ltb, le-ltb}
use lib.Dec.{ltb}
use lib.IntN.{ℤ, pos, negsuc, ◌+ℤ◌}
use lib.Signed.{mag}
use mir.Syntax.{w32}
use mir.Val.{SFits}
use Rattle.bits.proofs.Numbers.{by_test}
use Rattle.model.specs.Refusals.{status_of, first_refusal, unless_refused, if_served}
use Rattle.model.specs.Card.{card_refusal, offset_of, offset_outside}
use Rattle.std.specs.Prelude.{Ok, Err}
use Rattle.model.specs.declared.DecodedCard.{DecodedCard}
use Rattle.model.specs.declared.Refusal.{Refusal}
use Rattle.model.specs.Decoded.{meaning}
use Rattle.model.specs.Order.{last_position}
use Rattle.model.specs.Words.{millimetres_of}
use Rattle.model.specs.Millimetres.{MillimetresAnswer, millimetres_refusal, millimetres_answer, millimetres_values}
use Rattle.code_theory.specs.Offsets.{MillimetresPromises}
use Rattle.code_theory.proofs.Offsets.{millimetres_promises}
use Rattle.code_theory.proofs.RefusalRows.{err_by_card, status_and_values_alone}
use Rattle.code_theory.proofs.SoundCard.{card_tests, offset_of_test}
use Rattle.card_reader.specs.DecodedFrom.{DecodedCardOf}
use Rattle.code_theory.specs.Promise.{RefusalOf}
use Rattle.model.specs.Refusals.{Refused}

-- ---- the signed sum

-- a sum is no greater in magnitude than its parts together
magnitude_of_sum : (z : ℤ) (x : ℕ) → mag (z +ℤ pos x) ≤ mag z + x
magnitude_of_sum (pos y) x = omega arith
magnitude_of_sum (negsuc y) x =
    by_test (λ (sum : ℤ). mag sum ≤ y + x) (ltb x (suc y)) (λ below. omega arith) (λ above. omega arith)

pub sum_fits : (offset : ℤ) (x : ℕ) → offset_outside offset ≡ false → x ≤ 65520000 → SFits w32 (offset +ℤ pos x)
sum_fits offset x within h = record { sfits = omega (arith, magnitude_of_sum offset x, offset_of_test offset within) }

pub offset_fits : (offset : ℤ) → offset_outside offset ≡ false → SFits w32 offset
offset_fits offset within = record { sfits = omega (arith, offset_of_test offset within) }

-- ---- the answers

module _ (card : List ℕ) (position : ℕ) where
  pub millimetres_by_card : (refusal : Refusal) → RefusalOf card refusal → Err refusal ≡ millimetres_answer card position
  unfolding millimetres_answer millimetres_refusal
  millimetres_by_card refusal is = err_by_card card refusal _ _ is

  module _ (decoded : DecodedCard) (from : DecodedCardOf card decoded) where
    pub offset_within : offset_outside decoded.offset ≡ false
    offset_within = rw from.offset (card_tests card from.sound_card).offset_within

    module _ (last : ℕ) (is : last ≡ last_position (meaning decoded.code)) where
      pub millimetres_above : last < position → Refused 7 ≡ millimetres_answer card position
      unfolding millimetres_answer millimetres_refusal first_refusal unless_refused
      millimetres_above h = rw (eq-eqb (card_refusal card) 0 from.sound_card, ← from.code, ← is, lt-ltb last position h)

      pub millimetres_within : position ≤ last → (distance : ℤ) → distance ≡ millimetres_of decoded.offset position
          → Ok distance ≡ millimetres_answer card position
      unfolding millimetres_answer millimetres_refusal first_refusal unless_refused
      millimetres_within h distance summed =
          rw (eq-eqb (card_refusal card) 0 from.sound_card, ← from.code, ← is, le-ltb last position h, ← from.offset, ← summed)

  -- the contract, and that the definition's answer meets it
  abbrev MillimetresMeets : MillimetresAnswer → Type 0
  MillimetresMeets a =
      record {
        answer : a ≡ millimetres_answer card position;
        status : status_of a ≡ millimetres_refusal card position;
        values : millimetres_values a ≡ if_served (status_of a) (millimetres_of (offset_of card) position ∷ []);
        promises : MillimetresPromises card position a;
      }

  pub millimetres_answered : {answer : MillimetresAnswer} → answer ≡ millimetres_answer card position → MillimetresMeets answer
  unfolding millimetres_answer
  millimetres_answered e =
      let (status, values) =
      status_and_values_alone (λ (distance : ℤ). distance ∷ []) (millimetres_refusal card position) (millimetres_of (offset_of card) position) in
      rw e (record { answer = refl; status = status; values = values; promises = millimetres_promises card position })
