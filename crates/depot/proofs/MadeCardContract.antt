-- What the call that makes a card answers, one law for each way out of the code: the answer is the one that the definition gives, and within
-- the limits the card that is made is the one of document 02, P1. For the callers: what a refusal says of the limits. Assumes nothing.
use mathlib.Core.Path.{◌≡◌, refl}
use mathlib.Core.Bool.{true, false}
use mathlib.Core.List.{List}
use Rattle.std.specs.Prelude.{Ok, IsOkAnd}
use Rattle.std.proofs.lemmas.Grind.{common_steps}
use Prim.Native.Nat.{ℕ, ◌<◌}
use native.Mathlib.Omega.{arith}
use Rattle.model.specs.Refusals.{Refused, status_of, first_refusal, unless_refused}
use Rattle.model.specs.ReedMuller.{reed_muller_card, order_within_limits}
use Rattle.model.specs.MakeCard.{MadeCard, make_refusal, make_answer}
use Rattle.reed_muller_theory.specs.MadeCards.{IsReedMullerCard}
use Rattle.reed_muller_theory.proofs.MadeCards.{is_reed_muller_card}
use Rattle.code_theory.proofs.RefusalRows.{status_and_values_alone}

-- no refusal: the code is within the limits
pub limits_passed : (r m : ℕ) → make_refusal r m ≡ 0 → order_within_limits r m ≡ true
unfolding make_refusal first_refusal
limits_passed r m none = grind (arith, common_steps)

-- ---- the answer

module _ (track r m : ℕ) where
  -- what the contract says of the card: within the limits it is made, and is the code's
  abbrev pub CardIfWithinLimits : MadeCard → Type 0
  CardIfWithinLimits answer = order_within_limits r m ≡ true → IsOkAnd answer (λ card. IsReedMullerCard track r m card)

  pub make_refused : order_within_limits r m ≡ false → Refused 13 ≡ make_answer track r m
  unfolding make_answer make_refusal unless_refused first_refusal
  make_refused outside = rw outside

  pub card_made : order_within_limits r m ≡ true → Ok (reed_muller_card track r m) ≡ make_answer track r m
  unfolding make_answer make_refusal unless_refused first_refusal
  card_made within = rw within

  -- the contract, and that the definition's answer meets it
  abbrev MakeMeets : MadeCard → Type 0
  MakeMeets a =
      record {
        answer : a ≡ make_answer track r m;
        status : status_of a ≡ make_refusal r m;
        made : CardIfWithinLimits a;
      }

  pub make_answered : track < 65536 → {answer : MadeCard} → answer ≡ make_answer track r m → MakeMeets answer
  unfolding make_answer
  make_answered fits e =
      let (status, _) = status_and_values_alone (λ (card : List ℕ). card) (make_refusal r m) (reed_muller_card track r m) in
      let made : CardIfWithinLimits (make_answer track r m) =
      λ within. rw (← (card_made within)) (is_reed_muller_card track r m within fits) in
      rw e (record { answer = refl; status = status; made = made })
