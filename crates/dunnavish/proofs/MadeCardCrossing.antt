-- The contract of the call that makes a card, for each way out: from the count of the lent bytes, and from what the library's own contract
-- says of what it made. Assumes nothing.
use mathlib.Core.Path.{◌≡◌, refl, sym, ap, ◌∙◌}
use mathlib.Core.Bool.{true}
use mathlib.Core.List.{List}
use Prim.Native.Nat.{ℕ}
use lib.ListN.{length}
use Rattle.model.specs.MakeCard.{MadeCard, make_refusal, make_answer, made_bytes}
use Rattle.std.specs.Prelude.{Ok, Err}
use Rattle.model.specs.Refusals.{status_of, values_by}
use Rattle.model.specs.ReedMuller.{order_within_limits}
use Rattle.model.specs.declared.Refusal.{Refusal}
use Rattle.depot.proofs.MadeCardContract.{CardIfWithinLimits, limits_passed}
use Rattle.dunnavish.specs.Crossing.{wrong_count, card_bytes, status_for, left_by, UnchangedUnlessZero}
use Rattle.dunnavish.specs.Demands.{MadeWithinLimits}
use Rattle.dunnavish.proofs.Lent.{Crosses, wrong_count_crosses, refusal_crosses, values_cross, unchanged_by}

-- what the library's contract says of what it made
abbrev Made : (track r m : ℕ) (card : MadeCard) → Type 0
Made track r m card =
    record {
      answer : card ≡ make_answer track r m;
      status : status_of card ≡ make_refusal r m;
      made : CardIfWithinLimits track r m card;
    }

module _ (track r m : ℕ) (lent : List ℕ) where
  abbrev MakeContract : (number : ℕ) (card : List ℕ) → Type 0
  MakeContract number card =
      record {
        status : number ≡ status_for card_bytes lent (make_refusal r m);
        left : card ≡ left_by number (made_bytes (make_answer track r m)) lent;
        unchanged : UnchangedUnlessZero lent number card;
        made : MadeWithinLimits track r m lent number card;
      }

  make_inherits : (number : ℕ) (card : List ℕ) → Crosses card_bytes lent (make_refusal r m) (made_bytes (make_answer track r m)) number card
      → MadeWithinLimits track r m lent number card → MakeContract number card
  make_inherits number card (is-number, is-card) made =
      record { status = is-number; left = is-card; unchanged = unchanged_by number _ lent card is-card; made = made }

  pub make_miscounted : (length lent ≡ card_bytes → ⊥) → MakeContract wrong_count lent
  unfolding MadeWithinLimits
  make_miscounted other_length =
      make_inherits wrong_count lent (wrong_count_crosses card_bytes lent other_length _ _) (λ alike within. absurd (other_length alike))

  module _ (alike : length lent ≡ card_bytes) {answer : MadeCard} (by : Made track r m answer) where
    pub make_refused : (refusal : Refusal) → answer ≡ Err refusal → MakeContract refusal.number lent
    unfolding MadeWithinLimits status_of
    make_refused refusal is =
        let number : refusal.number ≡ make_refusal r m = sym (ap status_of is) ∙ by.status in
        let outside : order_within_limits r m ≡ true → ⊥ = λ within. rw is at (by.made within) in
        make_inherits refusal.number lent
        (rw (← number) (refusal_crosses card_bytes lent alike refusal.number (λ zero. outside (limits_passed r m (sym number ∙ zero))) _))
        (λ _ within. absurd (outside within))

    pub make_put : (card : List ℕ) → answer ≡ Ok card → MakeContract 0 card
    unfolding MadeWithinLimits status_of values_by
    make_put card is =
        let none : 0 ≡ make_refusal r m = sym (ap status_of is) ∙ by.status in
        let bytes : made_bytes (make_answer track r m) ≡ card = ap made_bytes (sym by.answer ∙ is) in
        make_inherits 0 card (rw (← none, bytes) (values_cross card_bytes lent alike card))
        (λ _ within. (refl, rw is at (by.made within)))
