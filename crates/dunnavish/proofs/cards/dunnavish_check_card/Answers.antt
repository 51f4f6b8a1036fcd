-- `dunnavish::cards::dunnavish_check_card` meets its contract: the count of the lent numbers, then the library's answer. Assumes nothing.
use mathlib.Core.Path.{refl}
use Rattle.model.specs.CheckCard.{card_values, card_expected}
use Rattle.code_theory.specs.Offsets.{CheckPromises}
use Rattle.dunnavish.specs.Decoding.{card_left}
use Rattle.dunnavish.proofs.Inherited.{wrong_count_lem, refused, served}
use Rattle.dunnavish.proofs.cards.dunnavish_check_card.Goals as goal
use Rattle.model.specs.Refusals.{Refused, status_of}
use Rattle.model.specs.Refusals.{values_by}

pub returns-then-values-ne-CARD_VALUES : goal.returns-then-values-ne-CARD_VALUES
returns-then-values-ne-CARD_VALUES c =
    let all = wrong_count_lem status_of card_values Refused card_left (CheckPromises _) _ _ c.if-values-ne-CARD_VALUES.true in
    record { status = all.0; left = all.1.0; unchanged = all.1.1.0; promises = all.1.1.1 }

pub returns-in-Err : goal.returns-in-Err
unfolding status_of values_by card_expected card_left
returns-in-Err c =
    let met = c.check_card.ensures in
    let all = refused status_of card_values Refused card_left (CheckPromises _) _ _ c.if-values-ne-CARD_VALUES.false _ (
      met.answer,
      (
        met.status,
        (met.values, met.promises),
      ),
    ) refl _
    c.in-Err.is refl refl _ refl in
    record { status = all.0; left = all.1.0; unchanged = all.1.1.0; promises = all.1.1.1 }

pub returns-in-Ok : goal.returns-in-Ok
unfolding status_of values_by card_left
returns-in-Ok c =
    let met = c.check_card.ensures in
    let all = served status_of card_values Refused card_left (CheckPromises _) _ _ c.if-values-ne-CARD_VALUES.false _
    (met.answer, (met.status, (met.values, met.promises))) _ _ c.in-Ok.is refl c.copy_from_slice.ensures.after refl in
    record { status = all.0; left = all.1.0; unchanged = all.1.1.0; promises = all.1.1.1 }
