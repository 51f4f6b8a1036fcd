-- `dunnavish::level_words::dunnavish_read_levels` meets its contract: the counts of the lent numbers and floats, then the library's answer.
-- Assumes nothing.
use mathlib.Core.Path.{refl, sym, ap, ◌∙◌}
use mathlib.Core.List.{[], ◌∷◌}
use native.Mathlib.Omega.{arith}
use borrow.Author.Tests.{ne_eqb}
use lib.ListN.{length-set}
use Rattle.model.specs.ReadWord.{read_values}
use Rattle.model.specs.ReadLevels.{position_answer, levels_expected}
use Rattle.dunnavish.specs.Crossing.{read_count, strength_count, left_by}
use Rattle.dunnavish.specs.Decoding.{read_left}
use Rattle.dunnavish.proofs.Lent.{wrong_count_crosses, status_lent, all_stored}
use Rattle.dunnavish.proofs.Inherited.{refused_nonzero, refused, served}
use Rattle.dunnavish.proofs.ReadsDecode.{levels_decode}
use Rattle.dunnavish.proofs.ReadsCross.{PromisedOfLevels, same_status, levels_miscounted, levels_cross}
use Rattle.dunnavish.proofs.level_words.dunnavish_read_levels.Goals as goal
use Rattle.model.specs.Refusals.{Refused, status_of}
use Rattle.model.specs.Refusals.{values_by}
use Rattle.model.specs.Refusals.{if_served}
use Prim.Native.Nat.{ℕ}

pub returns-then-values-ne5 : goal.returns-then-values-ne5
returns-then-values-ne5 c =
    let all = levels_miscounted _ _ _ _ (wrong_count_crosses read_count _ c.if-values-ne5.true _ []).0 (λ five _. c.if-values-ne5.true five) in
    record {
      status = all.0;
      left = all.1.0;
      strength_left = all.1.1.0;
      unchanged = all.1.1.1.0;
      strength_unchanged = all.1.1.1.1.0;
      bounded = all.1.1.1.1.1.0;
      promises = all.1.1.1.1.1.1;
    }

pub returns-then-strength-ne-STRENGTH_VALUES : goal.returns-then-strength-ne-STRENGTH_VALUES
returns-then-strength-ne-STRENGTH_VALUES c =
    let all = levels_miscounted _ _ _ _
    ((wrong_count_crosses strength_count _ c.if-strength-ne-STRENGTH_VALUES.true _ []).0 ∙ sym (status_lent read_count _ c.if-values-ne5.false _))
    (λ _ two. c.if-strength-ne-STRENGTH_VALUES.true two) in
    record {
      status = all.0;
      left = all.1.0;
      strength_left = all.1.1.0;
      unchanged = all.1.1.1.0;
      strength_unchanged = all.1.1.1.1.0;
      bounded = all.1.1.1.1.1.0;
      promises = all.1.1.1.1.1.1;
    }

pub bounds-strength-0 : goal.bounds-strength-0
bounds-strength-0 c = omega (arith, c.if-strength-ne-STRENGTH_VALUES.false)

pub bounds-strength-1 : goal.bounds-strength-1
bounds-strength-1 c = simp length-set (omega (arith, c.if-strength-ne-STRENGTH_VALUES.false))

pub returns-in-Err : goal.returns-in-Err
unfolding position_answer status_of values_by levels_expected read_left left_by
returns-in-Err c =
    let all = let is = c.read_levels.ensures.answer in let number = same_status c.read_levels.result ∙ c.read_levels.ensures.status in let serves =
    c.read_levels.ensures.values ∙ ap (λ (s : ℕ). if_served s (levels_expected c.args.card.now c.args.levels.now)) (sym (same_status c.read_levels.result)) in
    let given = ap position_answer c.in-Err.is in
    levels_cross _ _ _ _ _ _ c.args.strength.now c.if-strength-ne-STRENGTH_VALUES.false
    (refused status_of read_values Refused read_left (PromisedOfLevels _ _) _ _ c.if-values-ne5.false _
    (ap position_answer is, (number, (serves, (c.read_levels.ensures.bounded, c.read_levels.ensures.promises)))) refl _ given refl refl _ refl)
    (rw (ne_eqb _ 0 (refused_nonzero status_of read_values _ (serves, refl) given refl))) in
    record {
      status = all.0;
      left = all.1.0;
      strength_left = all.1.1.0;
      unchanged = all.1.1.1.0;
      strength_unchanged = all.1.1.1.1.0;
      bounded = all.1.1.1.1.1.0;
      promises = all.1.1.1.1.1.1;
    }

pub returns-in-Ok : goal.returns-in-Ok
unfolding position_answer status_of values_by left_by
returns-in-Ok c =
    let all = let floats = c.if-strength-ne-STRENGTH_VALUES.false in
    let is = c.read_levels.ensures.answer in let number = same_status c.read_levels.result ∙ c.read_levels.ensures.status in
    let serves = c.read_levels.ensures.values ∙ ap (λ (s : ℕ). if_served s (levels_expected c.args.card.now c.args.levels.now)) (sym (same_status c.read_levels.result)) in
    let read = c.in-Ok.is in
    let given = ap position_answer read in
    levels_cross _ _ _ _ _ _ _ floats
    (served status_of read_values Refused read_left (PromisedOfLevels _ _) _ _ c.if-values-ne5.false _
    (ap position_answer is, (number, (serves, (c.read_levels.ensures.bounded, c.read_levels.ensures.promises)))) _ _ given refl
    c.put_reading.ensures
    (levels_decode _ _ given _ (ap position_answer is) c.read_levels.ensures.promises.bits))
    (rw (sym is ∙ read, all_stored (_ ∷ _ ∷ []) _ floats)) in
    record {
      status = all.0;
      left = all.1.0;
      strength_left = all.1.1.0;
      unchanged = all.1.1.1.0;
      strength_unchanged = all.1.1.1.1.0;
      bounded = all.1.1.1.1.1.0;
      promises = all.1.1.1.1.1.1;
    }
