-- `dunnavish::words::dunnavish_block_start` meets its contract: the count of the lent numbers, then the library's answer. Assumes nothing.
use mathlib.Core.Path.{refl}
use Rattle.model.specs.BlockStart.{number_values}
use Rattle.dunnavish.specs.Crossing.{number_count}
use Rattle.dunnavish.proofs.Lent.{wrong_count_crosses, crosses_unchanged}
use Rattle.dunnavish.proofs.Inherited.{refused_crosses, stored_crosses}
use Rattle.dunnavish.proofs.words.dunnavish_block_start.Goals as goal
use Rattle.model.specs.Refusals.{status_of}
use Rattle.model.specs.Refusals.{values_by}

pub returns-then-values-ne1 : goal.returns-then-values-ne1
returns-then-values-ne1 c =
    let all = crosses_unchanged number_count _ _ _ _ _ (wrong_count_crosses number_count _ c.if-values-ne1.true _ _) in
    record { status = all.0; left = all.1.0; unchanged = all.1.1 }

pub returns-in-Err : goal.returns-in-Err
unfolding status_of values_by
returns-in-Err c =
    let all = let is = c.block_start.ensures.answer in let serves = c.block_start.ensures.values in
    crosses_unchanged number_count _ _ _ _ _
    (refused_crosses status_of number_values _ c.if-values-ne1.false is _ (serves, refl) c.in-Err.is refl refl) in
    record { status = all.0; left = all.1.0; unchanged = all.1.1 }

pub returns-in-Ok : goal.returns-in-Ok
unfolding status_of values_by
returns-in-Ok c =
    let all = crosses_unchanged number_count _ _ _ _ _
    (stored_crosses status_of number_values _ c.if-values-ne1.false c.block_start.ensures.answer c.in-Ok.is
    refl refl) in
    record { status = all.0; left = all.1.0; unchanged = all.1.1 }
