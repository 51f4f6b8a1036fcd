-- `dunnavish::words::dunnavish_millimetres` meets its contract: the count of the lent numbers, then the library's answer, a signed number
-- that fits. Assumes nothing.
use mathlib.Core.Path.{◌≡◌, refl}
use borrow.Author.Rules.{rules}
use mir.Facts.{to_z-of_z}
use mir.Syntax.{w32}
use mir.Val.{to_z, of_z}
use Rattle.model.specs.Millimetres.{millimetres_values}
use Rattle.code_theory.specs.Offsets.{MillimetresPromises}
use Rattle.dunnavish.specs.Decoding.{millimetres_left}
use Rattle.dunnavish.proofs.Inherited.{wrong_count_lem, refused, stored}
use Rattle.dunnavish.proofs.words.dunnavish_millimetres.Goals as goal
use Rattle.model.specs.Refusals.{Refused, status_of}
use Rattle.model.specs.Refusals.{values_by}

pub returns-then-values-ne1 : goal.returns-then-values-ne1
returns-then-values-ne1 c =
    let all = wrong_count_lem status_of millimetres_values Refused millimetres_left (MillimetresPromises _ _) _ _ c.if-values-ne1.true in
    record { status = all.0; left = all.1.0; unchanged = all.1.1.0; promises = all.1.1.1 }

pub returns-in-Err : goal.returns-in-Err
unfolding status_of values_by millimetres_left
returns-in-Err c =
    let met = c.millimetres.ensures in
    let all = refused status_of millimetres_values Refused millimetres_left (MillimetresPromises _ _) _ _ c.if-values-ne1.false _
    (met.answer, (met.status, (met.values, met.promises))) refl _ c.in-Err.is refl refl _ refl in
    record { status = all.0; left = all.1.0; unchanged = all.1.1.0; promises = all.1.1.1 }

pub returns-in-Ok : goal.returns-in-Ok
unfolding status_of values_by millimetres_left
returns-in-Ok c =
    let met = c.millimetres.ensures in
    let number : to_z w32 (of_z w32 c.in-Ok.distance) ≡ c.in-Ok.distance = to_z-of_z {w = w32} {z = c.in-Ok.distance}
    (search rules) in
    let all = stored status_of millimetres_values Refused millimetres_left (MillimetresPromises _ _) _ _ c.if-values-ne1.false _
    (met.answer, (met.status, (met.values, met.promises)))
    _ c.in-Ok.is refl refl refl in
    rw number (record { status = all.0; left = all.1.0; unchanged = all.1.1.0; promises = all.1.1.1 })
