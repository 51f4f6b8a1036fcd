use Rattle.std.proofs.Common.{◌≡◌, refl, arith}
use borrow.Author.Tests.{ne_eqb}
use Rattle.bits.proofs.FilledLists.{is_list_of}
use Rattle.model.specs.Refusals.{status_of, values_by}
use Rattle.dunnavish.specs.Crossing.{left_by}
use Rattle.dunnavish.proofs.marks.put_answer.Goals as goal

pub returns-after-loop-i : goal.returns-after-loop-i
unfolding left_by status_of values_by
returns-after-loop-i c =
    rw c.in-Ok.is (record { status = refl; left = is_list_of 0 _ _ c.loop-i.yes c.loop-i.auto.yes (λ p below. c.loop-i.invariant p (omega arith)) })

pub returns-in-Err : goal.returns-in-Err
unfolding left_by status_of
returns-in-Err c =
    let some : c.in-Err.refusal.number ≡ 0 → ⊥ = rw c.in-Err.is at c.requires in
    rw (c.in-Err.is, ne_eqb c.in-Err.refusal.number 0 some) (record { status = refl; left = refl })
