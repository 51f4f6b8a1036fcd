use Prim.Native.Nat.{◌+◌}
use mathlib.Core.Path.{◌≡◌, sym, ◌∙◌}
use native.Mathlib.Omega.{arith}
use lib.ListN.{get_or}
use Rattle.card_writer.proofs.Fields.{so_far, length_so_far, no_rows_yet, one_row_more, unused_zero, with_check}
use Rattle.card_writer.proofs.write_card.Goals.{After-loop-z}
use Rattle.card_writer.proofs.write_card.Goals as goal

pub loop-z-init : goal.loop-z-init
loop-z-init c =
    let args = c.args in
    let header = (rw c.from.ensures at c.put_high_first.ensures) ∙ no_rows_yet args.n args.k args.track (λ y. get_or args.rows y 0) in
    (rw header (length_so_far _ _ _ _ 0 (omega arith)), header)

pub loop-z-preserved : goal.loop-z-preserved
loop-z-preserved c =
    let loop = c.loop-z in
    let row = (rw loop.invariant.1 at c.put_high_first-in-loop-z.ensures) ∙ one_row_more _ _ _ _ loop.z (omega arith) in
    (rw row (length_so_far _ _ _ _ (loop.z + 1) (omega arith)), row)

-- past the loop
all_rows : (c : After-loop-z) → let args = c.args in
    c.loop-z.bytes ≡ so_far args.n args.k args.track (λ y. get_or args.rows y 0) 12
all_rows c = let all : c.loop-z.z ≡ 12 = omega arith in rw all at c.loop-z.invariant.1

pub computed_check-check-requires : goal.computed_check-check-requires
computed_check-check-requires c =
    (c.loop-z.invariant.0, rw (all_rows (goal.at.computed_check-check-requires c).After-loop-z) (sym (unused_zero _ _ _ _)))

pub returns : goal.returns
returns c =
    let all = all_rows (goal.at.returns c).After-loop-z in
    c.put_high_first-2.ensures ∙ rw (c.from-2.ensures, c.computed_check-check.ensures, all) (with_check _ _ _ _)
