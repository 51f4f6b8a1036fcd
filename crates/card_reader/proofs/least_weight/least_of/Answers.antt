use mathlib.Core.Path.{ap, ◌∙◌}
use Prim.Native.Nat.{min}
use native.Mathlib.Omega.{arith}
use Rattle.card_reader.specs.LeastOf.{ones_with}
use Rattle.card_reader.proofs.LeastOf.{least_of_more}
use Rattle.card_reader.proofs.least_weight.least_of.Goals as goal

pub loop-sum-preserved : goal.loop-sum-preserved
loop-sum-preserved c =
    let loop = c.loop-sum in
    least_of_more (ones_with c.args.sums.now c.args.word) 0 loop.sum-index c.args.start loop.least _ (omega arith) loop.invariant
    (c.min-least.ensures ∙ ap (min loop.least) c.ones_of.ensures)
