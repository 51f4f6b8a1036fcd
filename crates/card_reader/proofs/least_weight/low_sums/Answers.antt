use mathlib.Core.Path.{refl}
use native.Mathlib.Omega.{arith}
use Rattle.card_reader.proofs.LowSums.{sum_start, sum_room, sum_row, sum_next}
use Rattle.card_reader.proofs.least_weight.low_sums.Goals as goal

pub loop-i-init : goal.loop-i-init
loop-i-init c = sum_start refl refl

pub bounds-rows-z : goal.bounds-rows-z
bounds-rows-z c = sum_row c.requires c.loop-i.invariant (omega arith)

pub bounds-sums-j : goal.bounds-sums-j
bounds-sums-j c = sum_room c.requires (omega arith)

pub loop-i-preserved : goal.loop-i-preserved
loop-i-preserved c = sum_next c.requires c.loop-i.invariant (omega arith)
