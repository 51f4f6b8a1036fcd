-- `position::blocks::sum_of_rows` meets its contract. The loop keeps that `sum` is the sum before row `z`: 3D × i at first, then what
-- the row before left. No sum on the way exceeds the start, which is bounded. Assumes nothing.
use mathlib.Core.Path.{◌≡◌}
use Rattle.model.specs.Decoded.{meaning}
use Rattle.model.specs.Order.{sum_before_row}
use Rattle.position.proofs.blocks.sum_of_rows.Given as goal

abbrev pub invariant-loop-z : goal.invariant-loop-z
invariant-loop-z l = l.sum ≡ sum_before_row (meaning l.fn.code) l.i l.z
