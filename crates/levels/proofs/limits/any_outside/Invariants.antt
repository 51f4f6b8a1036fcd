-- `levels::limits::any_outside` meets its contract. The loop keeps that the joined answer is whether any of the levels that it has been
-- through is outside. Assumes nothing.
use mathlib.Core.Path.{◌≡◌}
use Rattle.model.specs.Levels.{any_outside}
use Rattle.levels.proofs.limits.any_outside.Given as goal

abbrev pub invariant-loop-level : goal.invariant-loop-level
invariant-loop-level l = l.joined ≡ any_outside l.level-index l.levels
