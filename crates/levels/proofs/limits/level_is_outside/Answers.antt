-- `levels::limits::level_is_outside` meets its contract: a magnitude above the limit is outside, and of one that is not, whether it is a
-- number decides. Assumes nothing.
use mathlib.Core.Path.{sym, ◌∙◌}
use Rattle.levels.proofs.Constants.{million_literal}
use Rattle.levels.proofs.Outside.{above_is_outside, not_above}
use Rattle.levels.proofs.limits.level_is_outside.Goals as goal

pub returns-then-m : goal.returns-then-m
returns-then-m c = c.if-m.true ∙ sym (above_is_outside _ million_literal c.magnitude_of-m.ensures c.if-m.true)

pub returns-else-m : goal.returns-else-m
returns-else-m c = c.is_nan.ensures.value ∙ sym (not_above _ million_literal c.magnitude_of-m.ensures c.if-m.false)
