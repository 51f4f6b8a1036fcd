-- `levels::magnitudes::magnitude_of` meets its contract: the test is the definition's own, with the code's zero for its zero. Assumes
-- nothing.
use Rattle.model.specs.Levels.{magnitude}
use Rattle.levels.proofs.Constants.{zero_literal}
use Rattle.levels.proofs.magnitudes.magnitude_of.Goals as goal

pub returns-then-level : goal.returns-then-level
unfolding magnitude
returns-then-level c = rw (rw zero_literal at c.if-level.true)

pub returns-else-level : goal.returns-else-level
unfolding magnitude
returns-else-level c = rw (rw zero_literal at c.if-level.false)
