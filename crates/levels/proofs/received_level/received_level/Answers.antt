-- `levels::received_level::received_level` meets its contract: the test is the definition's own, with the code's zero for its zero. Assumes
-- nothing.
use Rattle.model.specs.Levels.{received_level}
use Rattle.levels.proofs.Constants.{zero_literal}
use Rattle.levels.proofs.received_level.received_level.Goals as goal

pub returns-then-level : goal.returns-then-level
unfolding received_level
returns-then-level c = rw (rw zero_literal at c.if-level.true)

pub returns-else-level : goal.returns-else-level
unfolding received_level
returns-else-level c = rw (rw zero_literal at c.if-level.false)
