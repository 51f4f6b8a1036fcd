-- `levels::level_chunk::bit_in_place` meets its contract: the test is the definition's own, with the code's zero for its zero. Assumes
-- nothing.
use native.Mathlib.Omega.{arith}
use Rattle.model.specs.Levels.{bit_of_level}
use Rattle.levels.proofs.Constants.{zero_literal}
use Rattle.levels.proofs.level_chunk.bit_in_place.Goals as goal

pub returns-then-level : goal.returns-then-level
unfolding bit_of_level
returns-then-level c = (rw (rw zero_literal at c.if-level.true) (omega arith), omega arith)

pub returns-else-level : goal.returns-else-level
unfolding bit_of_level
returns-else-level c = (rw (rw zero_literal at c.if-level.false) (omega arith), omega arith)
