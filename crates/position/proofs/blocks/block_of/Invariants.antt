-- `position::blocks::block_of` meets its contract. The loop keeps that the position's block is one of those from `low` to `high`: block
-- `low` starts at or before the position, and every block after `high` past it, since the starts rise. Where the two meet, it is
-- found. The measure is the blocks between. Assumes nothing.
use Prim.Native.Nat.{◌-◌}
use Rattle.model.specs.Decoded.{meaning}
use Rattle.position.proofs.BlockBetween.{BlockBetween}
use Rattle.position.proofs.blocks.block_of.Given as goal

abbrev pub invariant-loop-low : goal.invariant-loop-low
invariant-loop-low l = BlockBetween (meaning l.code) l.position l.low l.high

abbrev pub decreases-loop-low : goal.decreases-loop-low
decreases-loop-low l = l.high - l.low
