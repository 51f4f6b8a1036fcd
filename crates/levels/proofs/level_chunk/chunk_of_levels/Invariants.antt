-- `levels::level_chunk::chunk_of_levels` meets its contract. The loop keeps what the levels below place at + q give, and their sum; that
-- the sum is exact for levels of 1, -1 and 0 is a law of the fold. Assumes nothing.
use mathlib.Core.Path.{◌≡◌}
use Rattle.bits.specs.Sums.{from_place}
use Rattle.model.specs.Levels.{received_at, sum_of_levels}
use Rattle.levels.specs.LevelChunks.{LevelChunkOf}
use Rattle.levels.proofs.level_chunk.chunk_of_levels.Given as goal

abbrev pub invariant-loop-q : goal.invariant-loop-q
invariant-loop-q l =
    record {
      folded : LevelChunkOf (received_at l.levels) l.at l.q l.so_far;
      summed : l.so_far.sum ≡ sum_of_levels (from_place l.at (received_at l.levels)) l.q;
    }
