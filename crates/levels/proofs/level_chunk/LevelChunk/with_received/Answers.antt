-- `levels::level_chunk::LevelChunk::with_received` meets its contract: an erased bit changes nothing, and a level adds its bit, its place among the
-- unerased ones, itself and its magnitude. Assumes nothing.
use mathlib.Core.Path.{refl}
use native.Mathlib.Omega.{arith}
use Rattle.model.specs.Levels.{is_unerased, bit_of_level, plus_level, with_level}
use Rattle.levels.proofs.level_chunk.LevelChunk.with_received.Goals as goal

pub returns-in-Lost : goal.returns-in-Lost
unfolding is_unerased bit_of_level plus_level with_level
returns-in-Lost c = rw c.in-Lost.is record { bits_more = omega arith; unerased_more = omega arith; sum_more = refl; strength_more = refl }

pub returns-in-Level : goal.returns-in-Level
unfolding is_unerased plus_level with_level
returns-in-Level c =
    rw c.in-Level.is record {
      bits_more = rw c.bit_in_place.ensures.0;
      unerased_more = omega arith;
      sum_more = refl;
      strength_more = rw (c.greater.ensures, c.magnitude_of-m.ensures);
    }
