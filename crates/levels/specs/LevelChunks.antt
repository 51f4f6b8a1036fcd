-- What the levels of a chunk give, in the struct that the code folds it into: bits and unerased places as numbers, and the strength; and
-- what a separator reads by its sum. Assumes nothing.
use Rattle.std.specs.Prelude.{◌≡◌, cond, ℕ, ◌+◌, ◌*◌, ◌^◌, Float}
use Rattle.std.specs.Float.Ieee.{lt}
use Rattle.bits.specs.Sums.{sum_below}
use Rattle.model.specs.declared.ReceivedLevel.{ReceivedLevel}
use Rattle.model.specs.Levels.{zero_level, is_unerased, bit_of_level, unerased_in, bits_in, plus_level, with_level, strength_of}
use Rattle.levels.specs.declared.level_chunk.LevelChunk.{LevelChunk}

-- 1 for each unerased place
abbrev pub unerased_bits : (word : ℕ → ReceivedLevel) (p : ℕ) → ℕ
unerased_bits word p = cond (unerased_in word p) 1 0

-- the number whose bits are the `len` of u from place `at` on
abbrev pub number_from : (u : ℕ → ℕ) (at len : ℕ) → ℕ
number_from u at len = sum_below (λ q. u (at + q) * 2 ^ q) len

-- a chunk with one level more, in a place of this worth
pub record OneLevelMore (before : LevelChunk) (worth : ℕ) (received_level : ReceivedLevel) (after : LevelChunk) : Type 0 where
  pub bits_more : after.bits ≡ before.bits + bit_of_level received_level * worth
  pub unerased_more : after.unerased ≡ before.unerased + cond (is_unerased received_level) 1 0 * worth
  pub sum_more : after.sum ≡ plus_level before.sum received_level
  pub strength_more : after.strength ≡ with_level before.strength received_level

-- the `len` levels of a word from place `at` on; the strength is that of the levels before them too
pub record LevelChunkOf (word : ℕ → ReceivedLevel) (at len : ℕ) (chunk : LevelChunk) : Type 0 where
  pub bits_are : chunk.bits ≡ number_from (bits_in word) at len
  pub unerased_are : chunk.unerased ≡ number_from (unerased_bits word) at len
  pub strength_is : chunk.strength ≡ strength_of word (at + len)

-- what a separator reads whose levels have this sum
abbrev pub read_by_sum : (sum : Float) → ℕ
read_by_sum sum = cond (lt sum zero_level) 1 0
