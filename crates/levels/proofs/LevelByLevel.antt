-- The levels of a chunk, one by one: the bits and the unerased places are numbers that grow by one place a level, and the strength goes on
-- from level to level. Assumes nothing.
use mathlib.Core.Path.{◌≡◌, refl}
use mathlib.Core.Bool.{Bool, true, false, cond}
use Prim.Native.Nat.{ℕ, suc, ◌+◌, ◌*◌, ◌^◌, ◌<◌}
use native.Mathlib.Nat.{add-zero}
use native.Mathlib.Omega.{arith}
use lib.Ieee.{Float}
use lib.Pow.{pow_mono}
use Rattle.bits.specs.Sums.{sum_below, from_place}
use Rattle.bits.proofs.Places.{number_below}
use Rattle.bits.proofs.Sums.{sum_more}
use Rattle.model.specs.Levels.{unerased_in, bits_in, strength_of}
use Rattle.model.specs.declared.Strength.{Strength}
use Rattle.model.specs.declared.ReceivedLevel.{ReceivedLevel}
use Rattle.level_theory.proofs.ErasureCounts.{level_bit}
use Rattle.levels.specs.LevelChunks.{unerased_bits, OneLevelMore, LevelChunkOf}
use Rattle.levels.specs.declared.level_chunk.LevelChunk.{LevelChunk}

-- a place is unerased or not: 1 or 0
flag_bit : (t : Bool) → cond t 1 0 < 2
flag_bit true = omega arith
flag_bit false = omega arith

pub unerased_bit : (word : ℕ → ReceivedLevel) (p : ℕ) → unerased_bits word p < 2
unerased_bit word p = flag_bit (unerased_in word p)

pub bit_of_level_small : (word : ℕ → ReceivedLevel) (p : ℕ) → bits_in word p < 2
bit_of_level_small word p = level_bit (word p)

-- a number of q bits has room for one more below bit 64
room_for : (number q : ℕ) → q < 64 → number < 2 ^ q → number + 2 ^ q < 2 ^ 64
room_for number q h below = omega (arith, pow_mono {i = suc q} {j = 64} h)

module _ (word : ℕ → ReceivedLevel) (at : ℕ) where
  pub no_level_yet : (sum : Float) (before : Strength) → before ≡ strength_of word at
      → LevelChunkOf word at 0 (record { bits = 0; unerased = 0; sum = sum; strength = before })
  unfolding sum_below
  no_level_yet sum before is = record { bits_are = refl; unerased_are = refl; strength_is = rw add-zero is }

  module _ (q : ℕ) (chunk : LevelChunk) (so_far : LevelChunkOf word at q chunk) where
    pub bits_room : q < 64 → chunk.bits + 2 ^ q < 2 ^ 64
    bits_room h =
        room_for chunk.bits q h
        (rw so_far.bits_are (number_below (from_place at (bits_in word)) (λ p. bit_of_level_small word (at + p)) q))

    pub unerased_room : q < 64 → chunk.unerased + 2 ^ q < 2 ^ 64
    unerased_room h =
        room_for chunk.unerased q h
        (rw so_far.unerased_are (number_below (from_place at (unerased_bits word)) (λ p. unerased_bit word (at + p)) q))

    -- one level more
    pub one_level_more : (next : LevelChunk) → OneLevelMore chunk (2 ^ q) (word (at + q)) next → LevelChunkOf word at (q + 1) next
    unfolding strength_of
    one_level_more next more =
        let up : at + (q + 1) ≡ suc (at + q) = omega arith in
        record {
          bits_are = rw (sum_more (λ p. bits_in word (at + p) * 2 ^ p) q, ← so_far.bits_are) more.bits_more;
          unerased_are = rw (sum_more (λ p. unerased_bits word (at + p) * 2 ^ p) q, ← so_far.unerased_are) more.unerased_more;
          strength_is = rw (up, ← so_far.strength_is) more.strength_more;
        }
