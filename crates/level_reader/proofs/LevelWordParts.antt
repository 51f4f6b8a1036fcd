-- The five chunks of a word of levels as numbers: their bits, and their unerased places. Assumes nothing.
use mathlib.Core.Path.{◌≡◌}
use Prim.Native.Nat.{ℕ, ◌+◌, ◌<◌}
use Rattle.bits.specs.Sums.{from_place}
use Rattle.bits.proofs.Places.{number_below, bit_of_number}
use Rattle.model.specs.Card.{Code}
use Rattle.model.specs.Levels.{bits_in}
use Rattle.model.specs.declared.ReceivedLevel.{ReceivedLevel}
use Rattle.position.specs.FiveChunks.{BitsFrom, FiveChunks}
use Rattle.position.specs.LayoutOf.{LayoutOf}
use Rattle.position.specs.declared.layout.Layout.{Layout}
use Rattle.levels.specs.LevelChunks.{unerased_bits, number_from, LevelChunkOf}
use Rattle.levels.specs.declared.level_chunk.LevelChunk.{LevelChunk}
use Rattle.levels.proofs.LevelByLevel.{bit_of_level_small, unerased_bit}

-- places that are 0 or 1
module _ (u : ℕ → ℕ) (bits : (p : ℕ) → u p < 2) where
  -- the number whose bits are those from a place on has these bits
  bits_from : (at len value : ℕ) → value ≡ number_from u at len → BitsFrom u at len value
  bits_from at len value is =
      rw is (
        number_below (from_place at u) (λ p. bits (at + p)) len,
        λ p l. bit_of_number (from_place at u) (λ q. bits (at + q)) len p l,
      )

  -- so five of them are the chunks of a word, where the layout has them
  module _ (C : Code) (l : Layout) (laid : LayoutOf C l) {s₁ c₁ s₂ c₂ s₃ : ℕ} where
    five_numbers : s₁ ≡ number_from u 0 C.D → c₁ ≡ number_from u l.chunk1 C.n → s₂ ≡ number_from u l.separator2 C.D
        → c₂ ≡ number_from u l.chunk2 C.n → s₃ ≡ number_from u l.separator3 C.D → FiveChunks C.n C.D u s₁ c₁ s₂ c₂ s₃
    five_numbers first second third fourth fifth =
        record {
          separator₁_bits = bits_from 0 C.D s₁ first;
          chunk₁_bits = rw laid.chunk₁_at at (bits_from l.chunk1 C.n c₁ second);
          separator₂_bits = rw laid.separator₂_at at (bits_from l.separator2 C.D s₂ third);
          chunk₂_bits = rw laid.chunk₂_at at (bits_from l.chunk2 C.n c₂ fourth);
          separator₃_bits = rw laid.separator₃_at at (bits_from l.separator3 C.D s₃ fifth);
        }

-- what the levels of the five chunks of a word give, where the layout has them
module _ (C : Code) (l : Layout) (laid : LayoutOf C l) (word : ℕ → ReceivedLevel) (a b c d e : LevelChunk)
    (first : LevelChunkOf word 0 C.D a) (second : LevelChunkOf word l.chunk1 C.n b)
    (third : LevelChunkOf word l.separator2 C.D c) (fourth : LevelChunkOf word l.chunk2 C.n d)
    (fifth : LevelChunkOf word l.separator3 C.D e) where
  pub five_bits : FiveChunks C.n C.D (bits_in word) a.bits b.bits c.bits d.bits e.bits
  five_bits =
      five_numbers (bits_in word) (bit_of_level_small word) C l laid first.bits_are second.bits_are third.bits_are fourth.bits_are
      fifth.bits_are

  pub five_unerased : FiveChunks C.n C.D (unerased_bits word) a.unerased b.unerased c.unerased d.unerased e.unerased
  five_unerased =
      five_numbers (unerased_bits word) (unerased_bit word) C l laid first.unerased_are second.unerased_are third.unerased_are
      fourth.unerased_are fifth.unerased_are
