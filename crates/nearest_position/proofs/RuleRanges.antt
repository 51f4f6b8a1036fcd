-- What each rule allows on a track with two ends, as the search through a block meets it: rule 1 from separator 2 to the block's end, rule 2
-- from its start to the end of separator 2, and rule 3 over separator 3 of one block and separator 1 of the next.
-- Assumes nothing.
use mathlib.Core.Path.{◌≡◌}
use Prim.Native.Nat.{ℕ, ◌+◌, ◌-◌, ◌*◌, ◌<◌, min}
use native.Mathlib.Omega.{arith}
use Rattle.bits.specs.Sums.{sum_below, distance}
use Rattle.model.specs.Card.{Code}
use Rattle.model.specs.Order.{last_codeword, changed_weight, start, last_position}
use Rattle.model.specs.Words.{word_bits}
use Rattle.code_theory.specs.Promise.{Sound}
use Rattle.code_theory.proofs.Promise.{promise}
use Rattle.position_theory.proofs.Blocks.{apart, apart_separator₁, apart_chunk₁, apart_separator₂, apart_chunk₂, start_on_track}
use Rattle.nearest_position.specs.Residuals.{position_at}

-- block i, which leads to the codeword after it
module _ (C : Code) (sound : Sound C) (i next : ℕ) (after : next ≡ i + 1) (inside : i < last_codeword C) where
  -- at the block's first place stands its start, and at its end the next start
  pub at_start : position_at C i next 0 ≡ start C i
  unfolding distance sum_below
  at_start = omega arith

  pub at_end : position_at C i next (word_bits C) ≡ start C next
  at_end = rw after (omega (arith, apart C (promise C sound) i inside, (promise C sound).start_next i inside))

  -- separator 1 ends D steps after the start, and separator 3 begins D steps before the next
  pub at_chunk₁ : position_at C i next C.D ≡ start C i + C.D
  at_chunk₁ = rw after (omega (arith, apart_separator₁ C (promise C sound) i inside))

  pub at_separator₃ : position_at C i next (C.D + C.n + C.D + C.n) ≡ start C next - C.D
  at_separator₃ = rw after (omega (arith, apart_chunk₂ C (promise C sound) i inside, (promise C sound).start_next i inside))

  -- rule 1 begins at separator 2, and rule 2 ends at chunk 2
  pub at_separator₂ : position_at C i next (C.D + C.n) ≡ start C i + C.D + changed_weight C i
  at_separator₂ = rw after (omega (arith, apart_chunk₁ C (promise C sound) i inside))

  pub at_chunk₂ : position_at C i next (C.D + C.n + C.D) ≡ start C i + 2 * C.D + changed_weight C i
  at_chunk₂ = rw after (omega (arith, apart_separator₂ C (promise C sound) i inside))

-- the upper end of rule 3's range: at the last start the track ends there, and at any other it goes on for D steps at least
pub track_ends : (C : Code) (p : ℕ) → p ≡ last_codeword C → start C p ≡ min (start C p + C.D) (last_position C)
unfolding last_position
track_ends C p e = rw e (omega arith)

pub track_goes_on : (C : Code) → Sound C → (p : ℕ) → p < last_codeword C → start C p + C.D ≡ min (start C p + C.D) (last_position C)
track_goes_on C sound p inside =
    omega (arith, (promise C sound).start_next p inside, start_on_track C (promise C sound) (p + 1) (omega arith))
