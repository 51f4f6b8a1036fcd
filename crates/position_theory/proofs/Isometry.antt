-- On a track with two ends the words of two positions differ in as many bits as the positions in steps, within a block, ends included,
-- and within D steps of a start, as far as there are positions. Assumes nothing.
use mathlib.Core.Path.{◌≡◌}
use mathlib.Core.Logic.{⊎_elim}
use Prim.Native.Nat.{ℕ, ◌+◌, ◌-◌, ◌≤◌, ◌<◌, min}
use native.Mathlib.Nat.{le_dest, eq-or-lt_of_le, eq-zero-or-pos}
use native.Mathlib.Omega.{arith}
use Rattle.model.specs.Card.{Code}
use Rattle.model.specs.Order.{last_codeword, start, last_position}
use Rattle.model.specs.Words.{word_bits, word_at}
use Rattle.code_theory.specs.Promise.{ChunkPromise}
use Rattle.position_theory.proofs.Ranges.{Isometric, isometric_part}
use Rattle.position_theory.proofs.Ways.{isometric_way, isometric_across}
use Rattle.position_theory.proofs.Blocks.{block_way}

-- the words of a track's positions
abbrev pub IsometricTrack : Code → (low high : ℕ) → Type 0
IsometricTrack C = Isometric (word_bits C) (word_at C)

module _ (C : Code) (promise : ChunkPromise C) where
  -- a block and its end
  pub isometric_block : (i : ℕ) → i < last_codeword C → IsometricTrack C (start C i) (start C (i + 1))
  isometric_block i inside = isometric_way C (block_way C promise i inside)

  -- around the first start, around the end of a block, and up to that end where it is the last position
  around_first : IsometricTrack C (start C 0 - C.D) (min (start C 0 + C.D) (last_position C))
  around_first =
      let inside : 0 < last_codeword C = promise.two_codewords in
      isometric_part (word_bits C) (word_at C) (start C 0) (start C (0 + 1)) (isometric_block 0 inside) (omega (arith, promise.start_zero))
      (omega (arith, promise.start_next 0 inside))

  around_end : (i : ℕ) → i + 1 ≤ last_codeword C
      → IsometricTrack C (start C (i + 1) - C.D) (min (start C (i + 1) + C.D) (last_position C))
  unfolding last_position
  around_end i inside =
      ⊎_elim
      (λ (last : i + 1 ≡ last_codeword C).
      isometric_part (word_bits C) (word_at C) (start C i) (start C (i + 1)) (isometric_block i (omega arith))
      (omega (arith, promise.start_next i (omega arith))) (rw last (omega arith)))
      (λ (more : i + 1 < last_codeword C).
      isometric_part (word_bits C) (word_at C) (start C (i + 1) - C.D) (start C (i + 1) + C.D)
      (isometric_across C (block_way C promise i (omega arith)) (block_way C promise (i + 1) more)) (omega arith) (omega arith))
      (eq-or-lt_of_le inside)

  -- the positions within D steps of a start, as far as there are any
  pub isometric_around : (i : ℕ) → i ≤ last_codeword C
      → IsometricTrack C (start C i - C.D) (min (start C i + C.D) (last_position C))
  isometric_around i h =
      ⊎_elim
      (λ (first : i ≡ 0). rw first around_first)
      (λ (later : 0 < i).
      let before : (j : ℕ) × (1 + j ≡ i) = le_dest later in
      let here : i ≡ before.0 + 1 = omega arith in
      rw here (around_end before.0 (rw (← here) h)))
      (eq-zero-or-pos i)
