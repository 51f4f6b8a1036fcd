-- A loop over the sets of k rows in Gray order, and over the codewords, their sums: where it stands, where it starts, and one step.
-- The row that a step adds is one of the k, and what it makes of the sum of set i is the sum of set i + 1. Row numbers are
-- counted at 32 bits, the width of the loop's counter. Assumes nothing.
use mathlib.Core.Path.{◌≡◌, sym}
use Prim.Native.Nat.{ℕ, ◌+◌, ◌-◌, ◌^◌, ◌≤◌, ◌<◌}
use native.Mathlib.Nat.{lt_of_lt_of_le}
use native.Mathlib.Omega.{arith}
use lib.Bits.{bit_xor}
use lib.Count.{count_trailing_zeros}
use lib.Pow.{pow_pos, pow_mono}
use Rattle.model.specs.Card.{sum_of_rows}
use Rattle.model.specs.Order.{gray}
use Rattle.code_theory.proofs.Gray.{changed_below}
use Rattle.code_theory.proofs.Codewords.{rows_start, rows_next}

-- the loop stands at set i of last, whose sum is in word
pub record AtSet (k : ℕ) (row : ℕ → ℕ) (last word i : ℕ) : Type 0 where
  pub end : last + 1 ≡ 2 ^ k
  pub within : i ≤ last
  pub current : word ≡ sum_of_rows row k (gray i)

-- before the first step: the sum of no rows
pub set_start : {k two : ℕ} {row : ℕ → ℕ} → two ≡ 2 ^ k → AtSet k row (two - 1) 0 0
set_start {k = k} {row = row} is-two =
    record { end = omega (arith, pow_pos k); within = omega arith; current = sym (rows_start row k) }

module _ {k : ℕ} {row : ℕ → ℕ} {last word i : ℕ} (twelve : k ≤ 12) (at : AtSet k row last word i) (more : i < last) where
  below : i + 1 < 2 ^ k
  below = omega arith

  fits : i + 1 < 2 ^ 32
  fits = lt_of_lt_of_le below (pow_mono {i = k} {j = 32} (omega arith))

  -- the row that is added is one of the k, and so of the twelve
  pub row_below : count_trailing_zeros 32 (i + 1) < k
  row_below = changed_below k 32 i below fits

  pub row_of_twelve : count_trailing_zeros 32 (i + 1) < 12
  row_of_twelve = omega (arith, row_below)

  -- a step
  pub set_next : AtSet k row last (bit_xor word (row (count_trailing_zeros 32 (i + 1)))) (i + 1)
  set_next =
      record { end = at.end; within = omega arith; current = rw at.current (sym (rows_next row k 32 i below fits)) }
