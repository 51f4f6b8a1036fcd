-- The sum of a set of rows, split in two: the first `low` rows and those behind them. Assumes nothing.
use Prim.Native.Nat.{ℕ, zero, suc, ◌+◌, ◌*◌, ◌/◌, ◌%◌, ◌^◌, ◌<◌}
use mathlib.Core.Path.{◌≡◌, refl, sym}
use native.Mathlib.Nat.{add-zero, add-suc}
use native.Mathlib.Omega.{arith}
use lib.Bits.{bit_xor, xor_zero_r}
use Rattle.bits.specs.Places.{bit}
use Rattle.bits.proofs.Binary.{xor_assoc}
use Rattle.bits.proofs.Shifts.{moved_down, remainder_kept}
use Rattle.model.specs.Card.{sum_of_rows}

-- none of the first k rows has a bit at n or above
abbrev pub Narrow : (n k : ℕ) → (ℕ → ℕ) → Type 0
Narrow n k row = (z : ℕ) → z < k → row z < 2 ^ n

-- A set of rows is a set of the first `low` and a set of the others, and its sum is the exclusive-or of theirs: each row is added
-- by its own bit, and the bits of the set's number are those of its remainder and its quotient by 2 ^ low.

-- sets that agree in the bits below k
sums_alike : (row : ℕ → ℕ) (k g h : ℕ) → ((z : ℕ) → z < k → bit g z ≡ bit h z) → sum_of_rows row k g ≡ sum_of_rows row k h
unfolding sum_of_rows
sums_alike row zero g h same = refl
sums_alike row (suc k) g h same =
    rw (sums_alike row k g h (λ z l. same z (omega arith)), same k (omega arith))

-- the rows behind the first `low`
abbrev pub behind : ℕ → (ℕ → ℕ) → ℕ → ℕ
behind low row z = row (low + z)

pub rows_split : (row : ℕ → ℕ) (low high g : ℕ)
    → sum_of_rows row (low + high) g ≡ bit_xor (sum_of_rows row low (g % 2 ^ low)) (sum_of_rows (behind low row) high (g / 2 ^ low))
unfolding sum_of_rows
rows_split row low zero g =
    rw (add-zero low, xor_zero_r (sum_of_rows row low (g % 2 ^ low)))
    (sums_alike row low g (g % 2 ^ low) (λ z l. sym (remainder_kept low g z l)))
rows_split row low (suc z) g =
    rw (add-suc low z, rows_split row low z g, moved_down low g z)
    (xor_assoc (sum_of_rows row low (g % 2 ^ low)) (sum_of_rows (behind low row) z (g / 2 ^ low)) (bit g (low + z) * row (low + z)))
