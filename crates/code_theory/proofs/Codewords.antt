-- The code is linear: the sum of the rows that g exclusive-or h names is the exclusive-or of the sums that g and h name. Gray's
-- order changes one bit a step, so each codeword is the one before it with one row added, and that row's weight is their distance.
-- Assumes nothing.
use mathlib.Core.Path.{◌≡◌, refl, sym, ap, ap₂, ◌∙◌}
use mathlib.Core.Logic.{⊎_elim}
use Prim.Native.Nat.{ℕ, zero, suc, ◌+◌, ◌*◌, ◌^◌, ◌≤◌, ◌<◌}
use native.Mathlib.Nat.{lt_of_le_of_lt, zero-mul, one-mul, mul-le-mul_right}
use native.Mathlib.Omega.{arith}
use lib.Bits.{bit_xor, xor_lt, xor_self, xor_zero_r}
use lib.Count.{count_trailing_zeros}
use lib.Dec.{eqb}
use lib.Pow.{pow_pos}
use borrow.Author.Tests.{eq-eqb}
use Rattle.bits.specs.Sums.{difference}
use Rattle.bits.specs.Places.{bit, weight}
use Rattle.bits.proofs.Numbers.{eq_or_ne}
use Rattle.bits.proofs.Binary.{bit_bit, bit_zero, bit_xor_lem, bit_pow_same, bit_pow_other, xor_exchange, xor_undone, weight_xor}
use Rattle.bits.proofs.Searches.{first_is}
use Rattle.model.specs.Card.{Code, sum_of_rows}
use Rattle.model.specs.Order.{gray, codeword, last_codeword, changed_row, changed_weight}
use Rattle.code_theory.specs.LeastDistance.{codeword_distance}
use Rattle.code_theory.proofs.Gray.{gray_zero, gray_changed, gray_kept, gray_next, changed_below}

-- a row is taken where two bits differ: once for either bit, modulo 2
xor_multiples : (a b r : ℕ) → a < 2 → b < 2 → difference a b * r ≡ bit_xor (a * r) (b * r)
xor_multiples zero b r ha hb = let same : difference 0 b ≡ b = omega arith in rw (zero-mul, same)
xor_multiples (suc zero) zero r ha hb = rw (zero-mul, one-mul) (sym (xor_zero_r r))
xor_multiples (suc zero) (suc zero) r ha hb = rw (zero-mul, one-mul) (sym (xor_self r))
xor_multiples (suc zero) (suc (suc b)) r ha hb = omega arith
xor_multiples (suc (suc a)) b r ha hb = omega arith

-- ---- sums of rows

pub rows_linear : (row : ℕ → ℕ) (k g h : ℕ)
    → sum_of_rows row k (bit_xor g h) ≡ bit_xor (sum_of_rows row k g) (sum_of_rows row k h)
unfolding sum_of_rows
rows_linear row zero g h = refl
rows_linear row (suc k) g h =
    let last : bit (bit_xor g h) k * row k ≡ bit_xor (bit g k * row k) (bit h k * row k) =
    ap (λ (b : ℕ). b * row k) (bit_xor_lem g h k) ∙ xor_multiples (bit g k) (bit h k) (row k) (bit_bit g k) (bit_bit h k) in
    ap₂ bit_xor (rows_linear row k g h) last
    ∙ xor_exchange (sum_of_rows row k g) (sum_of_rows row k h) (bit g k * row k) (bit h k * row k)

-- the sum of no rows, and of one
pub rows_of_none : (row : ℕ → ℕ) (k g : ℕ) → ((z : ℕ) → z < k → bit g z ≡ 0) → sum_of_rows row k g ≡ 0
unfolding sum_of_rows
rows_of_none row zero g h = refl
rows_of_none row (suc k) g h =
    rw (rows_of_none row k g (λ z l. h z (omega arith)), h k (omega arith), zero-mul)

pub rows_of_one : (row : ℕ → ℕ) (k z : ℕ) → z < k → sum_of_rows row k (2 ^ z) ≡ row z
unfolding sum_of_rows
rows_of_one row zero z l = omega arith
rows_of_one row (suc k) z l =
    ⊎_elim
    (λ (e : z ≡ k). rw (e, bit_pow_same k, rows_of_none row k (2 ^ k) (λ y m. bit_pow_other k y (omega arith)), one-mul))
    (λ (ne : z ≡ k → ⊥).
    rw (bit_pow_other z k (λ e. ne (sym e)), rows_of_one row k z (omega arith), zero-mul) (xor_zero_r (row z)))
    (eq_or_ne z k)

-- a row taken once at most adds no more than the row
pub at_most_once : (b r : ℕ) → b < 2 → b * r ≤ r
at_most_once b r l = let m : b * r ≤ 1 * r = mul-le-mul_right r (omega arith) in omega arith

-- a sum of rows that are below 2 ^ n is below 2 ^ n
pub rows_below : (n : ℕ) (row : ℕ → ℕ) (k g : ℕ) → ((z : ℕ) → z < k → row z < 2 ^ n) → sum_of_rows row k g < 2 ^ n
unfolding sum_of_rows
rows_below n row zero g h = pow_pos n
rows_below n row (suc k) g h =
    xor_lt n (sum_of_rows row k g) (bit g k * row k) (rows_below n row k g (λ z l. h z (omega arith)))
    (lt_of_le_of_lt (at_most_once (bit g k) (row k) (bit_bit g k)) (h k (omega arith)))

-- the Gray order starts at the sum of no rows
pub rows_start : (row : ℕ → ℕ) (k : ℕ) → sum_of_rows row k (gray 0) ≡ 0
rows_start row k = rw gray_zero (rows_of_none row k 0 (λ z l. bit_zero z))

-- one step of the Gray order adds one row, the one whose number is the count of trailing zeros of i + 1
pub rows_next : (row : ℕ → ℕ) (k w i : ℕ) → i + 1 < 2 ^ k → i + 1 < 2 ^ w
    → sum_of_rows row k (gray (i + 1)) ≡ bit_xor (sum_of_rows row k (gray i)) (row (count_trailing_zeros w (i + 1)))
rows_next row k w i below fits =
    let z : ℕ = count_trailing_zeros w (i + 1) in
    ap (sum_of_rows row k) (gray_next w i fits)
    ∙ rows_linear row k (gray i) (2 ^ z)
    ∙ ap (bit_xor (sum_of_rows row k (gray i))) (rows_of_one row k z (changed_below k w i below fits))

-- ---- codewords

pub codeword_zero : (C : Code) → codeword C 0 ≡ 0
unfolding codeword
codeword_zero C = rows_start C.row C.k

module _ (C : Code) (i : ℕ) (within : i < last_codeword C) where
  next_below : i + 1 < 2 ^ C.k
  unfolding last_codeword
  next_below = omega arith

  -- the changed row is the one whose number is the count of trailing zeros of i + 1, taken at any width that i + 1 fits
  pub changed_row_lem : (w : ℕ) → i + 1 < 2 ^ w → changed_row C i ≡ count_trailing_zeros w (i + 1)
  unfolding changed_row
  changed_row_lem w fits =
      let z : ℕ = count_trailing_zeros w (i + 1) in
      first_is (λ z. eqb (difference (bit (gray i) z) (bit (gray (i + 1)) z)) 1) C.k z
      (changed_below C.k w i next_below fits)
      (eq-eqb _ 1 (gray_changed w i fits))
      (λ j l.
      let kept : difference (bit (gray i) j) (bit (gray (i + 1)) j) ≡ 0 = gray_kept w i j fits (omega arith) in
      rw kept)

  -- it is one of the code's rows
  pub changed_row_below : changed_row C i < C.k
  changed_row_below = rw (changed_row_lem C.k next_below) (changed_below C.k C.k i next_below next_below)

  -- c(i+1) is c(i) with that row added
  pub codeword_next : codeword C (i + 1) ≡ bit_xor (codeword C i) (C.row (changed_row C i))
  unfolding codeword
  codeword_next =
      rows_next C.row C.k C.k i next_below next_below
      ∙ ap (λ (z : ℕ). bit_xor (sum_of_rows C.row C.k (gray i)) (C.row z)) (sym (changed_row_lem C.k next_below))

  -- so they differ in A(i) places
  pub step_distance : codeword_distance C i (i + 1) ≡ changed_weight C i
  unfolding changed_weight
  step_distance =
      let r : ℕ = C.row (changed_row C i) in
      sym (weight_xor C.n (codeword C i) (codeword C (i + 1)))
      ∙ ap (weight C.n) (ap (bit_xor (codeword C i)) codeword_next ∙ xor_undone (codeword C i) r)
