-- The Gray order: Gray(i) and Gray(i+1) differ in one bit, whose number is the count of trailing zeros of i + 1, because
-- i and i + 1 differ in just the bits up to that one. Gray maps the numbers below 2 ^ k one to one onto themselves.
-- Assumes nothing.
use mathlib.Core.Path.{◌≡◌, refl, sym, ap, ap₂, ◌∙◌}
use mathlib.Core.Logic.{⊎_elim}
use Prim.Native.Nat.{ℕ, zero, suc, ◌+◌, ◌*◌, ◌/◌, ◌%◌, ◌^◌, ◌≤◌, ◌<◌}
use native.Mathlib.Nat.{le_refl, eq-zero-or-pos, mod-add-mod, add-mod-mod, lt_of_le_of_lt, lt_of_lt_of_le, div-le_self}
use native.Mathlib.Omega.{arith}
use lib.Bits.{bit_xor, xor_lt, xor_shr}
use lib.Count.{count_trailing_zeros}
use lib.Pow.{pow_mono}
use Rattle.bits.specs.Sums.{difference}
use Rattle.bits.specs.Places.{bit}
use Rattle.bits.proofs.Numbers.{lt_or_le, eq_or_ne}
use Rattle.bits.proofs.Binary.{bit_bit, bit_lowest, bit_suc, bit_high, bit_ext, bit_pow_same, bit_pow_other, below_pow, bit_xor_lem, xor_lowest}
use Rattle.model.specs.Order.{gray}
use Rattle.code_theory.proofs.TrailingZeros.{trailing_zeros_ind}

-- ---- i and i + 1

-- above the lowest bit they differ where their halves differ
bits_of_halves : (i j p : ℕ) → (i + 1) / 2 ≡ j → difference (bit i (suc p)) (bit (i + 1) (suc p)) ≡ difference (bit (i / 2) p) (bit j p)
bits_of_halves i j p e = rw (bit_suc i p, bit_suc (i + 1) p, e)

lowest_bits : (i : ℕ) → difference (bit i 0) (bit (i + 1) 0) ≡ 1
lowest_bits i = rw (bit_lowest i, bit_lowest (i + 1)) (omega arith)

-- they differ in the bits up to the lowest 1 of i + 1 ...
up_to_lowest_one : (w i : ℕ) → i + 1 < 2 ^ w → (p : ℕ) → p ≤ count_trailing_zeros w (i + 1) → difference (bit i p) (bit (i + 1) p) ≡ 1
up_to_lowest_one = trailing_zeros_ind (λ z i. (p : ℕ) → p ≤ z → difference (bit i p) (bit (i + 1) p) ≡ 1) odd even
  where
    odd : (i : ℕ) → (i + 1) / 2 ≡ i / 2 → (p : ℕ) → p ≤ 0 → difference (bit i p) (bit (i + 1) p) ≡ 1
    odd i half zero l = lowest_bits i
    odd i half (suc p) l = omega arith

    even : (z i : ℕ) → (i + 1) / 2 ≡ i / 2 + 1 → ((p : ℕ) → p ≤ z → difference (bit (i / 2) p) (bit (i / 2 + 1) p) ≡ 1)
        → (p : ℕ) → p ≤ suc z → difference (bit i p) (bit (i + 1) p) ≡ 1
    even z i half ih zero l = lowest_bits i
    even z i half ih (suc p) l = bits_of_halves i (i / 2 + 1) p half ∙ ih p (omega arith)

-- ... and in no bit above it
above_lowest_one : (w i : ℕ) → i + 1 < 2 ^ w → (p : ℕ) → count_trailing_zeros w (i + 1) < p → difference (bit i p) (bit (i + 1) p) ≡ 0
above_lowest_one = trailing_zeros_ind (λ z i. (p : ℕ) → z < p → difference (bit i p) (bit (i + 1) p) ≡ 0) odd even
  where
    odd : (i : ℕ) → (i + 1) / 2 ≡ i / 2 → (p : ℕ) → 0 < p → difference (bit i p) (bit (i + 1) p) ≡ 0
    odd i half zero l = omega arith
    odd i half (suc p) l = bits_of_halves i (i / 2) p half ∙ (omega arith)

    even : (z i : ℕ) → (i + 1) / 2 ≡ i / 2 + 1 → ((p : ℕ) → z < p → difference (bit (i / 2) p) (bit (i / 2 + 1) p) ≡ 0)
        → (p : ℕ) → suc z < p → difference (bit i p) (bit (i + 1) p) ≡ 0
    even z i half ih zero l = omega arith
    even z i half ih (suc p) l = bits_of_halves i (i / 2 + 1) p half ∙ ih p (omega arith)

-- ---- one bit a step

bit_gray : (i p : ℕ) → bit (gray i) p ≡ difference (bit i p) (bit i (suc p))
unfolding gray
bit_gray i p = bit_xor_lem i (i / 2) p ∙ ap (λ (b : ℕ). difference (bit i p) b) (sym (bit_suc i p))

-- Gray(i) and Gray(i+1) differ in a bit where i and i + 1 differ in just one of that bit and the one above it
gray_step_bit : (i p a b : ℕ) → difference (bit i p) (bit (i + 1) p) ≡ a → difference (bit i (suc p)) (bit (i + 1) (suc p)) ≡ b
    → difference (bit (gray i) p) (bit (gray (i + 1)) p) ≡ difference a b
gray_step_bit i p a b ea eb =
    rw (bit_gray i p, bit_gray (i + 1) p, ← ea, ← eb)
    (exchange (bit i p) (bit i (suc p)) (bit (i + 1) p) (bit (i + 1) (suc p)))
  where
    exchange : (x y u v : ℕ) → difference (difference x y) (difference u v) ≡ difference (difference x u) (difference y v)
    exchange x y u v = simp (mod-add-mod, add-mod-mod) (omega arith)

-- Gray(i) and Gray(i+1) differ in the bit whose number is the count of trailing zeros of i + 1 ...
pub gray_changed : (w i : ℕ) → i + 1 < 2 ^ w
    → difference (bit (gray i) (count_trailing_zeros w (i + 1))) (bit (gray (i + 1)) (count_trailing_zeros w (i + 1))) ≡ 1
gray_changed w i h =
    let z : ℕ = count_trailing_zeros w (i + 1) in
    gray_step_bit i z 1 0 (up_to_lowest_one w i h z (le_refl z)) (above_lowest_one w i h (suc z) (le_refl (suc z)))

-- ... and in no other
pub gray_kept : (w i p : ℕ) → i + 1 < 2 ^ w → (p ≡ count_trailing_zeros w (i + 1) → ⊥)
    → difference (bit (gray i) p) (bit (gray (i + 1)) p) ≡ 0
gray_kept w i p h other =
    ⊎_elim
    (λ (l : p < count_trailing_zeros w (i + 1)).
    gray_step_bit i p 1 1 (up_to_lowest_one w i h p (omega arith)) (up_to_lowest_one w i h (suc p) l))
    (λ (l : count_trailing_zeros w (i + 1) ≤ p).
    gray_step_bit i p 0 0 (above_lowest_one w i h p (omega arith)) (above_lowest_one w i h (suc p) (omega arith)))
    (lt_or_le p (count_trailing_zeros w (i + 1)))

-- so the step is one exclusive-or with a power of 2
pub gray_next : (w i : ℕ) → i + 1 < 2 ^ w → gray (i + 1) ≡ bit_xor (gray i) (2 ^ count_trailing_zeros w (i + 1))
gray_next w i h =
    let z : ℕ = count_trailing_zeros w (i + 1) in
    bit_ext (gray (i + 1)) (bit_xor (gray i) (2 ^ z))
    (λ p. ⊎_elim
    (λ (e : p ≡ z).
    rw (e, bit_xor_lem (gray i) (2 ^ z) z, bit_pow_same z)
    (flipped (bit (gray i) z) (bit (gray (i + 1)) z) (bit_bit (gray i) z) (bit_bit (gray (i + 1)) z) (gray_changed w i h)))
    (λ (ne : p ≡ z → ⊥).
    rw (bit_xor_lem (gray i) (2 ^ z) p, bit_pow_other z p ne)
    (kept (bit (gray i) p) (bit (gray (i + 1)) p) (bit_bit (gray i) p) (bit_bit (gray (i + 1)) p) (gray_kept w i p h ne)))
    (eq_or_ne p z))
  where
    flipped : (a b : ℕ) → a < 2 → b < 2 → difference a b ≡ 1 → b ≡ difference a 1
    flipped a b ha hb e = omega arith

    kept : (a b : ℕ) → a < 2 → b < 2 → difference a b ≡ 0 → b ≡ difference a 0
    kept a b ha hb e = omega arith

-- ---- the numbers below 2 ^ k, one to one

pub gray_zero : gray 0 ≡ 0
unfolding gray
gray_zero = refl

pub gray_below : (k i : ℕ) → i < 2 ^ k → gray i < 2 ^ k
unfolding gray
gray_below k i h = xor_lt k i (i / 2) h (lt_of_le_of_lt (div-le_self i 2) h)

gray_half : (i : ℕ) → gray i / 2 ≡ gray (i / 2)
unfolding gray
gray_half i = xor_shr i (i / 2) 1

gray_lowest : (i : ℕ) → gray i % 2 ≡ difference (i % 2) (i / 2 % 2)
unfolding gray
gray_lowest i = xor_lowest i (i / 2)

same_lowest : (a b c : ℕ) → a < 2 → b < 2 → difference a c ≡ difference b c → a ≡ b
same_lowest a b c ha hb e = omega arith

injective_below : (k i j : ℕ) → i < 2 ^ k → j < 2 ^ k → gray i ≡ gray j → i ≡ j
injective_below zero i j hi hj e = omega arith
injective_below (suc k) i j hi hj e =
    let half : i / 2 ≡ j / 2 =
    injective_below k (i / 2) (j / 2) (omega arith) (omega arith)
    (sym (gray_half i) ∙ ap (λ (x : ℕ). x / 2) e ∙ gray_half j) in
    let lowest : difference (i % 2) (j / 2 % 2) ≡ difference (j % 2) (j / 2 % 2) =
    rw (← half) (sym (gray_lowest i)) ∙ ap (λ (x : ℕ). x % 2) e ∙ gray_lowest j in
    let same : i % 2 ≡ j % 2 = same_lowest (i % 2) (j % 2) (j / 2 % 2) (omega arith) (omega arith) lowest in
    omega arith

pub gray_injective : (i j : ℕ) → gray i ≡ gray j → i ≡ j
gray_injective i j =
    injective_below (i + j) i j
    (lt_of_lt_of_le (below_pow i) (pow_mono (omega arith)))
    (lt_of_lt_of_le (below_pow j) (pow_mono (omega arith)))

pub gray_positive : (i : ℕ) → 0 < i → 0 < gray i
gray_positive i h =
    ⊎_elim (λ (e : gray i ≡ 0). omega (arith, gray_injective i 0 (e ∙ sym gray_zero)))
    (λ (l : 0 < gray i). l)
    (eq-zero-or-pos (gray i))

gray_of_digits : (j i g : ℕ) → j / 2 ≡ i → j % 2 ≡ difference (g % 2) (i % 2) → gray i ≡ g / 2 → gray j ≡ g
gray_of_digits j i g half low e =
    let h : gray j / 2 ≡ g / 2 = gray_half j ∙ ap gray half ∙ e in
    let l : gray j % 2 ≡ g % 2 =
    gray_lowest j ∙ ap₂ difference low (ap (λ (x : ℕ). x % 2) half) ∙ undone (g % 2) (i % 2) (omega arith) in
    omega arith
  where
    undone : (a b : ℕ) → a < 2 → difference (difference a b) b ≡ a
    undone a b h = simp mod-add-mod (omega arith)

pub gray_onto : (k g : ℕ) → g < 2 ^ k → (i : ℕ) × (i < 2 ^ k) × (gray i ≡ g)
gray_onto zero g h = (0, omega arith, gray_zero ∙ (omega arith))
gray_onto (suc k) g h = next (gray_onto k (g / 2) (omega arith))
  where
    next : (i : ℕ) × (i < 2 ^ k) × (gray i ≡ g / 2) → (j : ℕ) × (j < 2 ^ suc k) × (gray j ≡ g)
    next (i, below, e) =
        let b : ℕ = difference (g % 2) (i % 2) in
        let bit : b < 2 = omega arith in
        (2 * i + b, omega arith, gray_of_digits (2 * i + b) i g (omega arith) (omega arith) e)

-- the bit that changes is one of the first k where i + 1 is below 2 ^ k
pub changed_below : (k w i : ℕ) → i + 1 < 2 ^ k → i + 1 < 2 ^ w → count_trailing_zeros w (i + 1) < k
changed_below k w i below fits =
    let z : ℕ = count_trailing_zeros w (i + 1) in
    ⊎_elim (λ (l : z < k). l)
    (λ (l : k ≤ z).
    omega (
      arith,
      gray_changed w i fits,
      bit_high (gray i) k z (gray_below k i (omega arith)) l,
      bit_high (gray (i + 1)) k z (gray_below k (i + 1) below) l,
    ))
    (lt_or_le z k)
