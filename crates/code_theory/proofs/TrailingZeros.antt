-- The trailing zeros of i + 1, by halving. Where i + 1 is odd it has none; where it is even, it has one more than its half,
-- and its half follows the half of i. Whatever is shown of these two cases holds of every i and its count. And the count is the
-- place of the lowest one. Assumes nothing.
use mathlib.Core.Path.{◌≡◌, sym, ap, ◌∙◌}
use mathlib.Core.Logic.{◌⊎◌, inl, inr, ⊎_elim}
use Prim.Native.Nat.{ℕ, zero, suc, ◌+◌, ◌/◌, ◌%◌, ◌^◌, ◌<◌}
use native.Mathlib.Nat.{eq-zero-or-pos}
use native.Mathlib.Omega.{arith}
use lib.Count.{count_trailing_zeros}
use Rattle.bits.specs.Places.{bit}
use Rattle.bits.proofs.Binary.{bit_lowest, bit_suc}

odd_or_even : (n : ℕ) → (n % 2 ≡ 1) ⊎ (n % 2 ≡ 0)
odd_or_even n = ⊎_elim (λ (e : n % 2 ≡ 0). inr e) (λ (l : 0 < n % 2). inl (omega arith)) (eq-zero-or-pos (n % 2))

trailing_odd : (w n : ℕ) → n % 2 ≡ 1 → count_trailing_zeros (suc w) n ≡ 0
unfolding count_trailing_zeros
trailing_odd w n e = rw e

trailing_even : (w n : ℕ) → n % 2 ≡ 0 → count_trailing_zeros (suc w) n ≡ suc (count_trailing_zeros w (n / 2))
unfolding count_trailing_zeros
trailing_even w n e = rw e

pub trailing_zeros_ind : (P : ℕ → ℕ → Type 0)
    → ((i : ℕ) → (i + 1) / 2 ≡ i / 2 → P 0 i)
    → ((z i : ℕ) → (i + 1) / 2 ≡ i / 2 + 1 → P z (i / 2) → P (suc z) i)
    → (w i : ℕ) → i + 1 < 2 ^ w → P (count_trailing_zeros w (i + 1)) i
trailing_zeros_ind P odd even zero i fits = absurd (omega arith)
trailing_zeros_ind P odd even (suc w) i fits =
    ⊎_elim (λ (e : (i + 1) % 2 ≡ 1). rw (trailing_odd w (i + 1) e) (odd i (omega arith)))
    (λ (e : (i + 1) % 2 ≡ 0).
    let half : (i + 1) / 2 ≡ i / 2 + 1 = omega arith in
    rw (trailing_even w (i + 1) e, half)
    (even (count_trailing_zeros w (i / 2 + 1)) i half (trailing_zeros_ind P odd even w (i / 2) (omega arith))))
    (odd_or_even (i + 1))

-- the place of a number's lowest one
pub trailing_zeros_is : (w x z : ℕ) → z < w → bit x z ≡ 1 → ((p : ℕ) → p < z → bit x p ≡ 0) → count_trailing_zeros w x ≡ z
trailing_zeros_is zero x z h one none = absurd (omega arith)
trailing_zeros_is (suc w) x zero h one none = trailing_odd w x (sym (bit_lowest x) ∙ one)
trailing_zeros_is (suc w) x (suc z) h one none =
    trailing_even w x (sym (bit_lowest x) ∙ none 0 (omega arith))
    ∙ ap suc
    (trailing_zeros_is w (x / 2) z (omega arith) (sym (bit_suc x z) ∙ one) (λ p l. sym (bit_suc x p) ∙ none (suc p) (omega arith)))
