-- A word built chunk by chunk: chunks put down one after the other make up a word as far as they go. Assumes nothing.
use mathlib.Core.Path.{◌≡◌, sym, ◌∙◌}
use mathlib.Core.Logic.{⊎_elim}
use Prim.Native.Nat.{ℕ, ◌+◌, ◌≤◌, ◌<◌}
use native.Mathlib.Nat.{le_dest}
use native.Mathlib.Omega.{arith}
use Rattle.bits.specs.Sums.{join_at}
use Rattle.bits.specs.Places.{cut}
use Rattle.bits.proofs.Joins.{join_left, join_right}
use Rattle.bits.proofs.Numbers.{lt_or_le}
use Rattle.bits.proofs.Places.{cut_below, cut_above}

-- the first `at` bits of u, and the next `len` of them put down behind
pub chunk_appended : (at len : ℕ) (u : ℕ → ℕ) {w v r : ℕ → ℕ} → ((p : ℕ) → w p ≡ cut at u p)
    → ((p : ℕ) → p < len → v p ≡ u (at + p)) → ((p : ℕ) → r p ≡ join_at at w (cut len v) p)
    → (p : ℕ) → r p ≡ cut (at + len) u p
chunk_appended at len u {w} {v} {r} so_far chunk put p =
    ⊎_elim
    (λ (l : p < at).
    put p ∙ join_left at w (cut len v) p l ∙ so_far p ∙ cut_below at u p l ∙ sym (cut_below (at + len) u p (omega arith)))
    (λ (l : at ≤ p). let k = le_dest l in rw (← k.1) (behind k.0))
    (lt_or_le p at)
  where
    behind : (k : ℕ) → r (at + k) ≡ cut (at + len) u (at + k)
    behind k =
        put (at + k) ∙ join_right at w (cut len v) k
        ∙ ⊎_elim
        (λ (l : k < len). cut_below len v k l ∙ chunk k l ∙ sym (cut_below (at + len) u (at + k) (omega arith)))
        (λ (l : len ≤ k). cut_above len v k l ∙ sym (cut_above (at + len) u (at + k) (omega arith)))
        (lt_or_le k len)
