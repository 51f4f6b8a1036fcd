-- Joined bit functions: below place a the first one, from a on the second, and bits where both are bits. Assumes nothing.
use mathlib.Core.Path.{◌≡◌}
use Prim.Native.Nat.{ℕ, ◌+◌, ◌-◌, ◌<◌}
use native.Mathlib.Nat.{add-sub_cancel_left}
use native.Mathlib.Omega.{arith}
use lib.Dec.{ltb}
use borrow.Author.Tests.{lt-ltb, le-ltb}
use Rattle.bits.specs.Sums.{join_at}
use Rattle.bits.proofs.Numbers.{by_test}

pub join_left : (a : ℕ) (u v : ℕ → ℕ) (p : ℕ) → p < a → join_at a u v p ≡ u p
unfolding join_at
join_left a u v p b = simp (lt-ltb p a b)

pub join_right : (a : ℕ) (u v : ℕ → ℕ) (p : ℕ) → join_at a u v (a + p) ≡ v p
unfolding join_at
join_right a u v p = simp (le-ltb (a + p) a (omega arith), add-sub_cancel_left)

pub join_bit : (a : ℕ) {u v : ℕ → ℕ} → ((p : ℕ) → u p < 2) → ((p : ℕ) → v p < 2) → (p : ℕ) → join_at a u v p < 2
unfolding join_at
join_bit a hu hv p = by_test (λ b. b < 2) (ltb p a) (λ _. hu p) (λ _. hv (p - a))
