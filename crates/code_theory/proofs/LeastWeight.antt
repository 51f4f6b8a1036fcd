-- The least weight of a nonzero codeword is known by two facts: no nonzero codeword's weight is below it, and it is the weight of
-- one, or n. Assumes nothing.
use mathlib.Core.Path.{◌≡◌, refl, ◌∙◌}
use mathlib.Core.Logic.{◌⊎◌, inl, inr, ⊎_elim}
use Prim.Native.Nat.{ℕ, zero, suc, ◌^◌, ◌≤◌, ◌<◌, min}
use native.Mathlib.Nat.{eq-zero-or-pos}
use native.Mathlib.Omega.{arith}
use borrow.Author.Tests.{eq-eqb, ne_eqb}
use Rattle.bits.specs.Places.{weight}
use Rattle.bits.proofs.Numbers.{lt_or_le, eq_or_ne}
use Rattle.bits.proofs.Binary.{zero_of_weight}
use Rattle.model.specs.Card.{least_weight}

module _ (n : ℕ) (word : ℕ → ℕ) where
  -- one word more: a zero is passed over, any other is compared with the least so far
  pub least_passed : (g : ℕ) → word g ≡ 0 → least_weight n word (suc g) ≡ least_weight n word g
  unfolding least_weight
  least_passed g e = rw (eq-eqb (word g) 0 e)

  pub least_compared : (g : ℕ) → (word g ≡ 0 → ⊥) → least_weight n word (suc g) ≡ min (weight n (word g)) (least_weight n word g)
  unfolding least_weight
  least_compared g ne = rw (ne_eqb (word g) 0 ne)

  pub least_high : (m : ℕ) → least_weight n word m ≤ n
  unfolding least_weight
  least_high zero = omega arith
  least_high (suc g) =
      let before : least_weight n word g ≤ n = least_high g in
      ⊎_elim (λ e. rw (least_passed g e) before) (λ ne. rw (least_compared g ne) (omega arith)) (eq_or_ne (word g) 0)

  -- it is at most the weight of each nonzero codeword ...
  pub least_le : (m g : ℕ) → g < m → (word g ≡ 0 → ⊥) → least_weight n word m ≤ weight n (word g)
  least_le zero g l ne = omega arith
  least_le (suc m) g l ne =
      ⊎_elim
      (λ (e : g ≡ m). rw (← e, least_compared g ne) (omega arith))
      (λ (other : g ≡ m → ⊥).
      let before : least_weight n word m ≤ weight n (word g) = least_le m g (omega arith) ne in
      ⊎_elim (λ e. rw (least_passed m e) before) (λ ne'. rw (least_compared m ne') (omega arith)) (eq_or_ne (word m) 0))
      (eq_or_ne g m)

  -- ... and the weight of one, or n
  abbrev pub Attained : ℕ → Type 0
  Attained m = (g : ℕ) × (g < m) × (word g ≡ 0 → ⊥) × (least_weight n word m ≡ weight n (word g))

  still : (m : ℕ) → least_weight n word (suc m) ≡ least_weight n word m → (least_weight n word m ≡ n) ⊎ Attained m
      → (least_weight n word (suc m) ≡ n) ⊎ Attained (suc m)
  still m same (inl e) = inl (same ∙ e)
  still m same (inr (g, l, ne, e)) = inr (g, omega arith, ne, same ∙ e)

  pub least_some : (m : ℕ) → (least_weight n word m ≡ n) ⊎ Attained m
  unfolding least_weight
  least_some zero = inl refl
  least_some (suc m) =
      ⊎_elim (λ (e : word m ≡ 0). still m (least_passed m e) (least_some m))
      (λ (ne : word m ≡ 0 → ⊥).
      let new : least_weight n word (suc m) ≡ min (weight n (word m)) (least_weight n word m) = least_compared m ne in
      ⊎_elim (λ (l : weight n (word m) < least_weight n word m). inr (m, omega arith, ne, omega arith))
      (λ (l : least_weight n word m ≤ weight n (word m)). still m (omega arith) (least_some m))
      (lt_or_le (weight n (word m)) (least_weight n word m)))
      (eq_or_ne (word m) 0)

  -- so it is not 0, since a nonzero word below 2^n has some weight
  pub least_positive : 1 ≤ n → ((g : ℕ) → word g < 2 ^ n) → (m : ℕ) → 1 ≤ least_weight n word m
  least_positive hn below m = by_least (least_some m)
    where
      by_least : (least_weight n word m ≡ n) ⊎ Attained m → 1 ≤ least_weight n word m
      by_least (inl e) = omega arith
      by_least (inr (g, l, ne, e)) =
          ⊎_elim (λ (z : weight n (word g) ≡ 0). absurd (ne (zero_of_weight n (word g) (below g) z)))
          (λ (p : 0 < weight n (word g)). omega arith)
          (eq-zero-or-pos (weight n (word g)))
