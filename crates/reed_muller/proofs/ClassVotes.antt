-- The votes of a set are the ones of its class sums at the positions that name its classes, the ones of its row. Assumes nothing.
use mathlib.Core.Path.{◌≡◌, sym, ap, ◌∙◌}
use mathlib.Core.Logic.{⊎_elim}
use Prim.Native.Nat.{ℕ, ◌*◌, ◌^◌, ◌≤◌, ◌<◌, min}
use native.Mathlib.Nat.{lt_of_le_of_lt}
use native.Mathlib.Omega.{arith}
use lib.Bits.{bit_and, and_le_r}
use lib.Count.{ones}
use lib.Pow.{pow_mono}
use Rattle.bits.specs.Places.{bit, weight}
use Rattle.bits.proofs.Numbers.{eq_or_ne}
use Rattle.bits.proofs.Sums.{sum_ext}
use Rattle.bits.proofs.Binary.{bit_and_lem, bit_bit, weight_ones}
use Rattle.model.specs.ReedMuller.{product, product_row, class_sum, votes_for_one}
use Rattle.reed_muller_theory.proofs.Polynomials.{product_bit, product_row_bit, product_row_narrow}
use Rattle.reed_muller_theory.proofs.ClassSums.{class_sum_wider}

module _ (m S row : ℕ) (six : m ≤ 6) (is : row ≡ product_row m S) where
  row_bit : (p : ℕ) → p < 2 ^ m → bit row p ≡ product S p
  row_bit p l = rw is (product_row_bit m S p l)

  pub votes_counted : (y sums : ℕ) → ((c : ℕ) → c < 64 → product S c ≡ 1 → bit sums c ≡ class_sum 6 S (bit y) c)
      → ones (bit_and sums row) ≡ votes_for_one m S (bit y)
  unfolding votes_for_one weight
  votes_counted y sums summed =
      sym (weight_ones (2 ^ m) (bit_and sums row) (lt_of_le_of_lt (and_le_r sums row) (rw is (product_row_narrow m S))))
      ∙ sum_ext (2 ^ m) (λ c l. bit_and_lem sums row c ∙ ap (min (bit sums c)) (row_bit c l) ∙ one_class c l)
    where
      one_class : (c : ℕ) → c < 2 ^ m → min (bit sums c) (product S c) ≡ product S c * class_sum m S (bit y) c
      one_class c l =
          ⊎_elim
          (λ (named : product S c ≡ 1).
          let sum : bit sums c ≡ class_sum m S (bit y) c =
          summed c (omega (arith, pow_mono {i = m} {j = 6} six)) named ∙ class_sum_wider m 6 S (bit y) c six l in
          rw (named, ← sum) (omega (arith, bit_bit sums c)))
          (λ (other : product S c ≡ 1 → ⊥). let none : product S c ≡ 0 = omega (arith, product_bit S c) in rw none (omega arith))
          (eq_or_ne (product S c) 1)
