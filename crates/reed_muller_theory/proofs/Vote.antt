-- One vote. Where y is a polynomial of no more variables than S with some positions damaged, each class of S sums to the coefficient
-- of S and to what is damaged in the class. A damaged position lies in one class, so at most as many classes sum wrong as positions
-- are damaged. Where twice the damaged positions are fewer than the classes, these are fewer than half of the classes. Assumes nothing.
use mathlib.Core.Path.{◌≡◌, sym, ap, ◌∙◌}
use mathlib.Core.Bool.{Bool, true, false, cond}
use mathlib.Core.Logic.{⊎_elim}
use Prim.Native.Nat.{ℕ, ◌+◌, ◌*◌, ◌%◌, ◌^◌, ◌≤◌, ◌<◌}
use native.Mathlib.Nat.{le_trans}
use native.Mathlib.Omega.{arith}
use lib.Bits.{bit_or}
use lib.Dec.{ltb, eqb}
use borrow.Author.Tests.{lt-ltb, le-ltb}
use Rattle.bits.specs.Sums.{sum_below}
use Rattle.bits.specs.Places.{weight}
use Rattle.bits.proofs.Numbers.{eq_or_ne, by_test}
use Rattle.bits.proofs.Sums.{sum_ext, sum_mono, sum_add, sum_parity, times_parity}
use Rattle.model.specs.ReedMuller.{product, class_sum, classes, votes_for_one, coefficient}
use Rattle.reed_muller_theory.proofs.LowestVariable.{member}
use Rattle.reed_muller_theory.proofs.Classes.{classes_apart}
use Rattle.reed_muller_theory.proofs.Polynomials.{value_at, DegreeAtMost, class_of_polynomial, product_bit}

-- what a vote finds is 0 or 1
pub vote_bit : (m : ℕ) (y : ℕ → ℕ) (S : ℕ) → coefficient m y S < 2
unfolding coefficient
vote_bit m y S = by_test (λ (b : ℕ). b < 2) (ltb (classes m S) (2 * votes_for_one m S y)) (λ e. omega arith) (λ e. omega arith)

-- y is the polynomial with coefficients H, damaged where e is 1
abbrev pub Damaged : (m : ℕ) (H e y : ℕ → ℕ) → Type 0
Damaged m H e y = (p : ℕ) → p < 2 ^ m → y p % 2 ≡ (value_at m H p + e p) % 2

module _ (m S : ℕ) (H e y : ℕ → ℕ) (below : S < 2 ^ m) (degree : DegreeAtMost m (weight m S) H) (damaged : Damaged m H e y) where
  -- how many positions of class c are damaged
  abbrev damaged_in : ℕ → ℕ
  damaged_in c = sum_below (λ p. member S c p * e p) (2 ^ m)

  -- a class sums to the coefficient, unless an odd number of its positions is damaged
  class_sum_lem : (c : ℕ) → c < 2 ^ m → product S c ≡ 1 → class_sum m S y c ≡ (H S + damaged_in c) % 2
  unfolding class_sum
  class_sum_lem c l named =
      ap (λ (x : ℕ). x % 2) (sum_ext (2 ^ m) (λ p k. counted (eqb (bit_or p S) c) (y p)))
      ∙ sum_parity (λ p. member S c p * y p) (λ p. member S c p * value_at m H p + member S c p * e p) (2 ^ m) by_parts
      ∙ ap (λ (x : ℕ). x % 2) (sum_add (λ p. member S c p * value_at m H p) (λ p. member S c p * e p) (2 ^ m))
      ∙ omega (arith, class_of_polynomial m S c H below l named degree)
    where
      counted : (t : Bool) (a : ℕ) → cond t a 0 ≡ cond t 1 0 * a
      counted true a = omega arith
      counted false a = omega arith

      by_parts : (p : ℕ) → p < 2 ^ m → member S c p * y p % 2 ≡ (member S c p * value_at m H p + member S c p * e p) % 2
      by_parts p k =
          sym (times_parity (member S c p) (y p))
          ∙ ap (λ (x : ℕ). member S c p * x % 2) (damaged p k)
          ∙ times_parity (member S c p) (value_at m H p + e p)
          ∙ ap (λ (x : ℕ). x % 2) (omega arith)

  -- so at most as many classes vote against the coefficient as positions are damaged
  few_for_one : H S ≡ 0 → votes_for_one m S y ≤ sum_below e (2 ^ m)
  unfolding votes_for_one
  few_for_one none = le_trans (sum_mono (2 ^ m) wrong) (classes_apart (2 ^ m) S e)
    where
      wrong : (c : ℕ) → c < 2 ^ m → product S c * class_sum m S y c ≤ damaged_in c
      wrong c l =
          ⊎_elim
          (λ (named : product S c ≡ 1). rw (named, class_sum_lem c l named, none) (omega arith))
          (λ (other : product S c ≡ 1 → ⊥). let zero : product S c ≡ 0 = omega (arith, product_bit S c) in rw zero (omega arith))
          (eq_or_ne (product S c) 1)

  few_for_zero : H S ≡ 1 → classes m S ≤ votes_for_one m S y + sum_below e (2 ^ m)
  unfolding classes votes_for_one
  few_for_zero one =
      le_trans (sum_mono (2 ^ m) wrong)
      (rw (sum_add (λ c. product S c * class_sum m S y c) damaged_in (2 ^ m)) (omega (arith, classes_apart (2 ^ m) S e)))
    where
      wrong : (c : ℕ) → c < 2 ^ m → product S c ≤ product S c * class_sum m S y c + damaged_in c
      wrong c l =
          ⊎_elim
          (λ (named : product S c ≡ 1). rw (named, class_sum_lem c l named, one) (omega arith))
          (λ (other : product S c ≡ 1 → ⊥). omega (arith, product_bit S c))
          (eq_or_ne (product S c) 1)

  module _ (bit : H S < 2) (few : 2 * sum_below e (2 ^ m) < classes m S) where
    -- the vote is not tied, and it is right
    pub no_tie : 2 * votes_for_one m S y ≡ classes m S → ⊥
    no_tie tie =
        ⊎_elim (λ (none : H S ≡ 0). omega (arith, few_for_one none)) (λ (some : H S ≡ 0 → ⊥). omega (arith, few_for_zero (omega arith)))
        (eq_or_ne (H S) 0)

    pub vote_right : coefficient m y S ≡ H S
    unfolding coefficient
    vote_right =
        ⊎_elim
        (λ (none : H S ≡ 0). rw (none, le-ltb (classes m S) (2 * votes_for_one m S y) (omega (arith, few_for_one none))))
        (λ (some : H S ≡ 0 → ⊥).
        let one : H S ≡ 1 = omega arith in rw (one, lt-ltb (classes m S) (2 * votes_for_one m S y) (omega (arith, few_for_zero one))))
        (eq_or_ne (H S) 0)
