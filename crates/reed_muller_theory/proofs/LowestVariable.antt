-- A position, a set and a class are taken apart by their lowest variable: what is said of p, S and c is what is said of their lowest
-- bits, times what is said of their halves. So a sum over the positions of m + 1 variables is a factor, from the two values of the
-- lowest variable, times the sum over those of m variables. Assumes nothing.
use mathlib.Core.Path.{◌≡◌, refl, sym, ap, ap₂, ◌∙◌}
use mathlib.Core.Bool.{cond}
use mathlib.Core.Logic.{⊎_elim}
use Prim.Native.Nat.{ℕ, zero, suc, ◌+◌, ◌*◌, ◌/◌, ◌%◌, ◌^◌, ◌≤◌, ◌<◌, min, max}
use native.Mathlib.Nat.{pow-succ'}
use native.Mathlib.Numerals.{add-one, one-add}
use native.Mathlib.Omega.{arith}
use lib.Bits.{bit_and, bit_or, and_step, or_step}
use lib.Dec.{eqb}
use borrow.Author.Tests.{eq-eqb, ne_eqb}
use Rattle.bits.specs.Sums.{sum_below}
use Rattle.bits.specs.Places.{bit, weight}
use Rattle.bits.proofs.Numbers.{eq_or_ne}
use Rattle.bits.proofs.Sums.{sum_ext, sum_zero, sum_split}
use Rattle.bits.proofs.Binary.{bit_lowest, bit_suc}
use Rattle.model.specs.ReedMuller.{product}

-- ---- 1 where two numbers are the same, and 0 elsewhere

abbrev pub same : (a b : ℕ) → ℕ
same a b = cond (eqb a b) 1 0

pub same_yes : (a b : ℕ) → a ≡ b → same a b ≡ 1
same_yes a b e = rw (eq-eqb a b e)

pub same_no : (a b : ℕ) → (a ≡ b → ⊥) → same a b ≡ 0
same_no a b ne = rw (ne_eqb a b ne)

-- a number is the same as at most one other
pub same_once : (a d : ℕ) → sum_below (same a) d ≤ 1
unfolding sum_below
same_once a zero = omega arith
same_once a (suc d) =
    ⊎_elim
    (λ (e : a ≡ d).
    let none : sum_below (same a) d ≡ 0 = sum_zero d (λ c l. same_no a c (λ k. omega arith)) in
    omega (arith, none, same_yes a d e))
    (λ (ne : a ≡ d → ⊥). omega (arith, same_no a d ne, same_once a d))
    (eq_or_ne a d)

-- numbers are the same where their halves and their last digits are
same_digits : (a x b y : ℕ) → x < 2 → y < 2 → same (a * 2 + x) (b * 2 + y) ≡ same x y * same a b
same_digits a x b y hx hy =
    ⊎_elim
    (λ (e : a ≡ b).
    ⊎_elim (λ (l : x ≡ y). rw (same_yes (a * 2 + x) (b * 2 + y) (omega arith), same_yes x y l, same_yes a b e))
    (λ (l : x ≡ y → ⊥). rw (same_no (a * 2 + x) (b * 2 + y) (λ k. l (omega arith)), same_no x y l) (omega arith))
    (eq_or_ne x y))
    (λ (ne : a ≡ b → ⊥). rw (same_no (a * 2 + x) (b * 2 + y) (λ k. ne (omega arith)), same_no a b ne) (omega arith))
    (eq_or_ne a b)

-- ---- a product and a class, by the lowest variable

-- the factor that the lowest bits of set and position make: s and b
abbrev pub product_low : (s b : ℕ) → ℕ
product_low s b = same (min b s) s

pub product_digit : (S p : ℕ) → product S p ≡ product_low (S % 2) (p % 2) * product (S / 2) (p / 2)
unfolding product
product_digit S p =
    let halves : S ≡ S / 2 * 2 + S % 2 = omega arith in
    ap₂ (λ (a b : ℕ). same a b) (and_step p S) halves
    ∙ same_digits (bit_and (p / 2) (S / 2)) (min (p % 2) (S % 2)) (S / 2) (S % 2) (omega arith) (omega arith)

-- position p lies in class c of S
abbrev pub member : (S c p : ℕ) → ℕ
member S c p = same (bit_or p S) c

abbrev pub member_low : (s c b : ℕ) → ℕ
member_low s c b = same (max b s) c

pub member_digit : (S c p : ℕ) → member S c p ≡ member_low (S % 2) (c % 2) (p % 2) * member (S / 2) (c / 2) (p / 2)
member_digit S c p =
    let halves : c ≡ c / 2 * 2 + c % 2 = omega arith in
    ap₂ (λ (a b : ℕ). same a b) (or_step p S) halves
    ∙ same_digits (bit_or (p / 2) (S / 2)) (max (p % 2) (S % 2)) (c / 2) (c % 2) (omega arith) (omega arith)

-- ---- the size of a set, by the lowest variable

sum_of_first : (f : ℕ → ℕ) → sum_below f 1 ≡ f 0
unfolding sum_below
sum_of_first f = omega arith

pub weight_digit : (m S : ℕ) → weight (suc m) S ≡ S % 2 + weight m (S / 2)
unfolding weight
weight_digit m S =
    ap (sum_below (bit S)) (sym (one-add m))
    ∙ sum_split (bit S) 1 m
    ∙ ap₂ (λ (a b : ℕ). a + b) (sum_of_first (bit S) ∙ bit_lowest S) (sum_ext m (λ p l. ap (bit S) (one-add p) ∙ bit_suc S p))

-- ---- a sum over positions, by the lowest variable

pub sum_scaled : (a : ℕ) (f : ℕ → ℕ) (d : ℕ) → sum_below (λ p. a * f p) d ≡ a * sum_below f d
unfolding sum_below
sum_scaled a f zero = omega arith
sum_scaled a f (suc d) = rw (sum_scaled a f d) (omega arith)

sum_pairs : (f : ℕ → ℕ) (d : ℕ) → sum_below f (2 * d) ≡ sum_below (λ q. f (2 * q) + f (2 * q + 1)) d
unfolding sum_below
sum_pairs f zero = refl
sum_pairs f (suc d) =
    let two_more : 2 * suc d ≡ suc (suc (2 * d)) = omega arith in
    rw (two_more, sum_pairs f d, add-one (2 * d)) (omega arith)

pub sum_by_lowest : (low h : ℕ → ℕ) (m : ℕ) → sum_below (λ p. low (p % 2) * h (p / 2)) (2 ^ suc m) ≡ (low 0 + low 1) * sum_below h (2 ^ m)
sum_by_lowest low h m =
    rw (pow-succ' 2 m, sum_pairs (λ p. low (p % 2) * h (p / 2)) (2 ^ m))
    (sum_ext (2 ^ m) (λ q l. pair q) ∙ sum_scaled (low 0 + low 1) h (2 ^ m))
  where
    pair : (q : ℕ) → low (2 * q % 2) * h (2 * q / 2) + low ((2 * q + 1) % 2) * h ((2 * q + 1) / 2) ≡ (low 0 + low 1) * h q
    pair q =
        let even : 2 * q % 2 ≡ 0 = omega arith in
        let half : 2 * q / 2 ≡ q = omega arith in
        let odd : (2 * q + 1) % 2 ≡ 1 = omega arith in
        let half' : (2 * q + 1) / 2 ≡ q = omega arith in
        rw (even, half, odd, half') (omega arith)
