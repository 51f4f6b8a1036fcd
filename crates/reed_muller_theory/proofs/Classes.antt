-- The one law of classes. Over a class of S the product of S itself is 1 at one position, and the product of any other set T of no
-- more variables is 1 at an even number of positions: T lacks a variable of S, and a class holds positions in pairs that differ in
-- that variable alone. There are 2^(m - |S|) classes, and they share no position. Assumes nothing.
use mathlib.Core.Path.{◌≡◌, refl, sym, ap, ◌∙◌}
use mathlib.Core.Logic.{⊎_elim}
use Prim.Native.Nat.{ℕ, zero, suc, ◌+◌, ◌*◌, ◌/◌, ◌%◌, ◌^◌, ◌≤◌, ◌<◌}
use native.Mathlib.Nat.{mul-le-mul_left}
use native.Mathlib.Omega.{arith}
use lib.Bits.{bit_or}
use lib.Pow.{pow-add}
use Rattle.bits.specs.Sums.{sum_below}
use Rattle.bits.specs.Places.{weight}
use Rattle.bits.proofs.Numbers.{eq_or_ne}
use Rattle.bits.proofs.Sums.{sum_ext, sum_mono, sum_add, sum_zero}
use Rattle.model.specs.ReedMuller.{product, classes}
use Rattle.reed_muller_theory.proofs.LowestVariable.{same, same_once, product_low, product_digit, member, member_low, member_digit}
use Rattle.reed_muller_theory.proofs.LowestVariable.{weight_digit, sum_scaled, sum_by_lowest}

-- ---- the law

-- at how many positions of class c of S the product of T is 1
abbrev pub ones_in_class : (m S T c : ℕ) → ℕ
ones_in_class m S T c = sum_below (λ p. member S c p * product T p) (2 ^ m)

-- the factor that the lowest variable makes: s, t and c are the lowest bits of S, T and the class
abbrev factor : (s t c : ℕ) → ℕ
factor s t c = member_low s c 0 * product_low t 0 + member_low s c 1 * product_low t 1

by_lowest : (m S T c : ℕ) → ones_in_class (suc m) S T c ≡ factor (S % 2) (T % 2) (c % 2) * ones_in_class m (S / 2) (T / 2) (c / 2)
by_lowest m S T c =
    sum_ext (2 ^ suc m) (λ p l. rw (member_digit S c p, product_digit T p) (exchange _ _ _ _))
    ∙ sum_by_lowest (λ b. member_low (S % 2) (c % 2) b * product_low (T % 2) b) (λ q. member (S / 2) (c / 2) q * product (T / 2) q) m
  where
    exchange : (a b c d : ℕ) → a * b * (c * d) ≡ a * c * (b * d)
    exchange a b c d = omega arith

-- a bit is 0 or 1
bit_case : (P : ℕ → Type 0) → P 0 → P 1 → (b : ℕ) → b < 2 → P b
bit_case P p₀ p₁ zero h = p₀
bit_case P p₀ p₁ (suc zero) h = p₁
bit_case P p₀ p₁ (suc (suc b)) h = absurd (omega arith)

-- the own product: one value of the lowest variable counts
own_factor : (s c : ℕ) → s < 2 → c < 2 → product_low s c ≡ 1 → factor s s c ≡ 1
own_factor s c hs hc =
    bit_case (λ s. product_low s c ≡ 1 → factor s s c ≡ 1)
    (bit_case (λ c. product_low 0 c ≡ 1 → factor 0 0 c ≡ 1) (λ e. refl) (λ e. refl) c hc)
    (bit_case (λ c. product_low 1 c ≡ 1 → factor 1 1 c ≡ 1) (λ e. absurd (omega arith)) (λ e. refl) c hc)
    s hs

-- a variable of S that T lacks: both values count, or none
lacking_factor : (c : ℕ) → c < 2 → factor 1 0 c % 2 ≡ 0
lacking_factor = bit_case (λ c. factor 1 0 c % 2 ≡ 0) refl refl

-- two factors whose product is 1 are 1
both_one : (a b : ℕ) → a * b ≡ 1 → (a ≡ 1) × (b ≡ 1)
both_one zero b e = absurd (omega arith)
both_one (suc zero) b e = (refl, omega arith)
both_one (suc (suc a)) zero e = absurd (omega arith)
both_one (suc (suc a)) (suc b) e = absurd (omega arith)

pub own_product : (m S c : ℕ) → S < 2 ^ m → c < 2 ^ m → product S c ≡ 1 → ones_in_class m S S c ≡ 1
unfolding sum_below product
own_product zero S c hS hc e = let z_s : S ≡ 0 = omega arith in let zc : c ≡ 0 = omega arith in rw (z_s, zc) refl
own_product (suc m) S c hS hc e =
    let (low, high) = both_one _ _ (sym (product_digit S c) ∙ e) in
    by_lowest m S S c
    ∙ rw (own_factor (S % 2) (c % 2) (omega arith) (omega arith) low, own_product m (S / 2) (c / 2) (omega arith) (omega arith) high)

-- a multiple of an even number is even
even_left : (a b : ℕ) → a % 2 ≡ 0 → a * b % 2 ≡ 0
even_left a b e = let half : a ≡ 2 * (a / 2) = omega arith in rw half (omega arith)

pub even_right : (a b : ℕ) → b % 2 ≡ 0 → a * b % 2 ≡ 0
even_right a b e = let half : b ≡ 2 * (b / 2) = omega arith in rw half (omega arith)

pub other_product : (m S T c : ℕ) → S < 2 ^ m → T < 2 ^ m → weight m T ≤ weight m S → (T ≡ S → ⊥) → ones_in_class m S T c % 2 ≡ 0
other_product zero S T c hS hT no_more ne = absurd (ne (omega arith))
other_product (suc m) S T c hS hT no_more ne =
    ap (λ (x : ℕ). x % 2) (by_lowest m S T c)
    ∙ ⊎_elim
    (λ (lacks : S % 2 ≡ T % 2 + 1).
    let s : S % 2 ≡ 1 = omega arith in
    let t : T % 2 ≡ 0 = omega arith in
    let even : factor (S % 2) (T % 2) (c % 2) % 2 ≡ 0 = rw (s, t) (lacking_factor (c % 2) (omega arith)) in
    even_left (factor (S % 2) (T % 2) (c % 2)) (ones_in_class m (S / 2) (T / 2) (c / 2)) even)
    (λ (has : S % 2 ≡ T % 2 + 1 → ⊥).
    let sizes : T % 2 + weight m (T / 2) ≤ S % 2 + weight m (S / 2) = omega (arith, weight_digit m T, weight_digit m S) in
    let low : S % 2 ≤ T % 2 = omega arith in
    even_right (factor (S % 2) (T % 2) (c % 2)) (ones_in_class m (S / 2) (T / 2) (c / 2))
    (other_product m (S / 2) (T / 2) (c / 2) (omega arith) (omega arith) (omega arith)
    (λ (halves : T / 2 ≡ S / 2). omega (arith, ap (weight m) halves, ne_digits halves))))
    (eq_or_ne (S % 2) (T % 2 + 1))
  where
    ne_digits : T / 2 ≡ S / 2 → (T % 2 ≡ S % 2 → ⊥)
    ne_digits halves low = ne (omega arith)

-- ---- how many classes there are

classes_by_lowest : (m S : ℕ) → classes (suc m) S ≡ (product_low (S % 2) 0 + product_low (S % 2) 1) * classes m (S / 2)
unfolding classes
classes_by_lowest m S = sum_ext (2 ^ suc m) (λ p l. product_digit S p) ∙ sum_by_lowest (product_low (S % 2)) (product (S / 2)) m

-- a variable of S halves them
halved : (s : ℕ) → s < 2 → (product_low s 0 + product_low s 1) * 2 ^ s ≡ 2
halved = bit_case (λ s. (product_low s 0 + product_low s 1) * 2 ^ s ≡ 2) refl refl

-- 2^(m - |S|), said without a difference
pub count_of_classes : (m S : ℕ) → S < 2 ^ m → classes m S * 2 ^ weight m S ≡ 2 ^ m
unfolding classes sum_below product weight
count_of_classes zero S h = let none : S ≡ 0 = omega arith in rw none refl
count_of_classes (suc m) S h =
    let f : ℕ = product_low (S % 2) 0 + product_low (S % 2) 1 in
    let ih : classes m (S / 2) * 2 ^ weight m (S / 2) ≡ 2 ^ m = count_of_classes m (S / 2) (omega arith) in
    rw (classes_by_lowest m S, weight_digit m S, pow-add 2 (S % 2) (weight m (S / 2)))
    (exchange f (classes m (S / 2)) (2 ^ (S % 2)) (2 ^ weight m (S / 2)) ∙ rw (halved (S % 2) (omega arith), ih) (omega arith))
  where
    exchange : (a b c d : ℕ) → a * b * (c * d) ≡ a * c * (b * d)
    exchange a b c d = omega arith

-- ---- they share no position

pub sum_exchange : (F : ℕ → ℕ → ℕ) (d e : ℕ) → sum_below (λ c. sum_below (F c) e) d ≡ sum_below (λ p. sum_below (λ c. F c p) d) e
unfolding sum_below
sum_exchange F zero e = sym (sum_zero e (λ p l. refl))
sum_exchange F (suc d) e = rw (sum_exchange F d e) (sym (sum_add (λ p. sum_below (λ c. F c p) d) (F d) e))

-- so what f counts in all classes together is at most what it counts
pub classes_apart : (n S : ℕ) (f : ℕ → ℕ) → sum_below (λ c. sum_below (λ p. member S c p * f p) n) n ≤ sum_below f n
classes_apart n S f = rw (sum_exchange (λ c p. member S c p * f p) n n) (sum_mono n (λ p l. once p))
  where
    at_most : (a b : ℕ) → b ≤ 1 → a * b ≤ a
    at_most a b h = let m : a * b ≤ a * 1 = mul-le-mul_left a h in omega arith

    once : (p : ℕ) → sum_below (λ c. member S c p * f p) n ≤ f p
    once p =
        rw (
          sum_ext {f = λ c. member S c p * f p} {g = λ c. f p * same (bit_or p S) c} n (λ c l. omega arith),
          sum_scaled (f p) (same (bit_or p S)) n,
        )
        (at_most (f p) (sum_below (same (bit_or p S)) n) (same_once (bit_or p S) n))
