-- Floats of integers: one whose magnitude the format counts without a gap has that integer's value, is below zero exactly if the
-- integer is, and the sum of two such is the float of the integers' sum. Integers are seen as differences of two numbers. Assumes
-- nothing.
use mathlib.Core.Path.{◌≡◌, refl, sym, ap, ◌∙◌}
use mathlib.Core.Bool.{Bool, true, false, cond, ◌&&◌, beq, true≢false, false≢true}
use mathlib.Core.Logic.{⊎_elim}
use Prim.Native.Nat.{ℕ, suc, ◌+◌, ◌-◌, ◌*◌, ◌^◌, ◌≤◌, ◌<◌}
use native.Mathlib.Nat.{mul_comm, mul-add, mul-sub, mul-pos, mul-le-mul_left, mul-lt-mul_of_pos_left}
use native.Mathlib.Omega.{arith}
use borrow.Author.Tests.{ltb-true, ltb-false, leb-true, leb-false, lt-ltb, le-ltb}
use lib.Dec.{T, leb, ltb, leb→le, ltb→lt, le→leb, lt→ltb}
use lib.IntN.{ℤ, pos, negsuc, sub_ℕ, ◌+ℤ◌}
use lib.Ieee.{Float, nan, inf, fin, Format, prec, up, down, minus, round, sum, add, lt, of_int, in_float}
use lib.Ieee.Fits.{down_pos}
use lib.Ieee.Exact.{HasValue}
use lib.Ieee.Back.{round_whole}
use lib.Ieee.Scale.{round_same}
use Rattle.bits.proofs.Numbers.{by_test, lt_or_le}
use Rattle.model.specs.Levels.{zero_level}

-- ---- differences

-- what holds of a difference of either sign holds of a - b
of_difference : (P : ℤ → Type 0) (a b : ℕ) → ((n : ℕ) → n + b ≡ a → P (pos n)) → ((n : ℕ) → suc n + a ≡ b → P (negsuc n))
    → P (minus a b)
of_difference P a b above under =
    by_test P (leb b a) (λ t. above (a - b) (omega (arith, leb-true b a t))) (λ t. under (b - suc a) (omega (arith, leb-false b a t)))

positive_difference : (n a b : ℕ) → n + b ≡ a → pos n ≡ minus a b
positive_difference n a b e = of_difference (λ z. pos n ≡ z) a b (λ k e'. ap pos (omega arith)) (λ k e'. absurd (omega arith))

negative_difference : (n a b : ℕ) → suc n + a ≡ b → negsuc n ≡ minus a b
negative_difference n a b e = of_difference (λ z. negsuc n ≡ z) a b (λ k e'. absurd (omega arith)) (λ k e'. ap negsuc (omega arith))

same_difference : (n k a b : ℕ) → n + b ≡ k + a → sub_ℕ n k ≡ minus a b
same_difference n k a b e =
    by_test (λ z. z ≡ minus a b) (ltb n k) (λ t. negative_difference (k - suc n) a b (omega (arith, ltb-true n k t)))
    (λ t. positive_difference (n - k) a b (omega (arith, ltb-false n k t)))

-- differences add up
pub sum_of_differences : (a b c d : ℕ) → minus a b +ℤ minus c d ≡ minus (a + c) (b + d)
sum_of_differences a b c d =
    of_difference (λ z. z +ℤ minus c d ≡ minus (a + c) (b + d)) a b
    (λ n e. of_difference (λ w. pos n +ℤ w ≡ minus (a + c) (b + d)) c d
    (λ k g. positive_difference (n + k) (a + c) (b + d) (omega arith))
    (λ k g. same_difference n (suc k) (a + c) (b + d) (omega arith)))
    (λ n e. of_difference (λ w. negsuc n +ℤ w ≡ minus (a + c) (b + d)) c d
    (λ k g. same_difference k (suc n) (a + c) (b + d) (omega arith))
    (λ k g. negative_difference (suc (n + k)) (a + c) (b + d) (omega arith)))

-- ---- an integer's sign and magnitude

abbrev pub negative : ℤ → Bool
negative (pos n) = false
negative (negsuc n) = true

abbrev pub absolute : ℤ → ℕ
absolute (pos n) = n
absolute (negsuc n) = suc n

pub difference_negative : (a b : ℕ) → negative (minus a b) ≡ ltb a b
difference_negative a b =
    of_difference (λ z. negative z ≡ ltb a b) a b (λ n e. sym (le-ltb a b (omega arith))) (λ n e. sym (lt-ltb a b (omega arith)))

pub difference_absolute : (a b : ℕ) → absolute (minus a b) ≡ (a - b) + (b - a)
difference_absolute a b = of_difference (λ z. absolute z ≡ (a - b) + (b - a)) a b (λ n e. omega arith) (λ n e. omega arith)

-- a difference of two numbers that a format counts without a gap
pub difference_in_float : (f : Format) (a b : ℕ) → a ≤ 2 ^ prec f → b ≤ 2 ^ prec f → T (in_float f (minus a b))
unfolding in_float
difference_in_float f a b ha hb =
    of_difference (λ z. T (in_float f z)) a b (λ n e. le→leb n (2 ^ prec f) (omega arith)) (λ n e. lt→ltb n (2 ^ prec f) (omega arith))

-- ---- floats

-- the float of an integer has its value
pub integer_value : (f : Format) (z : ℤ) → T (in_float f z) → HasValue (of_int f z) (negative z) (absolute z) 1
unfolding in_float of_int
integer_value f (pos n) h = round_whole f false n (leb→le n (2 ^ prec f) h)
integer_value f (negsuc n) h = round_whole f true (suc n) (ltb→lt n (2 ^ prec f) h)

-- and is below zero exactly if the integer is
pub integer_below_zero : (f : Format) (z : ℤ) → T (in_float f z) → lt (of_int f z) zero_level ≡ negative z
unfolding lt
integer_below_zero f (pos n) h = not_below (of_int f (pos n)) (integer_value f (pos n) h)
  where
    not_below : (x : Float) → HasValue x false n 1 → lt x zero_level ≡ false
    not_below nan value = elim value [ ]
    not_below (inf _) value = elim value [ ]
    not_below (fin true m e) (sign, value) = absurd (true≢false sign)
    not_below (fin false m e) (sign, value) = le-ltb (m * up e * 1) (0 * down e) (omega arith)
integer_below_zero f (negsuc n) h = below (of_int f (negsuc n)) (integer_value f (negsuc n) h)
  where
    below : (x : Float) → HasValue x true (suc n) 1 → lt x zero_level ≡ true
    below nan value = elim value [ ]
    below (inf _) value = elim value [ ]
    below (fin false m e) (sign, value) = absurd (false≢true sign)
    below (fin true m e) (sign, value) = lt-ltb 0 (m * up e * 1 + 0 * down e) (omega (arith, down_pos e))

-- ---- sums of floats

-- what the sum of two fractions over c is rounded from
sum_opened : (f : Format) (s : Bool) (a : ℕ) (t : Bool) (b c : ℕ)
    → sum f s a t b c
    ≡ cond (beq s t) (round f s (a + b) c) (cond (ltb a b) (round f t (b - a) c) (round f (s && ltb b a) (a - b) c))
unfolding sum
sum_opened f s a t b c = refl

add_opened : (f : Format) (s : Bool) (m : ℕ) (e : ℤ) (t : Bool) (n : ℕ) (d : ℤ)
    → add f (fin s m e) (fin t n d) ≡ sum f s (m * up e * down d) t (n * up d * down e) (down e * down d)
unfolding add
add_opened f s m e t n d = refl

-- multiples of c over c add up as whole numbers
module _ (c : ℕ) (some : 0 < c) where
  same_test : (a b : ℕ) → ltb (c * a) (c * b) ≡ ltb a b
  same_test a b =
      ⊎_elim (λ (l : a < b). lt-ltb (c * a) (c * b) (mul-lt-mul_of_pos_left l some) ∙ sym (lt-ltb a b l))
      (λ (l : b ≤ a). le-ltb (c * a) (c * b) (mul-le-mul_left c l) ∙ sym (le-ltb a b l)) (lt_or_le a b)

  whole_round : (f : Format) (s : Bool) (a : ℕ) → round f s (c * a) c ≡ round f s a 1
  whole_round f s a = round_same f s (c * a) c a 1 some (omega arith) (omega arith)

  whole_sum : (f : Format) (s : Bool) (a : ℕ) (t : Bool) (b : ℕ) → sum f s (c * a) t (c * b) c ≡ sum f s a t b 1
  whole_sum f s a t b =
      rw (sum_opened f s (c * a) t (c * b) c, sum_opened f s a t b 1, same_test a b, same_test b a)
      (rw (← (mul-add c a b), ← (mul-sub c a b), ← (mul-sub c b a))
      (rw (whole_round f s (a + b), whole_round f t (b - a), whole_round f (s && ltb b a) (a - b))))

-- a numerator k over c that is a, brought over c * d
over_both : (k a c d : ℕ) → k * 1 ≡ a * c → k * d ≡ c * d * a
over_both k a c d h = let e : k ≡ a * c = omega arith in rw e (omega arith)

-- floats with whole values add up as those whole numbers
add_wholes : (f : Format) (x y : Float) (s : Bool) (a : ℕ) (t : Bool) (b : ℕ) → HasValue x s a 1 → HasValue y t b 1
    → add f x y ≡ sum f s a t b 1
add_wholes f nan y s a t b value value' = elim value [ ]
add_wholes f (inf _) y s a t b value value' = elim value [ ]
add_wholes f (fin s m e) nan s' a t' b value value' = elim value' [ ]
add_wholes f (fin s m e) (inf _) s' a t' b value value' = elim value' [ ]
add_wholes f (fin s m e) (fin t n d) s' a t' b (sign, value) (sign', value') =
    rw (add_opened f s m e t n d, sign, sign', over_both (m * up e) a (down e) (down d) value)
    (rw (over_both (n * up d) b (down d) (down e) value', mul_comm (down d) (down e))
    (whole_sum (down e * down d) (mul-pos (down_pos e) (down_pos d)) f s' a t' b))

-- by the signs of two integers, that sum is the float of theirs
float_of_positive : (f : Format) (n : ℕ) → of_int f (pos n) ≡ round f false n 1
unfolding of_int
float_of_positive f n = refl

float_of_negative : (f : Format) (k n : ℕ) → suc n ≡ k → round f true k 1 ≡ of_int f (negsuc n)
unfolding of_int
float_of_negative f k n e = ap (λ (i : ℕ). round f true i 1) (sym e)

sum_by_signs : (f : Format) (z w : ℤ) → sum f (negative z) (absolute z) (negative w) (absolute w) 1 ≡ of_int f (z +ℤ w)
sum_by_signs f (pos a) (pos b) = rw (sum_opened f false a false b 1, float_of_positive f (a + b))
sum_by_signs f (negsuc a) (negsuc b) =
    rw (sum_opened f true (suc a) true (suc b) 1) (float_of_negative f (suc a + suc b) (suc (a + b)) (omega arith))
sum_by_signs f (pos a) (negsuc b) =
    rw (sum_opened f false a true (suc b) 1)
    (⊎_elim
    (λ (l : a < suc b). rw (lt-ltb a (suc b) l) (float_of_negative f (suc b - a) (suc b - suc a) (omega arith)))
    (λ (l : suc b ≤ a). rw (le-ltb a (suc b) l, float_of_positive f (a - suc b)))
    (lt_or_le a (suc b)))
sum_by_signs f (negsuc a) (pos b) =
    rw (sum_opened f true (suc a) false b 1)
    (⊎_elim
    (λ (l : b < suc a).
    rw (lt-ltb b (suc a) l, le-ltb (suc a) b (omega arith)) (float_of_negative f (suc a - b) (suc a - suc b) (omega arith)))
    (λ (l : suc a ≤ b).
    rw (le-ltb b (suc a) l, float_of_positive f (b - suc a))
    (by_test (λ x. x ≡ round f false (b - suc a) 1) (ltb (suc a) b) (λ _. refl)
    (λ t. ap (λ (n : ℕ). round f false n 1) (omega (arith, ltb-false (suc a) b t)))))
    (lt_or_le b (suc a)))

-- so the sum of two integers' floats is the float of the integers' sum
pub integers_add : (f : Format) (z w : ℤ) → T (in_float f z) → T (in_float f w) → add f (of_int f z) (of_int f w) ≡ of_int f (z +ℤ w)
integers_add f z w hz hw =
    add_wholes f (of_int f z) (of_int f w) (negative z) (absolute z) (negative w) (absolute w) (integer_value f z hz) (integer_value f w hw)
    ∙ sum_by_signs f z w
