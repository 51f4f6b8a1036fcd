-- Counts of received levels: each place is erased, or received as 0, or received as 1. Assumes nothing.
use mathlib.Core.Path.{◌≡◌, refl}
use mathlib.Core.Bool.{Bool, true, false, cond}
use Prim.Native.Nat.{ℕ, zero, suc, ◌+◌, ◌-◌, ◌<◌}
use native.Mathlib.Omega.{arith}
use lib.Ieee.{lt}
use Rattle.bits.specs.Sums.{sum_below, difference, distance_unerased, erased_below}
use Rattle.bits.proofs.Numbers.{by_test}
use Rattle.bits.proofs.Sums.{sum_ext}
use Rattle.model.specs.Levels.{zero_level, is_unerased, bit_of_level, unerased_in, bits_in}
use Rattle.model.specs.declared.ReceivedLevel.{ReceivedLevel}
use Rattle.model.specs.declared.ReceivedLevel.TheVariants.{Lost, Level}
use Rattle.level_theory.specs.UnitLevels.{unerased_zeros, unerased_ones}

-- the bit of a received level is 0 or 1
pub level_bit : (b : ReceivedLevel) → bit_of_level b < 2
unfolding bit_of_level
level_bit Lost = omega arith
level_bit (Level x) = by_test (λ n. n < 2) (lt x zero_level) (λ _. omega arith) (λ _. omega arith)

-- a place is erased, or received as 0, or received as 1
one_of_three : (unerased : Bool) (x : ℕ) → x < 2 → cond unerased (1 - x) 0 + cond unerased x 0 + cond unerased 0 1 ≡ 1
one_of_three true x h = omega arith
one_of_three false x h = refl

module _ (t : ℕ → ReceivedLevel) where
  pub places_in_all : (m : ℕ) → unerased_zeros t m + unerased_ones t m + erased_below (unerased_in t) m ≡ m
  unfolding unerased_zeros unerased_ones erased_below sum_below
  places_in_all zero = refl
  places_in_all (suc m) = omega (arith, places_in_all m, one_of_three (is_unerased (t m)) (bit_of_level (t m)) (level_bit (t m)))

  -- of bits that were all 0 those received as 1 are wrong, and of bits that were all 1 those received as 0
  pub wrong_zeros : (m : ℕ) (u : ℕ → ℕ) → ((p : ℕ) → p < m → u p ≡ 0) → distance_unerased (unerased_in t) m u (bits_in t) ≡ unerased_ones t m
  unfolding distance_unerased unerased_ones
  wrong_zeros m u hu =
      sum_ext m (λ p b. let e : difference (u p) (bit_of_level (t p)) ≡ bit_of_level (t p) = omega (arith, hu p b, level_bit (t p)) in rw e)

  pub wrong_ones : (m : ℕ) (u : ℕ → ℕ) → ((p : ℕ) → p < m → u p ≡ 1) → distance_unerased (unerased_in t) m u (bits_in t) ≡ unerased_zeros t m
  unfolding distance_unerased unerased_zeros
  wrong_ones m u hu =
      sum_ext m (λ p b. let e : difference (u p) (bit_of_level (t p)) ≡ 1 - bit_of_level (t p) = omega (arith, hu p b, level_bit (t p)) in rw e)

  -- where no place is erased, the ones are those of the bits
  pub ones_all_unerased : (m : ℕ) → ((p : ℕ) → p < m → is_unerased (t p) ≡ true) → unerased_ones t m ≡ sum_below (bits_in t) m
  unfolding unerased_ones
  ones_all_unerased m unerased = sum_ext m (λ p b. rw (unerased p b))
