-- Levels that are 1, -1 or erased add up exactly: the sum of up to 2^24 of them is the float of the unerased zeros less the unerased ones,
-- so it is below zero exactly if there are more unerased ones than zeros. Assumes nothing.
use mathlib.Core.Path.{◌≡◌, refl, ap, ◌∙◌}
use mathlib.Core.Bool.{cond}
use Prim.Native.Nat.{ℕ, zero, suc, ◌+◌, ◌-◌, ◌^◌, ◌≤◌, ◌<◌}
use native.Mathlib.Nat.{add-zero}
use native.Mathlib.Omega.{arith}
use lib.Dec.{T, ltb}
use lib.Ieee.{Float, binary32, minus, add, lt, of_int, in_float}
use lib.Ieee.Exact.{HasValue}
use Rattle.bits.specs.Sums.{sum_below}
use Rattle.model.specs.Levels.{zero_level, is_unerased, bit_of_level, plus_level, sum_of_levels, separator_reading}
use Rattle.model.specs.declared.ReceivedLevel.{ReceivedLevel}
use Rattle.level_theory.specs.UnitLevels.{unerased_zeros, unerased_ones, zeros_less_ones}
use Rattle.level_theory.proofs.IntegerFloats.{sum_of_differences, difference_negative, difference_absolute, difference_in_float}
use Rattle.level_theory.proofs.IntegerFloats.{integer_value, integer_below_zero, integers_add}
use Rattle.level_theory.proofs.UnitsReceived.{UnitOrErased, erased, plus, less, plus_one_bit, minus_one_bit}
use Rattle.level_theory.proofs.ErasureCounts.{places_in_all}

-- the float of a - b, and the sum of two such
abbrev difference : (a b : ℕ) → Float
difference a b = of_int binary32 (minus a b)

differences_add : (a b c d : ℕ) → a ≤ 2 ^ 24 → b ≤ 2 ^ 24 → c ≤ 2 ^ 24 → d ≤ 2 ^ 24
    → add binary32 (difference a b) (difference c d) ≡ difference (a + c) (b + d)
differences_add a b c d ha hb hc hd =
    integers_add binary32 (minus a b) (minus c d) (difference_in_float binary32 a b ha hb) (difference_in_float binary32 c d hc hd)
    ∙ ap (of_int binary32) (sum_of_differences a b c d)

-- one received level more
bit_added : {b : ReceivedLevel} → UnitOrErased b → (zeros ones : ℕ) → zeros ≤ 2 ^ 24 → ones ≤ 2 ^ 24
    → plus_level (difference zeros ones) b
    ≡ difference (zeros + cond (is_unerased b) (1 - bit_of_level b) 0) (ones + cond (is_unerased b) (bit_of_level b) 0)
unfolding plus_level is_unerased
bit_added erased zeros ones hz ho = rw (add-zero zeros, add-zero ones)
bit_added plus zeros ones hz ho = rw plus_one_bit (differences_add zeros ones 1 0 hz ho (omega arith) (omega arith))
bit_added less zeros ones hz ho = rw minus_one_bit (differences_add zeros ones 0 1 hz ho (omega arith) (omega arith))

-- no levels sum to the float of 0
zero_float : zero_level ≡ difference 0 0
unfolding of_int
zero_float = refl

module _ (t : ℕ → ReceivedLevel) where
  -- there are no more unerased zeros than places, and no more unerased ones
  few_zeros : (m : ℕ) → m ≤ 2 ^ 24 → unerased_zeros t m ≤ 2 ^ 24
  few_zeros m h = omega (arith, places_in_all t m)

  few_ones : (m : ℕ) → m ≤ 2 ^ 24 → unerased_ones t m ≤ 2 ^ 24
  few_ones m h = omega (arith, places_in_all t m)

  -- the sum of m levels is the float of the unerased zeros less the unerased ones
  pub sum_exact : (m : ℕ) → m ≤ 2 ^ 24 → ((p : ℕ) → p < m → UnitOrErased (t p))
      → sum_of_levels t m ≡ zeros_less_ones t m
  unfolding sum_of_levels unerased_zeros unerased_ones sum_below
  sum_exact zero h units = zero_float
  sum_exact (suc m) h units =
      rw (sum_exact m (omega arith) (λ p b. units p (omega arith)))
      (bit_added (units m (omega arith)) (unerased_zeros t m) (unerased_ones t m) (few_zeros m (omega arith)) (few_ones m (omega arith)))

  module _ (m : ℕ) (h : m ≤ 2 ^ 24) (units : (p : ℕ) → p < m → UnitOrErased (t p)) where
    in_float_lem : T (in_float binary32 (minus (unerased_zeros t m) (unerased_ones t m)))
    in_float_lem = difference_in_float binary32 (unerased_zeros t m) (unerased_ones t m) (few_zeros m h) (few_ones m h)

    -- nothing of it is rounded off: it has the value of that difference, negative where there are more unerased ones than zeros
    pub sum_value : HasValue (sum_of_levels t m) (ltb (unerased_zeros t m) (unerased_ones t m))
        ((unerased_zeros t m - unerased_ones t m) + (unerased_ones t m - unerased_zeros t m)) 1
    sum_value =
        rw (sum_exact m h units, ← (difference_negative (unerased_zeros t m) (unerased_ones t m)))
        (rw (← (difference_absolute (unerased_zeros t m) (unerased_ones t m)))
        (integer_value binary32 (minus (unerased_zeros t m) (unerased_ones t m)) in_float_lem))

    -- it is below zero exactly if there are more unerased ones than zeros
    pub below_zero : lt (sum_of_levels t m) zero_level ≡ ltb (unerased_zeros t m) (unerased_ones t m)
    below_zero =
        rw (sum_exact m h units)
        (integer_below_zero binary32 (minus (unerased_zeros t m) (unerased_ones t m)) in_float_lem
        ∙ difference_negative (unerased_zeros t m) (unerased_ones t m))

    -- so a separator reads 1 exactly if it has more unerased ones than zeros
    pub separator_by_count : separator_reading m t ≡ cond (ltb (unerased_zeros t m) (unerased_ones t m)) 1 0
    unfolding separator_reading
    separator_by_count = rw below_zero
