-- The premise "each level is 1, -1 or 0", and what such levels sum to. Assumes nothing.
use Rattle.std.specs.Prelude.{Bool, cond, List, ℕ, ◌+◌, ◌-◌, ◌<◌, pos, negsuc, Float, get_or}
use Rattle.std.specs.Float.{nan, fin, binary32}
use Rattle.std.specs.Float.Ieee.{minus, of_int}
use Rattle.bits.specs.Sums.{sum_below}
use Rattle.model.specs.Levels.{is_unerased, bit_of_level}
use Rattle.model.specs.declared.ReceivedLevel.{ReceivedLevel}

-- the levels 1 and -1
abbrev pub plus_one_level : Float
plus_one_level = of_int binary32 (pos 1)

abbrev pub minus_one_level : Float
minus_one_level = of_int binary32 (negsuc 0)

-- a level that is 1 or -1
pub data OneLevel : Float → Type 0 where
  plus_one : OneLevel plus_one_level
  minus_one : OneLevel minus_one_level

-- a level that is 1, -1 or zero, of either sign
pub data UnitLevel : Float → Type 0 where
  one : {x : Float} → OneLevel x → UnitLevel x
  zero_level_lem : (negative : Bool) → UnitLevel (fin negative 0 (pos 0))

-- each of the first d levels is such
abbrev pub OneLevels : (levels : List Float) (d : ℕ) → Type 0
OneLevels levels d = (p : ℕ) → p < d → OneLevel (get_or levels p nan)

abbrev pub UnitLevels : (levels : List Float) (d : ℕ) → Type 0
UnitLevels levels d = (p : ℕ) → p < d → UnitLevel (get_or levels p nan)

-- each of the D levels from place `at` on
abbrev pub UnitLevelsFrom : (at : ℕ) (levels : List Float) (D : ℕ) → Type 0
UnitLevelsFrom at levels D = (q : ℕ) → q < D → UnitLevel (get_or levels (at + q) nan)

-- how many of the unerased bits at the first m places are 0, and how many are 1
unfoldable pub unerased_zeros : (t : ℕ → ReceivedLevel) (m : ℕ) → ℕ
unerased_zeros t m = sum_below (λ p. cond (is_unerased (t p)) (1 - bit_of_level (t p)) 0) m

unfoldable pub unerased_ones : (t : ℕ → ReceivedLevel) (m : ℕ) → ℕ
unerased_ones t m = sum_below (λ p. cond (is_unerased (t p)) (bit_of_level (t p)) 0) m

-- the former less the latter, as a level
abbrev pub zeros_less_ones : (t : ℕ → ReceivedLevel) (m : ℕ) → Float
zeros_less_ones t m = of_int binary32 (minus (unerased_zeros t m) (unerased_ones t m))
