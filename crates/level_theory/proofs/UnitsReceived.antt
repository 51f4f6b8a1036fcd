-- What the levels 1, -1 and 0 are taken as: bits 0 and 1, and an erased bit; and none of them is outside the limits of a level.
-- Assumes nothing.
use mathlib.Core.Path.{◌≡◌, refl}
use mathlib.Core.Bool.{Bool, true, false}
use lib.IntN.{pos}
use lib.Ieee.{Float, fin, binary32, lt, eq, neg, is_nan, of_int, of_bits}
use Rattle.model.specs.Levels.{magnitude, infinite, outside, received_level, is_unerased, bit_of_level}
use Rattle.model.specs.declared.ReceivedLevel.{ReceivedLevel}
use Rattle.model.specs.declared.ReceivedLevel.TheVariants.{Lost, Level}
use Rattle.level_theory.specs.UnitLevels.{plus_one_level, minus_one_level, OneLevel, plus_one, minus_one, UnitLevel, one, zero_level_lem}

-- the levels of the premise are those with these bit patterns
pub plus_one_pattern : of_bits binary32 0x3f800000 ≡ plus_one_level
unfolding of_bits of_int
plus_one_pattern = refl

pub minus_one_pattern : of_bits binary32 0xbf800000 ≡ minus_one_level
unfolding of_bits of_int
minus_one_pattern = refl

pub zero_patterns : (of_bits binary32 0x00000000 ≡ fin false 0 (pos 0)) × (of_bits binary32 0x80000000 ≡ fin true 0 (pos 0))
unfolding of_bits
zero_patterns = (refl, refl)

received_plus_one : received_level plus_one_level ≡ Level plus_one_level
unfolding received_level eq of_int
received_plus_one = refl

received_minus_one : received_level minus_one_level ≡ Level minus_one_level
unfolding received_level eq of_int
received_minus_one = refl

-- zero of either sign is an erased bit
received_zero : (s : Bool) → received_level (fin s 0 (pos 0)) ≡ Lost
unfolding received_level eq
received_zero true = refl
received_zero false = refl

pub plus_one_bit : bit_of_level (Level plus_one_level) ≡ 0
unfolding bit_of_level lt of_int
plus_one_bit = refl

pub minus_one_bit : bit_of_level (Level minus_one_level) ≡ 1
unfolding bit_of_level lt of_int
minus_one_bit = refl

-- a bit that is erased, or received as the level 1 or -1
pub data UnitOrErased : ReceivedLevel → Type 0 where
  erased : UnitOrErased Lost
  plus : UnitOrErased (Level plus_one_level)
  less : UnitOrErased (Level minus_one_level)

pub one_received : {x : Float} → OneLevel x → UnitOrErased (received_level x)
one_received plus_one = rw received_plus_one plus
one_received minus_one = rw received_minus_one less

pub unit_received : {x : Float} → UnitLevel x → UnitOrErased (received_level x)
unit_received (one level) = one_received level
unit_received (zero_level_lem negative) = rw (received_zero negative) erased

-- 1 and -1 are unerased
pub one_unerased : {x : Float} → OneLevel x → is_unerased (received_level x) ≡ true
unfolding is_unerased
one_unerased plus_one = rw received_plus_one
one_unerased minus_one = rw received_minus_one

-- none is outside the limits
pub unit_inside : {x : Float} → UnitLevel x → outside x ≡ false
unfolding outside is_nan infinite magnitude lt neg of_int
unit_inside (one plus_one) = refl
unit_inside (one minus_one) = refl
unit_inside (zero_level_lem true) = refl
unit_inside (zero_level_lem false) = refl
