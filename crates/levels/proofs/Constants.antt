-- The code's constants, which stand for bit patterns, are the definitions' zero and 1,000,000. Assumes nothing.
use mathlib.Core.Path.{◌≡◌, refl}
use lib.IntN.{pos}
use lib.Ieee.{binary32, of_bits, of_int}
use Rattle.model.specs.Levels.{zero_level}

pub zero_literal : of_bits binary32 0 ≡ zero_level
unfolding of_bits
zero_literal = refl

pub million_literal : of_bits binary32 1232348160 ≡ of_int binary32 (pos 1000000)
unfolding of_bits of_int
million_literal = refl
