-- Two's complement of 32 bits is the signed number of the same bits: a number x below 2^31 is itself, and one from there on is
-- -1 - (2^32 - 1 - x). Assumes nothing.
use mathlib.Core.Path.{◌≡◌}
use Prim.Native.Nat.{ℕ, suc, ◌-◌, ◌^◌, ◌≤◌, ◌<◌}
use native.Mathlib.Omega.{arith}
use borrow.Author.Tests.{lt-ltb, le-ltb}
use lib.IntN.{negsuc}
use mir.Syntax.{w32}
use mir.Val.{to_z}
use Rattle.model.specs.Card.{twos_complement}

pub as_signed : (x : ℕ) → x < 2 ^ 32 → to_z w32 x ≡ twos_complement x
unfolding twos_complement
as_signed x fits = rw (lt-ltb x (2 ^ 32) fits)

pub below_half : (x : ℕ) → x < 2 ^ 31 → to_z w32 x ≡ twos_complement x
below_half x below = as_signed x (omega arith)

pub from_half : (x : ℕ) → 2 ^ 31 ≤ x → x < 2 ^ 32 → twos_complement x ≡ negsuc (4294967295 - x)
unfolding twos_complement
from_half x from below =
    let rest : 2 ^ 32 - suc x ≡ 4294967295 - x = omega arith in
    rw (le-ltb x (2 ^ 31) from, lt-ltb x (2 ^ 32) below, rest)
