-- `position::differences::bit_after` meets its contract. The loop keeps that the two bytes differ in `passed` bits before bit q, and that
-- these are at most m. Assumes nothing.
use mathlib.Core.Path.{◌≡◌}
use Prim.Native.Nat.{◌≤◌}
use Rattle.bits.specs.Sums.{distance}
use Rattle.bits.specs.Places.{bit}
use Rattle.position.proofs.differences.bit_after.Given as goal

abbrev pub invariant-loop-q : goal.invariant-loop-q
invariant-loop-q l = (l.passed ≡ distance l.q (bit l.x) (bit l.y)) × (l.passed ≤ l.m)
