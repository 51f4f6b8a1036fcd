-- `position::differences::place_after` meets its contract. The loop keeps that u and v differ in `passed` places before byte j, and that
-- these are at most m. Where the byte would pass more than m, the place is found within it. Assumes nothing.
use mathlib.Core.Path.{◌≡◌}
use Prim.Native.Nat.{◌*◌, ◌≤◌}
use Rattle.bits.specs.Sums.{distance}
use Rattle.bits.specs.Places.{place}
use Rattle.position.proofs.differences.place_after.Given as goal

abbrev pub invariant-loop-j : goal.invariant-loop-j
invariant-loop-j l = (l.passed ≡ distance (8 * l.j) (place l.u) (place l.v)) × (l.passed ≤ l.m)
