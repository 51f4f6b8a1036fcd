-- `nearest_position::residual::unerased_distance` meets its contract. The loop keeps that `differing` is the distance of the first `j`
-- bytes over the unerased places, which is at most their 8j bits, so the sum fits; a byte more adds the distance of the two bytes.
-- Assumes nothing.
use mathlib.Core.Path.{◌≡◌}
use Prim.Native.Nat.{◌*◌}
use Rattle.bits.specs.Places.{place}
use Rattle.nearest_position.specs.Received.{received_distance}
use Rattle.nearest_position.proofs.residual.unerased_distance.Given as goal

abbrev pub invariant-loop-j : goal.invariant-loop-j
invariant-loop-j l = l.differing ≡ received_distance (8 * l.j) (place l.w) l.x
