use mathlib.Core.Path.{refl}
use Prim.Native.Nat.{◌*◌}
use native.Mathlib.Omega.{arith}
use Rattle.bits.specs.Sums.{sum_below, distance_unerased, marked}
use Rattle.bits.specs.Places.{place}
use Rattle.bits.proofs.Erasures.{unerased_le}
use Rattle.bits.proofs.ByteLists.{unerased_byte}
use Rattle.nearest_position.proofs.residual.unerased_distance.Goals as goal

pub loop-j-init : goal.loop-j-init
unfolding distance_unerased sum_below
loop-j-init c = refl

pub overflow_add-differing : goal.overflow_add-differing
overflow_add-differing c =
    let args = c.args in
    omega (arith, unerased_le (marked (place args.x.unerased)) (8 * c.loop-j.j) (place args.w) (place args.x.bits))

pub loop-j-preserved : goal.loop-j-preserved
loop-j-preserved c = let args = c.args in omega (arith, unerased_byte args.w args.x.bits args.x.unerased c.loop-j.j)
