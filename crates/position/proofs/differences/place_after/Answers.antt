use mathlib.Core.Path.{refl}
use mathlib.Core.List.{List}
use mathlib.Core.Path.{◌≡◌}
use Prim.Native.Nat.{ℕ, ◌+◌, ◌*◌, ◌≤◌}
use native.Mathlib.Omega.{arith}
use lib.ListN.{get_or}
use Rattle.bits.specs.Sums.{sum_below, distance}
use Rattle.bits.specs.Places.{bit, place}
use Rattle.bits.proofs.Distance.{distance_ext, distance_split, distance_le}
use Rattle.bits.proofs.Places.{places_of_byte}
use Rattle.position.proofs.differences.place_after.Goals as goal

-- before bit r of byte j, the bytes before it and the byte's first bits differ
within_byte : (u v : List ℕ) (j r : ℕ) → r ≤ 8
    → distance (8 * j + r) (place u) (place v)
    ≡ distance (8 * j) (place u) (place v) + distance r (bit (get_or u j 0)) (bit (get_or v j 0))
within_byte u v j r eight =
    rw (
      distance_split (8 * j) r (place u) (place v),
      distance_ext r (λ q l. places_of_byte u j q (omega arith)) (λ q l. places_of_byte v j q (omega arith)),
    )

pub loop-j-init : goal.loop-j-init
unfolding distance sum_below
loop-j-init c = (refl, omega arith)

pub overflow_add-more : goal.overflow_add-more
overflow_add-more c = omega (arith, distance_le (8 * c.loop-j.j) (place c.args.u) (place c.args.v))

pub returns-then-m-more : goal.returns-then-m-more
returns-then-m-more c =
    let within = c.bit_after.ensures in (
      omega arith,
      rw (within_byte c.args.u c.args.v c.loop-j.j c.bit_after.result within.0, ← c.loop-j.invariant.0, within.1) (omega arith),
    )

pub loop-j-preserved : goal.loop-j-preserved
loop-j-preserved c =
    let j = c.loop-j.j in
    let next : 8 * (j + 1) ≡ 8 * j + 8 = omega arith in
    (rw next (omega (arith, within_byte c.args.u c.args.v j 8 (omega arith))), omega arith)
