use mathlib.Core.Path.{refl}
use native.Mathlib.Numerals.{add-one}
use native.Mathlib.Omega.{arith}
use Rattle.bits.specs.Sums.{sum_below, distance}
use Rattle.bits.specs.Places.{bit}
use Rattle.bits.proofs.Binary.{bit_xor_lem}
use Rattle.bits.proofs.Distance.{distance_suc}
use Rattle.position.proofs.differences.bit_after.Goals as goal

pub loop-q-init : goal.loop-q-init
unfolding distance sum_below
loop-q-init c = (refl, omega arith)

pub loop-q-preserved : goal.loop-q-preserved
loop-q-preserved c =
    let x = c.args.x in
    let y = c.args.y in
    let q = c.loop-q.q in
    let apart = bit_xor_lem x y q in
    (rw (add-one q, distance_suc q (bit x) (bit y)) (omega (arith, apart)), omega arith)
