-- `position::words::separator` meets its contract: no bit of 0 is 1, and each of the lowest D bits of 2^D - 1 is. Assumes nothing.
use Prim.Native.Nat.{◌%◌}
use mathlib.Core.Path.{◌≡◌, sym, ◌∙◌}
use native.Mathlib.Omega.{arith}
use lib.Pow.{pow_pos}
use Rattle.bits.proofs.Shifts.{bit_all_ones}
use Rattle.position.proofs.words.separator.Goals as goal

pub returns : goal.returns
returns c =
    let args = c.args in
    let odd : args.i % 2 ≡ 1 = omega arith in
    rw c.low_ones.ensures (omega (arith, pow_pos args.distance), λ p h. bit_all_ones args.distance p h ∙ sym odd)
