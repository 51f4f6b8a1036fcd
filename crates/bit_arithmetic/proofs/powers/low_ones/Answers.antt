-- `bit_arithmetic::powers::low_ones` meets its contract: 64 ones moved down by 64 - n places are n ones. Assumes nothing.
use mathlib.Core.Path.{◌≡◌}
use Prim.Native.Nat.{◌+◌, ◌-◌}
use native.Mathlib.Omega.{arith}
use Rattle.bits.proofs.Shifts.{all_ones_moved}
use Rattle.bit_arithmetic.proofs.powers.low_ones.Goals as goal

pub returns : goal.returns
returns c =
    let n = c.args.n in
    let all : n + (64 - n) ≡ 64 = omega arith in
    rw all at (all_ones_moved n (64 - n))
