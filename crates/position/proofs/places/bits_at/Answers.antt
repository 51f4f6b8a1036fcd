use mathlib.Core.Path.{◌≡◌}
use Prim.Native.Nat.{◌+◌, ◌-◌, ◌*◌, ◌/◌, ◌%◌}
use borrow.Author.Rules.{rules}
use native.Mathlib.Omega.{arith}
use Rattle.position.proofs.GatheredBits.{first_byte_gathered, next_byte_gathered, gathered_cut}
use Rattle.position.proofs.places.bits_at.Goals as goal

pub loop-j-init : goal.loop-j-init
loop-j-init c =
    let at = c.args.at in
    let first : 8 * (at / 8 + 1) - at ≡ 8 - at % 8 = omega arith in
    rw (first, c.moved_to-value.ensures) (first_byte_gathered c.args.w at (search rules))

pub loop-j-preserved : goal.loop-j-preserved
loop-j-preserved c =
    let at = c.args.at in
    let loop = c.loop-j in
    let more : 8 * (loop.j + 1) - at ≡ 8 * loop.j - at + 8 = omega arith in
    rw (more, c.moved_to-value-in-loop-j.ensures)
    (next_byte_gathered c.args.w at (8 * loop.j - at) loop.j loop.value (omega arith) (search rules) loop.invariant)

pub returns : goal.returns
returns c =
    let loop = c.loop-j in
    rw c.low_ones.ensures (gathered_cut _ (8 * loop.j - c.args.at) loop.value _ (omega arith) (omega arith) loop.invariant)
