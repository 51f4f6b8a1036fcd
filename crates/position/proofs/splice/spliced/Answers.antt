-- `position::splice::spliced` meets its contract: the whole bytes before the place are copied from v, and the byte that holds the place is
-- put together of both, if the place is not its first. Assumes nothing.
use mathlib.Core.Path.{◌≡◌}
use Prim.Native.Nat.{◌+◌, ◌*◌, ◌/◌, ◌%◌, ◌<◌}
use mathlib.Core.List.{◌++◌}
use native.Mathlib.Omega.{arith}
use lib.ListN.{length, take, drop, length-append, length-take, length-drop}
use Rattle.position.proofs.Splicing.{spliced_whole, spliced_more}
use Rattle.position.proofs.splice.spliced.Goals as goal

pub returns-then-at-ne0 : goal.returns-then-at-ne0
returns-then-at-ne0 c =
    let u = c.args.u in
    let v = c.args.v in
    let at = c.args.at in
    let here : 8 * (at / 8) + at % 8 ≡ at = omega arith in
    let inside : at / 8 < length (take (at / 8) v ++ drop (at / 8) u) = simp (length-append, length-take, length-drop) (omega arith) in
    rw c.copy_from_slice.ensures.after
    (rw here at
    (spliced_more u v (take (at / 8) v ++ drop (at / 8) u) (at / 8) (at % 8) c.spliced_byte.result inside (omega arith)
    (spliced_whole u v (at / 8) (omega arith)) c.spliced_byte.ensures))

pub returns-else-at-ne0 : goal.returns-else-at-ne0
returns-else-at-ne0 c =
    let at = c.args.at in
    let all : 8 * (at / 8) ≡ at = omega arith in
    rw c.copy_from_slice.ensures.after (rw all at (spliced_whole c.args.u c.args.v (at / 8) (omega arith)))
