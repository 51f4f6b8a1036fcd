-- `depot::words::millimetres` meets its contract: one law for each way out, of a card that is refused, a position above the last, and
-- one on the track. The last position of a sound code is at most 1,310,400, and its card's offset within the range, as the sum asks.
-- Assumes nothing.
use mathlib.Core.Path.{◌≡◌, ◌∙◌}
use native.Mathlib.Omega.{arith}
use mir.Facts.{to_z-of_z}
use mir.Syntax.{w32}
use mir.Val.{to_z, of_z}
use Rattle.code_theory.proofs.Starts.{last_position_bound}
use Rattle.std.proofs.lemmas.Result.{err_from_is_err_and}
use Rattle.depot.proofs.MillimetresContract.{offset_fits, offset_within, millimetres_by_card, millimetres_above, millimetres_within}
use Rattle.depot.proofs.MillimetresContract.{millimetres_answered}
use Rattle.depot.proofs.words.millimetres.Goals.{Else-last_position-position}
use Rattle.depot.proofs.words.millimetres.Goals as goal

pub returns-in_err-decoded : goal.returns-in_err-decoded
returns-in_err-decoded c =
    let p = err_from_is_err_and c.from_residual.result c.from_residual.ensures.1 in
    millimetres_answered _ _ (p.1 ∙ rw p.2 (millimetres_by_card _ _ _ c.in_err-decoded.ensures))

pub returns-then-last_position-position : goal.returns-then-last_position-position
returns-then-last_position-position c =
    millimetres_answered _ _
    (millimetres_above _ _ _ c.in_ok-decoded.ensures _ c.last_position.ensures c.if-last_position-position.true)

-- past the position's test: the offset, whose bits are handed on
is_offset : (c : Else-last_position-position) → let offset = c.in_ok-decoded.decoded.offset in to_z w32 (of_z w32 offset) ≡ offset
is_offset c = to_z-of_z (offset_fits _ (offset_within _ c.args.position _ c.in_ok-decoded.ensures))

pub from_face-requires : goal.from_face-requires
from_face-requires c = (
  rw (is_offset (goal.at.from_face-requires c).Else-last_position-position) (offset_within _ c.args.position _ c.in_ok-decoded.ensures),
  omega (arith, last_position_bound _ c.in_ok-decoded.ensures.sound),
)

pub returns : goal.returns
returns c =
    millimetres_answered _ _
    (millimetres_within _ _ _ c.in_ok-decoded.ensures _ c.last_position.ensures c.if-last_position-position.false _
    (to_z-of_z {w = w32} (record { sfits = c.from_face.type_inv })
    ∙ rw (is_offset (goal.at.returns c).Else-last_position-position) at c.from_face.ensures))
