-- `nearest_position::residual::unerased_byte_distance` meets its contract: two bytes differ in an unerased bit where their exclusive-or,
-- cut to the unerased bits, has a 1, and it has eight bits. Assumes nothing.
use mathlib.Core.Path.{ap, ◌∙◌}
use lib.Count.{ones}
use Rattle.bits.proofs.Erasures.{unerased_le}
use Rattle.bits.proofs.Masks.{and_xor, cut_distance}
use Rattle.nearest_position.proofs.residual.unerased_byte_distance.Goals as goal

pub returns : goal.returns
returns c =
    let is =
    ap ones (and_xor c.args.x c.args.y c.args.unerased)
    ∙ cut_distance 8 c.args.x c.args.y c.args.unerased c.ranges.x.fits c.ranges.y.fits c.ranges.unerased.fits in
    (is, rw is (unerased_le _ 8 _ _))
