-- `position::differences::byte_distance` meets its contract: two bytes differ where their exclusive-or has a 1, and it has eight bits.
-- Assumes nothing.
use Rattle.bits.proofs.Binary.{ones_xor}
use Rattle.bits.proofs.Distance.{distance_le}
use Rattle.position.proofs.differences.byte_distance.Goals as goal

pub returns : goal.returns
returns c =
    let is = ones_xor 8 c.args.x c.args.y c.ranges.x.fits c.ranges.y.fits in
    (is, rw is (distance_le 8 _ _))
