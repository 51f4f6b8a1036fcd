-- `position::blocks::corrected_count` meets its contract: before codeword 2^z the row has not been added; from there on it has been once,
-- and once more for each 2^(z+1) codewords since, a division that is a shift down. Assumes nothing.
use Rattle.position.proofs.StartSum.{one_too_few}
use Rattle.position.proofs.blocks.corrected_count.Goals as goal

pub returns : goal.returns
returns c =
    let first = c.two_to-first.ensures in rw first (one_too_few _ _ (rw first at c.if-i-first.false))
