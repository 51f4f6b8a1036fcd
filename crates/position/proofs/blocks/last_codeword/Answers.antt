-- `position::blocks::last_codeword` meets its contract: its number is 2^k - 1 by definition. Assumes nothing.
use Rattle.model.specs.Order.{last_codeword}
use Rattle.position.proofs.blocks.last_codeword.Goals as goal

pub returns : goal.returns
unfolding last_codeword
returns c = rw c.two_to.ensures
