-- `position::blocks::last_position` meets its contract: it is the start of the last block. Assumes nothing.
use Rattle.model.specs.Order.{last_position}
use Rattle.position.proofs.blocks.last_position.Goals as goal

pub returns : goal.returns
unfolding last_position
returns c = rw (← c.last_codeword.ensures) c.start_of_block.ensures
