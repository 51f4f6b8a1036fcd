-- `card_fields::checksum::stored_check` meets its contract: the check is the number in the last two bytes, below 65,536. Assumes nothing.
use Rattle.model.specs.Card.{stored_check}
use Rattle.card_fields.proofs.checksum.stored_check.Goals as goal

pub returns : goal.returns
unfolding stored_check
returns c = c.high_first.ensures.0
