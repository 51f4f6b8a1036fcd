-- `depot::cards::check_card` meets its contract: `card_answer` answers for every card that decodes to its argument, and this card does.
-- Assumes nothing.
use Rattle.depot.proofs.CheckContract.{card_checked}
use Rattle.depot.proofs.cards.check_card.Goals as goal

pub returns : goal.returns
returns c = card_checked _ (c.card_answer.ensures _ c.decode.ensures)
