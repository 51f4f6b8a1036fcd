-- `nearest_position::received::ReceivedWord::plain` meets its contract: the word's bytes come first and zeros behind them, so each place keeps its bit,
-- and all places are marked. Assumes nothing.
use Rattle.bits.proofs.ByteLists.{ones_place}
use Rattle.nearest_position.proofs.PaddedBytes.{padded}
use Rattle.nearest_position.proofs.received.ReceivedWord.plain.Goals as goal

pub returns : goal.returns
returns c = record { bits_held = rw c.copy_from_slice.ensures.after (padded c.args.word.now 40); all_unerased = ones_place 40 }
