-- `slot_queue::releases::is_clear` meets its contract. Assumes nothing.
use Rattle.model.specs.ReleaseTrack.{is_clear}
use Rattle.slot_queue.proofs.releases.is_clear.Goals as goal

pub returns : goal.returns
unfolding is_clear
returns c = rw (c.from.ensures, c.from-2.ensures, c.from-3.ensures, c.margin_of.ensures.0)
