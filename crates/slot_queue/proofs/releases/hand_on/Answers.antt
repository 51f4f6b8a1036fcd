-- `slot_queue::releases::hand_on` meets its contract: the first of the queue was found by its place, or nobody waits. Assumes nothing.
use Rattle.std.proofs.Common.{arith}
use Rattle.model.specs.Yard.{freed}
use Rattle.slot_queue.proofs.Handing.{first_handed, none_handed}
use Rattle.slot_queue.proofs.releases.hand_on.Goals as goal

pub returns : goal.returns
returns c =
    rw c.without-after.ensures
    (first_handed c.args.yard c.args.track (omega arith) c.requires.1 c.in-Some.place c.in-Some.ensures)

pub returns-in_default : goal.returns-in_default
unfolding freed
returns-in_default c = none_handed c.args.yard c.args.track c.in_default.ensures
