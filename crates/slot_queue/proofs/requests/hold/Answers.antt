-- `slot_queue::requests::hold` meets its contract. Assumes nothing.
use Rattle.std.proofs.Common.{refl}
use Rattle.model.specs.Yard.{holding}
use Rattle.slot_queue.proofs.requests.hold.Goals as goal

pub returns : goal.returns
unfolding holding
returns c = refl
