-- `slot_queue::requests::join` meets its contract. Assumes nothing.
use Rattle.std.proofs.Common.{refl}
use Rattle.model.specs.Yard.{joined}
use Rattle.slot_queue.proofs.requests.join.Goals as goal

pub returns : goal.returns
unfolding joined
returns c = refl
