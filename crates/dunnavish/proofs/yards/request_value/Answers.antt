-- `dunnavish::yards::request_value` meets its contract. Assumes nothing.
use Rattle.model.specs.RequestTrack.{request_value}
use Rattle.dunnavish.proofs.yards.request_value.Goals as goal

pub returns-in-Holds : goal.returns-in-Holds
unfolding request_value
returns-in-Holds c = rw c.in-Holds.is

pub returns-in-Waits : goal.returns-in-Waits
unfolding request_value
returns-in-Waits c = rw c.in-Waits.is
