-- `dunnavish::yards::release_value` meets its contract. Assumes nothing.
use Rattle.model.specs.ReleaseTrack.{release_value}
use Rattle.dunnavish.proofs.yards.release_value.Goals as goal

pub returns-in-NotClear : goal.returns-in-NotClear
unfolding release_value
returns-in-NotClear c = rw c.in-NotClear.is

pub returns-in-Freed : goal.returns-in-Freed
unfolding release_value
returns-in-Freed c = rw c.in-Freed.is

pub returns-in-HandedTo : goal.returns-in-HandedTo
unfolding release_value
returns-in-HandedTo c = rw c.in-HandedTo.is
