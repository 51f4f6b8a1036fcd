-- `yard::soundness::is_in_yard` meets its contract: the trams of the yard are those that hold a track and those that wait. Assumes nothing.
use Rattle.model.specs.Yard.{trams_of}
use Rattle.yard.proofs.soundness.is_in_yard.Goals as goal

pub returns : goal.returns
unfolding trams_of
returns c = c.is_among.ensures
