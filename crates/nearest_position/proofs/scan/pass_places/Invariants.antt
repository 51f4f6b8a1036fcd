-- `nearest_position::scan::pass_places` meets its contract. The loop keeps that the search has passed the places below `q`: a place that is
-- alike changes nothing, and one that differs is one position on. Assumes nothing.
use Rattle.nearest_position.specs.Passing.{Passes}
use Rattle.nearest_position.proofs.scan.pass_places.Given as goal

abbrev pub invariant-loop-q : goal.invariant-loop-q
invariant-loop-q l = Passes l.u l.v l.x l.at l.q l.initial.state l.state
