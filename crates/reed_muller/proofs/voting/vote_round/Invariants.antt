-- `vote_round` meets its contract. The loop's invariant is `RoundMet`: what is left and the rows found are those of the sets met so far,
-- and the iterator has the others. Each turn passes over a set that has another variable, or votes on one of the code's. Assumes nothing.
use Rattle.reed_muller.proofs.RoundSteps.{RoundMet}
use Rattle.reed_muller.proofs.voting.vote_round.Given as goal

abbrev pub invariant-loop-set : goal.invariant-loop-set
invariant-loop-set l = RoundMet l.m l.size l.y l.rows l.set-iterator.iter.rest.now l.left l.found
