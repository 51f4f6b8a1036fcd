-- `card_reader::least_weight::least_of` meets its contract. The loop's invariant: `least` is the least of `start` and the weights of the
-- sums passed, as the contract has it. Assumes nothing.
use Rattle.card_reader.specs.LeastOf.{LeastOf, ones_with}
use Rattle.card_reader.proofs.least_weight.least_of.Given as goal

abbrev pub invariant-loop-sum : goal.invariant-loop-sum
invariant-loop-sum l = LeastOf (ones_with l.sums l.word) 0 l.sum-index l.start l.least
