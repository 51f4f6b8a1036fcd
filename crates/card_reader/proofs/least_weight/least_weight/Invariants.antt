-- `card_reader::least_weight::least_weight` meets its contract: the loop steps through the sums of the rows behind the low ones in Gray
-- order, and keeps what `AtBehind` says: `word` is the sum before `set`, and `least` the least of n and of the weights of all sets met, each
-- a set of low rows with one of the rows behind. At the end all nonempty sets are met. Assumes nothing.
use Prim.Native.Nat.{◌-◌}
use lib.ListN.{get_or}
use Rattle.card_reader.proofs.LeastWeightLoop.{AtBehind}
use Rattle.card_reader.proofs.least_weight.least_weight.Given as goal

abbrev pub invariant-loop-set : goal.invariant-loop-set
invariant-loop-set l = AtBehind l.n l.low (l.k - l.low) (λ z. get_or l.rows z 0) l.word l.least (l.set - 1)
