-- `card_reader::least_weight::low_sums` meets its contract: the loop fills the table in Gray order, and keeps what `AtSum` says: the entries
-- up to `i` stand in the table, and the last of them is in `sum`. Each turn adds the one row that changes, of at most five, and writes
-- the next entry, of at most 32. Assumes nothing.
use lib.ListN.{get_or}
use Rattle.card_reader.proofs.LowSums.{AtSum}
use Rattle.card_reader.proofs.least_weight.low_sums.Given as goal

abbrev pub invariant-loop-i : goal.invariant-loop-i
invariant-loop-i l = AtSum l.low (λ z. get_or l.rows z 0) l.sums l.sum l.i
