-- `product_rows` meets its contract. The loop's invariant: the rows filled in are those of the empty set and of the sets kept among those
-- passed. Assumes nothing.
use Rattle.std.proofs.Common.{◌+◌}
use Rattle.reed_muller.proofs.FilledRows.{Reached}
use Rattle.reed_muller.proofs.rows.product_rows.Given as goal

abbrev pub invariant-loop-set : goal.invariant-loop-set
invariant-loop-set l = Reached l.r l.m (l.set-index + 1) l.count l.rows
