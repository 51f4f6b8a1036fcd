-- `order_within_limits` meets its contract: the table is that of the greatest orders. Assumes nothing.
use Rattle.std.proofs.Math.Logic.{⊎_elim}
use Rattle.reed_muller_theory.proofs.OrderLimits.{greatest_orders, limit_in_table, too_few_variables, too_many_variables}
use Rattle.reed_muller.proofs.limits.order_within_limits.Goals as goal

pub returns-then-m-lt1 : goal.returns-then-m-lt1
returns-then-m-lt1 c = ⊎_elim (too_few_variables c.args.r c.args.m) (λ (_, more). too_many_variables c.args.r c.args.m more) c.then-m-lt1.either

pub returns : goal.returns
unfolding greatest_orders
returns c = rw c.from.ensures (limit_in_table c.args.r c.args.m c.if-m-lt1.false c.if-m-gt6.false)
