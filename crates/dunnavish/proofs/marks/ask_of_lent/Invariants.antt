-- `dunnavish::marks::ask_of_lent` meets its contract. The loop's invariant: the stretches below i are put down. Assumes nothing.
use Rattle.std.proofs.Common.{◌≡◌}
use Rattle.dunnavish.proofs.LentTrams.{put_down}
use Rattle.dunnavish.proofs.marks.ask_of_lent.Given as goal

abbrev pub invariant-loop-i : goal.invariant-loop-i
invariant-loop-i g l = l.stretches ≡ put_down l.lows l.highs l.i
