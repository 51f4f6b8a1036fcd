-- `dunnavish::marks::put_answer` meets its contract. The loop's invariant: the bytes before place i are the answers. Assumes nothing.
use Rattle.std.proofs.Common.{◌≡◌, ℕ, ◌<◌, get_or, false, cond}
use Rattle.dunnavish.proofs.marks.put_answer.Given as goal

abbrev pub invariant-loop-i : goal.invariant-loop-i
invariant-loop-i l = (p : ℕ) → p < l.i → get_or l.yes p 0 ≡ cond (get_or l.answers p false) 1 0
