-- `dunnavish::yards::put_yard` meets its contract. The loops' invariants: the flags and the holders of the tracks below this one are put down;
-- then all numbers up to the count, and the trams and the tracks of the entries below this one. Assumes nothing.
use Rattle.std.proofs.Common.{◌≡◌, length}
use Rattle.dunnavish.specs.YardNumbers.{yard_count, holders_at, trams_at, tracks_at, number_at}
use Rattle.dunnavish.proofs.StoredRuns.{Run}
use Rattle.dunnavish.proofs.yards.put_yard.Given as goal

abbrev pub invariant-loop-track : goal.invariant-loop-track
invariant-loop-track l = record {
  flags : Run (number_at l.fn.yard) 0 l.track l.numbers;
  holders : Run (number_at l.fn.yard) holders_at l.track l.numbers;
}

abbrev pub invariant-loop-i : goal.invariant-loop-i
invariant-loop-i l = record {
  size : length l.numbers ≡ yard_count;
  before : Run (number_at l.fn.yard) 0 trams_at l.numbers;
  trams : Run (number_at l.fn.yard) trams_at l.i l.numbers;
  tracks : Run (number_at l.fn.yard) tracks_at l.i l.numbers;
}
