-- `slot_queue::requests::check` meets its contract: at each way out the rows' tests that were made are known. Assumes nothing.
use Rattle.std.proofs.Common.{sym, arith}
use Rattle.std.proofs.lemmas.Bool.{lt-ltb, le-ltb}
use Rattle.model.specs.Refusals.{first_refusal, unless_refused}
use Rattle.model.specs.RequestTrack.{rows_of_request, request_refusal}
use Rattle.yard_theory.proofs.OrderlyYards.{sound_few}
use Rattle.slot_queue.proofs.requests.check.Goals as goal

pub returns-then-is_unsound : goal.returns-then-is_unsound
unfolding unless_refused request_refusal rows_of_request first_refusal
returns-then-is_unsound c = rw (← c.if-is_unsound.ensures)

pub returns-then-track-ge-TRACKS : goal.returns-then-track-ge-TRACKS
unfolding unless_refused request_refusal rows_of_request first_refusal
returns-then-track-ge-TRACKS c = rw (← c.if-is_unsound.ensures, lt-ltb 15 c.args.track (omega arith))

pub is_in_yard-requires : goal.is_in_yard-requires
is_in_yard-requires c = sound_few _ (sym c.if-is_unsound.ensures)

pub returns-then-is_in_yard : goal.returns-then-is_in_yard
unfolding unless_refused request_refusal rows_of_request first_refusal
returns-then-is_in_yard c =
    rw (← c.if-is_unsound.ensures, le-ltb 15 c.args.track (omega arith), ← c.if-is_in_yard.ensures)

pub returns-then-has_no_room : goal.returns-then-has_no_room
unfolding unless_refused request_refusal rows_of_request first_refusal
returns-then-has_no_room c =
    rw (← c.if-is_unsound.ensures, le-ltb 15 c.args.track (omega arith), ← c.if-is_in_yard.ensures, ← c.if-has_no_room.ensures)

pub returns : goal.returns
unfolding unless_refused request_refusal rows_of_request first_refusal
returns c =
    rw (← c.if-is_unsound.ensures, le-ltb 15 c.args.track (omega arith), ← c.if-is_in_yard.ensures, ← c.if-has_no_room.ensures)
