-- `slot_queue::releases::check` meets its contract: at each way out the rows' tests that were made are known. Assumes nothing.
use Rattle.std.proofs.lemmas.Bool.{lt-ltb, le-ltb}
use Rattle.std.proofs.Common.{arith}
use Rattle.model.specs.Refusals.{first_refusal, unless_refused}
use Rattle.model.specs.ReleaseTrack.{rows_of_release}
use Rattle.slot_queue.proofs.releases.check.Goals as goal

pub returns-then-is_unsound : goal.returns-then-is_unsound
unfolding unless_refused rows_of_release first_refusal
returns-then-is_unsound c = rw (← c.if-is_unsound.ensures)

pub returns-then-track-ge-TRACKS : goal.returns-then-track-ge-TRACKS
unfolding unless_refused rows_of_release first_refusal
returns-then-track-ge-TRACKS c = rw (← c.if-is_unsound.ensures, lt-ltb 15 c.args.track (omega arith))

pub returns-then-not-is_holder : goal.returns-then-not-is_holder
unfolding unless_refused rows_of_release first_refusal
returns-then-not-is_holder c =
    rw (← c.if-is_unsound.ensures, le-ltb 15 c.args.track (omega arith), ← c.is_holder.ensures, c.if-not-is_holder.true)

pub returns : goal.returns
unfolding unless_refused rows_of_release first_refusal
returns c =
    rw (← c.if-is_unsound.ensures, le-ltb 15 c.args.track (omega arith), ← c.is_holder.ensures, c.if-not-is_holder.false)
