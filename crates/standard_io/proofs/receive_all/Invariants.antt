-- No more bytes have come than the buffer has. The measure is the bytes that there is still room for.
use Rattle.std.proofs.Common.{◌-◌, ◌≤◌, length}
use Rattle.standard_io.proofs.receive_all.Given as goal

abbrev pub invariant-loop-count : goal.invariant-loop-count
invariant-loop-count l = l.count ≤ length l.buffer

abbrev pub decreases-loop-count : goal.decreases-loop-count
decreases-loop-count l = length l.buffer - l.count
