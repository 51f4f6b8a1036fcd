-- `stream::turn::put_end` meets its contract: the last line is put behind the line of the bytes short of a word. Assumes nothing.
use mathlib.Core.Path.{refl}
use Rattle.report.proofs.Puts.{puts_then}
use Rattle.stream.proofs.Streaming.{completes}
use Rattle.stream.proofs.turn.put_end.Goals as goal

pub returns : goal.returns
returns c =
    let put = rw c.clear.ensures at (puts_then c.put_short_line.ensures c.put_last_line.ensures) in
    record { put = put; whole = completes c.args.progress refl put }
