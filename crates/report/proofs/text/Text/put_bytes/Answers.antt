-- `report::text::Text::put_bytes` meets its contract: the bytes are copied to where the text ends. Assumes nothing.
use Rattle.std.proofs.Common.{◌+◌, ◌≤◌, length, arith, length-drop}
use Rattle.report.proofs.Puts.{puts_copied}
use Rattle.report.proofs.text.Text.put_bytes.Goals as goal

pub returns : goal.returns
returns c =
    let before = c.args.self.now in
    let room : before.filled + length c.args.bytes.now ≤ length before.buffer.now =
    omega (arith, rw length-drop at c.requires, before.inside) in
    rw c.copy_from_slice.ensures.after
    (puts_copied before.buffer.now c.args.bytes.now before.filled before.buffer.ghost_name room)
