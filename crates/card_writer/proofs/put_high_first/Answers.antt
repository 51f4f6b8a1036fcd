-- `card_writer::put_high_first` meets its contract: the m bytes that are copied are the number's lowest ones. Assumes nothing.
use Prim.Native.Nat.{◌+◌, ◌-◌}
use mathlib.Core.Path.{◌≡◌}
use native.Mathlib.Omega.{arith}
use Rattle.std.proofs.lemmas.List.{drop-drop}
use Rattle.card_writer.specs.WithNumber.{with_number}
use Rattle.card_writer.proofs.Putting.{last_bytes}
use Rattle.card_writer.proofs.put_high_first.Goals as goal

pub returns : goal.returns
unfolding with_number
returns c =
    let at = c.args.at in
    let m = c.args.m in
    let count : at + m - at ≡ m = omega arith in
    rw (
      c.copy_from_slice.ensures.after,
      c.to_be_bytes.ensures,
      last_bytes (8 - m) m (8 - (8 - m)) c.args.number (omega arith) (omega arith),
      count,
      drop-drop m at c.args.bytes.now,
    )
