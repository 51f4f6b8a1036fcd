-- `report::lines::put_card_line` meets its contract: each arm puts the pieces of its line one after the other. Assumes nothing.
use Rattle.std.proofs.Common.{arith}
use Rattle.report.specs.Text.{ascii}
use Rattle.report.specs.Lines.{card_line}
use Rattle.report.proofs.Puts.{puts_then, puts_within}
use Rattle.report.proofs.lines.put_card_line.Goals as goal

pub returns-in-Ok : goal.returns-in-Ok
unfolding ascii card_line
returns-in-Ok c =
    rw (c.in-Ok.is, ← c.from.ensures, ← c.from-in-Ok.ensures, ← c.from-in-Ok-2.ensures)
    (puts_within (puts_then (puts_then c.put_field.ensures c.put_field-in-Ok.ensures) c.put_last_field.ensures) (omega arith))

pub returns-in-Err : goal.returns-in-Err
unfolding ascii card_line
returns-in-Err c = rw (c.in-Err.is, ← c.from-in-Err.ensures) (puts_within c.put_last_field-in-Err.ensures (omega arith))
