-- `report::lines::put_word_line` meets its contract: the number is put, and then each arm puts the pieces of its line one after the
-- other. Assumes nothing.
use Rattle.std.proofs.Common.{arith}
use Rattle.report.specs.Text.{ascii}
use Rattle.report.specs.Lines.{word_line}
use Rattle.report.proofs.Puts.{puts_then, puts_within}
use Rattle.report.proofs.lines.put_word_line.Goals as goal

pub returns-in-Ok : goal.returns-in-Ok
unfolding ascii word_line
returns-in-Ok c =
    let position = rw c.from.ensures at c.put_field.ensures in
    let residual = rw c.from-in-Ok.ensures at c.put_field-in-Ok.ensures in
    let read = puts_then (puts_then c.put_number.ensures position) residual in
    rw c.in-Ok.is (puts_within (puts_then read c.put_rule_and_bits.ensures) (omega arith))

pub returns-in-Err : goal.returns-in-Err
unfolding ascii word_line
returns-in-Err c = rw (c.in-Err.is, ← c.from-in-Err.ensures) (puts_within (puts_then c.put_number.ensures c.put_last_field.ensures) (omega arith))
