-- `report::lines::put_rule_and_bits` meets its contract: the rule is put, then the bits of either chunk, and the line's end after them.
-- Assumes nothing.
use Rattle.report.specs.Text.{ascii}
use Rattle.report.specs.Lines.{rule_and_bits}
use Rattle.report.proofs.Puts.{puts_then}
use Rattle.report.proofs.lines.put_rule_and_bits.Goals as goal

pub returns : goal.returns
unfolding ascii rule_and_bits
returns c =
    rw (← c.from.ensures)
    (puts_then (puts_then (puts_then c.put_field.ensures c.put_bits.ensures) c.put_bits-2.ensures) c.put_line_end.ensures)
