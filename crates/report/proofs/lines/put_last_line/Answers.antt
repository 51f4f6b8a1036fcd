-- `report::lines::put_last_line` meets its contract: its pieces are put one after the other. Assumes nothing.
use Rattle.std.proofs.Common.{arith}
use Rattle.report.specs.Text.{ascii}
use Rattle.report.specs.Lines.{last_line}
use Rattle.report.proofs.Puts.{puts_then, puts_within}
use Rattle.report.proofs.lines.put_last_line.Goals as goal

pub returns : goal.returns
unfolding ascii last_line
returns c = puts_within (puts_then c.put_field.ensures c.put_last_field.ensures) (omega arith)
