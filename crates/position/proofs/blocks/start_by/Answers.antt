-- `position::blocks::start_by` meets its contract: the sum after all k rows is the start. Assumes nothing.
use mathlib.Core.Path.{◌∙◌}
use Rattle.position.proofs.StartSum.{whole_sum}
use Rattle.position.proofs.blocks.start_by.Goals as goal

pub returns : goal.returns
returns c = c.sum_of_rows.ensures.before_row ∙ whole_sum _ _
