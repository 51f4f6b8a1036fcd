-- `dunnavish::words::put_reading` meets its contract: the five values are copied over the whole of five numbers. Assumes nothing.
use mathlib.Core.Path.{◌∙◌}
use Rattle.dunnavish.proofs.words.put_reading.Goals as goal

pub returns : goal.returns
returns c = c.copy_from_slice.ensures.after ∙ rw (c.bits_value.ensures, c.bits_value-2.ensures)
