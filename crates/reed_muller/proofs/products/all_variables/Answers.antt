-- `all_variables` meets its contract: the table is computed from the definitions and compared as a whole. Assumes nothing.
use mathlib.Core.Path.{refl}
use Rattle.bits.specs.Sums.{sum_below}
use Rattle.bits.specs.Places.{list_of}
use Rattle.model.specs.ReedMuller.{product, product_row}
use Rattle.reed_muller.specs.Table.{variable_rows}
use Rattle.reed_muller.proofs.products.all_variables.Goals as goal

pub returns : goal.returns
unfolding sum_below list_of product product_row variable_rows
returns c = refl
