-- `all_sets` meets its contract: the table is computed from the definitions and compared as a whole. Assumes nothing.
use mathlib.Core.Path.{refl}
use Rattle.bits.specs.Sums.{sum_below}
use Rattle.bits.specs.Places.{weight}
use Rattle.bits.specs.Counting.{those}
use Rattle.model.specs.ReedMuller.{sets_of, sets_up_to}
use Rattle.reed_muller.proofs.sets.all_sets.Goals as goal

pub returns : goal.returns
unfolding sum_below weight those sets_of sets_up_to
returns c = refl
