-- `start_of` meets its contract: the table is computed from the definitions and compared as a whole. Assumes nothing.
use mathlib.Core.Path.{◌≡◌, refl}
use mathlib.Core.List.{[], ◌∷◌}
use native.Mathlib.Omega.{arith}
use lib.ListN.{get_or}
use Rattle.bits.specs.Sums.{sum_below}
use Rattle.bits.specs.Places.{weight, list_of}
use Rattle.bits.specs.Counting.{those}
use Rattle.model.specs.ReedMuller.{sets_of, sets_up_to, count_of_sets}
use Rattle.reed_muller.specs.Table.{sets_before}
use Rattle.reed_muller.proofs.Tables.{entry_of_table}
use Rattle.reed_muller.proofs.sets.start_of.Goals.{Start}
use Rattle.reed_muller.proofs.sets.start_of.Goals as goal

entry : (c : Start) → get_or (0 ∷ 1 ∷ 7 ∷ 22 ∷ 42 ∷ []) c.args.size 0 ≡ sets_before c.args.size
unfolding sum_below weight those sets_of sets_up_to count_of_sets sets_before list_of
entry c = entry_of_table (0 ∷ 1 ∷ 7 ∷ 22 ∷ 42 ∷ []) 5 sets_before refl c.args.size (omega (arith, c.requires))

pub returns : goal.returns
returns c = rw c.from.ensures (entry (goal.at.returns c).Start)
