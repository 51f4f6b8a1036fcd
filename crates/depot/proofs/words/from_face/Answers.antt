-- `depot::words::from_face` meets its contract: the offset's bits stand for the offset, and 50 times the position for itself, so the
-- sum is that of the two numbers, and it fits. Assumes nothing.
use mathlib.Core.Path.{◌≡◌, ◌∙◌}
use Prim.Native.Nat.{◌*◌}
use native.Mathlib.Omega.{arith}
use lib.IntN.{pos, ◌+ℤ◌}
use mir.Facts.{to_z-of_z, to_z_pos}
use mir.Syntax.{w32}
use mir.Val.{SFits, to_z, of_z}
use Rattle.model.specs.Words.{millimetres_of}
use Rattle.depot.proofs.MillimetresContract.{sum_fits}
use Rattle.depot.proofs.words.from_face.Goals.{Start}
use Rattle.depot.proofs.words.from_face.Goals as goal

summed : (c : Start)
    → to_z w32 (of_z w32 c.args.offset) +ℤ to_z w32 (50 * c.args.position) ≡ c.args.offset +ℤ pos (50 * c.args.position)
summed c = rw (to_z-of_z c.ranges.offset, to_z_pos w32 {n = 50 * c.args.position} (omega arith))

fits : (c : Start) → SFits w32 (to_z w32 (of_z w32 c.args.offset) +ℤ to_z w32 (50 * c.args.position))
fits c = rw (summed c) (sum_fits c.args.offset (50 * c.args.position) c.requires.0 (omega arith))

pub returns : goal.returns
unfolding millimetres_of
returns c = to_z-of_z (fits c) ∙ summed c

pub overflow_add-result : goal.overflow_add-result
overflow_add-result c = fits c
