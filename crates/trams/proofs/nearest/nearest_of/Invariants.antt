-- `trams::nearest::nearest_of` meets its contract. The loop's invariant: the place is that of the nearest of the first i trams, and the
-- stretch that is kept is its widened one. Assumes nothing.
use mathlib.Core.Path.{◌≡◌}
use Prim.Native.Nat.{◌<◌}
use Rattle.model.specs.NearestTram.{nearest_of}
use Rattle.std.specs.Prelude.{Some}
use Rattle.trams.proofs.Passes.{wide_at}
use Rattle.trams.proofs.nearest.nearest_of.Given as goal

abbrev pub invariant-loop-i : goal.invariant-loop-i
invariant-loop-i l =
    (l.place < l.i) × (l.kept ≡ wide_at l.track.margin l.track.last l.trams l.place)
    × (nearest_of l.mark (wide_at l.track.margin l.track.last l.trams) l.i ≡ Some l.place)
