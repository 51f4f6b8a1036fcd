-- `trams::each_tram::answers` meets its contract. The loop's invariant: the answers are those of the first i trams, by whatever test the
-- closure computes. Assumes nothing.
use Rattle.std.proofs.Common.{◌≡◌, Bool}
use Rattle.model.specs.Trams.{answers_by}
use Rattle.model.specs.declared.Stretch.{Stretch}
use Rattle.trams.specs.Searches.{Computes}
use Rattle.trams.proofs.Passes.{wide_at}
use Rattle.trams.proofs.each_tram.answers.Given as goal

abbrev pub invariant-loop-i : goal.invariant-loop-i
invariant-loop-i g l =
    (asked : Stretch → Bool) → Computes (goal.F-post g l.test) asked
    → l.yes ≡ answers_by asked (wide_at l.track.margin l.track.last l.trams) l.i
