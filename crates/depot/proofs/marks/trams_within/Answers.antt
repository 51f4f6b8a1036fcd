-- `depot::marks::trams_within` meets its contract: a card that is refused is answered by its refusal, and past the card's test by
-- what the search answers on its code; either is the one that the definition gives, of which the clauses are theorems. Assumes nothing.
use mathlib.Core.Path.{◌∙◌}
use Rattle.std.proofs.lemmas.Result.{err_from_is_err_and}
use Rattle.model.specs.TramsWithin.{lies_within}
use Rattle.tram_theory.specs.TramPromises.{WithinPromises}
use Rattle.tram_theory.proofs.ServedTrams.{each_by_card}
use Rattle.tram_theory.proofs.TramPromises.{within_promises}
use Rattle.depot.proofs.TramsContract.{each_asked, each_answered}
use Rattle.depot.proofs.marks.trams_within.Goals as goal

pub returns-in_err-code : goal.returns-in_err-code
returns-in_err-code c =
    let p = err_from_is_err_and c.from_residual.result c.from_residual.ensures.1 in
    each_answered (lies_within c.args.first c.args.second) _ _ _ _ (WithinPromises _ _ _ _) (within_promises _ _ _ _)
    (p.1 ∙ rw p.2 (each_by_card _ _ _ _ _ _ c.in_err-code.ensures))

pub returns : goal.returns
returns c =
    each_answered (lies_within c.args.first c.args.second) _ _ _ _ (WithinPromises _ _ _ _) (within_promises _ _ _ _)
    (c.within.ensures ∙ each_asked _ _ _ _ _ _ c.in_ok-code.ensures)
