-- `depot::marks::nearest_tram` meets its contract: a card that is refused is answered by its refusal, and past the card's test by
-- what the search answers on its code; either is the one that the definition gives, of which the clauses are theorems. Assumes nothing.
use mathlib.Core.Path.{◌∙◌}
use Rattle.std.proofs.lemmas.Result.{err_from_is_err_and}
use Rattle.depot.proofs.TramsContract.{nearest_by_card, nearest_found, nearest_answered}
use Rattle.depot.proofs.marks.nearest_tram.Goals as goal

pub returns-in_err-code : goal.returns-in_err-code
returns-in_err-code c =
    let p = err_from_is_err_and c.from_residual.result c.from_residual.ensures.1 in
    nearest_answered _ _ _ (p.1 ∙ rw p.2 (nearest_by_card _ _ _ _ c.in_err-code.ensures))

pub returns : goal.returns
returns c = nearest_answered _ _ _ (c.nearest.ensures ∙ nearest_found _ _ _ _ c.in_ok-code.ensures)
