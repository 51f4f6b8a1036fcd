-- `trams::nearest::nearest` meets its contract: refused by 18 or 19, or served with the nearest of the widened stretches. Assumes nothing.
use Rattle.std.proofs.lemmas.Result.{err_from_is_err_and}
use Rattle.trams.proofs.SearchAnswers.{nearest_refused}
use Rattle.trams.proofs.nearest.nearest.Goals as goal

pub returns-in_err-refusal_of : goal.returns-in_err-refusal_of
returns-in_err-refusal_of c =
    let p = err_from_is_err_and c.from_residual.result c.from_residual.ensures.1 in
    rw (p.1, p.2) (nearest_refused _ _ _ c.of-track.ensures.last _ c.in_err-refusal_of.ensures)
