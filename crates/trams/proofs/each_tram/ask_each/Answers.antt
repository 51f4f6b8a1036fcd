-- `trams::each_tram::ask_each` meets its contract: refused by 18 or 19, or served with the answers of the widened stretches. Assumes nothing.
use Rattle.std.proofs.lemmas.Result.{err_from_is_err_and}
use Rattle.trams.proofs.SearchAnswers.{each_refused, each_served}
use Rattle.trams.proofs.each_tram.ask_each.Goals as goal

pub returns-in_err-refusal_of : goal.returns-in_err-refusal_of
returns-in_err-refusal_of g c = λ asked computes.
    let p = err_from_is_err_and c.from_residual.result c.from_residual.ensures.1 in
    rw (p.1, p.2) (each_refused _ _ _ _ c.of-track.ensures.last asked _ c.in_err-refusal_of.ensures)

pub returns : goal.returns
returns g c = λ asked computes.
    each_served _ _ _ _ c.of-track.ensures.last asked c.in_ok-refusal_of.ensures c.of-track.ensures.margin (c.answers.ensures asked computes)
