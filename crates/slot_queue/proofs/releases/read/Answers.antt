-- `slot_queue::releases::read` meets its contract: refused ahead of the word, or what the word reads as. Assumes nothing.
use Rattle.std.proofs.Common.{sym, ◌∙◌, Err}
use Rattle.std.proofs.lemmas.Result.{err_from_is_err_and}
use Rattle.code_theory.proofs.RefusalRows.{served_if_none}
use Rattle.slot_queue.proofs.Checked.{refused_as, not_refused}
use Rattle.slot_queue.proofs.releases.read.Goals as goal

pub returns-in_err-check : goal.returns-in_err-check
returns-in_err-check c =
    let p = err_from_is_err_and c.from_residual.result c.from_residual.ensures.1 in
    p.1 ∙ rw p.2 (refused_as _ tt _ Err _ c.in_err-check.ensures)

pub returns : goal.returns
returns c = c.read.ensures ∙ sym (served_if_none _ _ _ (not_refused _ _ _ c.in_ok-check.ensures))
