-- `depot::words::read_word` meets its contract: a card that is refused is answered by its refusal, and past the card's test by
-- what the reader answers on its code; either is the one that the definition gives, of which the clauses are theorems. Assumes nothing.
use mathlib.Core.Path.{◌∙◌}
use Rattle.std.proofs.lemmas.Result.{err_from_is_err_and}
use Rattle.depot.proofs.ReadContract.{read_by_card, word_read, read_answered}
use Rattle.depot.proofs.words.read_word.Goals as goal

pub returns-in_err-code : goal.returns-in_err-code
returns-in_err-code c =
    let p = err_from_is_err_and c.from_residual.result c.from_residual.ensures.1 in
    read_answered _ _ (p.1 ∙ rw p.2 (read_by_card _ _ _ c.in_err-code.ensures))

pub returns : goal.returns
returns c = read_answered _ _ (c.read.ensures ∙ word_read _ _ _ c.in_ok-code.ensures)
