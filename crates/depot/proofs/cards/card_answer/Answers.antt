-- `depot::cards::card_answer` meets its contract: a refusal is answered as it stands, and where there is none the values are those
-- of the card. Assumes nothing.
use mathlib.Core.Path.{◌∙◌}
use Rattle.std.proofs.lemmas.Result.{err_from_is_err_and}
use Rattle.depot.proofs.CheckContract.{card_refused, card_sound}
use Rattle.depot.proofs.cards.card_answer.Goals as goal

pub returns-in_err-decoded : goal.returns-in_err-decoded
returns-in_err-decoded c card from =
    let p = err_from_is_err_and c.from_residual.result c.from_residual.ensures.1 in
    p.1 ∙ rw p.2 (card_refused card _ (rw c.in_err-decoded.was at from))

pub returns : goal.returns
returns c card from =
    card_sound card _ (rw c.in_ok-decoded.was at from) _ _ _ c.radius_of.ensures c.layout_of.ensures.bits_are c.last_position.ensures
