-- `card_fields::checksum::computed_check` meets its contract: the sum over all places ends with that over the offset's where no unused
-- byte is set. Assumes nothing.
use mathlib.Core.Path.{sym, ◌∙◌}
use mathlib.Core.Logic.{}
use Rattle.model.specs.Card.{computed_check}
use Rattle.card_fields.proofs.BytesRead.{ends_at_used}
use Rattle.card_fields.proofs.checksum.computed_check.Goals as goal
use Rattle.card_fields.proofs.checksum.computed_check.Goals.{then-unused_set, else-unused_set}

pub returns : goal.returns
unfolding computed_check
returns c =
    let card = c.args.card.now in
    elim c.if-unused_set.branch [
      | then-unused_set w ↦ rw (w.total-is, w.weighted_sum-total.ensures.0)
      | else-unused_set w ↦ rw (w.total-is, w.weighted_sum-total-else-unused_set.ensures.0, ends_at_used card (sym c.requires.1 ∙ w.if-unused_set.false))
    ]
