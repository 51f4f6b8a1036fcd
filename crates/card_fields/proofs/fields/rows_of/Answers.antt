-- `card_fields::fields::rows_of` meets its contract: each of the twelve calls reads the row of its number. Past the twelfth, array and card
-- both give zero, so that the two agree at every number. Assumes nothing.
use mathlib.Core.Path.{◌≡◌, sym, ◌∙◌}
use Rattle.std.proofs.Common.{◌+◌, ◌*◌, rules, arith}
use Rattle.model.specs.Card.{high_first, row_of}
use Rattle.card_fields.proofs.CardRows.{row_of_bytes, rows_alike, from_calls}
use Rattle.card_fields.proofs.fields.rows_of.Goals as goal

pub returns : goal.returns
returns c =
    let card = c.args.card.now in
    let items = c.from_fn.ensures.items in
    rows_alike card c.from_fn.result items.long
    (λ z h.
    from_calls _ _ (row_of card) 12
    (λ i y q l called.
    let read : y ≡ high_first card (4 + 8 * i) 8 = search rules in
    (search rules, read ∙ sym (row_of_bytes card i l)))
    c.from_fn.result 0 12 (omega arith) items.each z (omega arith) h)
