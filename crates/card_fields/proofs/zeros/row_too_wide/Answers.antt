-- `card_fields::zeros::row_too_wide` meets its contract: the search of the rows is that of the definition. Assumes nothing.
use Rattle.std.proofs.Common.{◌≡◌, ◌^◌, ◌∙◌, true, false, rules, arith}
use Rattle.std.proofs.lemmas.Iterator.{cases_from_any, YieldsList-from_slice}
use borrow.Author.Tests.{tests, le-leb}
use Rattle.bits.proofs.Searches.{any_ext}
use lib.Dec.{leb}
use Rattle.model.specs.Card.{row_too_wide}
use Rattle.card_fields.proofs.CardRows.{any_from}
use Rattle.card_fields.proofs.zeros.row_too_wide.Goals as goal

pub returns : goal.returns
unfolding row_too_wide
returns c =
    let wide = λ (row : _). leb (2 ^ c.args.n) row in
    any_from wide c.args.rows 0 12 c.any.result (omega arith)
    (cases_from_any _ _ _ (λ row. wide row ≡ true) (λ row. wide row ≡ false) c.any.ensures.ran (YieldsList-from_slice c.args.rows cc)
    (λ x q k. search (rules, tests)) (λ x q k. search (rules, tests)))
    ∙ any_ext _ _ 12 (λ z l. rw (le-leb 0 z (omega arith)))
