-- `card_fields::zeros::unused_row_set` meets its contract: the search of the rows from row k on is that of the definition.
-- Assumes nothing.
use Rattle.std.proofs.Common.{◌≡◌, rules, arith}
use Rattle.std.proofs.lemmas.Iterator.{cases_from_any, YieldsList-from_slice}
use Rattle.std.proofs.lemmas.Iterator.Adapters.{YieldsList-from_skip}
use borrow.Author.Tests.{tests}
use mathlib.Core.Bool.{not, true, false}
use lib.Dec.{eqb}
use Rattle.model.specs.Card.{unused_row_set}
use Rattle.card_fields.proofs.CardRows.{any_from}
use Rattle.card_fields.proofs.zeros.unused_row_set.Goals as goal

pub returns : goal.returns
unfolding unused_row_set
returns c =
    any_from (λ row. not (eqb row 0)) c.args.rows c.args.k 12 c.any.result (omega arith)
    (cases_from_any _ _ _ (λ row. not (eqb row 0) ≡ true) (λ row. not (eqb row 0) ≡ false) c.any.ensures.ran
    (YieldsList-from_skip c.args.k (YieldsList-from_slice c.args.rows cc) cc)
    (λ x q k. search (rules, tests)) (λ x q k. search (rules, tests)))
