-- `card_fields::fields::within_limits` meets its contract: the code asks the definition's tests in their order. Assumes nothing.
use Rattle.std.proofs.Common.{rules}
use Rattle.model.specs.Card.{within_limits}
use Rattle.card_fields.proofs.fields.within_limits.Goals as goal
use Rattle.card_fields.proofs.fields.within_limits.Goals.{then-contains, else-contains}

pub returns-then-contains-2 : goal.returns-then-contains-2
unfolding within_limits
returns-then-contains-2 c =
    elim c.if-contains.branch [ then-contains w ↦ search rules | else-contains w ↦ search rules ]

pub returns-else-contains-2 : goal.returns-else-contains-2
unfolding within_limits
returns-else-contains-2 c =
    elim c.if-contains.branch [ then-contains w ↦ search rules | else-contains w ↦ search rules ]
