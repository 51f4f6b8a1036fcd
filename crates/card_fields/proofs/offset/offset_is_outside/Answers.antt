-- `card_fields::offset::offset_is_outside` meets its contract: the two tests of the definition, of the number that the offset's bits stand
-- for. Assumes nothing.
use Rattle.std.proofs.Common.{rules}
use Rattle.std.proofs.lemmas.Int.{to_z-of_z}
use Rattle.model.specs.Card.{offset_outside}
use Rattle.card_fields.proofs.offset.offset_is_outside.Goals as goal

pub returns-then-offset : goal.returns-then-offset
unfolding offset_outside
returns-then-offset c = search rules

pub returns-else-offset : goal.returns-else-offset
unfolding offset_outside
returns-else-offset c = rw (to_z-of_z _ _ c.ranges.offset, rw (to_z-of_z _ _ c.ranges.offset) at c.if-offset.false)
