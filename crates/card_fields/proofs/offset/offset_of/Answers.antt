-- `card_fields::offset::offset_of` meets its contract: the number in the four bytes, by two's complement. Assumes nothing.
use mathlib.Core.Path.{◌∙◌}
use mir.Facts.{to_z-of_z}
use mir.Syntax.{w32}
use Rattle.model.specs.Card.{offset_of}
use Rattle.card_fields.proofs.offset.offset_of.Goals as goal

pub returns : goal.returns
unfolding offset_of
returns c =
    to_z-of_z {w = w32} (record { sfits = c.twos_complement.type_inv }) ∙ rw c.offset_bits.ensures at c.twos_complement.ensures
