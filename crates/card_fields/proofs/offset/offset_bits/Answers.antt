-- `card_fields::offset::offset_bits` meets its contract: the four bytes make the same number by either definition. Assumes nothing.
use native.Mathlib.Omega.{arith}
use Rattle.model.specs.Card.{high_first}
use Rattle.card_fields.proofs.offset.offset_bits.Goals as goal

pub returns : goal.returns
unfolding high_first
returns c = omega arith
