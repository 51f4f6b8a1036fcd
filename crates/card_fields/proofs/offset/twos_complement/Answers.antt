-- `card_fields::offset::twos_complement` meets its contract: a law for either half of the numbers of 32 bits. Assumes nothing.
use Rattle.std.proofs.Common.{rules}
use Rattle.card_fields.proofs.TwosComplement.{as_signed}
use Rattle.card_fields.proofs.offset.twos_complement.Goals as goal

pub returns : goal.returns
returns c = search (rules, as_signed)
