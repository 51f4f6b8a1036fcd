-- `position::splice::spliced_byte` meets its contract: with 2^q for `unit`, the quotient keeps the bits of `high` from q on and the
-- remainder those of `low` below, and a law says so of their sum, which is a byte. Assumes nothing.
use native.Mathlib.Omega.{arith}
use Rattle.position.proofs.Splicing.{spliced_byte_bits, spliced_byte_fits}
use Rattle.position.proofs.splice.spliced_byte.Goals as goal

pub overflow_cast-result-3 : goal.overflow_cast-result-3
overflow_cast-result-3 c =
    record { fits = rw c.two_to-unit.ensures (spliced_byte_fits c.args.q c.args.low c.args.high c.requires (omega arith)) }

pub returns : goal.returns
returns c p h =
    rw c.two_to-unit.ensures (spliced_byte_bits c.args.q c.args.low c.args.high p)
