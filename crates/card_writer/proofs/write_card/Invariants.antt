-- `card_writer::write_card` meets its contract. The loop's invariant: the fields up to row z - 1 stand, with zeros behind them. Past it the
-- check is that of the fields and zeros, and with it the bytes are the card's. Assumes nothing.
use mathlib.Core.Path.{◌≡◌}
use lib.ListN.{length, get_or}
use Rattle.card_writer.proofs.Fields.{so_far}
use Rattle.card_writer.proofs.write_card.Given as goal

abbrev pub invariant-loop-z : goal.invariant-loop-z
invariant-loop-z l =
    (length l.bytes ≡ 512) × (l.bytes ≡ so_far l.n l.k l.track (λ y. get_or l.fn.rows y 0) l.z)
