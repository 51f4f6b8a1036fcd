-- `card_fields::checksum::weighted_sum` meets its contract. The loop's invariant: `total` is the sum over the places below `p`, each adding
-- at most 510 × 255, so that no turn overflows. Assumes nothing.
use Prim.Native.Nat.{◌*◌, ◌≤◌}
use mathlib.Core.Path.{◌≡◌}
use Rattle.bits.specs.Sums.{sum_below}
use Rattle.model.specs.Card.{check_share}
use Rattle.card_fields.proofs.checksum.weighted_sum.Given as goal

abbrev pub invariant-loop-p : goal.invariant-loop-p
invariant-loop-p l = (l.total ≡ sum_below (check_share l.card) l.p) × (l.total ≤ 130050 * l.p)
