-- `depot::codes::make_card` meets its contract: outside the limits it is refused, and within them the card is the Reed-Muller code's.
-- A track number is one of 16 bits, so it stands whole in the card's two bytes. Assumes nothing.
use mathlib.Core.Path.{sym, ap, ◌∙◌}
use Rattle.std.specs.Prelude.{Ok}
use Rattle.depot.proofs.MadeCardContract.{make_refused, card_made, make_answered}
use Rattle.depot.proofs.codes.make_card.Goals as goal

pub returns-else-order_within_limits : goal.returns-else-order_within_limits
returns-else-order_within_limits c =
    make_answered _ _ _ c.ranges.track.fits
    (make_refused _ _ _ (sym c.order_within_limits.ensures ∙ c.if-order_within_limits.false))

pub made_card-requires : goal.made_card-requires
made_card-requires c = sym c.order_within_limits.ensures ∙ c.if-order_within_limits.true

pub returns-then-order_within_limits : goal.returns-then-order_within_limits
returns-then-order_within_limits c =
    make_answered _ _ _ c.ranges.track.fits
    (ap Ok c.made_card.ensures ∙ card_made _ _ _ (sym c.order_within_limits.ensures ∙ c.if-order_within_limits.true))
