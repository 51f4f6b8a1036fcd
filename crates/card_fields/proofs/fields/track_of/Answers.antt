-- `card_fields::fields::track_of` meets its contract: the track is the number in bytes 2 and 3, below 65,536. Assumes nothing.
use Rattle.model.specs.Card.{track_of}
use Rattle.card_fields.proofs.fields.track_of.Goals as goal

pub returns : goal.returns
unfolding track_of
returns c = c.high_first.ensures.0
