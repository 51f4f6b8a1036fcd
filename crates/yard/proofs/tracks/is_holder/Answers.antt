-- `yard::tracks::is_holder` meets its contract: the derived equality of slots is the definition's test, and a track above 15 is free. Assumes
-- nothing.
use Rattle.std.proofs.Common.{◌∙◌, arith}
use Rattle.std.proofs.lemmas.List.{get_or_past}
use Rattle.std.proofs.lemmas.Bool.{le-ltb}
use Rattle.model.specs.Yard.{free_slot, slot_at}
use Rattle.model.specs.ReleaseTrack.{is_holder}
use Rattle.yard.proofs.TramLists.{eq_held}
use Rattle.yard.proofs.tracks.is_holder.Goals as goal

pub returns-then-track-lt-TRACKS : goal.returns-then-track-lt-TRACKS
unfolding is_holder
returns-then-track-lt-TRACKS c = c.eq.ensures ∙ eq_held (slot_at c.args.yard c.args.track) c.args.tram

pub returns-else-track-lt-TRACKS : goal.returns-else-track-lt-TRACKS
unfolding is_holder
returns-else-track-lt-TRACKS c =
    le-ltb c.args.track 16 c.if-track-lt-TRACKS.false ∙ rw (get_or_past c.args.yard.slots c.args.track free_slot (omega arith))
