use Rattle.std.proofs.Common.{◌+◌, ◌++◌, Bool, List, ℕ, map, arith}
use Rattle.std.proofs.lemmas.List.{at_drop_more, at_drop_all, take_rest}
use Rattle.model.specs.Yard.{free_slot, no_entry, holders, any_twice}
use Rattle.model.specs.declared.Slot.{Slot}
use Rattle.model.specs.declared.Waiting.{Waiting}
use Rattle.yard.proofs.trams.any_is_twice.Goals.{in-Held+else-is_among, in_default}
use Rattle.yard.proofs.trams.any_is_twice.Goals as goal

-- a tram is twice among the holders of these and these trams that wait; and among those that wait by these entries
abbrev twice_from : (waiting : List ℕ) → List Slot → Bool
twice_from waiting slots = any_twice (holders slots ++ waiting)

abbrev trams_by : List Waiting → List ℕ
trams_by entries = map (λ w. w.tram) entries

pub returns-then-is_among : goal.returns-then-is_among
unfolding any_twice holders
returns-then-is_among c =
    let slots = c.args.slots.now in
    let track = c.loop-track.track in
    let here = at_drop_more (twice_from (trams_by c.args.entries.now)) slots track free_slot (omega arith) in
    let again = rw (take_rest slots (track + 1)) at c.if-is_among.ensures in
    rw (here, c.in-Held.is, ← again) at c.loop-track.invariant

pub loop-track-preserved : goal.loop-track-preserved
unfolding any_twice holders
loop-track-preserved c =
    let slots = c.args.slots.now in
    let track = c.loop-track.track in
    let here = at_drop_more (twice_from (trams_by c.args.entries.now)) slots track free_slot (omega arith) in
    elim c.match-slot.branch [
      | in-Held+else-is_among w ↦
          let once = rw (take_rest slots (track + 1)) at w.if-is_among.ensures in rw (here, w.in-Held.is, ← once) at c.loop-track.invariant
      | in_default w ↦ rw (here, w.in_default.is) at c.loop-track.invariant
    ]

pub loop-i-init : goal.loop-i-init
unfolding any_twice holders
loop-i-init c = rw (at_drop_all (twice_from (trams_by c.args.entries.now)) c.args.slots.now c.loop-track.track (omega arith)) at c.loop-track.invariant

pub returns : goal.returns
unfolding any_twice
returns c = rw (at_drop_all (λ ws. any_twice (trams_by ws)) c.args.entries.now c.loop-i.i (omega arith)) at c.loop-i.invariant

pub returns-then-is_among-2 : goal.returns-then-is_among-2
unfolding any_twice holders
returns-then-is_among-2 c =
    let entries = c.args.entries.now in
    let here = at_drop_more (λ ws. any_twice (trams_by ws)) entries c.loop-i.i no_entry (omega arith) in
    let again = rw (take_rest entries (c.loop-i.i + 1)) at c.if-is_among-2.ensures in
    rw (here, ← again) at c.loop-i.invariant

pub loop-i-preserved : goal.loop-i-preserved
unfolding any_twice holders
loop-i-preserved c =
    let entries = c.args.entries.now in
    let here = at_drop_more (λ ws. any_twice (trams_by ws)) entries c.loop-i.i no_entry (omega arith) in
    let once = rw (take_rest entries (c.loop-i.i + 1)) at c.if-is_among-2.ensures in
    rw (here, ← once) at c.loop-i.invariant
