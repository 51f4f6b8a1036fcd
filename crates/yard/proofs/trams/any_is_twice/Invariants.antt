-- `yard::trams::any_is_twice` meets its contract. The loops' invariants: a tram is twice among all exactly if one is twice among those from
-- this track on, and then from this entry on. Assumes nothing.
use Rattle.std.proofs.Common.{◌≡◌, ◌++◌, drop, map}
use Rattle.model.specs.Yard.{holders, any_twice}
use Rattle.model.specs.declared.Waiting.{Waiting}
use Rattle.yard.proofs.trams.any_is_twice.Given as goal

abbrev pub invariant-loop-track : goal.invariant-loop-track
invariant-loop-track l =
    any_twice (holders (drop l.track l.slots) ++ map (λ w. w.tram) l.entries) ≡ any_twice (holders l.slots ++ map (λ w. w.tram) l.entries)

abbrev pub invariant-loop-i : goal.invariant-loop-i
invariant-loop-i l =
    any_twice (map (λ (w : Waiting). w.tram) (drop l.i l.entries)) ≡ any_twice (holders l.slots ++ map (λ w. w.tram) l.entries)
