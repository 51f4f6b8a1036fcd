-- `classes_of` meets its contract: the loop's invariant is `Taken`, and the measure what is left of the set. Assumes nothing.
use Prim.Native.Nat.{◌<◌}
use Rattle.reed_muller.proofs.ClassesTaken.{Taken}
use Rattle.reed_muller.proofs.products.classes_of.Given as goal

abbrev pub invariant-loop-rest : goal.invariant-loop-rest
invariant-loop-rest l = (0 < l.rest) × (l.rest < 64) × Taken l.y l.set l.positions l.sums l.row l.rest

abbrev pub decreases-loop-rest : goal.decreases-loop-rest
decreases-loop-rest l = l.rest
