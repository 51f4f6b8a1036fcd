-- `search` meets its contract. The loop over codewords keeps what `AtCandidate` says, the loop over bits that the bits counted
-- and those left are all that differ; both ways out of the bit loop show whether the codeword lies within the limit. The count that is
-- answered is that of all bits in which the two differ. Assumes nothing.
use mathlib.Core.Path.{◌≡◌}
use Prim.Native.Nat.{ℕ, ◌+◌, ◌-◌, ◌≤◌}
use lib.Count.{ones}
use lib.ListN.{get_or}
use Rattle.linear_code.specs.FirstWithin.{rows_within}
use Rattle.linear_code.proofs.ChunkSearch.{AtCandidate}
use Rattle.linear_code.proofs.search.search.Given as goal

abbrev pub invariant-bits : goal.invariant-bits
invariant-bits l = (l.differing ≤ l.limit) × (l.differing + ones l.rest ≡ ones l.apart)

abbrev pub decreases-bits : goal.decreases-bits
decreases-bits l = l.rest

abbrev pub invariant-loop-differing : goal.invariant-loop-differing
invariant-loop-differing l =
    let row : ℕ → ℕ = λ z. get_or l.rows z 0 in AtCandidate l.k row l.x (rows_within l.k row l.x l.limit) (l.size - 1) l.apart l.i

abbrev pub decreases-loop-differing : goal.decreases-loop-differing
decreases-loop-differing l = l.size - l.i
