-- `position::places::bit_of` meets its contract: what the shift and the remainder mean is the definition of a place. Assumes nothing.
use native.Mathlib.Nat.{mod-lt}
use native.Mathlib.Omega.{arith}
use Rattle.bits.specs.Places.{place}
use Rattle.position.proofs.places.bit_of.Goals as goal

pub returns : goal.returns
unfolding place
returns c = (λ w held. rw held, mod-lt _ (omega arith))
