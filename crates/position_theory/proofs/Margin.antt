-- 10t is a margin: five chunks with at most t damaged bits each have at most 5t in all, and by demand 3 an answer is off by at most twice
-- as many. Assumes nothing.
use mathlib.Core.List.{List}
use Prim.Native.Nat.{ℕ, ◌*◌, ◌≤◌}
use native.Mathlib.Omega.{arith}
use Rattle.bits.specs.Sums.{sum_below}
use Rattle.model.specs.Card.{Code, code_of, SoundCard, radius}
use Rattle.model.specs.Order.{last_position}
use Rattle.model.specs.ReadWord.{read_answer}
use Rattle.model.specs.Trams.{margin}
use Rattle.position_theory.specs.Damage.{WithinRadius, ChunksWithin, damaged_in_all, damaged, Near}
use Rattle.position_theory.specs.ReadPromises.{OffByAtMostTwiceDamaged}
use Rattle.position_theory.specs.Margin.{ReadWithinMargin}
use Rattle.position_theory.proofs.BoundedError.{near_loosen}
use Rattle.position_theory.proofs.ReadPromises.{off_by_at_most_twice_damaged}

five_radii : (C : Code) (position : ℕ) (received : List ℕ) → WithinRadius C position received → damaged C position received ≤ 5 * radius C
unfolding damaged damaged_in_all ChunksWithin sum_below
five_radii C position received within =
    let at = within.chunks in
    omega (arith, at 0 (omega arith), at 1 (omega arith), at 2 (omega arith), at 3 (omega arith), at 4 (omega arith))

-- of a word within the radius in every chunk, the answer is a position within the margin of the true one
pub near_margin : (card received : List ℕ) (position : ℕ) → SoundCard card → position ≤ last_position (code_of card)
    → WithinRadius (code_of card) position received → Near (read_answer card received) position (margin (code_of card))
unfolding OffByAtMostTwiceDamaged
near_margin card received position sound on_track within =
    near_loosen (read_answer card received) position _ _ (omega (arith, five_radii (code_of card) position received within))
    (off_by_at_most_twice_damaged card received position sound on_track within)

pub read_within_margin : (card : List ℕ) → ReadWithinMargin card
unfolding ReadWithinMargin Near
read_within_margin card true_position answered sound from =
    rw (← from.position)
    (rw from.read at (near_margin card from.received true_position sound from.on_track from.within))
