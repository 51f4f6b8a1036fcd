-- What one round of votes gives. Assumes nothing.
use Rattle.std.specs.Prelude.{◌≡◌, List, [], ◌∷◌, ℕ, ◌+◌, ◌*◌, ◌^◌, ◌<◌}
use Rattle.bits.specs.Places.{bit, weight}
use Rattle.model.specs.ReedMuller.{sets_of, classes, votes_for_one, coefficient, vote_round}

-- the number whose lowest bits are f of each entry of a list, in order, and whose bits above them are those of `above`
unfoldable pub bits_then : (l : List ℕ) (f : ℕ → ℕ) (above : ℕ) → ℕ
bits_then [] f above = above
bits_then (S ∷ l) f above = f S + 2 * bits_then l f above

-- the rows voted for in the round of size s on y, below those of the rounds before
abbrev pub rows_after : (m s y rows : ℕ) → ℕ
rows_after m s y rows = bits_then (sets_of m s) (coefficient m (bit y)) rows

-- the vote of some set of s variables on y is tied
abbrev pub Tied : (m s y : ℕ) → Type 0
Tied m s y = (S : ℕ) × (S < 2 ^ m) × (weight m S ≡ s) × (2 * votes_for_one m S (bit y) ≡ classes m S)

-- what is left of y after the round, position by position, within the positions
pub record LeftBy (m s y left : ℕ) : Type 0 where
  pub narrow : left < 2 ^ 2 ^ m
  pub bits : (p : ℕ) → p < 2 ^ m → bit left p ≡ vote_round m s (bit y) p
