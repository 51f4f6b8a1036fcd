-- A word held in an array that is as wide or wider. Assumes nothing.
use Rattle.std.specs.Prelude.{◌≡◌, List, ℕ}
use Rattle.bits.specs.Places.{place, cut}
use Rattle.model.specs.Card.{Code}
use Rattle.model.specs.Words.{word_bits}

-- the array has the bits of the code's word u, and zeros after them
abbrev pub HoldsWord : Code → (u : ℕ → ℕ) (array : List ℕ) → Type 0
HoldsWord C u array = (p : ℕ) → place array p ≡ cut (word_bits C) u p
