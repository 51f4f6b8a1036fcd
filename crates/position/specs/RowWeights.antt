-- The weights of a code's rows. Assumes nothing.
use Rattle.std.specs.Prelude.{◌≡◌, List, ℕ, ◌<◌, get_or}
use Rattle.model.specs.Card.{Code}
use Rattle.model.specs.Order.{row_weight}

abbrev pub RowWeights : Code → (weights : List ℕ) → Type 0
RowWeights C weights = (z : ℕ) → z < C.k → get_or weights z 0 ≡ row_weight C z
