-- What a sound card's code keeps to. It is stated over Code and not over DecodedCode, so that the struct's ghost field may say it.
-- Assumes nothing.
use Rattle.std.specs.Prelude.{◌≡◌, ℕ, ◌^◌, ◌≤◌, ◌<◌}
use Rattle.model.specs.Card.{Code, sum_of_rows, least_weight}

-- a code that a sound card gives, all that the card's refusals leave: within the limits, no row wider than n, unused rows zero, rows
-- independent, and D the least weight
pub record Sound (C : Code) : Type 0 where
  pub n_low : 1 ≤ C.n
  pub n_high : C.n ≤ 64
  pub k_low : 1 ≤ C.k
  pub k_high : C.k ≤ 12
  pub k_n : C.k ≤ C.n
  pub narrow : (z : ℕ) → z < 12 → C.row z < 2 ^ C.n
  pub unused : (z : ℕ) → C.k ≤ z → z < 12 → C.row z ≡ 0
  pub independent : (g : ℕ) → 0 < g → g < 2 ^ C.k → sum_of_rows C.row C.k g ≡ 0 → ⊥
  pub least : C.D ≡ least_weight C.n (sum_of_rows C.row C.k) (2 ^ C.k)
