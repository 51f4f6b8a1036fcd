-- What "D, the least distance of the code" means. Assumes nothing.
use Rattle.std.specs.Prelude.{◌≡◌, ℕ, ◌≤◌}
use Rattle.bits.specs.Sums.{distance}
use Rattle.bits.specs.Places.{bit}
use Rattle.model.specs.Card.{Code}
use Rattle.model.specs.Order.{codeword, last_codeword}

-- in how many places c(i) and c(j) differ
abbrev pub codeword_distance : Code → (i j : ℕ) → ℕ
codeword_distance C i j = distance C.n (bit (codeword C i)) (bit (codeword C j))

-- D is the least distance of two different codewords: codewords of different numbers are different words, any two of them
-- differ in at least D places, and some two in exactly D
pub record LeastDistance (C : Code) : Type 0 where
  pub different : (i j : ℕ) → i ≤ last_codeword C → j ≤ last_codeword C → codeword C i ≡ codeword C j → i ≡ j
  pub apart : (i j : ℕ) → i ≤ last_codeword C → j ≤ last_codeword C → (i ≡ j → ⊥) → C.D ≤ codeword_distance C i j
  pub attained : (i : ℕ) × (j : ℕ) × (i ≤ last_codeword C) × (j ≤ last_codeword C) × (i ≡ j → ⊥) × (codeword_distance C i j ≡ C.D)
