-- Document 02, P5: what a code chunk with erased bits reads as. Assumes nothing.
use Rattle.std.specs.Prelude.{◌≡◌, Bool, List, ℕ, ◌+◌, ◌*◌, ◌≤◌, ◌<◌}
use Rattle.bits.specs.Sums.{erased_below}
use Rattle.model.specs.Card.{Code, code_of, SoundCard}
use Rattle.model.specs.Order.{last_codeword}
use Rattle.model.specs.Levels.{chunk_wrong, erasure_reading}
use Rattle.model.specs.Reading.{Codeword}

-- codeword p is one for which 2 × wrong + erased is below D, of a chunk with these unerased places
abbrev pub BelowD : Code → (unerased : ℕ → Bool) (chunk : ℕ → ℕ) (p : ℕ) → Type 0
BelowD C unerased chunk p = (p ≤ last_codeword C) × (2 * chunk_wrong C unerased chunk p + erased_below unerased C.n < C.D)

-- A code chunk reads as the codeword for which 2 × wrong + erased is below D: there is one at most, it is what is read, with its count of
-- wrong places, and nothing else is
pub record ReadsBelowD (C : Code) (unerased : ℕ → Bool) (chunk : ℕ → ℕ) : Type 0 where
  pub one : (p q : ℕ) → BelowD C unerased chunk p → BelowD C unerased chunk q → p ≡ q
  pub read : (p : ℕ) → BelowD C unerased chunk p → erasure_reading C unerased chunk ≡ Codeword p (chunk_wrong C unerased chunk p)
  pub below : (p e : ℕ) → erasure_reading C unerased chunk ≡ Codeword p e → BelowD C unerased chunk p × (e ≡ chunk_wrong C unerased chunk p)

-- for every sound card, every chunk and whichever of its places are unerased
unfoldable pub ChunksReadBelowD : (card : List ℕ) → Type 0
ChunksReadBelowD card = SoundCard card → (unerased : ℕ → Bool) (chunk : ℕ → ℕ) → ReadsBelowD (code_of card) unerased chunk
