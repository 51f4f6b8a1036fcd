-- The numbers that pass a test, for counting them and for sums over them. Assumes nothing.
use Rattle.std.specs.Prelude.{Bool, cond, List, [], ◌∷◌, ◌++◌, ℕ, zero, suc}

-- the numbers below b of which a test holds, in rising order
unfoldable pub those : (test : ℕ → Bool) (b : ℕ) → List ℕ
those test zero = []
those test (suc b) = cond (test b) (those test b ++ (b ∷ [])) (those test b)
