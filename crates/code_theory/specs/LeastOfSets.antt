-- The least weight of the sums of nonempty sets of rows, zero sums included: the one number that shows whether the rows are
-- dependent, and D where they are not. Assumes nothing.
use Rattle.std.specs.Prelude.{ℕ, zero, suc, min}
use Rattle.bits.specs.Places.{weight}
use Rattle.model.specs.Card.{sum_of_rows}

-- the least of n and of the weights, in n places, of the sums of sets 1 to g of the rows 0 to k - 1; set g holds the rows whose
-- bits are set in g
unfoldable pub least_of_sets : (n k : ℕ) (row : ℕ → ℕ) (g : ℕ) → ℕ
least_of_sets n k row zero = n
least_of_sets n k row (suc g) = let before = least_of_sets n k row g in min before (weight n (sum_of_rows row k (suc g)))
