-- The tables of sets and of variables, for six variables. Assumes nothing.
use Rattle.std.specs.Prelude.{List, ℕ, zero, suc, ◌^◌}
use Rattle.bits.specs.Places.{list_of}
use Rattle.model.specs.ReedMuller.{count_of_sets, product_row}

-- how many sets of fewer than s of six variables there are
unfoldable pub sets_before : (s : ℕ) → ℕ
sets_before zero = 0
sets_before (suc s) = count_of_sets s 6

-- each of the six variables, as the product of the set of it alone
unfoldable pub variable_rows : List ℕ
variable_rows = list_of 6 (λ v. product_row 6 (2 ^ v))
