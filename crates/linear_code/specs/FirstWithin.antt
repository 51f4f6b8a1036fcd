-- What the search for a codeword answers, of rows and numbers alone: the first sum of rows, in Gray order, that differs from x in at most
-- so many places, with the count of these places. Assumes nothing.
use Rattle.std.specs.Prelude.{Bool, List, ℕ, ◌^◌, leb, get_or}
use Rattle.std.specs.Int.Bits.{bit_xor}
use Rattle.std.specs.Int.Count.{ones}
use Rattle.model.specs.Card.{sum_of_rows}
use Rattle.model.specs.Order.{gray}
use Rattle.model.specs.Reading.{read_first}
use Rattle.model.specs.Reading.{Chunk}

-- in how many bits codeword j, a sum of the first k rows, and x differ; and whether that is within a limit
abbrev pub rows_distance : (k : ℕ) (row : ℕ → ℕ) (x j : ℕ) → ℕ
rows_distance k row x j = ones (bit_xor (sum_of_rows row k (gray j)) x)

abbrev pub rows_within : (k : ℕ) (row : ℕ → ℕ) (x limit j : ℕ) → Bool
rows_within k row x limit j = leb (rows_distance k row x j) limit

unfoldable pub first_within : (k : ℕ) (rows : List ℕ) (x limit : ℕ) → Chunk
first_within k rows x limit =
    let row : ℕ → ℕ = λ z. get_or rows z 0 in read_first (rows_within k row x limit) (rows_distance k row x) (2 ^ k)
