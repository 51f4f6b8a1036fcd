-- A list of bytes with a number put into it. Assumes nothing.
use Rattle.std.specs.Prelude.{List, ◌++◌, ℕ, ◌+◌, take, drop}
use Rattle.model.specs.CardBytes.{bytes_of}

-- the list, with the number x in its m bytes from place `at` on
unfoldable pub with_number : (l : List ℕ) (at m x : ℕ) → List ℕ
with_number l at m x = take at l ++ (bytes_of m x ++ drop (at + m) l)
