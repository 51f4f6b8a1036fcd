-- Document 01, "The card", written: the 512 bytes of a card with given fields, and its check. Assumes nothing.
use Rattle.std.specs.Prelude.{List, [], ◌∷◌, ◌++◌, ℕ, zero, suc, ◌/◌, ◌%◌, replicate}
use Rattle.model.specs.Card.{computed_check}

-- the number x in m bytes, high byte first
unfoldable pub bytes_of : (m x : ℕ) → List ℕ
bytes_of zero x = []
bytes_of (suc m) x = bytes_of m (x / 256) ++ (x % 256 ∷ [])

-- rows 0 to z - 1, each in 8 bytes
unfoldable pub row_bytes : (row : ℕ → ℕ) (z : ℕ) → List ℕ
row_bytes row zero = []
row_bytes row (suc z) = row_bytes row z ++ bytes_of 8 (row z)

-- 510 bytes, and their check in the last two
unfoldable pub sealed : List ℕ → List ℕ
sealed body = body ++ bytes_of 2 (computed_check body)

-- a card with offset 0: n, k, the track number, rows 0 to 11, zero in the bytes 100 to 509, and the check
unfoldable pub card_of : (n k track : ℕ) (row : ℕ → ℕ) → List ℕ
card_of n k track row = sealed (n ∷ k ∷ (bytes_of 2 track ++ (row_bytes row 12 ++ replicate 410 0)))
