-- Document 01, "Order and words", first half: the Gray order, the codewords c(i), and the starts r(i) of the blocks; and the sums
-- by which document 02's P4 comes to a start row by row. Assumes nothing.
use Rattle.std.specs.Prelude.{ℕ, zero, suc, ◌+◌, ◌-◌, ◌*◌, ◌/◌, ◌^◌, eqb}
use Rattle.std.specs.Int.Bits.{bit_xor}
use Rattle.bits.specs.Sums.{sum_below, difference}
use Rattle.bits.specs.Places.{bit, weight}
use Rattle.bits.specs.Searches.{first}
use Rattle.model.specs.Card.{Code, sum_of_rows}

-- Gray(i): i exclusive-or (i halved, rounded down)
unfoldable pub gray : (i : ℕ) → ℕ
gray i = bit_xor i (i / 2)

-- the number of the last codeword, 2^k - 1
unfoldable pub last_codeword : Code → ℕ
last_codeword C = 2 ^ C.k - 1

-- c(i): the sum of the rows z whose bit 2^z is set in Gray(i)
unfoldable pub codeword : Code → (i : ℕ) → ℕ
codeword C i = sum_of_rows C.row C.k (gray i)

-- the row in which c(i) and c(i+1) differ: the one whose bit differs in Gray(i) and Gray(i+1)
-- (for i below 2^k - 1; from there on there is no such row, and the number means nothing)
unfoldable pub changed_row : Code → (i : ℕ) → ℕ
changed_row C i = first (λ z. eqb (difference (bit (gray i) z) (bit (gray (i + 1)) z)) 1) C.k

-- A(i): the weight of the row in which c(i) and c(i+1) differ
unfoldable pub changed_weight : Code → (i : ℕ) → ℕ
changed_weight C i = weight C.n (C.row (changed_row C i))

-- the steps of block i: 3D + 2A(i)
abbrev pub block_length : Code → (i : ℕ) → ℕ
block_length C i = 3 * C.D + 2 * changed_weight C i

-- r(i), the start of block i: 3D × i + 2 × the sum over z of weight(row z) × ((i + 2^z) / 2^(z+1), rounded down)
unfoldable pub start : Code → (i : ℕ) → ℕ
start C i = 3 * C.D * i + 2 * sum_below (λ z. weight C.n (C.row z) * ((i + 2 ^ z) / 2 ^ (z + 1))) C.k

-- the last position: r(2^k - 1)
unfoldable pub last_position : Code → ℕ
last_position C = start C (last_codeword C)

-- ---- document 02, P4: r(i) summed in the order of document 003's Algorithm 1, rows 0 to k - 1

-- the corrected count of row z, which document 01 has in r(i): (i + 2^z) / 2^(z+1), rounded down
abbrev pub corrected_count : (i z : ℕ) → ℕ
corrected_count i z = (i + 2 ^ z) / 2 ^ (z + 1)

-- the weight of row z
abbrev pub row_weight : Code → (z : ℕ) → ℕ
row_weight C z = weight C.n (C.row z)

-- the share of row z where its weight is a: 2 × its weight × its corrected count
abbrev pub share_of : (a i z : ℕ) → ℕ
share_of a i z = 2 * a * corrected_count i z

-- the share of row z of a code
abbrev pub row_share : Code → (i z : ℕ) → ℕ
row_share C i z = share_of (row_weight C z) i z

-- the sum after row z, for z below k: 3D × i and the shares of rows 0 to z
unfoldable pub sum_after_row : Code → (i z : ℕ) → ℕ
sum_after_row C i z = 3 * C.D * i + sum_below (row_share C i) (z + 1)

-- the sum to which row z's share is added: 3D × i before row 0, from there on the sum after the row before
-- (before row k, which is no row, it is the sum after the last one)
unfoldable pub sum_before_row : Code → (i z : ℕ) → ℕ
sum_before_row C i zero = 3 * C.D * i
sum_before_row C i (suc z) = sum_after_row C i z
