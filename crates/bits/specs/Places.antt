-- The places of numbers and of byte lists, and byte lists made of bits. Assumes nothing.
use Rattle.std.specs.Prelude.{cond, List, [], ◌∷◌, ◌++◌, ℕ, zero, suc, ◌+◌, ◌*◌, ◌/◌, ◌%◌, ◌^◌, ltb, length, get_or}
use Rattle.bits.specs.Sums.{sum_below, distance}

-- place p of the number x: the bit worth 2^p
abbrev pub bit : (x p : ℕ) → ℕ
bit x p = x / 2 ^ p % 2

-- the weight of the number x: how many of its first n places are 1
unfoldable pub weight : (n x : ℕ) → ℕ
weight n x = sum_below (bit x) n

-- place p of the byte list b: bit p mod 8, lowest first, of byte p / 8
unfoldable pub place : (b : List ℕ) (p : ℕ) → ℕ
place b p = bit (get_or b (p / 8) 0) (p % 8)

-- u up to place d, and 0 from there on
unfoldable pub cut : (d : ℕ) (u : ℕ → ℕ) (p : ℕ) → ℕ
cut d u p = cond (ltb p d) (u p) 0

-- how many bytes d places take
abbrev pub bytes_for : (d : ℕ) → ℕ
bytes_for d = (d + 7) / 8

-- byte j of the bit function u: the one whose bits are places 8j to 8j + 7
unfoldable pub byte_of : (u : ℕ → ℕ) (j : ℕ) → ℕ
byte_of u j = sum_below (λ q. u (8 * j + q) * 2 ^ q) 8

-- f(0), …, f(m - 1)
unfoldable pub list_of : {A : Type 0} (m : ℕ) (f : ℕ → A) → List A
list_of zero f = []
list_of (suc m) f = list_of m f ++ (f m ∷ [])

-- the first d places of u as bytes, spare bits zero
unfoldable pub pack : (d : ℕ) (u : ℕ → ℕ) → List ℕ
pack d u = list_of (bytes_for d) (byte_of (cut d u))

-- in how many bits two byte lists, of the same length, differ
unfoldable pub differing_bits : (a b : List ℕ) → ℕ
differing_bits a b = distance (8 * length a) (place a) (place b)
