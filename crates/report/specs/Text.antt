-- Text as bytes: ASCII, and numbers in decimal. Assumes nothing.
use Rattle.std.specs.Prelude.{ℕ, zero, suc, ◌+◌, ◌/◌, ◌%◌, cond, List, [], ◌∷◌, ◌++◌, ltb}
use Prim.Native.Char.{code}
use Prim.Native.String.{String}

-- the bytes of a text in ASCII
unfoldable pub ascii : String → List ℕ
ascii String.[] = []
ascii (String.◌∷◌ c text) = code c ∷ ascii text

-- the byte of a digit: `0` is 48
abbrev pub digit : ℕ → ℕ
digit d = 48 + d

-- the digits of a number that has at most m, most significant first: of a number below ten that digit, of any other the
-- digits of a tenth of it, rounded down, and then the last digit
unfoldable pub digits_within : ℕ → ℕ → List ℕ
digits_within zero x = []
digits_within (suc m) x =
    let before : List ℕ = digits_within m (x / 10) in cond (ltb x 10) (digit x ∷ []) (before ++ (digit (x % 10) ∷ []))

-- a number in decimal, with no leading zeros; 0 is one digit (no number x has more than x + 1 digits)
unfoldable pub decimal : ℕ → List ℕ
decimal x = digits_within (suc x) x
