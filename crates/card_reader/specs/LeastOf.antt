-- The least of some numbers, as a loop finds it: it is at most each of them, and no number that is so is above it. Assumes nothing.
use Rattle.std.specs.Prelude.{List, ℕ, ◌≤◌, ◌<◌, get_or}
use Rattle.std.specs.Int.Bits.{bit_xor}
use Rattle.std.specs.Int.Count.{ones}

-- b is at most each of f(from), …, f(end - 1)
abbrev pub AtMostAll : (f : ℕ → ℕ) (from end b : ℕ) → Type 0
AtMostAll f from end b = (j : ℕ) → from ≤ j → j < end → b ≤ f j

-- least is the greatest number that is at most start and each of those
abbrev pub LeastOf : (f : ℕ → ℕ) (from end start least : ℕ) → Type 0
LeastOf f from end start least =
    (least ≤ start) × AtMostAll f from end least × ((b : ℕ) → b ≤ start → AtMostAll f from end b → b ≤ least)

-- how many bits of sum j of a table are 1 once a word is added to it
abbrev pub ones_with : (sums : List ℕ) (word j : ℕ) → ℕ
ones_with sums word j = ones (bit_xor (get_or sums j 0) word)
