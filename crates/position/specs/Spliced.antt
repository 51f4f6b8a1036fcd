-- A word put together from two, one before a place and the other from there on. Assumes nothing.
use Rattle.std.specs.Prelude.{◌≡◌, cond, List, ℕ, ltb}
use Rattle.bits.specs.Places.{place}

-- the bits of `word` are v's below place `at`, and u's from there on
abbrev pub Spliced : (u v word : List ℕ) (at : ℕ) → Type 0
Spliced u v word at = (p : ℕ) → place word p ≡ cond (ltb p at) (place v p) (place u p)
