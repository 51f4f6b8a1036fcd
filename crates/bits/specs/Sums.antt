-- Sums over places, the Hamming distance of two bit functions, and bit functions taken apart and joined. A bit function gives
-- each place 0 or 1. Assumes nothing.
use Rattle.std.specs.Prelude.{Bool, true, cond, List, [], ◌∷◌, ℕ, zero, suc, ◌+◌, ◌-◌, ◌%◌, ltb, eqb}

-- f(0) + … + f(d - 1)
unfoldable pub sum_below : (f : ℕ → ℕ) (d : ℕ) → ℕ
sum_below f zero = 0
sum_below f (suc d) = sum_below f d + f d

-- the sum of f over the entries of a list
unfoldable pub sum_over : (l : List ℕ) (f : ℕ → ℕ) → ℕ
sum_over [] f = 0
sum_over (x ∷ l) f = f x + sum_over l f

-- of two bits, each 0 or 1: 1 where they differ, 0 where they are alike
abbrev pub difference : (a b : ℕ) → ℕ
difference a b = (a + b) % 2

-- Hamming distance: in how many of the places 0 to d - 1 two bit functions differ
unfoldable pub distance : (d : ℕ) (u v : ℕ → ℕ) → ℕ
distance d u v = sum_below (λ p. difference (u p) (v p)) d

-- Hamming distance over the unerased places: in how many of them, of the places 0 to d - 1, two bit functions differ
unfoldable pub distance_unerased : (unerased : ℕ → Bool) (d : ℕ) (u v : ℕ → ℕ) → ℕ
distance_unerased unerased d u v = sum_below (λ p. cond (unerased p) (difference (u p) (v p)) 0) d

-- how many of the places 0 to d - 1 are erased
unfoldable pub erased_below : (unerased : ℕ → Bool) (d : ℕ) → ℕ
erased_below unerased d = sum_below (λ p. cond (unerased p) 0 1) d

-- the places at which a bit function is 1, and no others
abbrev pub marked : (m : ℕ → ℕ) (p : ℕ) → Bool
marked m p = eqb (m p) 1

-- the test that every place passes: no place is erased
abbrev pub everywhere : ℕ → Bool
everywhere p = true

-- the part that starts at place a of what stands at the places: bits, or whatever else each place has
abbrev pub from_place : {A : Type 0} (a : ℕ) (x : ℕ → A) (p : ℕ) → A
from_place a x p = x (a + p)

-- the first a places of u, then v
unfoldable pub join_at : (a : ℕ) (u v : ℕ → ℕ) (p : ℕ) → ℕ
join_at a u v p = cond (ltb p a) (u p) (v (p - a))
