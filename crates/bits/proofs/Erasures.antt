-- The Hamming distance over the unerased places. Each law is one of sums, place by place, where an erased place counts nothing; with
-- nothing erased it is the Hamming distance. The triangle inequality is weaker by the count of erased places. Assumes nothing.
use mathlib.Core.Path.{◌≡◌, refl, ◌∙◌}
use mathlib.Core.Bool.{Bool, true, false, cond}
use Prim.Native.Nat.{ℕ, ◌+◌, ◌≤◌, ◌<◌}
use native.Mathlib.Nat.{le_dest}
use native.Mathlib.Omega.{arith}
use Rattle.bits.specs.Sums.{sum_below, distance, difference, distance_unerased, erased_below, everywhere, from_place}
use Rattle.bits.proofs.Sums.{sum_ext, sum_mono, sum_add, sum_split, sum_zero, sum_of_bits, sum_one_place}

-- with nothing erased
pub all_unerased : (d : ℕ) (u v : ℕ → ℕ) → distance_unerased everywhere d u v ≡ distance d u v
unfolding distance_unerased distance
all_unerased d u v = refl

pub none_erased : (unerased : ℕ → Bool) (d : ℕ) → ((p : ℕ) → p < d → unerased p ≡ true) → erased_below unerased d ≡ 0
unfolding erased_below
none_erased unerased d all = sum_zero d (λ p b. rw (all p b))

-- the distance and the count of erased places are fixed by which places below d are erased, and by the bits there
pub unerased_ext : {unerased unerased' : ℕ → Bool} {u u' v v' : ℕ → ℕ} (d : ℕ) → ((p : ℕ) → p < d → unerased p ≡ unerased' p)
    → ((p : ℕ) → p < d → u p ≡ u' p) → ((p : ℕ) → p < d → v p ≡ v' p) → distance_unerased unerased d u v ≡ distance_unerased unerased' d u' v'
unfolding distance_unerased
unerased_ext d hh hu hv = sum_ext d (λ p b. rw (hh p b, hu p b, hv p b))

pub unerased_ext_left : (unerased : ℕ → Bool) {u u' : ℕ → ℕ} (d : ℕ) (v : ℕ → ℕ) → ((p : ℕ) → p < d → u p ≡ u' p)
    → distance_unerased unerased d u v ≡ distance_unerased unerased d u' v
unerased_ext_left unerased d v hu = unerased_ext d (λ p b. refl) hu (λ p b. refl)

pub erased_ext : {unerased unerased' : ℕ → Bool} (d : ℕ) → ((p : ℕ) → p < d → unerased p ≡ unerased' p)
    → erased_below unerased d ≡ erased_below unerased' d
unfolding erased_below
erased_ext d hh = sum_ext d (λ p b. rw (hh p b))

-- the distance adds up over parts of a word
pub unerased_split : (unerased : ℕ → Bool) (a b : ℕ) (u v : ℕ → ℕ)
    → distance_unerased unerased (a + b) u v
    ≡ distance_unerased unerased a u v + distance_unerased (from_place a unerased) b (from_place a u) (from_place a v)
unfolding distance_unerased
unerased_split unerased a b u v = sum_split (λ p. cond (unerased p) (difference (u p) (v p)) 0) a b

-- where u and v are alike at each unerased place from place a on, it is the distance of the places before a
pub unerased_alike_after : (unerased : ℕ → Bool) (a d : ℕ) (u v : ℕ → ℕ) → a ≤ d
    → ((p : ℕ) → a ≤ p → p < d → unerased p ≡ true → u p ≡ v p) → distance_unerased unerased d u v ≡ distance_unerased unerased a u v
unfolding distance_unerased
unerased_alike_after unerased a d u v h alike =
    let rest = le_dest h in
    let none : sum_below (λ p. cond (unerased (a + p)) (difference (u (a + p)) (v (a + p))) 0) rest.0 ≡ 0 =
    sum_zero rest.0 (λ p b. at_place (unerased (a + p)) (alike (a + p) (omega arith) (omega arith))) in
    rw (← rest.1) (sum_split (λ p. cond (unerased p) (difference (u p) (v p)) 0) a rest.0 ∙ omega arith)
  where
    at_place : {i j : ℕ} (t : Bool) → (t ≡ true → i ≡ j) → cond t (difference i j) 0 ≡ 0
    at_place true e = rw (e refl) (omega arith)
    at_place false e = refl

-- words that agree at all places but one are as far from a third one but for that place
pub unerased_one_place : (unerased : ℕ → Bool) (f g x : ℕ → ℕ) (d q : ℕ) → q < d → ((p : ℕ) → p < d → (p ≡ q → ⊥) → f p ≡ g p)
    → distance_unerased unerased d f x + cond (unerased q) (difference (g q) (x q)) 0
    ≡ distance_unerased unerased d g x + cond (unerased q) (difference (f q) (x q)) 0
unfolding distance_unerased
unerased_one_place unerased f g x d q h same =
    sum_one_place (λ p. cond (unerased p) (difference (f p) (x p)) 0) (λ p. cond (unerased p) (difference (g p) (x p)) 0) d q h
    (λ p b ne. rw (same p b ne))

-- no two words differ in more places than there are
pub unerased_le : (unerased : ℕ → Bool) (d : ℕ) (u v : ℕ → ℕ) → distance_unerased unerased d u v ≤ d
unfolding distance_unerased
unerased_le unerased d u v = sum_of_bits (λ p. cond (unerased p) (difference (u p) (v p)) 0) d (λ p. at_place (unerased p) (u p) (v p))
  where
    at_place : (t : Bool) (i j : ℕ) → cond t (difference i j) 0 < 2
    at_place true i j = omega arith
    at_place false i j = omega arith

-- the distance of two words is at most their distances from a third one over the unerased places and the count of erased places, added up
pub unerased_triangle : (unerased : ℕ → Bool) (d : ℕ) (u w x : ℕ → ℕ)
    → distance d u w ≤ distance_unerased unerased d u x + distance_unerased unerased d w x + erased_below unerased d
unfolding distance distance_unerased erased_below
unerased_triangle unerased d u w x =
    rw (
      ← (sum_add (λ p. cond (unerased p) (difference (u p) (x p)) 0) (λ p. cond (unerased p) (difference (w p) (x p)) 0) d),
      ← (sum_add (λ p. cond (unerased p) (difference (u p) (x p)) 0 + cond (unerased p) (difference (w p) (x p)) 0) (λ p. cond (unerased p) 0 1) d),
    )
    (sum_mono d (λ p b. at_place (unerased p) (u p) (w p) (x p)))
  where
    at_place : (t : Bool) (i j y : ℕ) → difference i j ≤ cond t (difference i y) 0 + cond t (difference j y) 0 + cond t 0 1
    at_place true i j y = omega arith
    at_place false i j y = omega arith
