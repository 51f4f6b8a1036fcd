-- The Hamming distance is symmetric, and adds up over parts of a word, and along a third word that agrees at each place with one of the
-- two; and some differing place has any smaller number of them before it. (The triangle inequality stands in Erasures.antt, with erased
-- places.) Assumes nothing.
use mathlib.Core.Path.{◌≡◌, refl, ◌∙◌}
use mathlib.Core.Logic.{◌⊎◌, ⊎_elim}
use Prim.Native.Nat.{ℕ, zero, suc, ◌+◌, ◌≤◌, ◌<◌}
use native.Mathlib.Nat.{le_dest}
use native.Mathlib.Omega.{arith}
use Rattle.bits.specs.Sums.{sum_below, distance, difference, from_place}
use Rattle.bits.proofs.Numbers.{lt_or_le}
use Rattle.bits.proofs.Sums.{sum_ext, sum_add, sum_split, sum_zero, sum_longer, sum_of_bits}

-- the distance is fixed by the bits below d
pub distance_ext : {u u' v v' : ℕ → ℕ} (d : ℕ) → ((p : ℕ) → p < d → u p ≡ u' p) → ((p : ℕ) → p < d → v p ≡ v' p)
    → distance d u v ≡ distance d u' v'
unfolding distance
distance_ext d hu hv = sum_ext d (λ p b. rw (hu p b, hv p b))

pub distance_ext_left : {u u' : ℕ → ℕ} (d : ℕ) (v : ℕ → ℕ) → ((p : ℕ) → p < d → u p ≡ u' p) → distance d u v ≡ distance d u' v
distance_ext_left d v hu = distance_ext d hu (λ p b. refl)

pub distance_comm : (d : ℕ) (u v : ℕ → ℕ) → distance d u v ≡ distance d v u
unfolding distance
distance_comm d u v = sum_ext d (λ p b. omega arith)

pub distance_self : (d : ℕ) (u : ℕ → ℕ) → distance d u u ≡ 0
unfolding distance
distance_self d u = sum_zero d (λ p b. omega arith)

-- one place more
pub distance_suc : (d : ℕ) (u v : ℕ → ℕ) → distance (suc d) u v ≡ distance d u v + difference (u d) (v d)
unfolding distance sum_below
distance_suc d u v = refl

-- more places, at least as far apart
pub distance_longer : (u v : ℕ → ℕ) {a d : ℕ} → a ≤ d → distance a u v ≤ distance d u v
unfolding distance
distance_longer u v h = sum_longer (λ p. difference (u p) (v p)) h

pub distance_split : (a b : ℕ) (u v : ℕ → ℕ) → distance (a + b) u v ≡ distance a u v + distance b (from_place a u) (from_place a v)
unfolding distance
distance_split a b u v = sum_split (λ p. difference (u p) (v p)) a b

-- where u and v are alike from place a on, it is that of the places before a
pub distance_alike_after : (a d : ℕ) (u v : ℕ → ℕ) → a ≤ d → ((p : ℕ) → a ≤ p → p < d → u p ≡ v p) → distance d u v ≡ distance a u v
distance_alike_after a d u v h alike =
    let rest = le_dest h in
    let none : distance rest.0 (from_place a u) (from_place a v) ≡ 0 =
    distance_ext_left rest.0 (from_place a v) (λ p l. alike (a + p) (omega arith) (omega arith))
    ∙ distance_self rest.0 (from_place a v) in
    rw (← rest.1) (distance_split a rest.0 u v ∙ omega arith)

-- words that differ in each of d places are d apart
pub distance_everywhere : (u v : ℕ → ℕ) (d : ℕ) → ((p : ℕ) → p < d → difference (u p) (v p) ≡ 1) → distance d u v ≡ d
unfolding distance sum_below
distance_everywhere u v zero h = refl
distance_everywhere u v (suc d) h = omega (arith, distance_everywhere u v d (λ p b. h p (omega arith)), h d (omega arith))

-- where at each place u or v agrees with c, the way from u to v over c is no detour
pub distance_through : {u c v : ℕ → ℕ} (d : ℕ) → ((p : ℕ) → p < d → (u p ≡ c p) ⊎ (v p ≡ c p))
    → distance d u v ≡ distance d u c + distance d c v
unfolding distance
distance_through {u} {c} {v} d h =
    rw (← (sum_add (λ p. difference (u p) (c p)) (λ p. difference (c p) (v p)) d))
    (sum_ext d (λ p b. ⊎_elim (λ e. omega arith) (λ e. omega arith) (h p b)))

-- no two words differ in more places than there are
pub distance_le : (d : ℕ) (u v : ℕ → ℕ) → distance d u v ≤ d
unfolding distance
distance_le d u v = sum_of_bits (λ p. difference (u p) (v p)) d (λ p. omega arith)

-- where r is below the distance, there is a place in which the two words differ with r such places before it
pub differing_place : (u v : ℕ → ℕ) (d r : ℕ) → r < distance d u v
    → (p : ℕ) × (p < d) × (difference (u p) (v p) ≡ 1) × (distance p u v ≡ r)
unfolding distance sum_below
differing_place u v zero r h = absurd (omega arith)
differing_place u v (suc d) r h =
    ⊎_elim
    (λ (l : r < distance d u v). let (p, below, differ, number) = differing_place u v d r l in (p, omega arith, differ, number))
    (λ (l : distance d u v ≤ r). (d, omega arith, omega arith, omega arith))
    (lt_or_le r (distance d u v))
