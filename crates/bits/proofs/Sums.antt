-- The laws of sums over places: a sum is fixed by its values, adds up over parts of its range, and is additive; two sums whose
-- values differ at one place differ by the difference there. And what starts at place 0 is the whole. Assumes nothing.
use mathlib.Core.Path.{◌≡◌, refl, sym, ap, fun_ext, ◌∙◌}
use mathlib.Core.List.{List, [], ◌∷◌, ◌++◌}
use mathlib.Core.Logic.{⊎_elim}
use Prim.Native.Nat.{ℕ, zero, suc, ◌+◌, ◌*◌, ◌/◌, ◌%◌, ◌≤◌, ◌<◌}
use native.Mathlib.Nat.{zero-add, add-zero, add-suc, le_dest, eq-or-lt_of_le}
use native.Mathlib.Numerals.{add-one}
use native.Mathlib.Omega.{arith}
use lib.ListN.{length, get_or}
use Rattle.bits.specs.Sums.{sum_below, sum_over, from_place}
use Rattle.bits.proofs.Numbers.{lt_or_le}

-- what starts at place 0 is the whole
pub from_place_zero : {A : Type 0} (x : ℕ → A) → from_place 0 x ≡ x
from_place_zero x = fun_ext (λ p. ap x (zero-add p))

-- two functions that agree below d have the same sum
pub sum_ext : {f g : ℕ → ℕ} (d : ℕ) → ((p : ℕ) → p < d → f p ≡ g p) → sum_below f d ≡ sum_below g d
unfolding sum_below
sum_ext zero h = refl
sum_ext (suc d) h = rw (sum_ext d (λ p b. h p (omega arith)), h d (omega arith))

-- a sum goes up with its values
pub sum_mono : {f g : ℕ → ℕ} (d : ℕ) → ((p : ℕ) → p < d → f p ≤ g p) → sum_below f d ≤ sum_below g d
unfolding sum_below
sum_mono zero h = omega arith
sum_mono (suc d) h = omega (arith, sum_mono d (λ p b. h p (omega arith)), h d (omega arith))

-- the sum of f(p) + g(p) is the sum of f and the sum of g
pub sum_add : (f g : ℕ → ℕ) (d : ℕ) → sum_below (λ p. f p + g p) d ≡ sum_below f d + sum_below g d
unfolding sum_below
sum_add f g zero = refl
sum_add f g (suc d) = omega (arith, sum_add f g d)

-- a sum over a + b places is the sum over the first a and the sum over the b places from there on
pub sum_split : (f : ℕ → ℕ) (a b : ℕ) → sum_below f (a + b) ≡ sum_below f a + sum_below (from_place a f) b
unfolding sum_below
sum_split f a zero = rw (add-zero a) (omega arith)
sum_split f a (suc b) = rw (add-suc a b) (omega (arith, sum_split f a b))

-- a sum of zeros is zero
pub sum_zero : {f : ℕ → ℕ} (d : ℕ) → ((p : ℕ) → p < d → f p ≡ 0) → sum_below f d ≡ 0
unfolding sum_below
sum_zero zero h = refl
sum_zero (suc d) h = omega (arith, sum_zero d (λ p b. h p (omega arith)), h d (omega arith))

-- a sum over more places is at least as great
pub sum_longer : (f : ℕ → ℕ) {a d : ℕ} → a ≤ d → sum_below f a ≤ sum_below f d
sum_longer f {a} h = let more = le_dest h in rw (← more.1) (omega (arith, sum_split f a more.0))

-- one place more, counted as a program counts
pub sum_more : (f : ℕ → ℕ) (z : ℕ) → sum_below f (z + 1) ≡ sum_below f z + f z
unfolding sum_below
sum_more f z = rw (add-one z)

-- a summand is at most the sum
pub summand_le : (f : ℕ → ℕ) (m q : ℕ) → q < m → f q ≤ sum_below f m
unfolding sum_below
summand_le f m q h = omega (arith, sum_longer f {a = suc q} {d = m} h)

-- so are two of them together
pub two_summands_le : (f : ℕ → ℕ) (m q q' : ℕ) → q < q' → q' < m → f q + f q' ≤ sum_below f m
unfolding sum_below
two_summands_le f m q q' h h' = omega (arith, sum_longer f {a = suc q'} {d = m} h', summand_le f q' q h)

-- a sum that is not zero has a summand that is not
pub some_summand : (f : ℕ → ℕ) (m : ℕ) → 0 < sum_below f m → (q : ℕ) × (q < m) × (0 < f q)
unfolding sum_below
some_summand f zero h = absurd (omega arith)
some_summand f (suc m) h =
    ⊎_elim (λ (here : 0 < f m). (m, omega arith, here))
    (λ (none : f m ≤ 0). let (q, l, some) = some_summand f m (omega arith) in (q, omega arith, some))
    (lt_or_le 0 (f m))

-- the sum of d ones is d
pub sum_of_ones : (d : ℕ) → sum_below (λ p. 1) d ≡ d
unfolding sum_below
sum_of_ones zero = refl
sum_of_ones (suc d) = omega (arith, sum_of_ones d)

-- a sum of bits is at most their number
pub sum_of_bits : (f : ℕ → ℕ) (d : ℕ) → ((p : ℕ) → f p < 2) → sum_below f d ≤ d
unfolding sum_below
sum_of_bits f zero h = omega arith
sum_of_bits f (suc d) h = omega (arith, sum_of_bits f d h, h d)

-- two functions that agree below d at all places but q
pub sum_one_place : (f g : ℕ → ℕ) (d q : ℕ) → q < d → ((p : ℕ) → p < d → (p ≡ q → ⊥) → f p ≡ g p)
    → sum_below f d + g q ≡ sum_below g d + f q
unfolding sum_below
sum_one_place f g zero q h same = absurd (omega arith)
sum_one_place f g (suc d) q h same =
    ⊎_elim
    (λ (e : q ≡ d). rw (e, sum_ext {f = f} {g = g} d (λ p b. same p (omega arith) (λ e'. omega arith))) (omega arith))
    (λ (l : q < d).
    omega (arith, same d (omega arith) (λ e. omega arith), sum_one_place f g d q l (λ p b ne. same p (omega arith) ne)))
    (eq-or-lt_of_le {n = q} {m = d} (omega arith))

-- ---- sums over the entries of a list

pub sum_over_append : (a b : List ℕ) (f : ℕ → ℕ) → sum_over (a ++ b) f ≡ sum_over a f + sum_over b f
unfolding sum_over
sum_over_append [] b f = omega arith
sum_over_append (x ∷ a) b f = omega (arith, sum_over_append a b f)

-- entry by entry
pub sum_over_entries : (l : List ℕ) (f : ℕ → ℕ) → sum_over l f ≡ sum_below (λ z. f (get_or l z 0)) (length l)
unfolding sum_over sum_below
sum_over_entries [] f = refl
sum_over_entries (x ∷ l) f =
    rw (sum_over_entries l f) (sym (first_entry (λ z. f (get_or (x ∷ l) z 0)) (length l)))
  where
    first_entry : (g : ℕ → ℕ) (d : ℕ) → sum_below g (suc d) ≡ g 0 + sum_below (λ z. g (suc z)) d
    first_entry g zero = omega arith
    first_entry g (suc d) = rw (first_entry g d) (omega arith)

-- ---- parity

-- the parity of a × x goes by the parity of x
pub times_parity : (a x : ℕ) → a * (x % 2) % 2 ≡ a * x % 2
times_parity a x =
    let digits : a * x ≡ 2 * (a * (x / 2)) + a * (x % 2) =
    let halves : x ≡ 2 * (x / 2) + x % 2 = omega arith in ap (λ (y : ℕ). a * y) halves ∙ (omega arith) in
    omega arith

-- a sum's parity goes by the parities of its values
pub sum_parity : (f g : ℕ → ℕ) (d : ℕ) → ((p : ℕ) → p < d → f p % 2 ≡ g p % 2) → sum_below f d % 2 ≡ sum_below g d % 2
unfolding sum_below
sum_parity f g zero h = refl
sum_parity f g (suc d) h = omega (arith, sum_parity f g d (λ p b. h p (omega arith)), h d (omega arith))

-- where all values but the one at q are even, it is the parity of that one
pub sum_one_odd : (f : ℕ → ℕ) (d q : ℕ) → q < d → ((p : ℕ) → p < d → (p ≡ q → ⊥) → f p % 2 ≡ 0) → sum_below f d % 2 ≡ f q % 2
unfolding sum_below
sum_one_odd f zero q h even = absurd (omega arith)
sum_one_odd f (suc d) q h even =
    ⊎_elim
    (λ (e : q ≡ d).
    let none : sum_below f d % 2 ≡ sum_below (λ p. 0) d % 2 = sum_parity f (λ p. 0) d (λ p b. even p (omega arith) (λ k. omega arith)) in
    rw e (omega (arith, none, sum_zero {f = λ p. 0} d (λ p b. refl))))
    (λ (l : q < d). omega (arith, even d (omega arith) (λ e. omega arith), sum_one_odd f d q l (λ p b ne. even p (omega arith) ne)))
    (eq-or-lt_of_le {n = q} {m = d} (omega arith))
