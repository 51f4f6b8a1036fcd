-- The walk of m steps from u to v. It has passed place p if u and v differ in fewer than m places before p; so it is v up to some
-- place and u from there on, and walks of m and m' steps are |m - m'| bits apart: one step flips one bit. Assumes nothing.
use mathlib.Core.Path.{◌≡◌, refl, sym}
use mathlib.Core.Bool.{Bool, true, false, cond, ◌&&◌}
use mathlib.Core.Logic.{⊎_elim}
use Prim.Native.Nat.{ℕ, zero, suc, ◌+◌, ◌≤◌, ◌<◌, min}
use native.Mathlib.Omega.{arith}
use lib.Dec.{eqb, ltb}
use borrow.Author.Tests.{lt-ltb, le-ltb, eqb-false}
use Rattle.bits.specs.Sums.{sum_below, distance, difference}
use Rattle.bits.specs.Walk.{walk}
use Rattle.bits.specs.Places.{cut}
use Rattle.bits.proofs.Numbers.{lt_or_le}
use Rattle.bits.proofs.Distance.{distance_ext, distance_suc, distance_longer}
use Rattle.bits.proofs.Places.{cut_below, cut_above}

module _ (u v : ℕ → ℕ) where
  -- at a place with m differing places or more before it, the walk is u
  walk_ahead : (m p : ℕ) → m ≤ distance p u v → walk u v m p ≡ u p
  unfolding walk
  walk_ahead m p h = rw (le-ltb (distance p u v) m h) (either (eqb (difference (u p) (v p)) 1))
    where
      either : (t : Bool) → cond (t && false) (v p) (u p) ≡ u p
      either true = refl
      either false = refl

  -- and so it is from a place on before which they differ in m or more
  pub walk_after : (m : ℕ) {p a : ℕ} → a ≤ p → m ≤ distance a u v → walk u v m p ≡ u p
  walk_after m {p} {a} b h = walk_ahead m p (omega (arith, distance_longer u v b))

  pub walk_none : (p : ℕ) → walk u v 0 p ≡ u p
  walk_none p = walk_ahead 0 p (omega arith)

module _ {u v : ℕ → ℕ} (hu : (p : ℕ) → u p < 2) (hv : (p : ℕ) → v p < 2) where
  -- at a place with fewer than m differing places before it, the walk is v
  walk_passed : (m p : ℕ) → distance p u v < m → walk u v m p ≡ v p
  unfolding walk
  walk_passed m p h = rw (lt-ltb (distance p u v) m h) (if_differs (eqb (difference (u p) (v p)) 1) refl)
    where
      if_differs : (t : Bool) → eqb (difference (u p) (v p)) 1 ≡ t → cond (t && true) (v p) (u p) ≡ v p
      if_differs true e = refl
      if_differs false e = omega (arith, hu p, hv p, eqb-false (difference (u p) (v p)) 1 e)

  pub walk_bit : (m p : ℕ) → walk u v m p < 2
  walk_bit m p = ⊎_elim (λ h. rw (walk_passed m p h) (hv p)) (λ h. rw (walk_ahead u v m p h) (hu p)) (lt_or_le (distance p u v) m)

  -- and so it is below a place before which they differ in at most m
  pub walk_before : (m : ℕ) {p a : ℕ} → p < a → distance a u v ≤ m → walk u v m p ≡ v p
  walk_before m {p} {a} b h =
      ⊎_elim (walk_passed m p)
      (λ l. rw (walk_ahead u v m p l) (omega (arith, hu p, hv p, distance_suc p u v, distance_longer u v {a = suc p} {d = a} b)))
      (lt_or_le (distance p u v) m)

  -- so v below a place with exactly m differing places before it, and u from there on, is the walk of m steps
  pub walk_spliced : (m q : ℕ) → distance q u v ≡ m → (p : ℕ) → cond (ltb p q) (v p) (u p) ≡ walk u v m p
  walk_spliced m q e p =
      ⊎_elim
      (λ (l : p < q). rw (lt-ltb p q l) (sym (walk_before m l (omega arith))))
      (λ (l : q ≤ p). rw (le-ltb p q l) (sym (walk_after u v m l (omega arith))))
      (lt_or_le p q)

  -- below place d, walks of m and m' steps are as many bits apart as steps apart, but no more than u and v differ below d
  walk_apart : (d m m' : ℕ) → m ≤ m'
      → distance d (walk u v m) (walk u v m') + min m (distance d u v) ≡ min m' (distance d u v)
  unfolding distance sum_below
  walk_apart zero m m' h = omega arith
  walk_apart (suc d) m m' h =
      ⊎_elim
      (λ passed.
      let e : difference (walk u v m d) (walk u v m' d) ≡ 0 =
      rw (walk_passed m d passed, walk_passed m' d (omega arith)) (omega arith)
      in omega (arith, walk_apart d m m' h))
      (λ ahead. ⊎_elim
      (λ passed.
      let e : difference (walk u v m d) (walk u v m' d) ≡ difference (u d) (v d) =
      rw (walk_ahead u v m d ahead, walk_passed m' d passed)
      in omega (arith, walk_apart d m m' h))
      (λ ahead'.
      let e : difference (walk u v m d) (walk u v m' d) ≡ 0 =
      rw (walk_ahead u v m d ahead, walk_ahead u v m' d ahead') (omega arith)
      in omega (arith, walk_apart d m m' h))
      (lt_or_le (distance d u v) m'))
      (lt_or_le (distance d u v) m)

  -- each step flips one bit
  pub walk_isometry : (d m m' : ℕ) → m ≤ m' → m' ≤ distance d u v → distance d (walk u v m) (walk u v m') + m ≡ m'
  walk_isometry d m m' h h' = omega (arith, walk_apart d m m' h)

-- Words that are cut off at place d: as far as d they are as far apart as the words are, and the walk between them is the walk between
-- the words, cut off there.
pub distance_cut : (d e : ℕ) (u v : ℕ → ℕ) → e ≤ d → distance e (cut d u) (cut d v) ≡ distance e u v
distance_cut d e u v h = distance_ext e (λ q b. cut_below d u q (omega arith)) (λ q b. cut_below d v q (omega arith))

pub walk_cut : (d : ℕ) (u v : ℕ → ℕ) (m p : ℕ) → walk (cut d u) (cut d v) m p ≡ cut d (walk u v m) p
unfolding walk
walk_cut d u v m p =
    ⊎_elim
    (λ (l : p < d).
    rw (
      cut_below d (walk u v m) p l,
      cut_below d u p l,
      cut_below d v p l,
      distance_cut d p u v (omega arith),
    ))
    (λ (l : d ≤ p).
    rw (cut_above d (walk u v m) p l, cut_above d u p l, cut_above d v p l)
    (either (eqb (difference 0 0) 1 && ltb (distance p (cut d u) (cut d v)) m)))
    (lt_or_le p d)
  where
    either : (t : Bool) → ◌≡◌ {A = ℕ} (cond t 0 0) 0
    either true = refl
    either false = refl
