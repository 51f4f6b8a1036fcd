-- The sets of at most r variables, in the order of the rows: a sum over them is a sum over all numbers below 2^m that name such a set.
-- So each of them stands in the order once, and nothing else does. Assumes nothing.
use mathlib.Core.Path.{◌≡◌, refl, sym, ap, ◌∙◌}
use mathlib.Core.Bool.{Bool, true, false, cond, ◌&&◌}
use mathlib.Core.Logic.{⊎_elim}
use Prim.Native.Nat.{ℕ, zero, suc, ◌+◌, ◌^◌, ◌≤◌, ◌<◌}
use native.Mathlib.Nat.{le_trans}
use native.Mathlib.Omega.{arith}
use lib.Dec.{leb, ltb, eqb}
use lib.Pow.{pow_pos}
use borrow.Author.Tests.{le-leb, lt-leb, leb-true, lt-ltb, ltb-true, eq-eqb, ne_eqb}
use Rattle.bits.specs.Sums.{sum_below, sum_over}
use Rattle.bits.specs.Places.{weight}
use Rattle.bits.specs.Searches.{first}
use Rattle.bits.proofs.Numbers.{lt_or_le, eq_or_ne, and_true_left, and_true_right}
use Rattle.bits.proofs.Sums.{sum_ext, sum_mono, sum_add, sum_zero, sum_of_ones, sum_of_bits, sum_over_append, sum_over_entries}
use Rattle.bits.proofs.Sums.{summand_le, two_summands_le, some_summand}
use Rattle.bits.proofs.Binary.{weight_zero}
use Rattle.bits.proofs.Searches.{first_is}
use Rattle.bits.proofs.Counting.{where_true, sum_over_those}
use Rattle.model.specs.ReedMuller.{sets_of, sets_up_to, set_of, count_of_sets}
use Rattle.reed_muller_theory.proofs.LowestVariable.{same, same_yes, same_no, same_once}

-- ---- sums over sets

-- the sets of just s variables, and those of at most r
pub sum_over_sets_of : (m s : ℕ) (f : ℕ → ℕ) → sum_over (sets_of m s) f ≡ sum_below (where_true (λ S. eqb (weight m S) s) f) (2 ^ m)
unfolding sets_of
sum_over_sets_of m s f = sum_over_those (λ S. eqb (weight m S) s) (2 ^ m) f

pub sum_over_sets : (m r : ℕ) (f : ℕ → ℕ) → sum_over (sets_up_to m r) f ≡ sum_below (where_true (λ S. leb (weight m S) r) f) (2 ^ m)
unfolding sets_up_to
sum_over_sets m zero f = sum_over_sets_of m 0 f ∙ sum_ext (2 ^ m) (λ S l. ap (λ (t : Bool). cond t (f S) 0) (none (weight m S)))
  where
    none : (w : ℕ) → eqb w 0 ≡ leb w 0
    none zero = refl
    none (suc w) = ne_eqb (suc w) 0 (λ e. omega arith) ∙ sym (lt-leb (suc w) 0 (omega arith))
sum_over_sets m (suc r) f =
    sum_over_append (sets_up_to m r) (sets_of m (suc r)) f
    ∙ rw (sum_over_sets m r f, sum_over_sets_of m (suc r) f)
    (sym (sum_add (where_true (λ S. leb (weight m S) r) f) (where_true (λ S. eqb (weight m S) (suc r)) f) (2 ^ m))
    ∙ sum_ext (2 ^ m) (λ S l. joined (weight m S) (f S)))
  where
    joined : (w x : ℕ) → cond (leb w r) x 0 + cond (eqb w (suc r)) x 0 ≡ cond (leb w (suc r)) x 0
    joined w x =
        ⊎_elim
        (λ (l : w < suc r). rw (le-leb w r (omega arith), ne_eqb w (suc r) (λ e. omega arith), le-leb w (suc r) (omega arith)) (omega arith))
        (λ (l : suc r ≤ w).
        ⊎_elim (λ (e : w ≡ suc r). rw (lt-leb w r (omega arith), eq-eqb w (suc r) e, le-leb w (suc r) (omega arith)) (omega arith))
        (λ (ne : w ≡ suc r → ⊥). rw (lt-leb w r (omega arith), ne_eqb w (suc r) ne, lt-leb w (suc r) (omega arith)) (omega arith))
        (eq_or_ne w (suc r)))
        (lt_or_le w (suc r))

-- ---- the order of the rows

module _ (r m : ℕ) where
  -- entry by entry
  pub sum_over_rows : (f : ℕ → ℕ)
      → sum_below (λ z. f (set_of r m z)) (count_of_sets r m) ≡ sum_below (where_true (λ S. leb (weight m S) r) f) (2 ^ m)
  unfolding count_of_sets
  sum_over_rows f = sym (sum_over_entries (sets_up_to m r) f) ∙ sum_over_sets m r f

  -- what stands in it is a set of at most r of the m variables: the others add nothing to a sum over the rows
  abbrev legal : ℕ → Bool
  legal S = leb (weight m S) r && ltb S (2 ^ m)

  no_other : (z : ℕ) → z < count_of_sets r m → legal (set_of r m z) ≡ true
  no_other z l =
      let none : sum_below (where_true (λ S. leb (weight m S) r) (λ S. cond (legal S) 0 1)) (2 ^ m) ≡ 0 = sum_zero (2 ^ m) nothing in
      by_legal (legal (set_of r m z))
      (omega (arith, summand_le (λ y. cond (legal (set_of r m y)) 0 1) (count_of_sets r m) z l, sum_over_rows (λ S. cond (legal S) 0 1), none))
    where
      both : (s t : Bool) → t ≡ true → ◌≡◌ {A = ℕ} (cond s (cond (s && t) 0 1) 0) 0
      both true t e = rw e
      both false t e = refl

      nothing : (S : ℕ) → S < 2 ^ m → where_true (λ S. leb (weight m S) r) (λ S. cond (legal S) 0 1) S ≡ 0
      nothing S l = both (leb (weight m S) r) (ltb S (2 ^ m)) (lt-ltb S (2 ^ m) l)

      by_legal : (t : Bool) → cond t 0 1 ≤ 0 → t ≡ true
      by_legal true h = refl
      by_legal false h = absurd (omega arith)

  pub set_below : (z : ℕ) → z < count_of_sets r m → set_of r m z < 2 ^ m
  set_below z l = ltb-true _ _ (and_true_right (leb (weight m (set_of r m z)) r) (ltb (set_of r m z) (2 ^ m)) (no_other z l))

  pub set_size : (z : ℕ) → z < count_of_sets r m → weight m (set_of r m z) ≤ r
  set_size z l = leb-true _ _ (and_true_left (leb (weight m (set_of r m z)) r) (ltb (set_of r m z) (2 ^ m)) (no_other z l))

  -- it stands there once
  at_most_once : (S : ℕ) → sum_below (λ z. same S (set_of r m z)) (count_of_sets r m) ≤ 1
  at_most_once S =
      rw (sum_over_rows (same S))
      (le_trans (sum_mono (2 ^ m) (λ T l. if_at_all (leb (weight m T) r) (same S T))) (same_once S (2 ^ m)))
    where
      if_at_all : (t : Bool) (x : ℕ) → cond t x 0 ≤ x
      if_at_all true x = omega arith
      if_at_all false x = omega arith

  pub twice : (z y : ℕ) → z < y → y < count_of_sets r m → set_of r m z ≡ set_of r m y → ⊥
  twice z y h l e =
      omega (
        arith,
        two_summands_le (λ x. same (set_of r m y) (set_of r m x)) (count_of_sets r m) z y h l,
        same_yes (set_of r m y) (set_of r m z) (sym e),
        same_yes (set_of r m y) (set_of r m y) refl,
        at_most_once (set_of r m y),
      )

  -- so the number of a set's row is the first at which the set stands
  abbrev pub row_of_set : (S : ℕ) → ℕ
  row_of_set S = first (λ z. eqb (set_of r m z) S) (count_of_sets r m)

  pub row_of_set_lem : (z : ℕ) → z < count_of_sets r m → row_of_set (set_of r m z) ≡ z
  row_of_set_lem z l =
      first_is (λ y. eqb (set_of r m y) (set_of r m z)) (count_of_sets r m) z l
      (eq-eqb (set_of r m z) (set_of r m z) refl) (λ y h. ne_eqb (set_of r m y) (set_of r m z) (twice y z h l))

  -- every set of at most r of the m variables stands there
  pub set_occurs : (S : ℕ) → S < 2 ^ m → weight m S ≤ r → (z : ℕ) × (z < count_of_sets r m) × (set_of r m z ≡ S)
  set_occurs S h size =
      let own : where_true (λ T. leb (weight m T) r) (same S) S ≡ 1 = rw (le-leb (weight m S) r size, same_yes S S refl) in
      let (z, l, some) =
      some_summand (λ z. same S (set_of r m z)) (count_of_sets r m)
      (omega (arith, own, summand_le (where_true (λ T. leb (weight m T) r) (same S)) (2 ^ m) S h, sum_over_rows (same S))) in (
        z,
        l,
        ⊎_elim (λ (e : S ≡ set_of r m z). sym e)
            (λ (ne : S ≡ set_of r m z → ⊥). omega (arith, same_no S (set_of r m z) ne)) (eq_or_ne S (set_of r m z)),
      )

  -- there is one at least, the empty one, and there are no more than numbers of m bits
  pub count_low : 1 ≤ count_of_sets r m
  count_low = let (z, l, e) = set_occurs 0 (pow_pos m) (omega (arith, weight_zero m)) in omega arith

  pub count_high : count_of_sets r m ≤ 2 ^ m
  count_high =
      omega (
        arith,
        sum_of_ones (count_of_sets r m),
        sum_over_rows (λ S. 1),
        sum_of_bits (where_true (λ S. leb (weight m S) r) (λ S. 1)) (2 ^ m) (λ S. bit_or_none (leb (weight m S) r)),
      )
    where
      bit_or_none : (t : Bool) → cond t 1 0 < 2
      bit_or_none true = omega arith
      bit_or_none false = omega arith
