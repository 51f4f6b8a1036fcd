-- The numbers below a bound that pass a test: a sum over them is a sum over all numbers below the bound that leaves out the others, each of
-- them passes, and those of a wider range that lie below a bound are those of the narrower one. Assumes nothing.
use mathlib.Core.Path.{◌≡◌, refl, ap, ap₂, ◌∙◌}
use mathlib.Core.Bool.{Bool, true, false, cond}
use mathlib.Core.List.{List, [], ◌∷◌, ◌++◌, append-nil}
use mathlib.Core.Logic.{⊎_elim}
use Prim.Native.Nat.{ℕ, zero, suc, ◌+◌, ◌≤◌, ◌<◌, min}
use native.Mathlib.Nat.{min-zero, min-eq_left, min-eq_right}
use native.Mathlib.Omega.{arith}
use lib.Dec.{ltb}
use lib.ListN.{length, get_or, length-append, get_or-append}
use lib.Seq.{get_or_at}
use borrow.Author.Tests.{lt-ltb, le-ltb}
use Rattle.bits.specs.Sums.{sum_below, sum_over}
use Rattle.bits.specs.Counting.{those}
use Rattle.bits.proofs.Numbers.{lt_or_le}
use Rattle.bits.proofs.Sums.{sum_over_append}

-- ---- sums

-- the values of f where a test holds
abbrev pub where_true : (test : ℕ → Bool) (f : ℕ → ℕ) (S : ℕ) → ℕ
where_true test f S = cond (test S) (f S) 0

pub sum_over_those : (test : ℕ → Bool) (b : ℕ) (f : ℕ → ℕ) → sum_over (those test b) f ≡ sum_below (where_true test f) b
unfolding sum_over sum_below those
sum_over_those test zero f = refl
sum_over_those test (suc b) f = by_case (test b) (sum_over_those test b f)
  where
    by_case : (t : Bool) → sum_over (those test b) f ≡ sum_below (where_true test f) b
        → sum_over (cond t (those test b ++ (b ∷ [])) (those test b)) f ≡ sum_below (where_true test f) b + cond t (f b) 0
    by_case true before = sum_over_append (those test b) (b ∷ []) f ∙ (omega (arith, before))
    by_case false before = omega (arith, before)

-- every entry passes the test
pub those_pass : (test : ℕ → Bool) (b i : ℕ) → i < length (those test b) → test (get_or (those test b) i 0) ≡ true
unfolding those
those_pass test zero i h = absurd (omega arith)
those_pass test (suc b) i h = by_case (test b) refl (those_pass test b i) h
  where
    by_case : (t : Bool) → test b ≡ t → (i < length (those test b) → test (get_or (those test b) i 0) ≡ true)
        → i < length (cond t (those test b ++ (b ∷ [])) (those test b))
        → test (get_or (cond t (those test b ++ (b ∷ [])) (those test b)) i 0) ≡ true
    by_case true e before h =
        ⊎_elim (λ (l : i < length (those test b)). rw (get_or-append (those test b) (b ∷ []) 0 i l) (before l))
        (λ (l : length (those test b) ≤ i).
        let last : length (those test b) ≡ i = omega (arith, length-append (those test b) (b ∷ [])) in
        rw (get_or_at (those test b) b [] 0 i last) e)
        (lt_or_le i (length (those test b)))
    by_case false e before h = before h

-- ---- narrower ranges

-- the entries of a list that are below b
unfoldable pub kept : (b : ℕ) (l : List ℕ) → List ℕ
kept b [] = []
kept b (x ∷ l) = cond (ltb x b) (x ∷ kept b l) (kept b l)

pub kept_below : (b x : ℕ) (l : List ℕ) → x < b → kept b (x ∷ l) ≡ x ∷ kept b l
unfolding kept
kept_below b x l h = rw (lt-ltb x b h)

pub kept_above : (b x : ℕ) (l : List ℕ) → b ≤ x → kept b (x ∷ l) ≡ kept b l
unfolding kept
kept_above b x l h = rw (le-ltb x b h)

pub kept_append : (b : ℕ) (k l : List ℕ) → kept b (k ++ l) ≡ kept b k ++ kept b l
unfolding kept
kept_append b [] l = refl
kept_append b (x ∷ k) l = by_test (ltb x b) (kept_append b k l)
  where
    by_test : (t : Bool) → kept b (k ++ l) ≡ kept b k ++ kept b l
        → cond t (x ∷ kept b (k ++ l)) (kept b (k ++ l)) ≡ cond t (x ∷ kept b k) (kept b k) ++ kept b l
    by_test true e = ap (λ (r : List ℕ). x ∷ r) e
    by_test false e = e

-- of the numbers below c that pass a test, those below b
pub kept_those : (test narrow : ℕ → Bool) (b c : ℕ) → ((S : ℕ) → S < b → test S ≡ narrow S)
    → kept b (those test c) ≡ those narrow (min b c)
unfolding those kept
kept_those test narrow b zero same = rw (min-zero b)
kept_those test narrow b (suc c) same =
    ⊎_elim
    (λ (l : c < b).
    let before : min b c ≡ c = min-eq_right (omega arith) in
    let after : min b (suc c) ≡ suc c = min-eq_right l in
    rw (after, ← same c l) (one_more (test c) l (kept_those test narrow b c same ∙ ap (those narrow) before)))
    (λ (l : b ≤ c).
    let before : min b c ≡ b = min-eq_left l in
    let after : min b (suc c) ≡ b = min-eq_left (omega arith) in
    rw after (none_more (test c) l (kept_those test narrow b c same ∙ ap (those narrow) before)))
    (lt_or_le c b)
  where
    one_more : (t : Bool) → c < b → kept b (those test c) ≡ those narrow c
        → kept b (cond t (those test c ++ (c ∷ [])) (those test c)) ≡ cond t (those narrow c ++ (c ∷ [])) (those narrow c)
    one_more true l e = kept_append b (those test c) (c ∷ []) ∙ ap₂ (λ (x y : List ℕ). x ++ y) e (kept_below b c [] l)
    one_more false l e = e

    none_more : (t : Bool) → b ≤ c → kept b (those test c) ≡ those narrow b
        → kept b (cond t (those test c ++ (c ∷ [])) (those test c)) ≡ those narrow b
    none_more true l e =
        kept_append b (those test c) (c ∷ []) ∙ ap₂ (λ (x y : List ℕ). x ++ y) e (kept_above b c [] l) ∙ append-nil (those narrow b)
    none_more false l e = e
