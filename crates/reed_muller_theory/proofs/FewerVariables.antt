-- The sets of m variables among those of n: they are the ones below 2^m, in the same order. So one table of sets serves every m up to n.
-- Assumes nothing.
use mathlib.Core.Path.{◌≡◌, sym, ap, ap₂, ◌∙◌}
use mathlib.Core.List.{List, ◌++◌}
use mathlib.Core.Logic.{⊎_elim}
use Prim.Native.Nat.{ℕ, zero, suc, ◌+◌, ◌^◌, ◌≤◌, ◌<◌}
use native.Mathlib.Nat.{eq-zero-or-pos, le_dest, add-zero, add-suc, min-eq_left}
use native.Mathlib.Omega.{arith}
use lib.Dec.{eqb}
use lib.ListN.{length, get_or, get_or-append}
use lib.Pow.{pow_mono}
use Rattle.bits.specs.Places.{weight}
use Rattle.bits.specs.Counting.{those}
use Rattle.bits.proofs.Binary.{zero_of_weight, weight_wider}
use Rattle.bits.proofs.Counting.{kept, kept_append, kept_those}
use Rattle.model.specs.ReedMuller.{sets_of, sets_up_to, set_of, count_of_sets}
use Rattle.reed_muller_theory.proofs.Sets.{set_below, set_size, count_low, twice}
use Rattle.reed_muller_theory.proofs.OrderLimits.{count_grows}

-- ---- the sets

pub kept_sets_of : (m n s : ℕ) → m ≤ n → kept (2 ^ m) (sets_of n s) ≡ sets_of m s
unfolding sets_of
kept_sets_of m n s wider =
    kept_those (λ S. eqb (weight n S) s) (λ S. eqb (weight m S) s) (2 ^ m) (2 ^ n)
    (λ S l. ap (λ (w : ℕ). eqb w s) (weight_wider m n S wider l))
    ∙ ap (those (λ S. eqb (weight m S) s)) (min-eq_left (pow_mono wider))

pub kept_sets : (m n r : ℕ) → m ≤ n → kept (2 ^ m) (sets_up_to n r) ≡ sets_up_to m r
unfolding sets_up_to
kept_sets m n zero wider = kept_sets_of m n 0 wider
kept_sets m n (suc r) wider =
    kept_append (2 ^ m) (sets_up_to n r) (sets_of n (suc r))
    ∙ ap₂ (λ (x y : List ℕ). x ++ y) (kept_sets m n r wider) (kept_sets_of m n (suc r) wider)

-- the sets of at most r variables come first among those of at most t
pub sets_first : (n r t i : ℕ) → r ≤ t → i < count_of_sets r n → get_or (sets_up_to n t) i 0 ≡ get_or (sets_up_to n r) i 0
unfolding count_of_sets sets_up_to
sets_first n r t i l h = let (d, is) = le_dest l in rw (← is) (by d)
  where
    longer : (d : ℕ) → count_of_sets r n ≤ length (sets_up_to n (r + d))
    longer d = count_grows r (r + d) n (omega arith)

    by : (d : ℕ) → get_or (sets_up_to n (r + d)) i 0 ≡ get_or (sets_up_to n r) i 0
    by zero = rw (add-zero r)
    by (suc d) = rw (add-suc r d) (get_or-append (sets_up_to n (r + d)) (sets_of n (suc (r + d))) 0 i (omega (arith, longer d)) ∙ by d)

-- the empty set comes first, and no other is empty
pub first_empty : (n r : ℕ) → get_or (sets_up_to n r) 0 0 ≡ 0
first_empty n r =
    sets_first n 0 r 0 (omega arith) (count_low 0 n)
    ∙ zero_of_weight n (set_of 0 n 0) (set_below 0 n 0 (count_low 0 n)) (omega (arith, set_size 0 n 0 (count_low 0 n)))

pub others_not_empty : (n r i : ℕ) → 0 < i → i < count_of_sets r n → 0 < get_or (sets_up_to n r) i 0
others_not_empty n r i more inside =
    ⊎_elim (λ (none : get_or (sets_up_to n r) i 0 ≡ 0). absurd (twice r n 0 i more inside (first_empty n r ∙ sym none)))
    (λ (some : 0 < get_or (sets_up_to n r) i 0). some)
    (eq-zero-or-pos (get_or (sets_up_to n r) i 0))
