-- The rounds of document 004, from the products of r variables down. Before the round of size s, what is left of a damaged codeword
-- is its products of at most s variables, with the same positions damaged; so every vote of the round is right, and taking the
-- products off that were voted for leaves those of fewer variables. Assumes nothing.
use mathlib.Core.Path.{◌≡◌, sym, ap, ◌∙◌}
use mathlib.Core.Bool.{cond}
use mathlib.Core.Logic.{◌⊎◌, inl, inr, ⊎_elim}
use Prim.Native.Nat.{ℕ, zero, suc, ◌+◌, ◌-◌, ◌*◌, ◌%◌, ◌^◌, ◌≤◌, ◌<◌}
use native.Mathlib.Nat.{sub-zero}
use native.Mathlib.Omega.{arith}
use lib.Dec.{ltb, eqb}
use borrow.Author.Tests.{lt-ltb, le-ltb, eq-eqb, ne_eqb}
use Rattle.bits.specs.Sums.{sum_below, sum_over}
use Rattle.bits.specs.Places.{weight}
use Rattle.bits.proofs.Numbers.{lt_or_le, eq_or_ne}
use Rattle.bits.proofs.Sums.{sum_ext, sum_add}
use Rattle.bits.proofs.Counting.{where_true}
use Rattle.model.specs.ReedMuller.{product, sets_of, classes, votes_for_one, coefficient, vote_round, after_rounds, voted}
use Rattle.reed_muller_theory.proofs.Sets.{sum_over_sets_of}
use Rattle.reed_muller_theory.proofs.Polynomials.{value_at, DegreeAtMost}
use Rattle.reed_muller_theory.proofs.ReedMullerDistance.{classes_at_least}
use Rattle.reed_muller_theory.proofs.Vote.{Damaged, no_tie, vote_right}

-- the coefficients of the products of fewer than s variables
abbrev lower : (m s : ℕ) (H : ℕ → ℕ) (T : ℕ) → ℕ
lower m s H T = cond (ltb (weight m T) s) (H T) 0

-- what was found is taken off, modulo 2
same_parity : (a b c : ℕ) → a % 2 ≡ b % 2 → (a + c) % 2 % 2 ≡ (b + c) % 2
same_parity a b c e = omega arith

twice_off : (after size e : ℕ) → (after + size + e + size) % 2 ≡ (after + e) % 2
twice_off after size e = omega arith

taken_off : (y found before after size e : ℕ) → y % 2 ≡ (before + e) % 2 → before ≡ after + size → found ≡ size
    → (y + found) % 2 % 2 ≡ (after + e) % 2
taken_off y found before after size e is parts finds =
    same_parity y (before + e) found is ∙ rw (parts, finds) (twice_off after size e)

-- a polynomial with coefficients H that are 0 or 1, of degree at most r, damaged by e in so few positions that twice as many are fewer
-- than D
module _ (r m : ℕ) (order : r ≤ m) (H e : ℕ → ℕ) (bits : (T : ℕ) → H T < 2) (degree : DegreeAtMost m r H)
    (few : 2 * sum_below e (2 ^ m) < 2 ^ (m - r)) where
  lower_is : (s T : ℕ) → weight m T < s → lower m s H T ≡ H T
  lower_is s T l = rw (lt-ltb (weight m T) s l)

  lower_none : (s T : ℕ) → s ≤ weight m T → lower m s H T ≡ 0
  lower_none s T l = rw (le-ltb (weight m T) s l)

  -- a vote on what is left before the round of S's size
  module _ (S : ℕ) (below : S < 2 ^ m) (size : weight m S ≤ r) (y : ℕ → ℕ) (damaged : Damaged m (lower m (suc (weight m S)) H) e y) where
    abbrev left : ℕ → ℕ
    left = lower m (suc (weight m S)) H

    own : left S ≡ H S
    own = lower_is (suc (weight m S)) S (omega arith)

    no_larger : DegreeAtMost m (weight m S) left
    no_larger T l more = lower_none (suc (weight m S)) T more

    enough : 2 * sum_below e (2 ^ m) < classes m S
    enough = omega (arith, few, classes_at_least r m order S below size)

    round_right : coefficient m y S ≡ H S
    round_right = vote_right m S left e y below no_larger damaged (rw own (bits S)) enough ∙ own

    round_clear : 2 * votes_for_one m S y ≡ classes m S → ⊥
    round_clear = no_tie m S left e y below no_larger damaged (rw own (bits S)) enough

  -- the products of s variables, with their coefficients
  abbrev of_size : (s p : ℕ) → ℕ
  of_size s p = sum_below (where_true (λ S. eqb (weight m S) s) (λ S. H S * product S p)) (2 ^ m)

  size_more : (s p : ℕ) → value_at m (lower m (suc s) H) p ≡ value_at m (lower m s H) p + of_size s p
  size_more s p =
      sum_ext (2 ^ m) (λ T l. split T (eq_or_ne (weight m T) s))
      ∙ sum_add (λ T. lower m s H T * product T p) (where_true (λ S. eqb (weight m S) s) (λ S. H S * product S p)) (2 ^ m)
    where
      split : (T : ℕ) → (weight m T ≡ s) ⊎ (weight m T ≡ s → ⊥)
          → lower m (suc s) H T * product T p ≡ lower m s H T * product T p + where_true (λ S. eqb (weight m S) s) (λ S. H S * product S p) T
      split T (inl is) =
          rw (lower_is (suc s) T (omega arith), lower_none s T (omega arith), eq-eqb (weight m T) s is) (omega arith)
      split T (inr other) =
          rw (ne_eqb (weight m T) s other)
          (⊎_elim (λ (l : weight m T < s). rw (lower_is (suc s) T (omega arith), lower_is s T l) (omega arith))
          (λ (l : s ≤ weight m T). rw (lower_none (suc s) T (omega arith), lower_none s T l) (omega arith))
          (lt_or_le (weight m T) s))

  -- what the votes of a round find
  round_finds : (s : ℕ) → s ≤ r → (y : ℕ → ℕ) → Damaged m (lower m (suc s) H) e y
      → (p : ℕ) → sum_over (sets_of m s) (λ S. coefficient m y S * product S p) ≡ of_size s p
  round_finds s l y damaged p =
      sum_over_sets_of m s (λ S. coefficient m y S * product S p) ∙ sum_ext (2 ^ m) (λ S k. right S k (eq_or_ne (weight m S) s))
    where
      right : (S : ℕ) → S < 2 ^ m → (weight m S ≡ s) ⊎ (weight m S ≡ s → ⊥)
          → where_true (λ S. eqb (weight m S) s) (λ S. coefficient m y S * product S p) S
          ≡ where_true (λ S. eqb (weight m S) s) (λ S. H S * product S p) S
      right S k (inl is) = rw (eq-eqb (weight m S) s is, round_right S k (omega arith) y (rw is damaged))
      right S k (inr other) = rw (ne_eqb (weight m S) s other)

  -- one round takes the products of s variables off
  one_round : (s : ℕ) → s ≤ r → (y : ℕ → ℕ) → Damaged m (lower m (suc s) H) e y → Damaged m (lower m s H) e (vote_round m s y)
  unfolding vote_round
  one_round s l y damaged p h =
      taken_off (y p) _ (value_at m (lower m (suc s) H) p) (value_at m (lower m s H) p) (of_size s p) (e p)
      (damaged p h) (size_more s p) (round_finds s l y damaged p)

  module _ (y : ℕ → ℕ) (damaged : Damaged m H e y) where
    pub after_rounds_lem : (j : ℕ) → j ≤ suc r → Damaged m (lower m (suc r - j) H) e (after_rounds r m y j)
    unfolding after_rounds
    after_rounds_lem zero l =
        rw (sub-zero (suc r))
        (λ p h. damaged p h ∙ ap (λ (x : ℕ). (x + e p) % 2) (sum_ext (2 ^ m) (λ T k. sym (ap (λ (x : ℕ). x * product T p) (all T k)))))
      where
        all : (T : ℕ) → T < 2 ^ m → lower m (suc r) H T ≡ H T
        all T k =
            ⊎_elim (λ (l : weight m T < suc r). lower_is (suc r) T l)
            (λ (l : suc r ≤ weight m T). lower_none (suc r) T l ∙ sym (degree T k l))
            (lt_or_le (weight m T) (suc r))
    after_rounds_lem (suc j) l =
        let here : suc r - j ≡ suc (r - j) = omega arith in
        let next : suc r - suc j ≡ r - j = omega arith in
        rw next (one_round (r - j) (omega arith) (after_rounds r m y j) (rw (← here) (after_rounds_lem j (omega arith))))

    -- so every vote is right, and none is tied
    module _ (S : ℕ) (below : S < 2 ^ m) (size : weight m S ≤ r) where
      before : Damaged m (lower m (suc (weight m S)) H) e (after_rounds r m y (r - weight m S))
      before =
          let left : suc r - (r - weight m S) ≡ suc (weight m S) = omega arith in
          rw (← left) (after_rounds_lem (r - weight m S) (omega arith))

      pub voted_right : voted r m y S ≡ H S
      unfolding voted
      voted_right = round_right S below size (after_rounds r m y (r - weight m S)) before

      pub voted_clear : 2 * votes_for_one m S (after_rounds r m y (r - weight m S)) ≡ classes m S → ⊥
      voted_clear = round_clear S below size (after_rounds r m y (r - weight m S)) before
