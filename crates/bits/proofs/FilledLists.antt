-- Lists that are filled entry by entry, whatever their entries are: those below i are f's, and the others are still as they were. Assumes
-- nothing.
use mathlib.Core.Path.{◌≡◌, sym, ◌∙◌}
use mathlib.Core.Bool.{cond}
use mathlib.Core.List.{List}
use mathlib.Core.Logic.{⊎_elim}
use Prim.Native.Nat.{ℕ, ◌+◌, ◌≤◌, ◌<◌}
use native.Mathlib.Omega.{arith}
use lib.Dec.{ltb}
use lib.ListN.{get_or, set, replicate, length, length-set, length-replicate, get_or-replicate}
use lib.Seq.{ext_get_or, get_or-set_same, get_or-set_other}
use borrow.Author.Tests.{lt-ltb, le-ltb}
use Rattle.bits.specs.Places.{list_of}
use Rattle.bits.proofs.Numbers.{lt_or_le, eq_or_ne}
use Rattle.bits.proofs.Places.{length_list_of, get_or_list_of}

-- a list is known by its entries
pub is_list_of : {A : Type 0} (past : A) (m : ℕ) (f : ℕ → A) (l : List A) → length l ≡ m
    → ((i : ℕ) → i < m → get_or l i past ≡ f i) → l ≡ list_of m f
is_list_of past m f l size entries =
    ext_get_or past l (list_of m f) (size ∙ sym (length_list_of m f))
    (λ i below. let inside : i < m = omega arith in entries i inside ∙ sym (get_or_list_of m f past i inside))

module _ {A : Type 0} (m : ℕ) (f : ℕ → A) (past : A) where
  -- m entries, of which those below i are f's
  abbrev pub filled : (i : ℕ) → List A
  filled i = list_of m (λ j. cond (ltb j i) (f j) past)

  pub filled_none : replicate m past ≡ filled 0
  filled_none =
      is_list_of past m (λ j. cond (ltb j 0) (f j) past) (replicate m past) (length-replicate m past)
      (λ j below. rw (le-ltb j 0 (omega arith)) (get_or-replicate m j past past below))

  pub filled_more : (i : ℕ) → i < m → set (filled i) i (f i) ≡ filled (i + 1)
  filled_more i inside =
      is_list_of past m (λ j. cond (ltb j (i + 1)) (f j) past) (set (filled i) i (f i))
      (length-set (filled i) i (f i) ∙ length_list_of m _)
      (λ j below.
      ⊎_elim
      (λ (here : j ≡ i).
      rw (here, lt-ltb i (i + 1) (omega arith))
      (get_or-set_same (filled i) i (f i) past (rw (length_list_of m (λ j. cond (ltb j i) (f j) past)) inside)))
      (λ (elsewhere : j ≡ i → ⊥).
      get_or-set_other (filled i) i j (f i) past elsewhere ∙ get_or_list_of m _ past j below ∙ as_before j i elsewhere)
      (eq_or_ne j i))
    where
      as_before : (j i : ℕ) → (j ≡ i → ⊥) → cond (ltb j i) (f j) past ≡ cond (ltb j (i + 1)) (f j) past
      as_before j i elsewhere =
          ⊎_elim (λ (below : j < i). rw (lt-ltb j i below, lt-ltb j (i + 1) (omega arith)))
          (λ (above : i ≤ j). rw (le-ltb j i above, le-ltb j (i + 1) (omega arith))) (lt_or_le j i)

  -- all of them are, where what is left is f's too
  pub filled_all : (i : ℕ) → ((j : ℕ) → i ≤ j → j < m → past ≡ f j) → filled i ≡ list_of m f
  filled_all i rest =
      is_list_of past m f (filled i) (length_list_of m _)
      (λ j below.
      get_or_list_of m (λ j. cond (ltb j i) (f j) past) past j below
      ∙ ⊎_elim (λ (inside : j < i). rw (lt-ltb j i inside)) (λ (above : i ≤ j). rw (le-ltb j i above) (rest j above below)) (lt_or_le j i))
