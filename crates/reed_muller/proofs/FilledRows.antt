-- The rows that a list of sets gives, and how they are filled in set by set. Assumes nothing.
use mathlib.Core.Path.{◌≡◌, refl, sym, ap, ◌∙◌, fun_ext}
use mathlib.Core.Bool.{cond}
use mathlib.Core.List.{List, [], ◌∷◌, ◌++◌, append-nil}
use mathlib.Core.Logic.{⊎_elim}
use Prim.Native.Nat.{ℕ, ◌+◌, ◌-◌, ◌^◌, ◌≤◌, ◌<◌}
use native.Mathlib.Numerals.{add-one}
use native.Mathlib.Omega.{arith}
use lib.Dec.{ltb}
use lib.ListN.{length, get_or, set, take, drop, replicate, length-set, length-append, take-append-drop, get_or-append}
use lib.ListN.{get_or-eq_default}
use lib.Pow.{pow_pos}
use lib.Seq.{take-suc, take-length, get_or_at, get_or-set_same, get_or-set_other}
use borrow.Author.Tests.{lt-ltb, le-ltb}
use Rattle.bits.proofs.Numbers.{lt_or_le, eq_or_ne}
use Rattle.bits.proofs.ByteLists.{zero_byte}
use Rattle.bits.proofs.Counting.{kept, kept_append, kept_below, kept_above}
use Rattle.model.specs.ReedMuller.{sets_up_to, count_of_sets, product_row, product_of}
use Rattle.reed_muller_theory.proofs.Sets.{count_low}
use Rattle.reed_muller_theory.proofs.ClassSums.{product_of_none}
use Rattle.reed_muller_theory.proofs.FewerVariables.{kept_sets, first_empty}

-- row z of the sets in a list; past them zero
abbrev pub row_at : (m : ℕ) (l : List ℕ) (z : ℕ) → ℕ
row_at m l z = cond (ltb z (length l)) (product_row m (get_or l z 0)) 0

-- the rows in an array of twelve are those of a list of sets
abbrev pub Filled : (m : ℕ) (l rows : List ℕ) → Type 0
Filled m l rows = (z : ℕ) → z < 12 → get_or rows z 0 ≡ row_at m l z

-- one set more
pub filled_more : (m : ℕ) (l rows : List ℕ) (S count row : ℕ) → length rows ≡ 12 → count ≡ length l → count < 12 → row ≡ product_row m S
    → Filled m l rows → Filled m (l ++ (S ∷ [])) (set rows count row)
filled_more m l rows S count row twelve here fits is filled z h =
    ⊎_elim
    (λ (e : z ≡ count).
    rw (e, get_or-set_same rows count row 0 (omega arith), length-append l (S ∷ []), lt-ltb count (length l + 1) (omega arith), is)
    (ap (product_row m) (sym (get_or_at l S [] 0 count (sym here)))))
    (λ (ne : z ≡ count → ⊥). get_or-set_other rows count z row 0 ne ∙ filled z h ∙ kept_row ne)
    (eq_or_ne z count)
  where
    kept_row : (z ≡ count → ⊥) → row_at m l z ≡ row_at m (l ++ (S ∷ [])) z
    kept_row ne =
        ⊎_elim
        (λ (l' : z < length l).
        rw (lt-ltb z (length l) l', length-append l (S ∷ []), lt-ltb z (length l + 1) (omega arith), get_or-append l (S ∷ []) 0 z l'))
        (λ (l' : length l ≤ z). rw (le-ltb z (length l) l', length-append l (S ∷ []), le-ltb z (length l + 1) (omega arith)))
        (lt_or_le z (length l))

-- all of them are the code's rows
pub filled_all : (r m : ℕ) (rows : List ℕ) → length rows ≡ 12 → count_of_sets r m ≤ 12 → Filled m (sets_up_to m r) rows
    → (λ z. get_or rows z 0) ≡ product_of r m
unfolding product_of count_of_sets
filled_all r m rows twelve few filled =
    fun_ext
    (λ z. ⊎_elim (λ (l : z < 12). filled z l)
    (λ (l : 12 ≤ z). get_or-eq_default rows 0 (omega arith) ∙ rw (le-ltb z (length (sets_up_to m r)) (omega arith)))
    (lt_or_le z 12))

-- what is kept of the first or the last entries of a list is no longer than what is kept of all
kept_parts : (b i : ℕ) (l : List ℕ) → length (kept b l) ≡ length (kept b (take i l)) + length (kept b (drop i l))
kept_parts b i l =
    ap (λ (x : List ℕ). length (kept b x)) (sym (take-append-drop i l))
    ∙ ap length (kept_append b (take i l) (drop i l))
    ∙ length-append (kept b (take i l)) (kept b (drop i l))

kept_first : (b i : ℕ) (l : List ℕ) → length (kept b (take i l)) ≤ length (kept b l)
kept_first b i l = omega (arith, kept_parts b i l)

-- one entry more is kept, or left out
module _ (b i : ℕ) (l : List ℕ) (inside : i < length l) where
  entry_more : kept b (take (i + 1) l) ≡ kept b (take i l) ++ kept b (get_or l i 0 ∷ [])
  entry_more =
      rw (add-one i) (ap (kept b) (take-suc l i 0 inside) ∙ kept_append b (take i l) (get_or l i 0 ∷ []))

  pub entry_kept : get_or l i 0 < b → kept b (take (i + 1) l) ≡ kept b (take i l) ++ (get_or l i 0 ∷ [])
  unfolding kept
  entry_kept h = entry_more ∙ ap (λ (x : List ℕ). kept b (take i l) ++ x) (kept_below b (get_or l i 0) [] h)

  pub entry_left : b ≤ get_or l i 0 → kept b (take (i + 1) l) ≡ kept b (take i l)
  unfolding kept
  entry_left h = entry_more ∙ ap (λ (x : List ℕ). kept b (take i l) ++ x) (kept_above b (get_or l i 0) [] h) ∙ append-nil (kept b (take i l))

-- ---- the loop over the table

-- the rows filled in are those of the sets of the m variables, among the first i of the sets of at most r variables
pub record Reached (r m i count : ℕ) (rows : List ℕ) : Type 0 where
  pub counted : count ≡ length (kept (2 ^ m) (take i (sets_up_to 6 r)))
  pub twelve : length rows ≡ 12
  pub filled : Filled m (kept (2 ^ m) (take i (sets_up_to 6 r))) rows

reached_none : (r m : ℕ) → Reached r m 0 0 (replicate 12 0)
unfolding kept
reached_none r m = record { counted = refl; twelve = refl; filled = λ z h. zero_byte 12 z ∙ rw (le-ltb z 0 (omega arith)) }

module _ (r m i count : ℕ) (rows : List ℕ) (inside : i < count_of_sets r 6) (reached : Reached r m i count rows) where
  -- a row is left for the next set
  pub room : m ≤ 6 → count_of_sets r m ≤ 12 → get_or (sets_up_to 6 r) i 0 < 2 ^ m → count < 12
  unfolding count_of_sets
  room six few h =
      let more : length (kept (2 ^ m) (take (i + 1) (sets_up_to 6 r))) ≡ length (kept (2 ^ m) (take i (sets_up_to 6 r))) + 1 =
      ap length (entry_kept (2 ^ m) i (sets_up_to 6 r) inside h)
      ∙ length-append (kept (2 ^ m) (take i (sets_up_to 6 r))) (get_or (sets_up_to 6 r) i 0 ∷ []) in
      omega (arith, reached.counted, more, kept_first (2 ^ m) (i + 1) (sets_up_to 6 r), ap length (kept_sets m 6 r six))

  pub reached_more : (row : ℕ) → count < 12 → get_or (sets_up_to 6 r) i 0 < 2 ^ m → row ≡ product_row m (get_or (sets_up_to 6 r) i 0)
      → Reached r m (i + 1) (count + 1) (set rows count row)
  unfolding count_of_sets
  reached_more row fits h is =
      let before : List ℕ = kept (2 ^ m) (take i (sets_up_to 6 r)) in
      let S : ℕ = get_or (sets_up_to 6 r) i 0 in
      let grown : kept (2 ^ m) (take (i + 1) (sets_up_to 6 r)) ≡ before ++ (S ∷ []) = entry_kept (2 ^ m) i (sets_up_to 6 r) inside h in
      record {
        counted = ap (λ (x : ℕ). x + 1) reached.counted ∙ sym (ap length grown ∙ length-append before (S ∷ []));
        twelve = length-set rows count row ∙ reached.twelve;
        filled = rw grown (filled_more m before rows S count row reached.twelve reached.counted fits is reached.filled);
      }

  pub reached_same : 2 ^ m ≤ get_or (sets_up_to 6 r) i 0 → Reached r m (i + 1) count rows
  unfolding count_of_sets
  reached_same h =
      let same : kept (2 ^ m) (take (i + 1) (sets_up_to 6 r)) ≡ kept (2 ^ m) (take i (sets_up_to 6 r)) =
      entry_left (2 ^ m) i (sets_up_to 6 r) inside h in
      record { counted = rw same reached.counted; twelve = reached.twelve; filled = rw same reached.filled }

-- the empty set is the first
pub reached_first : (r m positions : ℕ) → positions ≡ 2 ^ 2 ^ m - 1 → Reached r m 1 1 (set (replicate 12 0) 0 positions)
reached_first r m positions are =
    let empty = first_empty 6 r in
    reached_more r m 0 0 (replicate 12 0) (count_low r 6) (reached_none r m) positions (omega arith) (rw empty (pow_pos m))
    (rw empty (are ∙ sym (product_of_none m)))

pub reached_all : (r m count : ℕ) (rows : List ℕ) → m ≤ 6 → count_of_sets r m ≤ 12 → Reached r m (count_of_sets r 6) count rows
    → (count ≡ count_of_sets r m) × ((λ z. get_or rows z 0) ≡ product_of r m)
unfolding count_of_sets
reached_all r m count rows six few reached =
    let all : kept (2 ^ m) (take (count_of_sets r 6) (sets_up_to 6 r)) ≡ sets_up_to m r =
    ap (kept (2 ^ m)) (take-length (sets_up_to 6 r)) ∙ kept_sets m 6 r six in
    (reached.counted ∙ ap length all, filled_all r m rows reached.twelve few (rw all at reached.filled))
