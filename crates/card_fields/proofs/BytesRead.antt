-- The bytes of a card: numbers read from them high byte first; the sum that the check is made of, to which zero bytes add nothing, so
-- that it ends at the last used byte where no unused byte is set; and bytes joined by or, which is 0 just where all are.
-- Assumes nothing.
use Prim.Native.Nat.{ℕ, zero, suc, ◌+◌, ◌*◌, ◌^◌, ◌≤◌, ◌<◌}
use mathlib.Core.Path.{◌≡◌, refl, ◌∙◌}
use mathlib.Core.Bool.{false, not, ◌||◌}
use mathlib.Core.List.{List, ◌++◌}
use mathlib.Core.Logic.{⊎_elim}
use borrow.Author.Tests.{eqb-true, ne_eqb, not-false}
use native.Mathlib.Nat.{add-zero, zero-add, add-suc, pow-suc, mul-zero, mul-le-mul, le_of_suc-le-suc}
use native.Mathlib.Numerals.{add-one}
use native.Mathlib.Omega.{arith}
use lib.Bits.{bit_or, or_add_and, or_zero_l, and_le_r}
use lib.Dec.{eqb}
use lib.ListN.{length, take, drop, replicate, length-take, length-drop, get_or-append}
use Rattle.std.proofs.lemmas.List.{get_or-take, get_or-drop, get_or-append-add}
use Rattle.bits.proofs.ByteLists.{zero_byte}
use Rattle.std.specs.Int.{w64, from_be_bytes}
use borrow.Rule.Slice.PartMut.{put_mid, post_of}
use Rattle.bits.specs.Sums.{sum_below, from_place}
use Rattle.bits.specs.Searches.{any_below}
use Rattle.bits.proofs.Numbers.{eq_or_ne}
use Rattle.bits.proofs.Searches.{none_of_any}
use Rattle.bits.proofs.Sums.{sum_split, sum_zero}
use Rattle.model.specs.Card.{high_first, byte, check_share, unused_byte_set}

-- ---- numbers, high byte first

-- the same bytes make the same number, wherever they stand
same_bytes : (b c : List ℕ) (i j m : ℕ) → ((q : ℕ) → q < m → byte b (i + q) ≡ byte c (j + q)) → high_first b i m ≡ high_first c j m
unfolding high_first
same_bytes b c i j zero same = refl
same_bytes b c i j (suc m) same = rw (same_bytes b c i j m (λ q l. same q (omega arith)), same m (omega arith))

-- zero bytes before a number leave it as it is
zeros_before : (b : List ℕ) (z m : ℕ) → ((q : ℕ) → q < z → byte b q ≡ 0) → high_first b 0 (z + m) ≡ high_first b z m
unfolding high_first
zeros_before b zero zero none = refl
zeros_before b (suc z) zero none =
    let before : high_first b 0 z ≡ 0 = rw add-zero at (zeros_before b z zero (λ q l. none q (omega arith))) in
    let last : byte b (0 + z) ≡ 0 = rw zero-add (none z (omega arith)) in
    rw (add-zero (suc z), before, last) refl
zeros_before b z (suc m) none = rw (add-suc z m, zero-add (z + m), zeros_before b z m none)

-- the library's method reads eight bytes high byte first
eight_bytes : (b : List ℕ) → from_be_bytes w64 b ≡ high_first b 0 8
unfolding high_first
eight_bytes b = omega arith

-- m bytes make a number below 256^m
pub number_below : (b : List ℕ) (at m : ℕ) → ((i : ℕ) → byte b i < 256) → high_first b at m < 256 ^ m
unfolding high_first
number_below b at zero small = omega arith
number_below b at (suc m) small = rw (pow-suc 256 m) (omega (arith, number_below b at m small, small (at + m)))

-- m bytes, written behind z zeros into the last of eight, make the same number as where they stood
pub written_last : (b part : List ℕ) (at m z k : ℕ) → z + m ≡ 8 → at + m ≤ length b → part ≡ take m (drop at b)
    → from_be_bytes w64 (put_mid z k (replicate {A = ℕ} 8 0) part) ≡ high_first b at m
written_last b part at m z k eight inside is_part =
    let zeros = take z (replicate {A = ℕ} 8 0) in
    let bytes = put_mid z k (replicate {A = ℕ} 8 0) part in
    let zeros_length : length zeros ≡ z = omega (arith, length-take z (replicate {A = ℕ} 8 0)) in
    let part_length : length part ≡ m = rw is_part (omega (arith, length-take m (drop at b), length-drop at b)) in
    let before : (q : ℕ) → q < z → byte bytes q ≡ 0 =
    λ q l. get_or-append zeros _ 0 q (omega arith) ∙ get_or-take z (replicate {A = ℕ} 8 0) q 0 l ∙ zero_byte 8 q in
    let behind : (q : ℕ) → q < m → byte bytes (z + q) ≡ byte b (at + q) =
    λ q l.
    rw zeros_length at (get_or-append-add zeros (part ++ post_of z k (replicate {A = ℕ} 8 0)) q 0)
    ∙ get_or-append part _ 0 q (omega arith)
    ∙ rw is_part (get_or-take m (drop at b) q 0 l ∙ get_or-drop at b q 0) in
    eight_bytes bytes ∙ (rw eight at (zeros_before bytes z m before)) ∙ same_bytes bytes b z at m behind

-- ---- the check's sum

-- what a place adds is at most 510 × 255
pub share_most : (p d : ℕ) → p < 510 → d < 256 → (p + 1) * d ≤ 130050
share_most p d h k = mul-le-mul {n₁ = p + 1} {n₂ = 510} {m₂ = 255} (omega arith) (le_of_suc-le-suc k)

-- where no unused byte is set, the sum over all places ends with the last used one
pub ends_at_used : (b : List ℕ) → unused_byte_set b ≡ false → sum_below (check_share b) 510 ≡ sum_below (check_share b) 104
unfolding unused_byte_set
ends_at_used b none =
    let zero : (p : ℕ) → p < 406 → byte b (104 + p) ≡ 0 =
    λ p h. eqb-true (byte b (104 + p)) 0 (not-false _ (none_of_any (λ i. not (eqb (byte b (104 + i)) 0)) 406 none p h)) in
    let past : sum_below (from_place 104 (check_share b)) 406 ≡ 0 =
    sum_zero {f = from_place 104 (check_share b)} 406 (λ p h. rw (zero p h) (mul-zero _)) in
    omega (arith, past, sum_split (check_share b) 104 406)

-- ---- bytes joined by or

-- a join is not 0 just where one of the two is not
join_set : (x y : ℕ) → not (eqb (bit_or x y) 0) ≡ (not (eqb x 0) || not (eqb y 0))
join_set x y =
    ⊎_elim
    (λ (none : x ≡ 0). rw (none, or_zero_l y))
    (λ (some : x ≡ 0 → ⊥).
    let still : bit_or x y ≡ 0 → ⊥ = λ e. some (omega (arith, or_add_and x y, and_le_r x y)) in
    rw (ne_eqb x 0 some, ne_eqb (bit_or x y) 0 still))
    (eq_or_ne x 0)

-- one number more
pub join_more : (f : ℕ → ℕ) (joined i : ℕ) → not (eqb joined 0) ≡ any_below (λ j. not (eqb (f j) 0)) i
    → not (eqb (bit_or joined (f i)) 0) ≡ any_below (λ j. not (eqb (f j) 0)) (i + 1)
unfolding any_below
join_more f joined i so_far = rw (add-one i, join_set joined (f i), so_far)
