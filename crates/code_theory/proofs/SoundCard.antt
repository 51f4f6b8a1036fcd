-- A card of which no refusal holds gives a sound code: the test of each refusal is false, so what it tests for is not so. And a card
-- is sound where the tests of its fields and its bytes are what they should be. Assumes nothing.
use mathlib.Core.Path.{◌≡◌, refl, ap, ◌∙◌}
use mathlib.Core.Bool.{Bool, true, false, not, ◌&&◌, ◌||◌, false≢true}
use mathlib.Core.List.{List}
use mathlib.Core.Logic.{⊎_elim}
use Prim.Native.Nat.{ℕ, ◌+◌, ◌-◌, ◌^◌, ◌≤◌, ◌<◌}
use native.Mathlib.Omega.{arith}
use lib.Dec.{leb, eqb}
use lib.IntN.{ℤ, pos, negsuc}
use lib.ListN.{length}
use lib.Signed.{mag}
use borrow.Author.Tests.{leb-true, leb-false, ltb-false, le-leb, lt-leb, eqb-true, eqb-false, eq-eqb, ne_eqb, not-false}
use Rattle.bits.proofs.Numbers.{lt_or_le, or_false_left, or_false_right}
use Rattle.bits.proofs.Searches.{any_none, none_of_any}
use Rattle.model.specs.Card.{length_of, row_count_of, row_of, offset_of, stored_check, computed_check, sum_of_rows, code_of}
use Rattle.model.specs.Card.{within_limits, row_too_wide, unused_row_set, unused_byte_set, misplaced, offset_outside, dependent, card_refusal}
use Rattle.model.specs.Card.{SoundCard}
use Rattle.code_theory.specs.Promise.{Sound}
use Rattle.code_theory.proofs.RefusalRows.{NoneHolds, numbered, none_holds, none_refuses}

-- ---- tests taken apart

both_left : (s t : Bool) → (s && t) ≡ true → s ≡ true
both_left true t e = refl
both_left false t e = absurd (false≢true e)

both_right : (s t : Bool) → (s && t) ≡ true → t ≡ true
both_right true t e = e
both_right false t e = absurd (false≢true e)

all_of_five : (s t u v w : Bool) → (s && t && u && v && w) ≡ true
    → (s ≡ true) × (t ≡ true) × (u ≡ true) × (v ≡ true) × (w ≡ true)
all_of_five s t u v w e =
    let e₄ : (s && t && u && v) ≡ true = both_left (s && t && u && v) w e in
    let e₃ : (s && t && u) ≡ true = both_left (s && t && u) v e₄ in
    let e₂ : (s && t) ≡ true = both_left (s && t) u e₃ in
    (both_left s t e₂, both_right s t e₂, both_right (s && t) u e₃, both_right (s && t && u) v e₄, both_right (s && t && u && v) w e)

-- ---- what each test says

pub limits_of_test : (n k : ℕ) → within_limits n k ≡ true → (1 ≤ n) × (n ≤ 64) × (1 ≤ k) × (k ≤ 12) × (k ≤ n)
unfolding within_limits
limits_of_test n k e =
    let all = all_of_five (leb 1 n) (leb n 64) (leb 1 k) (leb k 12) (leb k n) e in
    (leb-true 1 n all.0, leb-true n 64 all.1, leb-true 1 k all.2, leb-true k 12 all.3, leb-true k n all.4)

pub test_of_limits : (n k : ℕ) → 1 ≤ n → n ≤ 64 → 1 ≤ k → k ≤ 12 → k ≤ n → within_limits n k ≡ true
unfolding within_limits
test_of_limits n k n_low n_high k_low k_high k_n =
    rw (le-leb 1 n n_low, le-leb n 64 n_high, le-leb 1 k k_low, le-leb k 12 k_high, le-leb k n k_n)

pub narrow_of_test : (n : ℕ) (row : ℕ → ℕ) → row_too_wide n row ≡ false → (z : ℕ) → z < 12 → row z < 2 ^ n
unfolding row_too_wide
narrow_of_test n row e z l = leb-false (2 ^ n) (row z) (none_of_any (λ y. leb (2 ^ n) (row y)) 12 e z l)

pub test_of_narrow : (n : ℕ) (row : ℕ → ℕ) → ((z : ℕ) → z < 12 → row z < 2 ^ n) → row_too_wide n row ≡ false
unfolding row_too_wide
test_of_narrow n row narrow = any_none (λ z. leb (2 ^ n) (row z)) 12 (λ z l. lt-leb (2 ^ n) (row z) (narrow z l))

unused_of_test : (k : ℕ) (row : ℕ → ℕ) → unused_row_set k row ≡ false → (z : ℕ) → k ≤ z → z < 12 → row z ≡ 0
unfolding unused_row_set
unused_of_test k row e z h l =
    let test : (leb k z && not (eqb (row z) 0)) ≡ false =
    none_of_any (λ y. leb k y && not (eqb (row y) 0)) 12 e z l in
    eqb-true (row z) 0 (not-false _ (rw (le-leb k z h) at test))

pub test_of_unused : (k : ℕ) (row : ℕ → ℕ) → ((z : ℕ) → k ≤ z → z < 12 → row z ≡ 0) → unused_row_set k row ≡ false
unfolding unused_row_set
test_of_unused k row unused =
    any_none (λ z. leb k z && not (eqb (row z) 0)) 12
    (λ z l. ⊎_elim (λ h. rw (lt-leb k z h)) (λ h. rw (le-leb k z h, unused z h l)) (lt_or_le z k))

-- an offset that is not outside its range is at most 20,000 in magnitude (`mag` is x of x and also of -(x + 1))
pub offset_of_test : (offset : ℤ) → offset_outside offset ≡ false → mag offset ≤ 20000
unfolding offset_outside
offset_of_test (pos x) e = ltb-false 20000 x e
offset_of_test (negsuc x) e = omega (arith, ltb-false 19999 x (or_false_left _ false e))

pub independent_of_test : (k : ℕ) (row : ℕ → ℕ) → dependent k row ≡ false
    → (g : ℕ) → 0 < g → g < 2 ^ k → sum_of_rows row k g ≡ 0 → ⊥
unfolding dependent
independent_of_test k row test g above below e =
    eqb-false (sum_of_rows row k (g - 1 + 1)) 0
    (none_of_any (λ h. eqb (sum_of_rows row k (h + 1)) 0) (2 ^ k - 1) test (g - 1) (omega arith))
    (ap (sum_of_rows row k) (omega arith) ∙ e)

pub test_of_independent : (k : ℕ) (row : ℕ → ℕ) → ((g : ℕ) → 0 < g → g < 2 ^ k → sum_of_rows row k g ≡ 0 → ⊥)
    → dependent k row ≡ false
unfolding dependent
test_of_independent k row independent =
    any_none (λ h. eqb (sum_of_rows row k (h + 1)) 0) (2 ^ k - 1)
    (λ g l. ne_eqb (sum_of_rows row k (g + 1)) 0 (independent (g + 1) (omega arith) (omega arith)))

-- ---- a sound card

-- what refusals 1 to 5 and 14 test, each as a fact of a card of which none holds
pub record CardTests (b : List ℕ) : Type 0 where
  pub size : length b ≡ 512
  pub check : stored_check b ≡ computed_check b
  pub limits : within_limits (length_of b) (row_count_of b) ≡ true
  pub rows_within_lem : row_too_wide (length_of b) (row_of b) ≡ false
  pub unused_rows_zero : unused_row_set (row_count_of b) (row_of b) ≡ false
  pub unused_bytes_zero : unused_byte_set b ≡ false
  pub offset_within : offset_outside (offset_of b) ≡ false
  pub rows_independent : dependent (row_count_of b) (row_of b) ≡ false

pub card_tests : (b : List ℕ) → SoundCard b → CardTests b
unfolding card_refusal misplaced NoneHolds numbered
card_tests b e =
    let wide : Bool = row_too_wide (length_of b) (row_of b) in
    let unused : Bool = unused_row_set (row_count_of b) (row_of b) in
    let (size, (check, (limits, (placed, (within, (independent, _)))))) = none_holds _ refl e in
    record {
      size = eqb-true _ _ (not-false _ size);
      check = eqb-true _ _ (not-false _ check);
      limits = not-false _ limits;
      rows_within_lem = or_false_left wide unused (or_false_left (wide || unused) (unused_byte_set b) placed);
      unused_rows_zero = or_false_right wide unused (or_false_left (wide || unused) (unused_byte_set b) placed);
      unused_bytes_zero = or_false_right (wide || unused) (unused_byte_set b) placed;
      offset_within = within;
      rows_independent = independent;
    }

-- and the other way round: a card of which they are facts is sound
pub sound_of_tests : (b : List ℕ) → CardTests b → SoundCard b
unfolding card_refusal misplaced NoneHolds
sound_of_tests b tests =
    let size : not (eqb (length b) 512) ≡ false = rw tests.size in
    let check : not (eqb (stored_check b) (computed_check b)) ≡ false = rw (eq-eqb _ _ tests.check) in
    let placed : misplaced b ≡ false = rw (tests.rows_within_lem, tests.unused_rows_zero) tests.unused_bytes_zero in
    none_refuses _ (size, (check, (rw tests.limits, (placed, (tests.offset_within, (tests.rows_independent, tt))))))

pub sound_card : (b : List ℕ) → SoundCard b → Sound (code_of b)
unfolding code_of
sound_card b e =
    let tests : CardTests b = card_tests b e in
    let within = limits_of_test (length_of b) (row_count_of b) tests.limits in
    record {
      n_low = within.0;
      n_high = within.1;
      k_low = within.2;
      k_high = within.3;
      k_n = within.4;
      narrow = narrow_of_test (length_of b) (row_of b) tests.rows_within_lem;
      unused = unused_of_test (row_count_of b) (row_of b) tests.unused_rows_zero;
      independent = independent_of_test (row_count_of b) (row_of b) tests.rows_independent;
      least = refl;
    }
