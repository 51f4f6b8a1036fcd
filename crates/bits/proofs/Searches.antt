-- What the searches find. Each search is known by a few facts: where it lies, what holds there, and what holds of the numbers
-- that it passed over; whatever has those facts is what it finds. Assumes nothing.
use mathlib.Core.Path.{◌≡◌, refl, sym, ◌∙◌}
use mathlib.Core.Bool.{Bool, true, false, cond, ◌||◌, true≢false, or-false, or_assoc}
use mathlib.Core.Logic.{◌⊎◌, inl, inr, ⊎_elim}
use Prim.Native.Nat.{ℕ, zero, suc, ◌+◌, ◌-◌, ◌≤◌, ◌<◌, zero-le}
use native.Mathlib.Nat.{eq-or-lt_of_le, lt_of_not-le, le_of_suc-le-suc, le_antisymm, le_refl, le_step, le_dest, lt-suc_self}
use native.Mathlib.Nat.{add-zero, add-suc, add-sub_cancel_left}
use native.Mathlib.Numerals.{add-one}
use native.Mathlib.Omega.{arith}
use lib.Dec.{ltb}
use borrow.Author.Tests.{ltb-true, ltb-false}
use Rattle.bits.specs.Searches.{any_below, first_from, first, least_at, greatest}
use Rattle.bits.proofs.Numbers.{true_or_false, or_false_left, or_false_right}

-- a test that is true is not false
never : {b : Bool} → b ≡ true → b ≡ false → ⊥
never t f = true≢false (sym t ∙ f)

-- neither less nor greater
equal : (a b : ℕ) → (a < b → ⊥) → (b < a → ⊥) → a ≡ b
equal a b h k = le_antisymm (le_of_suc-le-suc (lt_of_not-le k)) (le_of_suc-le-suc (lt_of_not-le h))

-- a number below m + 1 is m, or below m
last_or_below : {i m : ℕ} → i < suc m → (i ≡ m) ⊎ (i < m)
last_or_below h = eq-or-lt_of_le (le_of_suc-le-suc h)

-- ---- any_below: whether the test ever holds

or_true_right : (a b : Bool) → b ≡ true → (a || b) ≡ true
or_true_right true b h = refl
or_true_right false b h = h

pub any_none : (f : ℕ → Bool) (m : ℕ) → ((i : ℕ) → i < m → f i ≡ false) → any_below f m ≡ false
unfolding any_below
any_none f zero h = refl
any_none f (suc m) h = rw (any_none f m (λ i l. h i (le_step l))) (h m (lt-suc_self m))

pub none_of_any : (f : ℕ → Bool) (m : ℕ) → any_below f m ≡ false → (i : ℕ) → i < m → f i ≡ false
unfolding any_below
none_of_any f zero h i l = absurd (omega arith)
none_of_any f (suc m) h i l =
    ⊎_elim (λ e. rw e (or_false_right (any_below f m) (f m) h))
    (none_of_any f m (or_false_left (any_below f m) (f m) h) i)
    (last_or_below l)

pub any_some : (f : ℕ → Bool) (m i : ℕ) → i < m → f i ≡ true → any_below f m ≡ true
unfolding any_below
any_some f zero i l t = absurd (omega arith)
any_some f (suc m) i l t =
    ⊎_elim (λ e. or_true_right (any_below f m) (f m) (rw e at t)) (λ k. rw (any_some f m i k t)) (last_or_below l)

-- tests that agree
pub any_ext : (f g : ℕ → Bool) (m : ℕ) → ((i : ℕ) → i < m → f i ≡ g i) → any_below f m ≡ any_below g m
unfolding any_below
any_ext f g zero h = refl
any_ext f g (suc m) h = rw (any_ext f g m (λ i l. h i (le_step l)), h m (lt-suc_self m))

-- among the first a numbers, or among the m after them
pub any_split : (f : ℕ → Bool) (a m : ℕ) → any_below f (a + m) ≡ (any_below f a || any_below (λ i. f (a + i)) m)
unfolding any_below
any_split f a zero = rw (add-zero a, or-false (any_below f a))
any_split f a (suc m) = rw (add-suc a m, any_split f a m, or_assoc (any_below f a) (any_below (λ i. f (a + i)) m) (f (a + m)))

-- ---- first: where the test first holds

from_high : (f : ℕ → Bool) (from m : ℕ) → first_from f from m ≤ from + m
unfolding first_from
from_high f from zero = omega arith
from_high f from (suc m) =
    ⊎_elim (λ e. rw e (omega arith)) (λ e. rw e (omega (arith, from_high f (suc from) m))) (true_or_false (f from))

from_holds : (f : ℕ → Bool) (from m : ℕ) → first_from f from m < from + m → f (first_from f from m) ≡ true
unfolding first_from
from_holds f from zero = λ l. absurd (omega arith)
from_holds f from (suc m) =
    ⊎_elim (λ e. rw e (λ l. e)) (λ e. rw e (λ l. from_holds f (suc from) m (omega arith))) (true_or_false (f from))

from_before : (f : ℕ → Bool) (from m j : ℕ) → from ≤ j → j < first_from f from m → f j ≡ false
unfolding first_from
from_before f from zero j h = λ l. absurd (omega arith)
from_before f from (suc m) j h =
    ⊎_elim (λ e. rw e (λ l. absurd (omega arith)))
    (λ e. rw e (λ l. ⊎_elim (λ s. rw (← s) e) (λ k. from_before f (suc from) m j k l) (eq-or-lt_of_le h)))
    (true_or_false (f from))

module _ (f : ℕ → Bool) (m : ℕ) where
  first_le : first f m ≤ m
  unfolding first
  first_le = omega (arith, from_high f 0 m)

  pub first_holds : first f m < m → f (first f m) ≡ true
  unfolding first
  first_holds l = from_holds f 0 m (omega arith)

  first_before : (j : ℕ) → j < first f m → f j ≡ false
  unfolding first
  first_before j l = from_before f 0 m j zero-le l

  pub first_is : (i : ℕ) → i < m → f i ≡ true → ((j : ℕ) → j < i → f j ≡ false) → first f m ≡ i
  first_is i l t none =
      equal (first f m) i (λ k. never (first_holds (omega arith)) (none (first f m) k)) (λ k. never t (first_before i k))

  pub first_none : ((j : ℕ) → j < m → f j ≡ false) → first f m ≡ m
  first_none none =
      equal (first f m) m (λ k. never (first_holds k) (none (first f m) k)) (λ k. omega (arith, first_le))

-- ---- least_at: where a count is least

-- one number more: it is taken if f is less there, and what was least so far is kept otherwise
abbrev Taken : (ℕ → ℕ) → (from m : ℕ) → Type 0
Taken f from m =
    (least_at f from (suc m) ≡ from + suc m) × (f (from + suc m) < f (least_at f from m))

abbrev Kept : (ℕ → ℕ) → (from m : ℕ) → Type 0
Kept f from m =
    (least_at f from (suc m) ≡ least_at f from m) × (f (least_at f from m) ≤ f (from + suc m))

taken_or_kept : (f : ℕ → ℕ) (from m : ℕ) → Taken f from m ⊎ Kept f from m
unfolding least_at
taken_or_kept f from m =
    let new = from + suc m in
    let before = least_at f from m in
    ⊎_elim (λ e. inl (rw e, ltb-true (f new) (f before) e))
    (λ e. inr (rw e, ltb-false (f new) (f before) e))
    (true_or_false (ltb (f new) (f before)))

pub least_at_low : (f : ℕ → ℕ) (from m : ℕ) → from ≤ least_at f from m
unfolding least_at
least_at_low f from zero = le_refl from
least_at_low f from (suc m) =
    let low = least_at_low f from m in
    ⊎_elim (λ t. rw t.0 (omega arith)) (λ k. rw k.0 low) (taken_or_kept f from m)

pub least_at_high : (f : ℕ → ℕ) (from m : ℕ) → least_at f from m ≤ from + m
unfolding least_at
least_at_high f from zero = omega arith
least_at_high f from (suc m) =
    let high = least_at_high f from m in
    ⊎_elim (λ t. rw t.0 (le_refl (from + suc m))) (λ k. rw k.0 (omega arith)) (taken_or_kept f from m)

pub least_at_least : (f : ℕ → ℕ) (from m q : ℕ) → from ≤ q → q ≤ from + m → f (least_at f from m) ≤ f q
unfolding least_at
least_at_least f from zero q l h = let e : q ≡ from = omega arith in rw e (le_refl (f from))
least_at_least f from (suc m) q l h =
    let least = least_at_least f from m q l in
    let where_q : (q ≡ from + suc m) ⊎ (q < from + suc m) = eq-or-lt_of_le h in
    ⊎_elim
    (λ t.
    rw t.0
    (⊎_elim (λ e. rw e (le_refl (f (from + suc m)))) (λ k. omega (arith, t.1, least (omega arith))) where_q))
    (λ k. rw k.0 (⊎_elim (λ e. rw e k.1) (λ b. least (omega arith)) where_q))
    (taken_or_kept f from m)

pub least_at_first : (f : ℕ → ℕ) (from m q : ℕ) → from ≤ q → q < least_at f from m → f (least_at f from m) < f q
unfolding least_at
least_at_first f from zero q l = λ h. absurd (omega arith)
least_at_first f from (suc m) q l =
    let before = least_at_first f from m q l in
    ⊎_elim (λ t. rw t.0 (λ h. omega (arith, t.1, least_at_least f from m q l (omega arith))))
    (λ k. rw k.0 before)
    (taken_or_kept f from m)

-- of the numbers low to m + 1, from what is least of those to m, counted as a program counts
pub least_at_next : (f : ℕ → ℕ) (low m : ℕ) → low ≤ m
    → least_at f low (m + 1 - low)
    ≡ cond (ltb (f (m + 1)) (f (least_at f low (m - low)))) (m + 1) (least_at f low (m - low))
unfolding least_at
least_at_next f low m h =
    let offset = le_dest h in
    let next : low + offset.0 + 1 - low ≡ suc offset.0 = omega arith in
    rw (← offset.1, next, add-sub_cancel_left low offset.0, add-suc low offset.0, add-one (low + offset.0))

-- ---- greatest: the greatest number of which the test holds

pub greatest_le : (f : ℕ → Bool) (m : ℕ) → greatest f m ≤ m
unfolding greatest
greatest_le f zero = zero-le
greatest_le f (suc m) =
    let below = greatest_le f m in
    ⊎_elim (λ e. rw e (le_refl (suc m))) (λ e. rw e (omega arith)) (true_or_false (f (suc m)))

pub greatest_holds : (f : ℕ → Bool) (m : ℕ) → 0 < greatest f m → f (greatest f m) ≡ true
unfolding greatest
greatest_holds f zero = λ l. absurd (omega arith)
greatest_holds f (suc m) =
    let below = greatest_holds f m in
    ⊎_elim (λ e. rw e (λ l. e)) (λ e. rw e below) (true_or_false (f (suc m)))

pub greatest_above : (f : ℕ → Bool) (m j : ℕ) → greatest f m < j → j ≤ m → f j ≡ false
unfolding greatest
greatest_above f zero j = λ l h. absurd (omega arith)
greatest_above f (suc m) j =
    let below = greatest_above f m j in
    ⊎_elim (λ e. rw e (λ l h. absurd (omega arith)))
    (λ e. rw e (λ l h. ⊎_elim (λ s. rw s e) (λ k. below l (omega arith)) (eq-or-lt_of_le h)))
    (true_or_false (f (suc m)))

-- whatever number has those facts is the greatest
pub greatest_is : (f : ℕ → Bool) (m i : ℕ) → i ≤ m → (0 < i → f i ≡ true) → ((j : ℕ) → i < j → j ≤ m → f j ≡ false)
    → greatest f m ≡ i
greatest_is f m i l t above =
    let r = greatest f m in
    equal r i (λ k. never (t (omega arith)) (greatest_above f m i k l))
    (λ k. never (greatest_holds f m (omega arith)) (above r k (greatest_le f m)))
