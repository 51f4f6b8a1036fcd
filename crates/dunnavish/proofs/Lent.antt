-- What a call leaves by the count of the numbers that it was lent: the wrong count, a refusal, or every value stored. A run of
-- stores over the whole of a list leaves just the values stored. Assumes nothing.
use mathlib.Core.Path.{◌≡◌, refl, ◌∙◌}
use mathlib.Core.List.{List, append-nil}
use Prim.Native.Nat.{ℕ, ◌+◌, ◌≤◌}
use native.Mathlib.Omega.{arith}
use borrow.Author.Tests.{eq-eqb, ne_eqb}
use lib.ListN.{length}
use lib.Seq.{sets, sets-eq, drop-length}
use Rattle.dunnavish.specs.Crossing.{wrong_count, status_for, left_by, UnchangedUnlessZero}

module _ {A : Type 0} (count : ℕ) (lent : List A) where
  -- what the contract of a call says of its status and of what it leaves, where the answer's status is `answered`
  abbrev pub Crosses : (answered : ℕ) (values : List A) (status : ℕ) (left : List A) → Type 0
  Crosses answered values status left = (status ≡ status_for count lent answered) × (left ≡ left_by status values lent)

  pub wrong_count_crosses : (length lent ≡ count → ⊥) → (answered : ℕ) (values : List A) → Crosses answered values wrong_count lent
  unfolding status_for left_by
  wrong_count_crosses other_length answered values = rw (ne_eqb (length lent) count other_length) (refl, refl)

  module _ (alike : length lent ≡ count) where
    pub refusal_crosses : (refusal : ℕ) → (refusal ≡ 0 → ⊥) → (values : List A) → Crosses refusal values refusal lent
    unfolding status_for left_by
    refusal_crosses refusal nonzero values = rw (eq-eqb (length lent) count alike, ne_eqb refusal 0 nonzero) (refl, refl)

    pub values_cross : (values : List A) → Crosses 0 values 0 values
    unfolding status_for left_by
    values_cross values = rw (eq-eqb (length lent) count alike) (refl, refl)

    -- where the right count is lent, the status is the answer's
    pub status_lent : (answered : ℕ) → status_for count lent answered ≡ answered
    unfolding status_for
    status_lent answered = rw (eq-eqb (length lent) count alike)

-- what is left by a status other than 0 is what was lent
pub unchanged_by : {A : Type 0} (status : ℕ) (values lent left : List A) → left ≡ left_by status values lent
    → UnchangedUnlessZero lent status left
unfolding left_by UnchangedUnlessZero
unchanged_by status values lent left is nonzero = is ∙ rw (ne_eqb status 0 nonzero)

pub crosses_unchanged : {A : Type 0} (count : ℕ) (lent : List A) (answered : ℕ) (values : List A) (status : ℕ) (left : List A)
    → Crosses count lent answered values status left
    → (status ≡ status_for count lent answered) × ((left ≡ left_by status values lent) × UnchangedUnlessZero lent status left)
crosses_unchanged count lent answered values status left (is-status, is-left) =
    (is-status, (is-left, unchanged_by status values lent left is-left))

pub all_stored : {A : Type 0} (values lent : List A) → length lent ≡ length values → sets lent 0 values ≡ values
all_stored values lent alike =
    let whole : 0 + length values ≡ length lent = omega arith in
    let within : 0 + length values ≤ length lent = omega arith in
    sets-eq values lent 0 within ∙ rw (whole, drop-length lent) (append-nil values)
