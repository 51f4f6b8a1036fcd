-- Stretches that neither 18 nor 19 refuses are on the track, and in order once they are widened. By the margin of 10t a widened stretch
-- holds the true positions that its ends were read from. Assumes nothing.
use mathlib.Core.Path.{◌≡◌, refl}
use mathlib.Core.Bool.{true, false, ◌&&◌}
use mathlib.Core.List.{List}
use Prim.Native.Nat.{ℕ, ◌≤◌, ◌<◌}
use native.Mathlib.Omega.{arith}
use lib.Dec.{leb, ltb}
use borrow.Author.Tests.{ltb-false, leb-true, le-leb}
use Rattle.std.specs.Prelude.{length}
use Rattle.bits.proofs.Numbers.{or_false_left, or_false_right, and_true_left, and_true_right}
use Rattle.bits.proofs.Searches.{none_of_any}
use Rattle.model.specs.Refusals.{first_refusal}
use Rattle.model.specs.Trams.{stretch_at, margin, widened, misplaced_pair, any_misplaced, rows_of_trams, Trams}
use Rattle.model.specs.TramsCrossing.{crosses}
use Rattle.model.specs.TramsWithin.{lies_within}
use Rattle.model.specs.declared.Stretch.{Stretch}
use Rattle.code_theory.proofs.RefusalRows.{NoneHolds, numbered, none_holds}
use Rattle.position_theory.proofs.Margin.{read_within_margin}
use Rattle.position_theory.specs.Margin.{ReadWithinMargin}
use Rattle.tram_theory.specs.Stretches.{Holds, WithinMarks, OnTrack, WidenedHoldsBoth}

-- ---- refusals

well_placed : (last low high : ℕ) → misplaced_pair last low high ≡ false → (low ≤ high) × (high ≤ last)
unfolding misplaced_pair
well_placed last low high e =
    (ltb-false high low (or_false_left (ltb high low) _ e), ltb-false last high (or_false_right (ltb high low) _ e))

pub on_track : (last : ℕ) (trams : Trams) (first second : ℕ) → first_refusal (rows_of_trams last trams first second) ≡ 0 → OnTrack last trams
unfolding any_misplaced rows_of_trams numbered NoneHolds
on_track last trams first second none =
    let (few, (placed, _)) = none_holds (rows_of_trams last trams first second) refl none in
    let each : (i : ℕ) → i < length trams → ((stretch_at trams i).low ≤ (stretch_at trams i).high) × ((stretch_at trams i).high ≤ last) =
    λ i below. well_placed last _ _ (none_of_any _ (length trams) (or_false_right (misplaced_pair last first second) _ placed) i below) in
    record {
      few = ltb-false _ _ few;
      in_order = λ i below. (each i below).0;
      below_last = λ i below. (each i below).1;
    }

-- ---- widening

pub widened_in_order : (margin last : ℕ) (s : Stretch) → s.low ≤ s.high → s.high ≤ last
    → (widened margin last s).low ≤ (widened margin last s).high
unfolding widened
widened_in_order margin last s in_order below = omega arith

pub widened_holds_both : (card : List ℕ) → WidenedHoldsBoth card
unfolding WidenedHoldsBoth ReadWithinMargin widened
widened_holds_both card s a b sound in_order stands =
    let (low-above, low_below) = read_within_margin card a s.low sound stands.low_end in
    let (high-above, high-below) = read_within_margin card b s.high sound stands.high_end in
    let a_on_track = stands.low_end.on_track in
    let b_on_track = stands.high_end.on_track in
    ((omega arith, omega arith), (omega arith, omega arith))

-- ---- the tests of a stretch

both_tests : (a b c d : ℕ) → (a ≤ b) × (c ≤ d) → (leb a b && leb c d) ≡ true
both_tests a b c d (left, right) = rw (le-leb a b left, le-leb c d right)

both_hold : (a b c d : ℕ) → (leb a b && leb c d) ≡ true → (a ≤ b) × (c ≤ d)
both_hold a b c d e = (leb-true a b (and_true_left (leb a b) _ e), leb-true c d (and_true_right (leb a b) _ e))

module _ (mark : ℕ) (s : Stretch) where
  pub crosses_if : Holds s mark → crosses mark s ≡ true
  unfolding crosses
  crosses_if = both_tests _ _ _ _

  pub crosses_only_if : crosses mark s ≡ true → Holds s mark
  unfolding crosses
  crosses_only_if = both_hold _ _ _ _

module _ (first second : ℕ) (s : Stretch) where
  pub within_if : WithinMarks first second s → lies_within first second s ≡ true
  unfolding lies_within
  within_if = both_tests _ _ _ _

  pub within_only_if : lies_within first second s ≡ true → WithinMarks first second s
  unfolding lies_within
  within_only_if = both_hold _ _ _ _
