-- One pass through the list of trams: the answers so far and one more, and the nearest so far and the next tram. Assumes nothing.
use mathlib.Core.Path.{◌≡◌, ◌∙◌}
use mathlib.Core.Bool.{Bool, true, false, cond}
use mathlib.Core.List.{List}
use Prim.Native.Nat.{ℕ, zero, suc, ◌+◌, ◌≤◌, ◌<◌}
use native.Mathlib.Numerals.{add-one}
use native.Mathlib.Omega.{arith}
use lib.ListN.{length, get_or, set, replicate}
use Rattle.std.specs.Prelude.{Some}
use Rattle.bits.proofs.FilledLists.{filled_none, filled_more}
use Rattle.model.specs.Trams.{Trams, most_trams, stretch_at, widened, answers_by}
use Rattle.model.specs.NearestTram.{goes_before, nearest_up_to, nearest_of}
use Rattle.model.specs.declared.Stretch.{Stretch}
use Rattle.tram_theory.specs.Stretches.{OnTrack}
use Rattle.tram_theory.proofs.Stretches.{widened_in_order}

-- ---- widening

-- the stretch at place i of a list, widened
abbrev pub wide_at : (margin last : ℕ) (stretches : List Stretch) (i : ℕ) → Stretch
wide_at margin last stretches i = widened margin last (get_or stretches i (record { low = 0; high = 0 }))

pub wide_in_order : (margin last : ℕ) (trams : Trams) → OnTrack last trams → (i : ℕ) → i < length trams
    → (wide_at margin last trams i).low ≤ (wide_at margin last trams i).high
wide_in_order margin last trams placed i below =
    widened_in_order margin last (stretch_at trams i) (placed.in_order i below) (placed.below_last i below)

-- ---- answers

module _ (test : Stretch → Bool) (stretch : ℕ → Stretch) where
  pub no_answers : replicate most_trams false ≡ answers_by test stretch 0
  unfolding answers_by
  no_answers = filled_none most_trams (λ i. test (stretch i)) false

  pub one_answer_more : (i : ℕ) → i < most_trams → set (answers_by test stretch i) i (test (stretch i)) ≡ answers_by test stretch (i + 1)
  unfolding answers_by
  one_answer_more = filled_more most_trams (λ i. test (stretch i)) false

-- ---- the nearest

module _ (mark : ℕ) (stretch : ℕ → Stretch) where
  next : (i place : ℕ) → nearest_of mark stretch i ≡ Some place
      → nearest_of mark stretch (i + 1) ≡ Some (cond (goes_before mark (stretch i) (stretch place)) i place)
  unfolding nearest_of nearest_up_to
  next zero place e = let z : ◌≡◌ {A = ℕ} 0 1 = cc in absurd (omega arith)
  next (suc m) place e = let same : nearest_up_to mark stretch m ≡ place = cc in rw (add-one (suc m), ← same)

  pub nearer : (i place : ℕ) → nearest_of mark stretch i ≡ Some place → goes_before mark (stretch i) (stretch place) ≡ true
      → nearest_of mark stretch (i + 1) ≡ Some i
  nearer i place e before = next i place e ∙ rw before

  pub no_nearer : (i place : ℕ) → nearest_of mark stretch i ≡ Some place → goes_before mark (stretch i) (stretch place) ≡ false
      → nearest_of mark stretch (i + 1) ≡ Some place
  no_nearer i place e after = next i place e ∙ rw after
