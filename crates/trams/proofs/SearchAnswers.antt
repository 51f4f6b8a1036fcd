-- What a search answers by the code's last position, margin and refusal, one law for each way out: refused, or served. Assumes nothing.
use mathlib.Core.Path.{◌≡◌, sym, ◌∙◌}
use mathlib.Core.Bool.{Bool}
use mathlib.Core.List.{List}
use mathlib.Core.Logic.{⊎_elim}
use Prim.Native.Nat.{ℕ}
use Rattle.std.specs.Prelude.{length, Option, Result, Ok, Err}
use Rattle.bits.proofs.Numbers.{eq_or_ne}
use Rattle.model.specs.Refusals.{first_refusal, Refused, unless_refused}
use Rattle.model.specs.Card.{Code}
use Rattle.model.specs.Order.{last_position}
use Rattle.model.specs.Trams.{Trams, stretch_at, margin, widened, widened_at, rows_of_trams, answers_by, each_tram_unless, each_tram_on}
use Rattle.model.specs.NearestTram.{nearest_of, nearest_on}
use Rattle.model.specs.declared.Refusal.{Refusal}
use Rattle.model.specs.declared.Stretch.{Stretch}
use Rattle.code_theory.proofs.RefusalRows.{served_if_none, refused_if_some}
use Rattle.tram_theory.specs.Stretches.{OnTrack}
use Rattle.tram_theory.proofs.Stretches.{on_track}

-- where the trams are refused, so is the search, by the same refusal; and where they are not, the number is 0
refused_alike : {A B : Type 0} (number : ℕ) (refusal : Refusal) (served : A) (other : B)
    → Err refusal ≡ unless_refused number Refused (Ok served) → Err refusal ≡ unless_refused number Refused (Ok other)
refused_alike {A} {B} number refusal served other is =
    ⊎_elim
    (λ (none : number ≡ 0).
    let same : ◌≡◌ {A = Result A Refusal} (Err refusal) (Ok served) = is ∙ served_if_none number Refused (Ok served) none in cc)
    (λ (some : number ≡ 0 → ⊥).
    let same : ◌≡◌ {A = Result A Refusal} (Err refusal) (Refused number) = is ∙ refused_if_some number Refused (Ok served) some in
    let its : refusal ≡ record { number = number } = cc in rw its (sym (refused_if_some number Refused (Ok other) some)))
    (eq_or_ne number 0)

not_refused : {A : Type 0} (number : ℕ) (done served : A) → Ok done ≡ unless_refused number Refused (Ok served) → number ≡ 0
not_refused {A} number done served is =
    ⊎_elim (λ (none : number ≡ 0). none)
    (λ (some : number ≡ 0 → ⊥).
    let same : ◌≡◌ {A = Result A Refusal} (Ok done) (Refused number) = is ∙ refused_if_some number Refused (Ok served) some in cc)
    (eq_or_ne number 0)

-- what the code found out of a sound code and the trams: the last position, and by rows 18 and 19 a refusal or none
module _ (C : Code) (trams : Trams) (first second : ℕ) {last : ℕ} (last_is : last ≡ last_position C) where
  abbrev number : ℕ
  number = first_refusal (rows_of_trams last trams first second)

  abbrev Tested : Result (Unit {0}) Refusal → Type 0
  Tested tested = tested ≡ unless_refused number Refused (Ok tt)

  -- what the passes through the list ask for
  pub placed : {done : Unit {0}} → Tested (Ok done) → OnTrack last trams
  placed {done} tested = on_track last trams first second (not_refused number done tt tested)

  module _ (test : Stretch → Bool) where
    pub each_refused : (refusal : Refusal) → Tested (Err refusal) → Err refusal ≡ each_tram_on test C trams first second
    unfolding each_tram_on each_tram_unless
    each_refused refusal tested = rw (← last_is) (refused_alike number refusal tt _ tested)

    pub each_served : {done : Unit {0}} → Tested (Ok done) → {reach : ℕ} → reach ≡ margin C → {answers : List Bool}
        → answers ≡ answers_by test (λ i. widened reach last (stretch_at trams i)) (length trams)
        → Ok answers ≡ each_tram_on test C trams first second
    unfolding each_tram_on each_tram_unless widened_at
    each_served {done} tested reach-is are =
        rw (are, reach-is, last_is) (sym (served_if_none _ Refused _ (rw last_is at (not_refused number done tt tested))))

module _ (C : Code) (trams : Trams) (mark : ℕ) {last : ℕ} (last_is : last ≡ last_position C) where
  pub nearest_refused : (refusal : Refusal) → Tested C trams mark mark last_is (Err refusal) → Err refusal ≡ nearest_on C trams mark
  unfolding nearest_on
  nearest_refused refusal tested = rw (← last_is) (refused_alike _ refusal tt _ tested)

  pub nearest_served : {done : Unit {0}} → Tested C trams mark mark last_is (Ok done) → {reach : ℕ} → reach ≡ margin C → {place : Option ℕ}
      → place ≡ nearest_of mark (λ i. widened reach last (stretch_at trams i)) (length trams) → Ok place ≡ nearest_on C trams mark
  unfolding nearest_on widened_at
  nearest_served {done} tested reach-is is =
      rw (is, reach-is, last_is) (sym (served_if_none _ Refused _ (rw last_is at (not_refused _ done tt tested))))

-- every way out of a search
pub ruleset ways_out = (placed, each_refused, each_served, nearest_refused, nearest_served)
