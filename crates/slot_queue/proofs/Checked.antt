-- What is known of a call's refusal once its rows are tested: where they refuse, it has their number, which is not 0, so that every answer which
-- the number refuses is this refusal; and where the call is served, the number is 0. Assumes nothing.
use Rattle.std.proofs.Common.{◌≡◌, ◌∙◌, sym, ℕ, Result, Ok, Err}
use Rattle.std.proofs.lemmas.Bool.{cases_eq}
use mathlib.Core.Logic.{⊎_elim}
use Rattle.model.specs.Refusals.{Refused, unless_refused}
use Rattle.model.specs.declared.Refusal.{Refusal}
use Rattle.code_theory.proofs.RefusalRows.{served_if_none, refused_if_some}

pub refused_as : {A B : Type 0} (number : ℕ) (served : A) (refusal : Refusal) (answer : Refusal → B) (other : B)
    → Err refusal ≡ unless_refused number Refused (Ok served)
    → answer refusal ≡ unless_refused number (λ n. answer (record { number = n })) other
refused_as {A} number served refusal answer other is =
    ⊎_elim
    (λ (none : number ≡ 0).
    let same : ◌≡◌ {A = Result A Refusal} (Err refusal) (Ok served) = is ∙ served_if_none number Refused (Ok served) none in cc)
    (λ (some : number ≡ 0 → ⊥).
    let same : ◌≡◌ {A = Result A Refusal} (Err refusal) (Refused number) = is ∙ refused_if_some number Refused (Ok served) some in
    let its : refusal ≡ record { number = number } = cc in
    rw its (sym (refused_if_some number (λ n. answer (record { number = n })) other some)))
    (cases_eq number 0)

pub not_refused : {A : Type 0} (number : ℕ) (answer : Result A Refusal) (done : A) → Ok done ≡ unless_refused number Refused answer → number ≡ 0
not_refused {A} number answer done is =
    ⊎_elim (λ (none : number ≡ 0). none)
    (λ (some : number ≡ 0 → ⊥).
    let same : ◌≡◌ {A = Result A Refusal} (Ok done) (Refused number) = is ∙ refused_if_some number Refused answer some in cc)
    (cases_eq number 0)
