-- The laws for all calls for C, one for each way out: the wrong count, a refusal, and the values put down. Each gives the whole contract of
-- a call from what the library's own contract says of its answer: where the right count is lent, what is returned and left decodes to that
-- answer, so whatever is promised of it holds of what is decoded. Assumes nothing.
use mathlib.Core.Path.{◌≡◌, refl, sym, ap, subst, ◌∙◌}
use mathlib.Core.Bool.{false, false≢true}
use mathlib.Core.List.{List, []}
use Prim.Native.Nat.{ℕ}
use borrow.Author.Tests.{eq-eqb}
use lib.Dec.{eqb}
use lib.ListN.{length}
use lib.Seq.{sets}
use Rattle.model.specs.Refusals.{unless_refused, if_served}
use Rattle.code_theory.proofs.RefusalRows.{served_if_none, refused_if_some}
use Rattle.dunnavish.specs.Crossing.{wrong_count, status_for, left_by, UnchangedUnlessZero}
use Rattle.dunnavish.proofs.Lent.{Crosses, wrong_count_crosses, refusal_crosses, values_cross, unchanged_by, all_stored}

module _ {A B : Type 0} (status : A → ℕ) (values : A → List B) where
  -- what the library's contract says of the values of what it answers: where it serves they are the values expected, and there are some
  abbrev pub Serves : (expected : List B) (answered : A) → Type 0
  Serves expected answered = (values answered ≡ if_served (status answered) expected) × (eqb (length expected) 0 ≡ false)

  -- a refusal has no values, so it has not the number 0
  pub refused_nonzero : {answered refusal : A} (expected : List B) → Serves expected answered → answered ≡ refusal → values refusal ≡ []
      → status refusal ≡ 0 → ⊥
  unfolding if_served
  refused_nonzero {answered} expected (serves, some) is none served-0 =
      let no_values : expected ≡ [] = sym (serves ∙ rw (eq-eqb (status answered) 0 (ap status is ∙ served-0))) ∙ ap values is ∙ none in
      false≢true (sym some ∙ rw no_values)

  -- what crosses of a refusal, and of what is served, where the right count is lent
  module _ {count : ℕ} (lent : List B) {answer answered : A} (alike : length lent ≡ count) (is : answered ≡ answer) where
    pub refused_crosses : (expected : List B) → Serves expected answered → {refusal : A} {n : ℕ} → answered ≡ refusal
        → status refusal ≡ n → values refusal ≡ [] → Crosses count lent (status answer) (values answer) n lent
    refused_crosses expected serves {refusal} {n} refused number none =
        let nonzero : n ≡ 0 → ⊥ = λ zero. refused_nonzero expected serves refused none (number ∙ zero) in
        rw (ap status (sym is ∙ refused) ∙ number) (refusal_crosses count lent alike n nonzero (values answer))

    served_crosses : {served : A} {left : List B} → answered ≡ served → status served ≡ 0 → left ≡ values served
        → Crosses count lent (status answer) (values answer) 0 left
    served_crosses {served} {left} given zero put =
        let same : answer ≡ served = sym is ∙ given in
        rw (ap status same ∙ zero, ap values same, put) (values_cross count lent alike (values served))

    -- the values put down by one store for each
    pub stored_crosses : {served : A} → answered ≡ served → status served ≡ 0 → length (values served) ≡ count
        → Crosses count lent (status answer) (values answer) 0 (sets lent 0 (values served))
    stored_crosses {served} given zero size = served_crosses given zero (all_stored (values served) lent (alike ∙ sym size))

module _ {A B : Type 0} (status : A → ℕ) (values : A → List B) (refusal : ℕ → A) (decoded : ℕ → List B → A) (Promise : A → Type 0) where
  -- what the library's contract says of its answer: it is the definition's, its status and its values, and what is promised of it
  abbrev Ensured : (answer : A) (number : ℕ) (expected : List B) (answered : A) → Type 0
  Ensured answer number expected answered =
      (answered ≡ answer) × ((status answered ≡ number) × ((values answered ≡ if_served (status answered) expected) × Promise answered))

  -- the contract of a call: its status, what is left, that nothing has changed unless the status is 0, and the promise of what is decoded
  abbrev pub Contract : (count : ℕ) (lent : List B) (answer : A) (s : ℕ) (left : List B) → Type 0
  Contract count lent answer s left =
      (s ≡ status_for count lent (status answer))
      × ((left ≡ left_by s (values answer) lent) × (UnchangedUnlessZero lent s left × (length lent ≡ count → Promise (decoded s left))))

  module _ {count : ℕ} (lent : List B) (answer : A) where
    inherits : (s : ℕ) (left : List B) → Crosses count lent (status answer) (values answer) s left
        → (length lent ≡ count → Promise (decoded s left)) → Contract count lent answer s left
    inherits s left (is-status, is-left) promised =
        (is-status, (is-left, (unchanged_by s (values answer) lent left is-left, promised)))

    pub wrong_count_lem : (length lent ≡ count → ⊥) → Contract count lent answer wrong_count lent
    wrong_count_lem other_length =
        inherits wrong_count lent (wrong_count_crosses count lent other_length (status answer) (values answer))
        (λ alike. absurd (other_length alike))

    module _ (alike : length lent ≡ count) {number : ℕ} (expected : List B) {answered : A}
        (ensured : Ensured answer number expected answered) where
      pub refused : eqb (length expected) 0 ≡ false → (n : ℕ) → answered ≡ refusal n → status (refusal n) ≡ n → values (refusal n) ≡ []
          → (other : A) → decoded n lent ≡ unless_refused n refusal other → Contract count lent answer n lent
      refused some n given number_is none other decodes =
          let (is, (_, (serves, promised))) = ensured in
          let nonzero : n ≡ 0 → ⊥ = λ zero. refused_nonzero status values expected (serves, some) given none (number_is ∙ zero) in
          let back : decoded n lent ≡ answered = decodes ∙ refused_if_some n refusal other nonzero ∙ sym given in
          inherits n lent (refused_crosses status values lent alike is expected (serves, some) given number_is none)
          (λ _. subst Promise (sym back) promised)

      pub served : (answers : A) (left : List B) → answered ≡ answers → status answers ≡ 0 → left ≡ values answers
          → decoded 0 (values answers) ≡ unless_refused 0 refusal answers → Contract count lent answer 0 left
      served answers left given zero put decodes =
          let (is, (_, (_, promised))) = ensured in
          let back : decoded 0 left ≡ answered = ap (decoded 0) put ∙ decodes ∙ served_if_none 0 refusal answers refl ∙ sym given in
          inherits 0 left (served_crosses status values lent alike is given zero put) (λ _. subst Promise (sym back) promised)

      -- by one store for each of them
      pub stored : (answers : A) → answered ≡ answers → status answers ≡ 0 → length (values answers) ≡ count
          → decoded 0 (values answers) ≡ unless_refused 0 refusal answers → Contract count lent answer 0 (sets lent 0 (values answers))
      stored answers given zero size =
          served answers (sets lent 0 (values answers)) given zero (all_stored (values answers) lent (alike ∙ sym size))
