-- The laws for both calls on the yard, one for each way out: a wrong count of what is lent, a refusal, and what is left where the call is
-- served. Where what is returned and left decodes to the library's answer, whatever is promised of that holds of what is decoded. Assumes
-- nothing.
use Rattle.std.proofs.Common.{◌≡◌, refl, sym, subst, ◌∙◌, arith, List, ℕ, length, [], Bool, false}
use Rattle.std.proofs.lemmas.Bool.{ne_eqb}
use mathlib.Core.Logic.{◌⊎◌, ⊎_elim}
use Rattle.model.specs.declared.Yard.{Yard}
use Rattle.dunnavish.specs.Crossing.{number_count, wrong_count, status_for, left_by, UnchangedUnlessZero}
use Rattle.dunnavish.specs.YardNumbers.{yard_count, yard_left_by}
use Rattle.dunnavish.proofs.Lent.{wrong_count_crosses, status_lent}

-- of the definition's answer: its status, its values and the yard that it leaves
module _ {R : Type 0} (status : ℕ) (values : List ℕ) (after : Yard) (decoded : (s : ℕ) (values yard : List ℕ) → R)
    (Promise : R → Type 0) (numbers lent : List ℕ) (changed : (s : ℕ) → Bool) where
  -- the contract of a call: its status, the value and the yard that are left, and the promise of what is decoded
  abbrev pub YardContract : (s : ℕ) (left yard : List ℕ) → Type 0
  YardContract s values_left yard =
      record {
        status : s ≡ status_for yard_count numbers (status_for number_count lent status);
        left : values_left ≡ left_by s values lent;
        yard_left : yard ≡ yard_left_by (changed s) after numbers;
        unchanged : UnchangedUnlessZero lent s values_left × UnchangedUnlessZero numbers s yard;
        promises : length numbers ≡ yard_count → length lent ≡ number_count → Promise (decoded s values_left yard);
      }

  -- a status other than 0, by which the yard does not change
  not_served : (s : ℕ) → (s ≡ 0 → ⊥) → changed s ≡ false → s ≡ status_for yard_count numbers (status_for number_count lent status)
      → (length numbers ≡ yard_count → length lent ≡ number_count → Promise (decoded s lent numbers)) → YardContract s lent numbers
  unfolding left_by yard_left_by UnchangedUnlessZero
  not_served s some kept is promised =
      record { status = is; left = rw (ne_eqb s 0 some); yard_left = rw kept; unchanged = (λ _. refl, λ _. refl); promises = promised }

  pub miscounted : changed wrong_count ≡ false
      → (length numbers ≡ yard_count → ⊥) ⊎ ((length numbers ≡ yard_count) × (length lent ≡ number_count → ⊥))
      → YardContract wrong_count lent numbers
  miscounted kept either =
      let nonzero : wrong_count ≡ 0 → ⊥ = λ is. omega (arith, is) in
      ⊎_elim
      (λ (other : length numbers ≡ yard_count → ⊥).
      not_served wrong_count nonzero kept (wrong_count_crosses yard_count numbers other _ []).0 (λ whole _. absurd (other whole)))
      (λ (whole, other).
      not_served wrong_count nonzero kept
      ((wrong_count_crosses number_count lent other _ []).0 ∙ sym (status_lent yard_count numbers whole _)) (λ _ one. absurd (other one)))
      either

  module _ (whole : length numbers ≡ yard_count) (one : length lent ≡ number_count) (defined : R) (promised : Promise defined) where
    status_crosses : (s : ℕ) → status ≡ s → s ≡ status_for yard_count numbers (status_for number_count lent status)
    status_crosses s is = sym is ∙ sym (status_lent number_count lent one _) ∙ sym (status_lent yard_count numbers whole _)

    pub yard_refused : (s : ℕ) → (s ≡ 0 → ⊥) → changed s ≡ false → status ≡ s → decoded s lent numbers ≡ defined
        → YardContract s lent numbers
    yard_refused s some kept is back = not_served s some kept (status_crosses s is) (λ _ _. subst Promise (sym back) promised)

    pub yard_served : (left yard : List ℕ) → status ≡ 0 → left ≡ values → yard ≡ yard_left_by (changed 0) after numbers
        → decoded 0 left yard ≡ defined → YardContract 0 left yard
    unfolding left_by UnchangedUnlessZero
    yard_served left yard is put put_yard back =
        record {
          status = status_crosses 0 is;
          left = put;
          yard_left = put_yard;
          unchanged = (λ some. absurd (some refl), λ some. absurd (some refl));
          promises = λ _ _. subst Promise (sym back) promised;
        }
