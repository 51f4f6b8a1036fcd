-- Rows of the table of refusals, for every call: where no row holds there is no refusal, the first row that holds is the answer, and
-- where there is no refusal no row holds, since no row has the number 0. A call whose refusal is 0 is served, and one with any other
-- is answered by it. Assumes nothing.
use mathlib.Core.Path.{◌≡◌, refl, sym, ◌∙◌}
use mathlib.Core.Bool.{Bool, true, false, cond, false≢true}
use mathlib.Core.List.{List, [], ◌∷◌, ◌++◌}
use mathlib.Core.Logic.{⊎_elim}
use Prim.Native.Nat.{ℕ}
use borrow.Author.Tests.{eq-eqb, ne_eqb}
use lib.Dec.{eqb}
use Rattle.bits.proofs.Numbers.{eq_or_ne}
use Rattle.std.specs.Prelude.{Result, Ok, Err}
use Rattle.model.specs.Refusals.{Refused, status_of, values_by}
use Rattle.model.specs.Refusals.{Row, refused_as, first_refusal, unless_refused, if_served}
use Rattle.model.specs.declared.Refusal.{Refusal}
use Rattle.code_theory.specs.Promise.{RefusalOf}
use Rattle.model.specs.Card.{card_refusal}

-- none of the rows holds
unfoldable pub NoneHolds : List Row → Type 0
NoneHolds [] = Unit {0}
NoneHolds (r ∷ rows) = (r.holds ≡ false) × NoneHolds rows

-- whether each row has a number of the table
unfoldable pub numbered : List Row → Bool
numbered [] = true
numbered (r ∷ rows) = cond (eqb r.number 0) false (numbered rows)

pub none_refuses : (rows : List Row) → NoneHolds rows → first_refusal rows ≡ 0
unfolding NoneHolds first_refusal
none_refuses [] none = refl
none_refuses (r ∷ rows) none = rw none.0 (none_refuses rows none.1)

pub first_refuses : (before : List Row) (r : Row) (after : List Row) → NoneHolds before → r.holds ≡ true
    → first_refusal (before ++ (r ∷ after)) ≡ r.number
unfolding NoneHolds first_refusal
first_refuses [] r after none holds = rw holds
first_refuses (b ∷ before) r after none holds = rw none.0 (first_refuses before r after none.1 holds)

-- where the answer is 0, a row with a number of the table does not hold, and the answer of those below it is 0
not_this : (holds : Bool) (number below : ℕ) → (number ≡ 0 → ⊥) → cond holds number below ≡ 0 → (holds ≡ false) × (below ≡ 0)
not_this true number below ne none = absurd (ne none)
not_this false number below ne none = (refl, none)

number_first : (number : ℕ) (rest : Bool) → cond (eqb number 0) false rest ≡ true → (number ≡ 0 → ⊥) × (rest ≡ true)
number_first number rest e =
    let ne : number ≡ 0 → ⊥ = λ zero. false≢true (rw (eq-eqb number 0 zero) at e) in (ne, rw (ne_eqb number 0 ne) at e)

pub none_holds : (rows : List Row) → numbered rows ≡ true → first_refusal rows ≡ 0 → NoneHolds rows
unfolding NoneHolds numbered first_refusal
none_holds [] all none = tt
none_holds (r ∷ rows) all none =
    let (ne, rest) = number_first r.number (numbered rows) all in
    let (here, below) = not_this r.holds r.number (first_refusal rows) ne none in
    (here, none_holds rows rest below)

-- rows that come after others, each of which has a number of the table, are looked at where none of those holds
pub rows_after_lem : (rows more : List Row) → numbered rows ≡ true
    → first_refusal (rows ++ more) ≡ cond (eqb (first_refusal rows) 0) (first_refusal more) (first_refusal rows)
unfolding numbered first_refusal
rows_after_lem [] more all = refl
rows_after_lem (r ∷ rows) more all =
    let (ne, rest) = number_first r.number (numbered rows) all in
    here r.holds (ne_eqb r.number 0 ne) (rows_after_lem rows more rest)
  where
    -- this row holds, or those below it decide
    here : (holds : Bool) → eqb r.number 0 ≡ false
        → first_refusal (rows ++ more) ≡ cond (eqb (first_refusal rows) 0) (first_refusal more) (first_refusal rows)
        → cond holds r.number (first_refusal (rows ++ more))
        ≡ cond (eqb (cond holds r.number (first_refusal rows)) 0) (first_refusal more) (cond holds r.number (first_refusal rows))
    here true numbered-here below = rw numbered-here
    here false numbered-here below = below

pub served_if_none : {A : Type 0} (refusal : ℕ) (refused : ℕ → A) (served : A) → refusal ≡ 0
    → unless_refused refusal refused served ≡ served
unfolding unless_refused
served_if_none refusal refused served none = rw (eq-eqb refusal 0 none)

pub refused_if_some : {A : Type 0} (refusal : ℕ) (refused : ℕ → A) (served : A) → (refusal ≡ 0 → ⊥)
    → unless_refused refusal refused served ≡ refused refusal
unfolding unless_refused
refused_if_some refusal refused served some = rw (ne_eqb refusal 0 some)

-- a call that has a card: its refusal comes first, and past it the call's own rows decide
module _ {A : Type 0} (card : ℕ) (rows : List Row) (refused : ℕ → A) (served : A) where
  pub refused_by_card : (card ≡ 0 → ⊥) → unless_refused (first_refusal (refused_as card ∷ rows)) refused served ≡ refused card
  unfolding first_refusal
  refused_by_card ne = rw (ne_eqb card 0 ne) (refused_if_some card refused served ne)

  pub past_card : card ≡ 0
      → unless_refused (first_refusal (refused_as card ∷ rows)) refused served ≡ unless_refused (first_refusal rows) refused served
  unfolding first_refusal
  past_card e = rw (eq-eqb card 0 e)

-- where such a call is not refused, neither is the card, nor by the call's own rows
pub none_past_card : (card : ℕ) (rows : List Row) → first_refusal (refused_as card ∷ rows) ≡ 0 → (card ≡ 0) × (first_refusal rows ≡ 0)
unfolding first_refusal
none_past_card card rows none =
    ⊎_elim (λ (e : card ≡ 0). (e, rw (eq-eqb card 0 e) at none))
    (λ (ne : card ≡ 0 → ⊥). absurd (ne (rw (ne_eqb card 0 ne) at none))) (eq_or_ne card 0)

-- ---- answers

-- what a contract says of an answer's status and values
abbrev pub StatusAndValues : {A B : Type 0} (status : A → ℕ) (values : A → List B) (refusal : ℕ) (expected : List B) (answer : A) → Type 0
StatusAndValues status values refusal expected answer = (status answer ≡ refusal) × (values answer ≡ if_served (status answer) expected)

-- one law for every call: its answer is what it serves where the refusal's number is 0, and is the refusal otherwise
pub status_and_values : {A B : Type 0} (status : A → ℕ) (values : A → List B) (refusal : ℕ) (expected : List B) (refused : ℕ → A) (served : A)
    → ((number : ℕ) → status (refused number) ≡ number) → ((number : ℕ) → values (refused number) ≡ [])
    → status served ≡ 0 → values served ≡ expected
    → StatusAndValues status values refusal expected (unless_refused refusal refused served)
unfolding if_served
status_and_values status values refusal expected refused served number none zero values-are =
    ⊎_elim
    (λ (e : refusal ≡ 0). rw (served_if_none refusal refused served e) (zero ∙ sym e, values-are ∙ rw zero))
    (λ (ne : refusal ≡ 0 → ⊥).
    rw (refused_if_some refusal refused served ne) (number refusal, none refusal ∙ rw (number refusal, ne_eqb refusal 0 ne)))
    (eq_or_ne refusal 0)

-- of an answer with nothing beside it: its values are those of what is served, where its status is 0
pub status_and_values_alone : {A B : Type 0} (values : A → List B) (refusal : ℕ) (served : A)
    → let answer : Result A Refusal = unless_refused refusal Refused (Ok served) in
    (status_of answer ≡ refusal) × (values_by values answer ≡ if_served (status_of answer) (values served))
unfolding status_of values_by
status_and_values_alone values refusal served =
    status_and_values status_of (values_by values) refusal (values served) Refused (Ok served) (λ number. refl) (λ number. refl) refl refl

-- a call with a card that is refused is answered by the card's refusal
pub err_by_card : {A : Type 0} (card : List ℕ) (refusal : Refusal) (rows : List Row) (served : A) → RefusalOf card refusal
    → Err refusal ≡ unless_refused (first_refusal (refused_as (card_refusal card) ∷ rows)) Refused (Ok served)
err_by_card card refusal rows served is = rw is.number (sym (refused_by_card refusal.number rows Refused (Ok served) is.not_zero))
