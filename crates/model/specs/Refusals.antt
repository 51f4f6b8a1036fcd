-- Document 01, "Where a call can be turned down": the table of refusals. A call has the rows that test something that it is given.
-- They are checked downwards, and the first that holds is the answer. Assumes nothing.
use Rattle.std.specs.Prelude.{Bool, cond, not, List, [], ◌∷◌, ℕ, eqb, Result, Ok, Err}
use Rattle.model.specs.declared.Refusal.{Refusal}

-- a row of the table: its number, and whether its condition holds
pub record Row : Type 0 where
  pub number : ℕ
  pub holds : Bool

abbrev pub refuses : (number : ℕ) (holds : Bool) → Row
refuses number holds = record { number = number; holds = holds }

-- one row for all rows of a part that has been checked already: it has the number of that part's refusal, and holds unless that is 0
abbrev pub refused_as : (refusal : ℕ) → Row
refused_as refusal = refuses refusal (not (eqb refusal 0))

-- the number of the first row that holds, or 0
unfoldable pub first_refusal : List Row → ℕ
first_refusal [] = 0
first_refusal (r ∷ rows) = cond r.holds r.number (first_refusal rows)

-- what a call answers whose refusal has this number: what it serves where that is 0, and the refusal otherwise
unfoldable pub unless_refused : {A : Type 0} (refusal : ℕ) (refused : ℕ → A) (served : A) → A
unless_refused refusal refused served = cond (eqb refusal 0) served (refused refusal)

-- the answer of a call that this number refuses
abbrev pub Refused : {A : Type 0} (number : ℕ) → Result A Refusal
Refused number = Err (record { number = number })

-- ---- an answer as numbers

-- its status: 0, or the refusal's number
unfoldable pub status_of : {A : Type 0} → Result A Refusal → ℕ
status_of (Ok served) = 0
status_of (Err refusal) = refusal.number

-- its values: those of what is served, and none of a refusal
unfoldable pub values_by : {A B : Type 0} (values : A → List B) → Result A Refusal → List B
values_by values (Ok served) = values served
values_by values (Err refusal) = []

-- the values of an answer with this status: these where it is 0, and none of a refusal. They are numbers, signed ones or floats
unfoldable pub if_served : {A : Type 0} (status : ℕ) (values : List A) → List A
if_served status values = cond (eqb status 0) values []
