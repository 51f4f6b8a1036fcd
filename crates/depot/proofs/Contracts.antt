-- Every contract says that the answer is the one that the definition gives, and then what holds of it. So what is proved of the
-- definition's own answer holds of the answer of the code, however the code comes to it: one law for every call. Assumes nothing.
use mathlib.Core.Path.{◌≡◌, refl}

-- what a contract says of an answer: the equation, and the clauses after it
abbrev pub Meets : {A : Type 0} (Clauses : A → Type 0) (defined answer : A) → Type 0
Meets Clauses defined answer = (answer ≡ defined) × Clauses answer

pub met : {A : Type 0} (Clauses : A → Type 0) {defined answer : A} → Clauses defined → answer ≡ defined → Meets Clauses defined answer
met Clauses clauses e = rw e (refl, clauses)
