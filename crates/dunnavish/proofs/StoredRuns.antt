-- A run of numbers that are stored one by one: from place a on, i numbers are f's. A store at its end makes it longer, and one elsewhere keeps
-- it; two runs that follow one another are one; and a run of all numbers is f's list. Assumes nothing.
use Rattle.std.proofs.Common.{◌≡◌, sym, ap, ◌∙◌, arith, ℕ, ◌+◌, ◌-◌, ◌≤◌, ◌<◌, List, length, get_or, set, get_or-set_same, get_or-set_other, below_more}
use Rattle.std.proofs.lemmas.Bool.{cases_lt}
use mathlib.Core.Logic.{◌⊎◌, ⊎_elim}
use native.Mathlib.Nat.{zero-add}
use Rattle.bits.specs.Places.{list_of}
use Rattle.bits.proofs.FilledLists.{is_list_of}

module _ (f : ℕ → ℕ) where
  abbrev pub Run : (a i : ℕ) → List ℕ → Type 0
  Run a i numbers = (p : ℕ) → p < i → get_or numbers (a + p) 0 ≡ f (a + p)

  pub run_kept : (a i at x : ℕ) (numbers : List ℕ) → (at < a) ⊎ (a + i ≤ at) → Run a i numbers → Run a i (set numbers at x)
  run_kept a i at x numbers elsewhere run p below =
      ⊎_elim
      (λ (before : at < a). get_or-set_other numbers at (a + p) x 0 (omega arith) ∙ run p below)
      (λ (behind : a + i ≤ at). get_or-set_other numbers at (a + p) x 0 (omega arith) ∙ run p below) elsewhere

  pub run_more : (a i at x : ℕ) (numbers : List ℕ) → a + i ≡ at → at < length numbers → x ≡ f at → Run a i numbers
      → Run a (i + 1) (set numbers at x)
  run_more a i at x numbers end inside is run =
      below_more _ _ (λ p below. get_or-set_other numbers at (a + p) x 0 (omega arith) ∙ run p below)
      (rw end (get_or-set_same numbers at x 0 inside ∙ is))

  pub run_joined : (a i b j : ℕ) (numbers : List ℕ) → a + i ≡ b → Run a i numbers → Run b j numbers → Run a (i + j) numbers
  run_joined a i b j numbers next first second p below =
      ⊎_elim (λ (inside : p < i). first p inside)
      (λ (past : i ≤ p).
      let at : b + (p - i) ≡ a + p = omega arith in
      ap (λ (k : ℕ). get_or numbers k 0) (sym at) ∙ second (p - i) (omega arith) ∙ ap f at)
      (cases_lt p i)

  pub run_of_all : (m : ℕ) (numbers : List ℕ) → length numbers ≡ m → Run 0 m numbers → numbers ≡ list_of m f
  run_of_all m numbers size run = is_list_of 0 m f numbers size (λ p below. rw zero-add at (run p below))
