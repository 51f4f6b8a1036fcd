-- Refusal 19: whether a test holds of any entry of a list, asked one by one. Assumes nothing.
use mathlib.Core.Path.{◌≡◌, refl, sym, ap, ◌∙◌}
use mathlib.Core.Bool.{Bool}
use mathlib.Core.List.{List}
use Prim.Native.Nat.{ℕ, zero, suc, ◌≤◌}
use native.Mathlib.Numerals.{add-one}
use native.Mathlib.Omega.{arith}
use native.Mathlib.Nat.{le_refl}
use lib.ListN.{get_or, length, take}
use Rattle.std.proofs.lemmas.List.{take_all}
use Rattle.std.specs.List.{list_any}
use Rattle.std.proofs.lemmas.List.Folds.{list_any_more}
use Rattle.bits.specs.Searches.{any_below}

any_of_first : {A : Type 0} (test : A → Bool) (xs : List A) (past : A) (m : ℕ) → m ≤ length xs
    → list_any test (take m xs) ≡ any_below (λ i. test (get_or xs i past)) m
unfolding any_below
any_of_first test xs past zero within = refl
any_of_first test xs past (suc m) within =
    rw (← (add-one m), list_any_more test xs m past (omega arith), any_of_first test xs past m (omega arith))

pub any_of_all : {A : Type 0} (test : A → Bool) (xs : List A) (past : A)
    → list_any test xs ≡ any_below (λ i. test (get_or xs i past)) (length xs)
any_of_all test xs past =
    ap (list_any test) (sym (take_all (length xs) xs (le_refl (length xs))))
    ∙ any_of_first test xs past (length xs) (le_refl (length xs))
