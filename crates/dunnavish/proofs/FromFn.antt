-- An array that a closure gave, entry by entry: where a call leaves the closure as it was, and answers what the function gives of the place,
-- the array is that function's list. Assumes nothing.
use Rattle.std.proofs.Common.{◌≡◌, subst, ◌∙◌, arith, ℕ, zero, suc, ◌+◌, ◌<◌, List, get_or}
use Rattle.std.specs.Array.{IsFromFnResult, IsFromFnResultFrom}
use native.Mathlib.Nat.{zero-add}
use denote.Param.Members.{Mut, Called}
use Rattle.bits.specs.Places.{list_of}
use Rattle.bits.proofs.FilledLists.{is_list_of}

module _ {F B : Type 0} (g : Mut F (ℕ × Unit {0}) B) (f : F) (h : ℕ → B)
    (keeps : (i : ℕ) (y : B) (q : F) → Called g f (i, tt) y q → q ≡ f)
    (gives : (i : ℕ) (y : B) (q : F) → Called g f (i, tt) y q → y ≡ h i) (past : B) (ys : List B) where
  entry_given : (n i k : ℕ) → IsFromFnResultFrom g f ys i n → k < n → get_or ys (i + k) past ≡ h (i + k)
  entry_given zero i k made below = absurd (omega (arith, below))
  entry_given (suc n) i zero (q, y, at, called, rest) below =
      let here : i + 0 ≡ i = omega arith in rw here (at.1 past ∙ gives i y q called)
  entry_given (suc n) i (suc k) (q, y, at, called, rest) below =
      let next : i + suc k ≡ i + 1 + k = omega arith in
      rw next (entry_given n (i + 1) k (subst (λ (p : F). IsFromFnResultFrom g p ys (i + 1) n) (keeps i y q called) rest) (omega (arith, below)))

  pub from_fn_list : (n : ℕ) → IsFromFnResult g f ys n → ys ≡ list_of n h
  from_fn_list n made = is_list_of past n h ys made.long (λ k below. rw zero-add at (entry_given n 0 k made.each below))
