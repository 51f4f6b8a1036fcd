-- The rows of a card: the twelve are its bytes from 4 on, and past the twelfth all are zero; a shift shows one that is too wide; and
-- what a chain finds among the rows from some place on is what the definitions search. Assumes nothing.
use Prim.Native.Nat.{ℕ, zero, suc, ◌+◌, ◌-◌, ◌*◌, ◌/◌, ◌^◌, ◌≤◌, ◌<◌}
use mathlib.Core.Path.{◌≡◌, sym, ◌∙◌, fun_ext}
use mathlib.Core.Bool.{Bool, true, false, not, ◌&&◌}
use mathlib.Core.List.{List}
use mathlib.Core.Logic.{⊎_elim}
use borrow.Author.Tests.{lt-ltb, le-ltb, lt-leb, le-leb, ne_eqb}
use native.Mathlib.Nat.{div-eq_of_lt, le-div_iff_mul-le}
use native.Mathlib.Omega.{arith}
use lib.Dec.{leb, eqb}
use lib.ListN.{length, get_or, drop, length-drop, get_or-eq_default}
use Rattle.std.proofs.lemmas.List.{get_or-drop}
use lib.Pow.{pow_pos}
use Rattle.std.specs.Prelude.{MatchBool}
use Rattle.std.specs.Fn.{Called, Mut}
use Rattle.std.specs.Array.{IsFromFnResultFrom}
use Rattle.std.specs.List.{AllWithin, HoldsAt}
use Rattle.bits.specs.Searches.{any_below}
use Rattle.bits.proofs.Numbers.{lt_or_le, eq_or_ne}
use Rattle.bits.proofs.Searches.{any_none, any_some}
use Rattle.model.specs.Card.{high_first, row_of}

pub row_of_bytes : (b : List ℕ) (z : ℕ) → z < 12 → row_of b z ≡ high_first b (4 + 8 * z) 8
unfolding row_of
row_of_bytes b z h = rw (lt-ltb z 12 h)

-- calls that leave f as it is and answer h of each number below m make a list of h's values
pub from_calls : {F : Type 0} (g : Mut F (ℕ × Unit {0}) ℕ) (f : F) (h : ℕ → ℕ) (m : ℕ)
    → ((i y : ℕ) (q : F) → i < m → Called g f (i, tt) y q → (q ≡ f) × (y ≡ h i))
    → (ys : List ℕ) (i n : ℕ) → i + n ≤ m → IsFromFnResultFrom g f ys i n → (z : ℕ) → i ≤ z → z < i + n → get_or ys z 0 ≡ h z
from_calls g f h m answers ys i zero room made z low high = absurd (omega arith)
from_calls g f h m answers ys i (suc n) room (q, y, here, called, more) z low high =
    let (same, is) = answers i y q (omega arith) called in
    ⊎_elim (λ (this : z ≡ i). rw this (here.1 0 ∙ is))
    (λ (later : z ≡ i → ⊥).
    from_calls g f h m answers ys (i + 1) n (omega arith) (rw same at more) z (omega arith) (omega arith))
    (eq_or_ne z i)

-- twelve numbers that are these rows give the card's rows at every number
pub rows_alike : (b rows : List ℕ) → length rows ≡ 12 → ((z : ℕ) → z < 12 → get_or rows z 0 ≡ row_of b z)
    → (λ z. get_or rows z 0) ≡ row_of b
unfolding row_of
rows_alike b rows twelve same =
    fun_ext
    (λ z.
    ⊎_elim (λ h. same z h)
    (λ h. get_or-eq_default rows 0 (omega arith) ∙ rw (le-ltb z 12 h))
    (lt_or_le z 12))

-- a row has a bit at n or above just where it is not 0 shifted down by n
pub wide_by_shift : (n row : ℕ) → not (eqb (row / 2 ^ n) 0) ≡ leb (2 ^ n) row
wide_by_shift n row = ⊎_elim narrow wide (lt_or_le row (2 ^ n))
  where
    narrow : row < 2 ^ n → not (eqb (row / 2 ^ n) 0) ≡ leb (2 ^ n) row
    narrow h = rw (div-eq_of_lt h, lt-leb (2 ^ n) row h)

    wide : 2 ^ n ≤ row → not (eqb (row / 2 ^ n) 0) ≡ leb (2 ^ n) row
    wide h =
        let some : 1 ≤ row / 2 ^ n = (le-div_iff_mul-le (pow_pos n)).1 (omega arith) in
        rw (le-leb (2 ^ n) row h, ne_eqb (row / 2 ^ n) 0 (omega arith))

-- whether a test holds of some number of a list from place k on, as a chain tells it
pub any_from : (test : ℕ → Bool) (xs : List ℕ) (k n : ℕ) (r : Bool) → length xs ≡ n
    → MatchBool r ((j : ℕ) × (j < length (drop k xs)) × HoldsAt (λ x. test x ≡ true) (drop k xs) j)
    (AllWithin (λ x. test x ≡ false) (drop k xs) 0 (length (drop k xs)))
    → r ≡ any_below (λ z. leb k z && test (get_or xs z 0)) n
any_from test xs k n true is_n (j, inside, holds) =
    let here : test (get_or xs (k + j) 0) ≡ true = rw (← get_or-drop k xs j 0) (holds 0) in
    sym (any_some _ n (k + j) (omega (arith, length-drop k xs)) (rw (le-leb k (k + j) (omega arith)) here))
any_from test xs k n false is_n none =
    sym
    (any_none _ n
    (λ z l.
    ⊎_elim (λ (before : z < k). rw (lt-leb k z before))
    (λ (behind : k ≤ z).
    let place : k + (z - k) ≡ z = omega arith in
    rw (le-leb k z behind) (rw (get_or-drop k xs (z - k) 0, place) at (none (z - k) 0 (omega arith) (omega (arith, length-drop k xs)))))
    (lt_or_le z k)))
