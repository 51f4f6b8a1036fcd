-- Decimal digits, a digit at a time: a number below ten is one digit, any other is its tenth's digits and one more. How much
-- room is allowed for the digits does not matter where there is enough. Assumes nothing.
use Prim.Native.Nat.{ℕ, zero, suc, ◌/◌, ◌%◌, ◌^◌, ◌≤◌, ◌<◌}
use mathlib.Core.Path.{◌≡◌, refl, sym, ◌∙◌}
use mathlib.Core.Logic.{⊎_elim}
use mathlib.Core.List.{[], ◌∷◌, ◌++◌}
use native.Mathlib.Omega.{arith}
use borrow.Author.Tests.{lt-ltb, le-ltb}
use lib.ListN.{length, length-append}
use Rattle.std.proofs.lemmas.Fmt.{decimal_by_steps}
use Rattle.std.specs.Fmt.{decimal as printed}
use Rattle.bits.proofs.Numbers.{lt_or_le}
use Rattle.report.specs.Text.{digit, digits_within, decimal}

-- a number below ten is one digit
within_below_ten : (m x : ℕ) → x < 10 → digits_within (suc m) x ≡ digit x ∷ []
unfolding digits_within
within_below_ten m x h = rw (lt-ltb x 10 h)

-- any other is its tenth's digits and the last
within_more : (m x : ℕ) → 10 ≤ x → digits_within (suc m) x ≡ digits_within m (x / 10) ++ (digit (x % 10) ∷ [])
unfolding digits_within
within_more m x h = rw (le-ltb x 10 h)

-- room for more digits than the number itself is always enough
within_enough : (m k x : ℕ) → x < m → x < k → digits_within m x ≡ digits_within k x
within_enough zero k x h l = absurd (omega arith)
within_enough (suc m) zero x h l = absurd (omega arith)
within_enough (suc m) (suc k) x h l =
    ⊎_elim (λ below. rw (within_below_ten m x below, within_below_ten k x below))
    (λ more. rw (within_more m x more, within_more k x more, within_enough m k (x / 10) (omega arith) (omega arith)))
    (lt_or_le x 10)

pub decimal_below_ten : (x : ℕ) → x < 10 → decimal x ≡ digit x ∷ []
unfolding decimal
decimal_below_ten x h = within_below_ten x x h

pub decimal_more : (x : ℕ) → 10 ≤ x → decimal x ≡ decimal (x / 10) ++ (digit (x % 10) ∷ [])
unfolding decimal
decimal_more x h = within_more x x h ∙ rw (within_enough x (suc (x / 10)) (x / 10) (omega arith) (omega arith))

-- a number has a digit
pub has_digit : (x : ℕ) → 1 ≤ length (decimal x)
has_digit x =
    ⊎_elim (λ below. rw (decimal_below_ten x below) (omega arith))
    (λ more. rw (decimal_more x more, length-append) (omega arith))
    (lt_or_le x 10)

-- it is what std prints of the number
pub decimal_printed : (x : ℕ) → x < 2 ^ 64 → printed x ≡ decimal x
decimal_printed x h =
    decimal_by_steps (λ n digits. digits ≡ decimal n) (λ n below. sym (decimal_below_ten n below))
    (λ n digits more tenth. rw (tenth, decimal_more n more) refl) x h
