-- A number typed in decimal, as the programs print it, reads as that number: a tenth of it, by its digits but the last, and then the last
-- digit. So `number_in` is the number that a text is in decimal. Assumes nothing.
use Rattle.std.proofs.Common.{◌≡◌, refl, true, List, [], ◌∷◌, ◌++◌, ⊎_elim, ℕ, zero, suc, ◌/◌, ◌%◌, ◌≤◌, ◌<◌, Some, arith}
use Rattle.std.proofs.lemmas.Bool.Decides.{nat_tests}
use Rattle.bits.proofs.Numbers.{lt_or_le, and_true_left, and_true_right}
use Rattle.report.specs.Text.{digit, decimal}
use Rattle.report.proofs.Decimal.{decimal_below_ten, decimal_more, has_digit}
use Rattle.card_request.specs.Request.{is_digit, all_digits, number_after, number_in, is_number, number_text}
use Rattle.card_request.proofs.Digits.{further}

-- one digit more at the end
number_more : (before : ℕ) (text : List ℕ) (b : ℕ) → number_after before (text ++ (b ∷ [])) ≡ further (number_after before text) b
unfolding number_after
number_more before [] b = refl
number_more before (a ∷ text) b = number_more (further before a) text b

digits_more : (text : List ℕ) (b : ℕ) → is_digit b ≡ true → all_digits text ≡ true → all_digits (text ++ (b ∷ [])) ≡ true
unfolding all_digits
digits_more [] b last all = rw last
digits_more (a ∷ text) b last all =
    rw (and_true_left (is_digit a) _ all) (digits_more text b last (and_true_right (is_digit a) _ all))

digit_byte : (d : ℕ) → d < 10 → is_digit (digit d) ≡ true
unfolding is_digit
digit_byte d h = grind (arith, nat_tests)

-- m is any number above x
digits_of : (m x : ℕ) → x < m → (number_in (decimal x) ≡ x) × (all_digits (decimal x) ≡ true)
unfolding all_digits number_after
digits_of zero x h = absurd (omega arith)
digits_of (suc m) x h =
    ⊎_elim (λ (one : x < 10). rw (decimal_below_ten x one) (omega arith, rw (digit_byte x one)))
    (λ (more : 10 ≤ x).
    let tenth = decimal (x / 10) in
    let (number, digits) = digits_of m (x / 10) (omega arith) in
    rw (decimal_more x more) (
      rw (number_more 0 tenth (digit (x % 10)), number) (omega arith),
      digits_more tenth (digit (x % 10)) (digit_byte (x % 10) (omega arith)) digits,
    ))
    (lt_or_le x 10)

pub decimal_read : (most x : ℕ) → x ≤ most → number_text most (decimal x) ≡ Some x
unfolding number_text is_number
decimal_read most x fits =
    let (number, digits) = digits_of (suc x) x (omega arith) in grind (arith, nat_tests, has_digit x)
