use Rattle.std.proofs.Common.{◌≡◌, get_or, sym, ◌∙◌, arith}
use Rattle.std.proofs.lemmas.Bool.Decides.{nat_tests}
use Rattle.card_request.proofs.Digits.{empty_text, all_read, not_a_digit, too_large, digit_read, further}
use Rattle.card_request.proofs.number_in.Goals as goal

pub returns-then-is_empty : goal.returns-then-is_empty
returns-then-is_empty c = empty_text _ _ (grind (arith, nat_tests))

pub returns-then-not-is_ascii_digit : goal.returns-then-not-is_ascii_digit
returns-then-not-is_ascii_digit c =
    not_a_digit _ _ _ c.loop-byte.invariant c.loop-byte-test.true _ (sym c.is_ascii_digit.ensures.value ∙ c.if-not-is_ascii_digit.true)

pub returns-in_err-checked_mul : goal.returns-in_err-checked_mul
returns-in_err-checked_mul c =
    c.from_residual.ensures ∙ too_large _ _ _ c.loop-byte.invariant c.loop-byte-test.true _ (omega (arith, c.in_err-checked_mul.ensures))

pub returns-in_err-number : goal.returns-in_err-number
returns-in_err-number c =
    c.from_residual-in_err-number.ensures
    ∙ too_large _ _ _ c.loop-byte.invariant c.loop-byte-test.true _
    (omega (arith, c.in_ok-checked_mul.ensures, c.in_err-number.ensures))

pub loop-byte-preserved : goal.loop-byte-preserved
loop-byte-preserved c =
    let is : c.in_ok-number.number ≡ further c.loop-byte.number (get_or c.args.text.now c.loop-byte.byte-index 0) =
    omega (arith, c.in_ok-checked_mul.ensures, c.in_ok-number.ensures) in
    rw is (digit_read _ _ _ c.loop-byte.invariant c.loop-byte-test.true
    (sym c.is_ascii_digit.ensures.value ∙ c.if-not-is_ascii_digit.false))

pub returns : goal.returns
returns c =
    c.then_some.ensures ∙ all_read _ _ _ _ c.loop-byte.invariant c.loop-byte-test.false (grind (arith, nat_tests))
