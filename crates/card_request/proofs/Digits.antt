-- The number in a text, digit by digit from the front: the whole text has digits alone where the rest of it has, and its number is the
-- one that the rest makes after those passed. A number only grows with further digits. Assumes nothing.
use Rattle.std.proofs.Common.{◌≡◌, ◌∙◌, true, false, List, [], ◌∷◌, ℕ, suc, ◌+◌, ◌-◌, ◌*◌, ◌≤◌, ◌<◌}
use Rattle.std.proofs.Common.{nat_le, length, get_or, drop, None, add-one, drop-cons, arith}
use Rattle.std.proofs.lemmas.Bool.Decides.{nat_tests}
use Rattle.std.proofs.Math.ListN.{drop_of_length-le}
use Rattle.std.specs.Bool.{then_some}
use Rattle.std.specs.Char.{is_ascii_digit}
use Rattle.card_request.specs.Request.{is_digit, all_digits, number_after, number_in, is_number, number_text}

-- the number after one digit more
abbrev pub further : (number b : ℕ) → ℕ
further number b = 10 * number + (b - 48)

grows : (number : ℕ) (text : List ℕ) → number ≤ number_after number text
unfolding number_after
grows number [] = omega arith
grows number (b ∷ text) = omega (arith, grows (further number b) text)

-- the first i bytes are digits, and make this number
pub record ReadTo (text : List ℕ) (number i : ℕ) : Type 0 where
  pub digits : all_digits text ≡ all_digits (drop i text)
  pub makes : number_in text ≡ number_after number (drop i text)

module _ (most : ℕ) (text : List ℕ) where
  pub empty_text : length text ≡ 0 → None ≡ number_text most text
  unfolding number_text is_number
  empty_text e = grind (arith, nat_tests)

  -- all bytes are passed
  pub all_read : (number i : ℕ) → ReadTo text number i → length text ≤ i → (length text ≡ 0 → ⊥)
      → then_some (nat_le number most) number ≡ number_text most text
  unfolding all_digits number_after number_text is_number
  all_read number i read end some =
      let none_left : drop i text ≡ [] = drop_of_length-le text end in
      let digits = rw none_left at read.digits in
      let makes = rw none_left at read.makes in
      grind (arith, nat_tests)

-- the next byte
module _ (text : List ℕ) (number i : ℕ) (read : ReadTo text number i) (more : i < length text) where
  abbrev next : ℕ
  next = get_or text i 0

  pub not_a_digit : (most : ℕ) → is_ascii_digit next ≡ false → None ≡ number_text most text
  unfolding all_digits is_digit number_text is_number
  not_a_digit most e = let all : all_digits text ≡ false = read.digits ∙ rw (drop-cons text i 0 more, e) in grind (arith, nat_tests)

  makes : number_in text ≡ number_after (further number next) (drop (suc i) text)
  unfolding number_after
  makes = read.makes ∙ rw (drop-cons text i 0 more)

  pub too_large : (most : ℕ) → most < further number next → None ≡ number_text most text
  unfolding number_text is_number
  too_large most h =
      let above : most < number_in text = omega (arith, makes, grows (further number next) (drop (suc i) text)) in grind (arith, nat_tests)

  pub digit_read : is_ascii_digit next ≡ true → ReadTo text (further number next) (i + 1)
  unfolding all_digits is_digit
  digit_read e = rw add-one (record { digits = read.digits ∙ rw (drop-cons text i 0 more, e); makes = makes })
