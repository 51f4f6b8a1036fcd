-- Refusals 6, 8 and 9 of a plain word, and where none of them holds the word is answered by the rule that its separators name.
-- Assumes nothing.
use mathlib.Core.Path.{◌≡◌, refl, sym, fun_ext, ◌∙◌}
use mathlib.Core.Bool.{true, false, not}
use mathlib.Core.List.{List}
use Prim.Native.Nat.{ℕ, ◌<◌}
use native.Mathlib.Omega.{arith}
use borrow.Author.Tests.{eq-eqb, ne_eqb}
use lib.Dec.{eqb}
use lib.ListN.{length}
use Rattle.bits.specs.Sums.{marked}
use Rattle.bits.specs.Places.{place}
use Rattle.bits.proofs.Erasures.{unerased_ext}
use Rattle.model.specs.Refusals.{first_refusal, unless_refused}
use Rattle.model.specs.ReadWord.{spare_set, rows_of_word, read_word}
use Rattle.model.specs.Card.{Code}
use Rattle.model.specs.Reading.{seen, rule_named, separator_by, two_ends, rows_9_to_12, rows_seen, residual}
use Rattle.model.specs.Levels.{residual_unerased}
use Rattle.model.specs.Words.{word_bits, word_length}
use Rattle.code_theory.specs.Promise.{Sound}
use Rattle.code_theory.proofs.Promise.{promise, plain_reading}
use Rattle.code_theory.proofs.ChunkReading.{erasure_reading_ext}
use Rattle.code_theory.proofs.Starts.{word_bits_bound}
use Rattle.position_theory.proofs.PlainSeen.{plain_residual}
use Rattle.position_theory.proofs.WordBytes.{reading_of_seen, read_if_whole}
use Rattle.nearest_position.specs.declared.received.ReceivedWord.{ReceivedWord}
use Rattle.nearest_position.specs.Received.{PlainWord}
use Rattle.reader.specs.RuleAnswers.{SeesIn}
use Rattle.reader.specs.RuleAnswers.{AnswersRule, answer_by}
use Rattle.nearest_position.specs.Residuals.{residual_in}
use Rattle.model.specs.ReadWord.{ReadAnswer}
use Rattle.model.specs.Refusals.{Refused}

-- a plain word, all of whose places are marked
module _ (C : Code) (sound : Sound C) (received : List ℕ) (x : ReceivedWord) (plain : PlainWord received x) where
  all_marked : (p : ℕ) → p < word_bits C → marked (place x.unerased) p ≡ true
  all_marked p b = eq-eqb (place x.unerased p) 1 (plain.all_unerased p (omega (arith, word_bits_bound C sound)))

  -- what is seen of it is what is seen of the places marked, and so is the residual
  plain_in_array : SeesIn C x (seen C (place x.bits))
  unfolding seen
  plain_in_array =
      let read = plain_reading C (promise C sound) in
      record {
        first = read _ ∙ erasure_reading_ext C (λ p b. sym (all_marked _ (omega arith))) (λ p b. refl);
        second = read _ ∙ erasure_reading_ext C (λ p b. sym (all_marked _ (omega arith))) (λ p b. refl);
      }

  plain_residual_in : residual_in C x ≡ residual C (place x.bits)
  unfolding residual_unerased
  plain_residual_in =
      fun_ext (λ q. unerased_ext (word_bits C) all_marked (λ p b. refl) (λ p b. refl))
      ∙ sym (plain_residual C (place x.bits))

pub refused_6 : (C : Code) (received : List ℕ) → (length received ≡ word_length C → ⊥) → Refused 6 ≡ read_word C received
unfolding read_word rows_of_word first_refusal unless_refused
refused_6 C received other_length = rw (ne_eqb (length received) (word_length C) other_length)

module _ (C : Code) (received : List ℕ) (whole : length received ≡ word_length C)
    (ones : ℕ) (of_spare : not (eqb ones 0) ≡ spare_set C received) where
  -- by a count of ones that shows whether a spare bit is set
  spare_set_lem : (ones ≡ 0 → ⊥) → spare_set C received ≡ true
  spare_set_lem some = sym of_spare ∙ rw (ne_eqb ones 0 some)

  pub none_spare : ones ≡ 0 → spare_set C received ≡ false
  none_spare none = sym of_spare ∙ rw (eq-eqb ones 0 none)

  pub refused_8 : (ones ≡ 0 → ⊥) → Refused 8 ≡ read_word C received
  unfolding read_word rows_of_word first_refusal unless_refused
  refused_8 some = rw (eq-eqb (length received) (word_length C) whole, spare_set_lem some)

  module _ (none : ones ≡ 0) where
    -- the array that holds the received word, with nothing erased, is answered by the rule that is named
    pub read_by_rule : Sound C → (x : ReceivedWord) → PlainWord received x → (answer : ReadAnswer)
        → let rule : ℕ = rule_named C (place received) in
        AnswersRule (two_ends C) C (residual_in C x) x rule (separator_by (seen C (place received)) rule) answer → answer ≡ read_word C received
    unfolding answer_by reading_of_seen rule_named
    read_by_rule sound x plain answer by_rule =
        let same : place x.bits ≡ place received = fun_ext plain.bits_held in
        by_rule (seen C (place x.bits)) (plain_in_array C sound received x plain) (rw same)
        ∙ rw (plain_residual_in C sound received x plain, same) (sym (read_if_whole C received whole (none_spare none)))

    pub refused_9 : rule_named C (place received) ≡ 0 → Refused 9 ≡ read_word C received
    unfolding reading_of_seen rule_named rows_seen rows_9_to_12 first_refusal unless_refused
    refused_9 unnamed = rw (read_if_whole C received whole (none_spare none), unnamed)
