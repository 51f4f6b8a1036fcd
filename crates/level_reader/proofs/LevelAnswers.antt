-- The answer to levels, one law for each way out of the code: 15, 16, and where neither holds the answer of the rule that the separators
-- name, with the strength where the word is read. Assumes nothing.
use mathlib.Core.Path.{◌≡◌, refl, sym, ap, fun_ext, ◌∙◌}
use mathlib.Core.Bool.{Bool, true, false, cond}
use mathlib.Core.List.{List}
use mathlib.Core.Logic.{⊎_elim}
use Prim.Native.Nat.{ℕ, ◌<◌}
use native.Mathlib.Omega.{arith}
use borrow.Author.Tests.{eq-eqb, ne_eqb}
use lib.Dec.{eqb}
use lib.Ieee.{Float}
use lib.ListN.{length}
use Rattle.bits.specs.Sums.{marked}
use Rattle.bits.specs.Places.{place}
use Rattle.bits.proofs.Numbers.{eq_or_ne}
use Rattle.bits.proofs.Erasures.{unerased_ext}
use Rattle.bits.proofs.Places.{cut_below, cut_above}
use Rattle.model.specs.Refusals.{first_refusal, unless_refused}
use Rattle.model.specs.Card.{Code}
use Rattle.model.specs.Words.{word_bits}
use Rattle.model.specs.Reading.{rule_seen, separator_by, two_ends, rows_9_to_12, rows_seen}
use Rattle.model.specs.Levels.{any_outside, received_at, unerased_in, bits_in, separator_reading, seen_in_levels, residual_unerased, strength_of}
use Rattle.model.specs.ReadLevels.{rows_of_levels, levels_answered, read_levels}
use Rattle.model.specs.declared.Reading.{Reading}
use Rattle.model.specs.declared.ReceivedLevel.{ReceivedLevel}
use Rattle.code_theory.proofs.RefusalRows.{served_if_none, refused_if_some}
use Rattle.code_theory.proofs.ChunkReading.{erasure_reading_ext}
use Rattle.position_theory.specs.Nearest.{refusal_of}
use Rattle.position_theory.proofs.ReadWords.{read_if_served}
use Rattle.levels.specs.LevelChunks.{unerased_bits, read_by_sum}
use Rattle.reader.specs.Naming.{Names, NamesOf}
use Rattle.reader.specs.declared.naming.NamedRule.{NamedRule}
use Rattle.nearest_position.specs.Received.{NothingSpare}
use Rattle.reader.specs.RuleAnswers.{SeesIn}
use Rattle.reader.specs.RuleAnswers.{AnswersRule, answer_by}
use Rattle.nearest_position.specs.Residuals.{residual_in}
use Rattle.level_reader.specs.LevelWords.{LevelWordOf}
use Rattle.level_reader.specs.declared.level_word.LevelWord.{LevelWord}
use Rattle.model.specs.ReadWord.{ReadAnswer}
use Rattle.std.specs.Prelude.{Result, Ok, Err}
use Rattle.model.specs.Refusals.{Refused}
use Rattle.model.specs.declared.Refusal.{Refusal}

-- what the rule with this number answers of a word of received levels
abbrev pub answer_in_levels : Code → (word : ℕ → ReceivedLevel) (rule : ℕ) → ReadAnswer
answer_in_levels C word rule = answer_by (two_ends C) (seen_in_levels C word) (residual_unerased C (unerased_in word) (bits_in word)) rule

-- ---- the struct that holds the word of received levels

module _ (C : Code) (word : ℕ → ReceivedLevel) (w : LevelWord) (holds : LevelWordOf C word w) where
  mark : (t : Bool) (m : ℕ) → m ≡ cond t 1 0 → eqb m 1 ≡ t
  mark true m e = rw e
  mark false m e = rw e

  unerased_marked : (p : ℕ) → p < word_bits C → unerased_in word p ≡ marked (place w.word.unerased) p
  unerased_marked p b =
      sym (mark (unerased_in word p) (place w.word.unerased p)
      (holds.unerased_are p ∙ cut_below (word_bits C) (unerased_bits word) p b))

  bits_placed : (p : ℕ) → p < word_bits C → bits_in word p ≡ place w.word.bits p
  bits_placed p b = sym (holds.bits_are p ∙ cut_below (word_bits C) (bits_in word) p b)

  pub nothing_past : NothingSpare C w.word
  unfolding NothingSpare
  nothing_past p l unerased = holds.bits_are p ∙ cut_above (word_bits C) (bits_in word) p l

  -- the separators read by their sums name what they name by their levels
  pub named_by_levels : (named : Result NamedRule ℕ) → Names (read_by_sum w.sum1) (read_by_sum w.sum2) (read_by_sum w.sum3) named
      → NamesOf (seen_in_levels C word) named
  unfolding seen_in_levels separator_reading
  named_by_levels named names = rw (holds.sum₁, holds.sum₂, holds.sum₃) at names

  -- what is seen of its arrays is what is seen of the levels, and so is the residual
  levels_in_arrays : SeesIn C w.word (seen_in_levels C word)
  unfolding seen_in_levels
  levels_in_arrays =
      record {
        first = erasure_reading_ext C (λ p b. unerased_marked _ (omega arith)) (λ p b. bits_placed _ (omega arith));
        second = erasure_reading_ext C (λ p b. unerased_marked _ (omega arith)) (λ p b. bits_placed _ (omega arith));
      }

  residual_in_arrays : residual_in C w.word ≡ residual_unerased C (unerased_in word) (bits_in word)
  unfolding residual_unerased
  residual_in_arrays =
      fun_ext (λ q. unerased_ext (word_bits C) (λ p b. sym (unerased_marked p b)) (λ p b. refl) (λ p b. sym (bits_placed p b)))

  pub rule_of_levels : (rule : ℕ) (answer : ReadAnswer)
      → AnswersRule (two_ends C) C (residual_in C w.word) w.word rule (separator_by (seen_in_levels C word) rule) answer
      → answer ≡ answer_in_levels C word rule
  rule_of_levels rule answer by_rule =
      by_rule (seen_in_levels C word) levels_in_arrays refl
      ∙ ap (λ (residual : ℕ → ℕ). answer_by (two_ends C) (seen_in_levels C word) residual rule) residual_in_arrays

-- ---- the ways out

-- an answer that is a refusal is the one with its number
refused_if_answered : (number : ℕ) (reading : Reading) (refusal : Refusal) → unless_refused number Refused (Ok reading) ≡ Err refusal
    → (number ≡ 0 → ⊥) × (record { number = number } ≡ refusal)
refused_if_answered number reading refusal answered =
    ⊎_elim
    (λ (none : number ≡ 0).
    let clash : Ok reading ≡ Err refusal = sym (served_if_none number Refused (Ok reading) none) ∙ answered in
    let no : ◌≡◌ {A = ℕ} 0 1 = cc in absurd (omega arith))
    (λ (some : number ≡ 0 → ⊥).
    let same : ◌≡◌ {A = ReadAnswer} (Refused number) (Err refusal) = sym (refused_if_some number Refused (Ok reading) some) ∙ answered in
    (some, cc))
    (eq_or_ne number 0)

pub refused_15 : (C : Code) (levels : List Float) → (length levels ≡ word_bits C → ⊥) → Refused 15 ≡ read_levels C levels
unfolding read_levels levels_answered rows_of_levels first_refusal unless_refused
refused_15 C levels other_length = rw (ne_eqb (length levels) (word_bits C) other_length)

module _ (C : Code) (levels : List Float) (whole : length levels ≡ word_bits C) where
  pub refused_16 : any_outside (word_bits C) levels ≡ true → Refused 16 ≡ read_levels C levels
  unfolding read_levels levels_answered rows_of_levels first_refusal unless_refused
  refused_16 some = rw (eq-eqb (length levels) (word_bits C) whole, some)

  module _ (inside : any_outside (word_bits C) levels ≡ false) where
    pub refused_9 : rule_seen (seen_in_levels C (received_at levels)) ≡ 0 → Refused 9 ≡ read_levels C levels
    unfolding read_levels levels_answered rows_of_levels rows_seen rows_9_to_12 first_refusal unless_refused
    refused_9 unnamed = rw (eq-eqb (length levels) (word_bits C) whole, inside, unnamed)

    -- by the rule that is named
    abbrev answered : ReadAnswer
    answered = answer_in_levels C (received_at levels) (rule_seen (seen_in_levels C (received_at levels)))

    -- the refusal is that of what is seen
    refusal_is : first_refusal (rows_of_levels C levels) ≡ refusal_of (two_ends C) (seen_in_levels C (received_at levels))
    unfolding rows_of_levels first_refusal
    refusal_is = rw (eq-eqb (length levels) (word_bits C) whole, inside)

    pub word_read : (r : Reading) → answered ≡ Ok r
        → Ok (record { reading = r; strength = strength_of (received_at levels) (word_bits C) }) ≡ read_levels C levels
    unfolding read_levels levels_answered unless_refused answer_by
    word_read r is =
        let (none, same) = read_if_served (refusal_of (two_ends C) (seen_in_levels C (received_at levels))) _ r is in
        rw (refusal_is, none, same)

    pub rule_refused : (refusal : Refusal) → answered ≡ Err refusal → Err refusal ≡ read_levels C levels
    unfolding read_levels levels_answered answer_by
    rule_refused refusal is =
        let (some, same) = refused_if_answered (refusal_of (two_ends C) (seen_in_levels C (received_at levels))) _ refusal is in
        rw (refusal_is, refused_if_some _ Refused _ some, same)
