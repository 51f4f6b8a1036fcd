-- Document 02, P6, of words of levels: that levels are mixed from two telegrams, and what was answered without P6. The definitions are
-- those of plain words, applied to what the levels give. Assumes nothing.
use Rattle.std.specs.Prelude.{◌≡◌, not, List, ◌∷◌, ◌⊎◌, ℕ, ◌%◌, ◌≤◌, eqb, Float, length}
use Rattle.model.specs.Refusals.{refuses, refused_as, first_refusal, unless_refused}
use Rattle.model.specs.Card.{Code, code_of, card_refusal}
use Rattle.model.specs.Order.{last_codeword}
use Rattle.model.specs.Words.{word_bits, word}
use Rattle.model.specs.Reading.{Seen, rule_seen, separator_by, two_ends, rows_9_to_12}
use Rattle.model.specs.Levels.{any_outside, received_at}
use Rattle.model.specs.ReadLevels.{reading_in_levels}
use Rattle.position_theory.specs.Damage.{ChunkBelowD}
use Rattle.position_theory.specs.Contradictions.{separator_chunk, NamedChunk}
use Rattle.level_theory.specs.UnitLevels.{UnitLevels}
use Rattle.level_theory.specs.LevelsSeen.{unerased_of, bits_of, seen_of}
use Rattle.model.specs.ReadWord.{ReadAnswer}
use Rattle.std.specs.Prelude.{Ok}
use Rattle.model.specs.Refusals.{Refused}

-- the rule's separator is from w(i): it reads as the parity of i, whatever the levels are; or the levels are 1, -1 and 0, and it has
-- 2 × wrong + erased below D
abbrev pub SeparatorFrom : (card : List ℕ) (levels : List Float) (i : ℕ) → Type 0
SeparatorFrom card levels i =
    let C : Code = code_of card in
    let rule : ℕ = rule_seen (seen_of card levels) in
    (separator_by (seen_of card levels) rule ≡ i % 2)
    ⊎ (UnitLevels levels (word_bits C) × ChunkBelowD C (unerased_of levels) (word C i) (bits_of levels) (separator_chunk rule))

-- Levels are mixed from two telegrams, w(i) and w(j), whose parities differ: by the rule that the separators name, the word has the rule's
-- separator from the first and a code chunk c that the rule names from the second, with 2 × wrong + erased below D
pub record MixedLevels (card : List ℕ) (levels : List Float) (i j c : ℕ) : Type 0 where
  pub in_code : i ≤ last_codeword (code_of card)
  pub in_code' : j ≤ last_codeword (code_of card)
  pub differ : i % 2 ≡ j % 2 → ⊥
  pub named : NamedChunk (rule_seen (seen_of card levels)) c
  pub separator : SeparatorFrom card levels i
  pub chunk : ChunkBelowD (code_of card) (unerased_of levels) (word (code_of card) j) (bits_of levels) c

-- the answer without P6: rows 9 to 12 are the last
unfoldable pub levels_answer_before : (card : List ℕ) (levels : List Float) → ReadAnswer
levels_answer_before card levels =
    let C : Code = code_of card in
    let s : Seen = seen_of card levels in
    unless_refused
    (first_refusal
    (refused_as (card_refusal card)
    ∷ refuses 15 (not (eqb (length levels) (word_bits C)))
    ∷ refuses 16 (any_outside (word_bits C) levels)
    ∷ rows_9_to_12 (two_ends C) s (rule_seen s)))
    Refused (Ok (reading_in_levels C (received_at levels)))
