-- The promises of the reading of levels, held from below, as position_theory's PositionWitnesses.antt holds those of the plain reading: of
-- card B, a damaged word of levels and whatever is answered, each row says what the promise alone gives, with 2 × wrong + erased just below
-- D. So a premise that nobody can meet, or a bound looser than document 02's, no longer gives its row. Assumes nothing.
use Rattle.std.specs.Prelude.{◌≡◌, true, false, List, [], ◌∷◌, ◌++◌, map, ℕ, zero, suc, eqb, pos, Float}
use Rattle.std.specs.Float.{fin, binary32}
use Rattle.std.specs.Float.Ieee.{of_int}
use Rattle.model.specs.Card.{code_of}
use Rattle.model.specs.Levels.{erasure_reading}
use Rattle.model.specs.CardsToTry.{card_b}
use Rattle.model.specs.declared.Reading.{Reading}
use Rattle.position_theory.specs.PositionWitnesses.{ReadAs, ReadWithin, NoneReads}
use Rattle.level_theory.specs.UnitLevels.{plus_one_level, minus_one_level}
use Rattle.level_theory.specs.LevelPromises.{NearestOverUnerased, CountsWrongOfChunks, AsPlainReading}
use Rattle.level_theory.specs.ReadsBelowD.{ChunksReadBelowD}
use Rattle.level_theory.specs.LevelPromises.{OffByAtMostTwiceWrongAndErased, LevelsReadOnlyIfParityAgrees, MixedLevelsNeverRead}
use Rattle.level_theory.specs.LevelPromises.{LevelsAsBeforeUnlessContradicted}
use Rattle.model.specs.Reading.{Codeword}
use Rattle.std.specs.Prelude.{None, Ok, Some}
use Rattle.model.specs.ReadWord.{ReadAnswer}
use Rattle.model.specs.Refusals.{Refused}

-- ---- words of levels of card B, whose D is 3

-- the level of a bit, 0 or 1, and of an erased bit, as zero of either sign
unfoldable pub level_of : ℕ → Float
level_of zero = plus_one_level
level_of (suc zero) = minus_one_level
level_of (suc (suc zero)) = fin false 0 (pos 0)
level_of (suc (suc (suc b))) = fin true 0 (pos 0)

abbrev pub erased : ℕ
erased = 2

abbrev pub erased⁻ : ℕ
erased⁻ = 3

-- a word by its five chunks; chunks of one bit throughout
abbrev pub chunks : (s₁ c₁ s₂ c₂ s₃ : List ℕ) → List ℕ
chunks s₁ c₁ s₂ c₂ s₃ = s₁ ++ (c₁ ++ (s₂ ++ (c₂ ++ s₃)))

abbrev pub all_zeros : List ℕ
all_zeros = 0 ∷ 0 ∷ 0 ∷ []

abbrev pub all_ones : List ℕ
all_ones = 1 ∷ 1 ∷ 1 ∷ []

-- 7 with one bit of chunk 1 wrong; and 6 or 7, with the bit erased in which they differ
abbrev pub seven_wrong : List ℕ
seven_wrong = chunks all_ones (1 ∷ 1 ∷ 0 ∷ []) (1 ∷ 0 ∷ 0 ∷ []) all_zeros all_zeros

abbrev pub six_or_seven : List ℕ
six_or_seven = chunks all_ones all_ones (erased ∷ 0 ∷ 0 ∷ []) all_zeros all_zeros

-- 15 with one bit of separator 3 wrong, or two erased; either reads as 13, which is just 2 × wrong + erased off
abbrev pub last_wrong : List ℕ
last_wrong = chunks all_ones all_ones all_ones all_ones (1 ∷ 0 ∷ 1 ∷ [])

abbrev pub last_erased : List ℕ
last_erased = chunks all_ones all_ones all_ones all_ones (1 ∷ erased ∷ erased⁻ ∷ [])

-- 15 with one bit wrong, or two erased, in every chunk
abbrev pub all_damaged : List ℕ
all_damaged = chunks (0 ∷ 1 ∷ 1 ∷ []) (erased ∷ erased⁻ ∷ 1 ∷ []) (1 ∷ erased ∷ erased ∷ []) (1 ∷ 0 ∷ 1 ∷ []) (erased⁻ ∷ 1 ∷ erased ∷ [])

-- 0 with two bits of chunk 1 erased and one bit of chunk 2 wrong
abbrev pub zero_damaged : List ℕ
zero_damaged = chunks all_zeros (erased ∷ erased⁻ ∷ 0 ∷ []) all_zeros (0 ∷ 1 ∷ 0 ∷ []) all_zeros

-- 2 × wrong + erased of chunk 1 is D, against either codeword: one bit wrong and one erased, or three erased
abbrev pub wrong_and_erased : List ℕ
wrong_and_erased = chunks all_zeros (erased ∷ 1 ∷ 0 ∷ []) all_zeros all_zeros all_zeros

abbrev pub three_erased : List ℕ
three_erased = chunks all_zeros (erased ∷ erased ∷ erased ∷ []) all_zeros all_zeros all_zeros

-- w(0) with both code chunks from w(1); the same with two bits erased in separator 1 and in chunk 1, and with one wrong in each; with
-- chunk 2 alone from w(1); with chunk 1 and separator 3 from w(1), by rule 1; and with separators 2 and 3 from w(1), by rule 2
abbrev pub mixed : List ℕ
mixed = chunks all_zeros all_ones all_zeros all_ones all_zeros

abbrev pub mixed_erased : List ℕ
mixed_erased = chunks (erased ∷ erased⁻ ∷ 0 ∷ []) (erased ∷ erased⁻ ∷ 1 ∷ []) all_zeros all_ones all_zeros

abbrev pub mixed_wrong : List ℕ
mixed_wrong = chunks (1 ∷ 0 ∷ 0 ∷ []) (0 ∷ 1 ∷ 1 ∷ []) all_zeros all_ones all_zeros

abbrev pub mixed_in_chunk2 : List ℕ
mixed_in_chunk2 = chunks all_zeros all_zeros all_zeros all_ones all_zeros

abbrev pub mixed_by_rule1 : List ℕ
mixed_by_rule1 = chunks all_zeros all_ones all_zeros all_zeros all_ones

abbrev pub mixed_by_rule2 : List ℕ
mixed_by_rule2 = chunks all_zeros all_zeros all_ones all_zeros all_ones

-- the levels of such a word, and mixed ones of which separator 1 has a level of 3 and two of -1, so that it reads 0
abbrev pub levels_of : List ℕ → List Float
levels_of = map level_of

abbrev pub mixed_levels : List Float
mixed_levels = of_int binary32 (pos 3) ∷ minus_one_level ∷ minus_one_level ∷ levels_of (all_ones ++ (all_zeros ++ (all_ones ++ all_zeros)))

pub record LevelsWitnessed : Type 0 where
  -- a code chunk of which two of three places are erased is read
  pub two_erased : ChunksReadBelowD card_b → erasure_reading (code_of card_b) (λ p. eqb p 1) (λ p. 1) ≡ Codeword 1 0
  -- the nearest over the unerased bits: 6 and 7 are as near, or 13 and 15, and the smallest is answered; a mixed word is refused by 17
  pub smaller_of_two : (answer : ReadAnswer) → NearestOverUnerased card_b (levels_of six_or_seven) answer → ReadAs 6 0 2 answer
  pub smallest_of_wrong : (answer : ReadAnswer) → NearestOverUnerased card_b (levels_of last_wrong) answer → ReadAs 13 1 3 answer
  pub smallest_of_erased : (answer : ReadAnswer) → NearestOverUnerased card_b (levels_of last_erased) answer → ReadAs 13 0 3 answer
  pub by_17 : (answer : ReadAnswer) → NearestOverUnerased card_b (levels_of mixed) answer → answer ≡ Refused 17
  -- wrong bits of chunks, with 2 × wrong + erased just below D; of a chunk that is not named none; and with D itself no reading
  pub below_d : (r : Reading) → CountsWrongOfChunks card_b (levels_of zero_damaged) (Ok r)
      → (r.chunk1 ≡ Some 0) × (r.chunk2 ≡ Some 1)
  pub not_named : (r : Reading) → CountsWrongOfChunks card_b (levels_of seven_wrong) (Ok r) → (r.chunk1 ≡ None) × (r.chunk2 ≡ Some 0)
  pub wrong_and_erased_lem : NoneReads (CountsWrongOfChunks card_b (levels_of wrong_and_erased))
  pub three_erased_lem : NoneReads (CountsWrongOfChunks card_b (levels_of three_erased))
  -- levels of 1 and -1 are read, or refused, as the plain word
  pub as_plain : (answer : ReadAnswer) → AsPlainReading card_b (levels_of seven_wrong) answer → ReadAs 5 1 2 answer
  pub refused_as_plain : (answer : ReadAnswer) → AsPlainReading card_b (levels_of mixed) answer → answer ≡ Refused 17
  -- off by at most 2 × wrong + erased, which 13 for 15 is either way; and every chunk just below D
  pub twice_wrong : (answer : ReadAnswer) → OffByAtMostTwiceWrongAndErased card_b (levels_of last_wrong) answer → ReadWithin 2 15 answer
  pub once_erased : (answer : ReadAnswer) → OffByAtMostTwiceWrongAndErased card_b (levels_of last_erased) answer → ReadWithin 2 15 answer
  pub in_all : (answer : ReadAnswer) → OffByAtMostTwiceWrongAndErased card_b (levels_of all_damaged) answer → ReadWithin 10 15 answer
  -- separators that contradict the codeword, by each rule; and levels mixed from two telegrams, by each rule and each chunk that it names,
  -- with two bits erased or one wrong in both parts, and with levels of any magnitude
  pub contradicts : NoneReads (LevelsReadOnlyIfParityAgrees card_b (levels_of mixed))
  pub contradicts_by_rule_1 : NoneReads (LevelsReadOnlyIfParityAgrees card_b (levels_of mixed_by_rule1))
  pub contradicts_by_rule_2 : NoneReads (LevelsReadOnlyIfParityAgrees card_b (levels_of mixed_by_rule2))
  pub mixed_erased_lem : NoneReads (MixedLevelsNeverRead card_b (levels_of mixed_erased))
  pub mixed_wrong_lem : NoneReads (MixedLevelsNeverRead card_b (levels_of mixed_wrong))
  pub mixed_in_chunk_2 : NoneReads (MixedLevelsNeverRead card_b (levels_of mixed_in_chunk2))
  pub mixed_by_rule_1 : NoneReads (MixedLevelsNeverRead card_b (levels_of mixed_by_rule1))
  pub mixed_by_rule_2 : NoneReads (MixedLevelsNeverRead card_b (levels_of mixed_by_rule2))
  pub mixed_of_any_levels : NoneReads (MixedLevelsNeverRead card_b mixed_levels)
  -- what 17 changes: a word that was read is refused by it, another is read as before, and a refusal stays
  pub refused_now : (answer : ReadAnswer) → LevelsAsBeforeUnlessContradicted card_b (levels_of mixed) answer → answer ≡ Refused 17
  pub read_as_before : (answer : ReadAnswer) → LevelsAsBeforeUnlessContradicted card_b (levels_of six_or_seven) answer → ReadAs 6 0 2 answer
  pub refused_as_before : (answer : ReadAnswer) → LevelsAsBeforeUnlessContradicted card_b (levels_of mixed_in_chunk2) answer
      → answer ≡ Refused 11
