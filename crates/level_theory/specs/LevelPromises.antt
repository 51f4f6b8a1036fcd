-- Document 02, P5 and P6: what is promised of a read of levels, as the contract of the call states it of the card, the levels and the
-- position answer, which is the answer but for the strength. Assumes nothing.
use Rattle.std.specs.Prelude.{◌≡◌, false, List, ℕ, ◌+◌, ◌*◌, ◌≤◌, Float, length}
use Rattle.bits.specs.Places.{place}
use Rattle.model.specs.Card.{Code, code_of, SoundCard}
use Rattle.model.specs.Order.{last_position}
use Rattle.model.specs.Words.{word_bits, word_bytes}
use Rattle.model.specs.Reading.{two_ends}
use Rattle.model.specs.Levels.{any_outside, residual_unerased}
use Rattle.model.specs.ReadWord.{read_answer}
use Rattle.model.specs.declared.Reading.{Reading}
use Rattle.position_theory.specs.Damage.{ChunksBelowD, wrong_in_all, erased_in_all, Near}
use Rattle.position_theory.specs.Nearest.{IsReadingOf}
use Rattle.position_theory.specs.ChunkBits.{WrongOfChunks}
use Rattle.position_theory.specs.Contradictions.{AgreesIfRead, contradicted, unless_contradicted}
use Rattle.level_theory.specs.UnitLevels.{OneLevels, UnitLevels}
use Rattle.level_theory.specs.LevelsSeen.{unerased_of, bits_of, seen_of, word_of_bits}
use Rattle.level_theory.specs.LevelContradictions.{MixedLevels, levels_answer_before}
use Rattle.model.specs.ReadWord.{ReadAnswer}
use Rattle.std.specs.Prelude.{Ok}

-- ---- a clause of its own

-- When each of d levels is 1, -1 or 0 and, against a position's word, every chunk has 2 × wrong + erased below D: the answer is no refusal,
-- and off by at most 2 × wrong + erased over the whole word. For every sound card, every position on its track and every pattern
unfoldable pub OffByAtMostTwiceWrongAndErased : (card : List ℕ) (levels : List Float) → ReadAnswer → Type 0
OffByAtMostTwiceWrongAndErased card levels answer =
    let C : Code = code_of card in
    (position : ℕ) → SoundCard card → position ≤ last_position C → length levels ≡ word_bits C → UnitLevels levels (word_bits C)
    → ChunksBelowD C (unerased_of levels) (place (word_bytes C position)) (bits_of levels)
    → Near answer position
    (2 * wrong_in_all C (unerased_of levels) (place (word_bytes C position)) (bits_of levels) + erased_in_all C (unerased_of levels))

-- ---- the clause `promises`

-- For a sound card and d levels, none of them outside the limits: the answer is the allowed position nearest to the word over the bits that
-- aren't erased, the smallest on a tie, with its residual over these bits; or the refusal by the first of rows 9 to 12 and 17 that holds
unfoldable pub NearestOverUnerased : (card : List ℕ) (levels : List Float) → ReadAnswer → Type 0
NearestOverUnerased card levels answer =
    let C : Code = code_of card in
    SoundCard card → length levels ≡ word_bits C → any_outside (word_bits C) levels ≡ false
    → IsReadingOf (two_ends C) (last_position C) (seen_of card levels) (residual_unerased C (unerased_of levels) (bits_of levels)) answer

-- Of every word that is read, the counts of the chunks that the rule names are those of their wrong places
unfoldable pub CountsWrongOfChunks : (card : List ℕ) (levels : List Float) → ReadAnswer → Type 0
CountsWrongOfChunks card levels answer =
    (r : Reading) → answer ≡ Ok r
    → WrongOfChunks (code_of card) (unerased_of levels) (bits_of levels) (seen_of card levels) r.rule r.chunk1 r.chunk2

-- When every one of d levels is 1 or -1, the answer is that of the plain reading of the word of these bits, refusals too
unfoldable pub AsPlainReading : (card : List ℕ) (levels : List Float) → ReadAnswer → Type 0
AsPlainReading card levels answer =
    length levels ≡ word_bits (code_of card) → OneLevels levels (word_bits (code_of card)) → answer ≡ read_answer card (word_of_bits card levels)

-- Of every word of levels that is read, on every card: the code chunks that its rule names read as one codeword c(p), and the rule's
-- separator, by the sum of its levels, reads as the parity of p
unfoldable pub LevelsReadOnlyIfParityAgrees : (card : List ℕ) (levels : List Float) → ReadAnswer → Type 0
LevelsReadOnlyIfParityAgrees card levels answer = AgreesIfRead (code_of card) (seen_of card levels) answer

-- Levels mixed from two telegrams whose parities differ are never read
unfoldable pub MixedLevelsNeverRead : (card : List ℕ) (levels : List Float) → ReadAnswer → Type 0
MixedLevelsNeverRead card levels answer = (i j c : ℕ) → MixedLevels card levels i j c → (r : Reading) → answer ≡ Ok r → ⊥

-- The words that were read and no longer are: those in which that separator differs, each refused by 17. Every other word, on every card,
-- is answered as before, with the same values or the same refusal. (The strength goes with the reading.)
unfoldable pub LevelsAsBeforeUnlessContradicted : (card : List ℕ) (levels : List Float) → ReadAnswer → Type 0
LevelsAsBeforeUnlessContradicted card levels answer =
    answer ≡ unless_contradicted (contradicted (seen_of card levels)) (levels_answer_before card levels)

pub record LevelPromises (card : List ℕ) (levels : List Float) (answer : ReadAnswer) : Type 0 where
  pub nearest : NearestOverUnerased card levels answer
  pub bits : CountsWrongOfChunks card levels answer
  pub plain : AsPlainReading card levels answer
  pub agrees : LevelsReadOnlyIfParityAgrees card levels answer
  pub mixed : MixedLevelsNeverRead card levels answer
  pub before : LevelsAsBeforeUnlessContradicted card levels answer
