-- What a rule answers, whatever the kind of track: of what is seen of a word, of the code chunks that it names, and of a search through the
-- positions that it allows. Assumes nothing.
use Rattle.std.specs.Prelude.{◌≡◌, List, [], ◌∷◌, ℕ, ◌≤◌}
use Rattle.model.specs.Refusals.{Row, refuses, first_refusal, unless_refused}
use Rattle.bits.specs.Sums.{marked}
use Rattle.bits.specs.Places.{place}
use Rattle.model.specs.Card.{Code}
use Rattle.model.specs.Order.{last_codeword}
use Rattle.model.specs.Words.{chunk₁, chunk₂}
use Rattle.model.specs.Reading.{Seen, names_first, names_second, number_by, separator_by, parity_differs, Rules, rows_seen, range_seen}
use Rattle.model.specs.Reading.{bits_needed, nearest_reading}
use Rattle.model.specs.Levels.{erasure_reading}
use Rattle.reader.specs.declared.chunks.ChunksRead.{ChunksRead}
use Rattle.model.specs.declared.Refusal.{Refusal}
use Rattle.nearest_position.specs.declared.received.ReceivedWord.{ReceivedWord}
use Rattle.nearest_position.specs.declared.scan.Scan.{Scan}
use Rattle.model.specs.ReadWord.{ReadAnswer}
use Rattle.std.specs.Prelude.{Result, Ok, Err}
use Rattle.model.specs.Refusals.{Refused}

-- the refusal of a chunk that reads as no codeword
abbrev pub unreadable_chunk : Refusal
unreadable_chunk = record { number = 10 }

-- s is what is seen of the code chunks of x
pub record SeesIn (C : Code) (x : ReceivedWord) (s : Seen) : Type 0 where
  pub first : s.read₁ ≡ erasure_reading C (chunk₁ C (marked (place x.unerased))) (chunk₁ C (place x.bits))
  pub second : s.read₂ ≡ erasure_reading C (chunk₂ C (marked (place x.unerased))) (chunk₂ C (place x.bits))

-- what is answered of a search that has come to the last position that the rule allows, with the bits that either code chunk needed
unfoldable pub found_at : Scan → (rule : ℕ) → ChunksRead → ReadAnswer
found_at s rule read =
    Ok (record { position = s.best; residual = s.least; rule = rule; chunk1 = read.chunk1; chunk2 = read.chunk2 })

-- what the rule with this number answers of what is seen of a word: refusals 9 to 12 and 17, or the nearest position that it allows by
-- this residual
unfoldable pub answer_by : Rules → Seen → (residual : ℕ → ℕ) (rule : ℕ) → ReadAnswer
answer_by R s residual rule =
    unless_refused (first_refusal (rows_seen R s rule)) Refused (Ok (nearest_reading residual s rule (range_seen R s rule)))

-- an answer by the rule with this number, whatever else is seen of the word: the rule goes by the code chunks, and by what the rule's
-- separator reads
abbrev pub AnswersRule : Rules → Code → (residual : ℕ → ℕ) → ReceivedWord → (rule separator : ℕ) → ReadAnswer → Type 0
AnswersRule R C residual x rule separator answer =
    (s : Seen) → SeesIn C x s → separator_by s rule ≡ separator → answer ≡ answer_by R s residual rule

-- the rows that are left where the chunks that the rule names read p
abbrev pub rows12_and17 : Rules → (rule separator p : ℕ) → List Row
rows12_and17 R rule separator p = refuses 12 (R.no_block rule p) ∷ refuses 17 (parity_differs separator p) ∷ []

-- this is what the rule's chunks have been read as, by what is seen of a word; none of rows 9 to 11 holds
pub record ChunksReadAs (s : Seen) (rule : ℕ) (read : ChunksRead) : Type 0 where
  pub number_is : read.number ≡ number_by s rule
  pub chunk₁_is : read.chunk1 ≡ bits_needed (names_first rule) s.read₁
  pub chunk₂_is : read.chunk2 ≡ bits_needed (names_second rule) s.read₂
  pub rows_left : (R : Rules) → first_refusal (rows_seen R s rule) ≡ first_refusal (rows12_and17 R rule (separator_by s rule) read.number)

-- what the chunks of x that the rule names read as, whatever else is seen of it: the rule's answer is this refusal, on every kind of
-- track; or they are read, as a codeword of the code
unfoldable pub ReadsNamed : Code → ReceivedWord → (rule : ℕ) → Result ChunksRead Refusal → Type 0
ReadsNamed C x rule (Err refusal) =
    (s : Seen) → SeesIn C x s → (R : Rules) (residual : ℕ → ℕ) → ◌≡◌ {A = ReadAnswer} (Err refusal) (answer_by R s residual rule)
ReadsNamed C x rule (Ok read) = (read.number ≤ last_codeword C) × ((s : Seen) → SeesIn C x s → ChunksReadAs s rule read)
