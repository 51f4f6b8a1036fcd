-- Decoding loses nothing: the answer that a status and the numbers left stand for has that status and, where the call was served, those
-- numbers for its values. So what is promised of the decoded answer is promised of just what a caller in C was left. No two answers have
-- the same status and values, with four exceptions: a write that is done has the status of a refusal by 0, a chunk that was not read has
-- a number that could be a count, and no tram one that could be a place; of these three, rows say which is meant. And the answers for
-- trams past the count, or beside a refusal, which are all no, do not cross. Of the calls on the yard, `LosslessYards` says the same; the
-- tram that a track is handed to is no value of a release: it is the holder in the yard that is left. Assumes nothing.
use Rattle.std.specs.Prelude.{◌≡◌, List, [], ◌∷◌, ℕ, ◌≤◌, ◌<◌, length, get_or}
use Rattle.model.specs.Reading.{not_read}
use Rattle.model.specs.CheckCard.{card_values}
use Rattle.model.specs.ReadWord.{read_values}
use Rattle.model.specs.Millimetres.{millimetres_values}
use Rattle.model.specs.VoteChunk.{vote_values}
use Rattle.model.specs.Trams.{most_trams, yes_values}
use Rattle.model.specs.NearestTram.{no_tram, nearest_values}
use Rattle.model.specs.Yard.{track_count}
use Rattle.model.specs.RequestTrack.{request_values}
use Rattle.model.specs.ReleaseTrack.{release_values}
use Rattle.dunnavish.specs.Crossing.{card_count, read_count, number_count, vote_count}
use Rattle.dunnavish.specs.Decoding.{card_left, write_left, read_left, millimetres_left, vote_left, each_tram_left, nearest_left}
use Rattle.dunnavish.specs.YardNumbers.{yard_count, yard_lent, yard_numbers, requested_left, released_left}
use Rattle.model.specs.WriteWord.{Written}
use Rattle.std.specs.Prelude.{None, Ok, Some}
use Rattle.model.specs.NearestTram.{NoTram, Tram}
use Rattle.model.specs.Refusals.{status_of}

-- of a call that answers `count` values: every status, and where it is 0 every `count` numbers, are those of the answer decoded
pub record Kept {A B : Type 0} (status : A → ℕ) (values : A → List B) (decoded : (s : ℕ) (left : List B) → A) (count : ℕ) : Type 0 where
  pub status_kept : (s : ℕ) (left : List B) → status (decoded s left) ≡ s
  pub values_kept : (left : List B) → length left ≡ count → values (decoded 0 left) ≡ left

pub record LosslessDecoding : Type 0 where
  pub check : Kept status_of card_values card_left card_count
  -- of a plain word or of levels
  pub read : Kept status_of read_values read_left read_count
  pub distance : Kept status_of millimetres_values millimetres_left number_count
  pub vote : Kept status_of vote_values vote_left vote_count
  pub nearest : Kept status_of nearest_values nearest_left number_count
  -- of a search that says yes or no of each tram: every status, and where it is 0 every answer of at most 64 trams
  pub each_status : (s : ℕ) (left : List ℕ) → status_of (each_tram_left s left) ≡ s
  pub each_tram : (left : List ℕ) → length left ≤ most_trams → ((i : ℕ) → get_or left i 0 < 2)
      → yes_values (length left) (each_tram_left 0 left) ≡ left
  pub write : (s : ℕ) → status_of (write_left s) ≡ s
  pub written : write_left 0 ≡ Written
  pub by_rule_1 : read_left 0 (7 ∷ 3 ∷ 1 ∷ 2 ∷ not_read ∷ [])
      ≡ Ok (record { position = 7; residual = 3; rule = 1; chunk1 = Some 2; chunk2 = None })
  pub by_rule_2 : read_left 0 (7 ∷ 3 ∷ 2 ∷ not_read ∷ 0 ∷ [])
      ≡ Ok (record { position = 7; residual = 3; rule = 2; chunk1 = None; chunk2 = Some 0 })
  pub last_place : nearest_left 0 (63 ∷ []) ≡ Tram 63
  pub no_place : nearest_left 0 (no_tram ∷ []) ≡ NoTram

-- of a request and of a release: every status; where it is 0, every value that stands for an answer; and the 97 numbers of every yard
-- that is left, whose flags are 0 and 1
pub record LosslessYards : Type 0 where
  pub requested : (s : ℕ) (left yard : List ℕ) → status_of (requested_left s left yard).answer ≡ s
  pub request_value : (left yard : List ℕ) → length left ≡ number_count → get_or left 0 0 < 2
      → request_values (requested_left 0 left yard).answer ≡ left
  pub released : (track s : ℕ) (left yard : List ℕ) → status_of (released_left track s left yard).answer ≡ s
  pub release_value : (track : ℕ) (left yard : List ℕ) → length left ≡ number_count → get_or left 0 0 < 3
      → release_values (released_left track 0 left yard).answer ≡ left
  pub numbers : (yard : List ℕ) → length yard ≡ yard_count → ((track : ℕ) → track < track_count → get_or yard track 0 < 2)
      → yard_numbers (yard_lent yard) ≡ yard
