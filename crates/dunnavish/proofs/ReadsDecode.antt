-- The values of a word that is read, plain or of levels, decode to its reading. They do where the count of a chunk's bits is not the number
-- that stands for a chunk that was not read. By what is promised of the bits, a count is below D, which is at most 64. Assumes nothing.
use mathlib.Core.Path.{◌≡◌, sym, ◌∙◌}
use mathlib.Core.Bool.{Bool, true, false}
use mathlib.Core.List.{List}
use Prim.Native.Nat.{ℕ, ◌<◌}
use native.Mathlib.Omega.{arith}
use borrow.Author.Tests.{ne_eqb}
use lib.Ieee.{Float}
use Rattle.model.specs.Refusals.{unless_refused}
use Rattle.model.specs.Card.{Code, code_of, SoundCard}
use Rattle.model.specs.Reading.{not_read, bits_value}
use Rattle.model.specs.ReadWord.{read_answer, read_values}
use Rattle.model.specs.ReadLevels.{levels_answer, position_answer}
use Rattle.model.specs.declared.Reading.{Reading}
use Rattle.code_theory.proofs.SoundCard.{sound_card}
use Rattle.code_theory.proofs.LeastDistance.{D-high}
use Rattle.position_theory.specs.ChunkBits.{CountsBits, CountsWrong}
use Rattle.position_theory.specs.ReadPromises.{CountsBitsOfChunks}
use Rattle.position_theory.proofs.ReadWords.{read_shows}
use Rattle.level_theory.specs.LevelPromises.{CountsWrongOfChunks}
use Rattle.level_theory.proofs.LevelsAnswered.{levels_show}
use Rattle.dunnavish.specs.Decoding.{bits_left, read_left}
use Rattle.std.specs.Prelude.{Ok, Option, Some}
use Rattle.model.specs.ReadWord.{ReadAnswer}
use Rattle.model.specs.Refusals.{Refused}
use Rattle.model.specs.Refusals.{values_by}

-- a count that is small enough decodes
count_decodes : (answered : (Option ℕ)) (count : ℕ) → answered ≡ Some count → count < not_read → bits_left (bits_value answered) ≡ answered
unfolding bits_left bits_value
count_decodes answered count is few = rw (is, ne_eqb count not_read (λ e. omega arith))

-- so do the bits of a chunk, of a plain word and of one with erased places
module _ (C : Code) (small : C.D < not_read) where
  bits_decode : (named : Bool) (chunk : ℕ → ℕ) (p : ℕ) (answered : (Option ℕ)) → CountsBits C named chunk p answered
      → bits_left (bits_value answered) ≡ answered
  unfolding CountsBits bits_left bits_value
  bits_decode true chunk p answered (count, is, (_, few)) = count_decodes answered count is (omega arith)
  bits_decode false chunk p answered is = rw is

  wrong_decode : (named : Bool) (unerased : ℕ → Bool) (chunk : ℕ → ℕ) (p : ℕ) (answered : (Option ℕ))
      → CountsWrong C named unerased chunk p answered → bits_left (bits_value answered) ≡ answered
  unfolding CountsWrong bits_left bits_value
  wrong_decode true unerased chunk p answered (count, is, _, few) = count_decodes answered count is (omega arith)
  wrong_decode false unerased chunk p answered is = rw is

small_d : (card : List ℕ) → SoundCard card → (code_of card).D < not_read
small_d card sound = let S = sound_card card sound in omega (arith, D-high (code_of card) S, S.n_high)

-- so a word that is read is what its values decode to
reading_decodes : (r : Reading) → bits_left (bits_value r.chunk1) ≡ r.chunk1 → bits_left (bits_value r.chunk2) ≡ r.chunk2
    → read_left 0 (read_values (Ok r)) ≡ unless_refused 0 Refused (Ok r)
unfolding read_left values_by
reading_decodes r first second = rw (first, second)

module _ (card : List ℕ) {answered : ReadAnswer} (r : Reading) (given : answered ≡ Ok r) where
  pub read_decodes : (received : List ℕ) → answered ≡ read_answer card received → CountsBitsOfChunks card received answered
      → read_left 0 (read_values (Ok r)) ≡ unless_refused 0 Refused (Ok r)
  unfolding CountsBitsOfChunks
  read_decodes received is counted =
      let small = small_d card (read_shows card received r (sym is ∙ given)).0 in
      let bits = counted r given in
      reading_decodes r (bits_decode (code_of card) small _ _ _ _ bits.first) (bits_decode (code_of card) small _ _ _ _ bits.second)

  pub levels_decode : (levels : List Float) → answered ≡ position_answer (levels_answer card levels)
      → CountsWrongOfChunks card levels answered
      → read_left 0 (read_values (Ok r)) ≡ unless_refused 0 Refused (Ok r)
  unfolding CountsWrongOfChunks
  levels_decode levels is counted =
      let small = small_d card (levels_show card levels r (sym is ∙ given)).0 in
      let bits = counted r given in
      reading_decodes r (wrong_decode (code_of card) small _ _ _ _ _ bits.first)
      (wrong_decode (code_of card) small _ _ _ _ _ bits.second)
