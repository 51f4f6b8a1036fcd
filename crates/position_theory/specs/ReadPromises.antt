-- What is promised of a read of a plain word, as the contract of the call states it of the card, the received word and the answer. (That a
-- word is refused by the table's number is the equation with `read_answer`.) Assumes nothing.
use Rattle.std.specs.Prelude.{◌≡◌, false, List, ℕ, ◌+◌, ◌*◌, ◌≤◌, length}
use Rattle.bits.specs.Places.{place, differing_bits}
use Rattle.model.specs.Card.{code_of, SoundCard}
use Rattle.model.specs.Order.{last_position}
use Rattle.model.specs.Words.{word_length, word_bytes}
use Rattle.model.specs.Reading.{seen, residual, bits_value}
use Rattle.model.specs.ReadWord.{spare_set}
use Rattle.model.specs.declared.Reading.{Reading}
use Rattle.position_theory.specs.Damage.{WithinRadius, UndividedWithinRadius, damaged, Near, residual_of}
use Rattle.position_theory.specs.Nearest.{IsReading}
use Rattle.position_theory.specs.ChunkBits.{BitsOfChunks, AreDamaged}
use Rattle.position_theory.specs.Contradictions.{AgreesIfRead, Mixed, contradicted, unless_contradicted, answer_before}
use Rattle.model.specs.ReadWord.{ReadAnswer}
use Rattle.std.specs.Prelude.{Ok}

-- ---- clauses of their own

-- Demand 3: for a sound card, every position on its track and whichever bits of that position's word are damaged, at most t
-- in each of the five chunks: the answer is no refusal, and no further from the position than twice the damaged bits
unfoldable pub OffByAtMostTwiceDamaged : (card received : List ℕ) → ReadAnswer → Type 0
OffByAtMostTwiceDamaged card received answer =
    (position : ℕ) → SoundCard card → position ≤ last_position (code_of card)
    → WithinRadius (code_of card) position received → Near answer position (2 * damaged (code_of card) position received)

-- The sharper bound, under the same premises: no further than the damaged bits and the residual together
unfoldable pub OffByAtMostDamagedAndResidual : (card received : List ℕ) → ReadAnswer → Type 0
OffByAtMostDamagedAndResidual card received answer =
    (position : ℕ) → SoundCard card → position ≤ last_position (code_of card)
    → WithinRadius (code_of card) position received
    → Near answer position (damaged (code_of card) position received + residual_of answer)

-- ---- the clause `promises`

-- P7, where the divided chunk is damaged arbitrarily: for a sound card, every position on its track and every such word the answer is no
-- refusal, and both distances hold. It is no further from the position than the damaged bits and the residual together, and no further
-- than twice the damaged bits.
unfoldable pub ReadWithDividedArbitrary : (card received : List ℕ) → ReadAnswer → Type 0
ReadWithDividedArbitrary card received answer =
    (position : ℕ) → SoundCard card → position ≤ last_position (code_of card) → UndividedWithinRadius (code_of card) position received
    → Near answer position (damaged (code_of card) position received + residual_of answer)
    × Near answer position (2 * damaged (code_of card) position received)

-- The error bar about the answer reaches, on either side, as far as the residual and e, the bits that one is ready to assume damaged.
-- Under the same premises, where at most e bits are damaged, the error bar holds the position. The residual is then at most e: a greater
-- one shows that the word is not such a one, or that more bits are damaged.
unfoldable pub ErrorBarHoldsPosition : (card received : List ℕ) → ReadAnswer → Type 0
ErrorBarHoldsPosition card received answer =
    (position e : ℕ) → SoundCard card → position ≤ last_position (code_of card) → UndividedWithinRadius (code_of card) position received
    → damaged (code_of card) position received ≤ e
    → Near answer position (residual_of answer + e) × (residual_of answer ≤ e)

-- Demand 2, reading, for a sound card and a word of the right length with spare bits zero: the answer is the allowed position
-- nearest to the word, or the refusal by the first of rows 9 to 12 and 17 that holds, and a residual is the count of differing bits
unfoldable pub NearestOfAllowed : (card received : List ℕ) → ReadAnswer → Type 0
NearestOfAllowed card received answer =
    SoundCard card → length received ≡ word_length (code_of card) → spare_set (code_of card) received ≡ false
    → IsReading (code_of card) (place received) answer
    × ((position : ℕ)
    → residual (code_of card) (place received) position ≡ differing_bits (word_bytes (code_of card) position) received)

-- P3: the bits of both code chunks, of every plain word that is read, on every card
unfoldable pub CountsBitsOfChunks : (card received : List ℕ) → ReadAnswer → Type 0
CountsBitsOfChunks card received answer =
    (r : Reading) → answer ≡ Ok r
    → BitsOfChunks (code_of card) (place received) r.rule r.chunk1 r.chunk2

-- Damage per chunk: for a sound card, every position on its track and whichever bits of that position's word are damaged, at most t in
-- each of the five chunks, a chunk that is read needed as many bits as are damaged in it
unfoldable pub NeededAsDamaged : (card received : List ℕ) → ReadAnswer → Type 0
NeededAsDamaged card received answer =
    (position : ℕ) → SoundCard card → position ≤ last_position (code_of card) → WithinRadius (code_of card) position received
    → (r : Reading) → answer ≡ Ok r
    → AreDamaged (code_of card) position received r.rule (bits_value r.chunk1) (bits_value r.chunk2)

-- P6: of every plain word that is read, on every card, the rule's separator reads as the parity of p
unfoldable pub ReadOnlyIfParityAgrees : (card received : List ℕ) → ReadAnswer → Type 0
ReadOnlyIfParityAgrees card received answer = AgreesIfRead (code_of card) (seen (code_of card) (place received)) answer

-- a word mixed from two telegrams whose parities differ is never read
unfoldable pub MixedNeverRead : (card received : List ℕ) → ReadAnswer → Type 0
MixedNeverRead card received answer =
    (i j c : ℕ) → Mixed (code_of card) (place received) i j c → (r : Reading) → answer ≡ Ok r → ⊥

-- The words that were read and no longer are: those in which that separator differs, each refused by 17. Every other word, on every card,
-- is answered as before, with the same values or the same refusal.
unfoldable pub AsBeforeUnlessContradicted : (card received : List ℕ) → ReadAnswer → Type 0
AsBeforeUnlessContradicted card received answer =
    answer ≡ unless_contradicted (contradicted (seen (code_of card) (place received))) (answer_before card received)

pub record ReadPromises (card received : List ℕ) (answer : ReadAnswer) : Type 0 where
  pub divided : ReadWithDividedArbitrary card received answer
  pub error_bar : ErrorBarHoldsPosition card received answer
  pub nearest : NearestOfAllowed card received answer
  pub bits : CountsBitsOfChunks card received answer
  pub damaged : NeededAsDamaged card received answer
  pub agrees : ReadOnlyIfParityAgrees card received answer
  pub mixed : MixedNeverRead card received answer
  pub before : AsBeforeUnlessContradicted card received answer
