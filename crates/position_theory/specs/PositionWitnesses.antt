-- The promises of the writing and the reading call, held from below. Each row takes one promise of document 01's card A or B, a position or
-- a damaged word, and whatever is answered, and says what the promise alone then gives, at the border of its premise or of its bound. So a
-- premise that nobody can meet, or a bound looser than the documents', no longer gives its row. Assumes nothing.
use Rattle.std.specs.Prelude.{◌≡◌, true, List, [], ◌∷◌, ℕ, ◌+◌, ◌≤◌, ◌<◌}
use Rattle.bits.specs.Places.{place, differing_bits}
use Rattle.model.specs.Card.{code_of}
use Rattle.model.specs.Words.{word_bytes, divided}
use Rattle.model.specs.Reading.{residual, bits_value}
use Rattle.model.specs.CardsToTry.{card_a, card_b}
use Rattle.model.specs.declared.Reading.{Reading}
use Rattle.position_theory.specs.WritePromises.{WrittenIfServable, UnchangedIfRefused, NeighboursDifferInOneBit, NoOtherPositionsWord}
use Rattle.position_theory.specs.ReadPromises.{NearestOfAllowed, OffByAtMostTwiceDamaged, OffByAtMostDamagedAndResidual}
use Rattle.position_theory.specs.ReadPromises.{ReadWithDividedArbitrary, ErrorBarHoldsPosition, CountsBitsOfChunks, NeededAsDamaged}
use Rattle.position_theory.specs.ReadPromises.{ReadOnlyIfParityAgrees, MixedNeverRead, AsBeforeUnlessContradicted}
use Rattle.position_theory.specs.DividedChunks.{AtMostOneDivided}
use Rattle.std.specs.Prelude.{None, Ok, Some}
use Rattle.model.specs.WriteWord.{WriteAnswer, Written}
use Rattle.model.specs.Refusals.{Refused}
use Rattle.model.specs.ReadWord.{ReadAnswer}
use Rattle.std.specs.Prelude.{Err}

-- ---- what rows say of an answer

-- it is read, with this position, residual and rule
unfoldable pub ReadAs : (position residual rule : ℕ) → ReadAnswer → Type 0
ReadAs position residual rule (Ok r) = (r.position ≡ position) × (r.residual ≡ residual) × (r.rule ≡ rule)
ReadAs position residual rule (Err refusal) = ⊥

-- it is read, at most e steps from this position
unfoldable pub ReadWithin : (e position : ℕ) → ReadAnswer → Type 0
ReadWithin e position (Ok r) = (r.position ≤ position + e) × (position ≤ r.position + e)
ReadWithin e position (Err refusal) = ⊥

-- it is read, at most e and its residual from this position
unfoldable pub ReadWithinErrorBar : (e position : ℕ) → ReadAnswer → Type 0
ReadWithinErrorBar e position (Ok r) = ReadWithin (e + r.residual) position (Ok r)
ReadWithinErrorBar e position (Err refusal) = ⊥

-- ---- words of card B: three bits in each of the chunks separator 1, chunk 1, separator 2, chunk 2, separator 3; t is 1

-- 7 with one bit of chunk 1 damaged: document 01 reads it as 5
abbrev pub seven_damaged : List ℕ
seven_damaged = 0b01011111 ∷ 0b0000000 ∷ []

-- 15, the last position, with one bit of separator 3 damaged; it reads as 13, by rule 3, which is off by just twice the damaged bits
abbrev pub last_damaged : List ℕ
last_damaged = 0b11111111 ∷ 0b1011111 ∷ []

-- 15 with one bit of each chunk damaged
abbrev pub last_all_damaged : List ℕ
last_all_damaged = 0b10110110 ∷ 0b1101101 ∷ []

-- 11, whose chunk 2 is divided; it is read by rule 1
abbrev pub eleven : List ℕ
eleven = 0b11111111 ∷ 0b0000111 ∷ []

-- 10 with one bit damaged in each code chunk, which reads by rule 1; and 7 with one bit of chunk 2 damaged, which reads by rule 2
abbrev pub ten_damaged : List ℕ
ten_damaged = 0b11101111 ∷ 0b0001011 ∷ []

abbrev pub seven_in_chunk2 : List ℕ
seven_in_chunk2 = 0b01111111 ∷ 0b0000010 ∷ []

-- 0 with one bit of chunk 1 damaged
abbrev pub zero_damaged : List ℕ
zero_damaged = 0b00001000 ∷ 0b0000000 ∷ []

-- w(0) with both code chunks from w(1); the same with one bit damaged in separator 1 and one in chunk 1; and with chunk 2 alone from w(1)
abbrev pub mixed : List ℕ
mixed = 0b00111000 ∷ 0b0001110 ∷ []

abbrev pub mixed_damaged : List ℕ
mixed_damaged = 0b00110001 ∷ 0b0001110 ∷ []

abbrev pub mixed_in_chunk2 : List ℕ
mixed_in_chunk2 = 0b00000000 ∷ 0b0001110 ∷ []

-- w(0) with chunk 1 and separator 3 from w(1), by rule 1; with separators 2 and 3 from w(1), by rule 2
abbrev pub mixed_by_rule1 : List ℕ
mixed_by_rule1 = 0b00111000 ∷ 0b1110000 ∷ []

abbrev pub mixed_by_rule2 : List ℕ
mixed_by_rule2 = 0b11000000 ∷ 0b1110001 ∷ []

-- 4 with chunk 1, which is divided there, damaged in every bit
abbrev pub divided_damaged : List ℕ
divided_damaged = 0b00110111 ∷ 0b0000000 ∷ []

-- and of card A, whose t is 0: 00 100 00 000 00
abbrev pub unreadable_a : List ℕ
unreadable_a = 0b00000100 ∷ 0b0000 ∷ []

-- ---- rows that recur

-- of a position whose divided chunk is damaged in every bit, and each other chunk in one, seven in all: the word is read, off by at most
-- seven and the residual, and by at most fourteen
abbrev pub SevenArbitrary : (position : ℕ) (received : List ℕ) → Type 0
SevenArbitrary position received =
    (answer : ReadAnswer) → ReadWithDividedArbitrary card_b received answer
    → ReadWithinErrorBar 7 position answer × ReadWithin 14 position answer

-- no reading has the promise
abbrev pub NoneReads : (Promised : ReadAnswer → Type 0) → Type 0
NoneReads Promised = (r : Reading) → Promised (Ok r) → ⊥

pub record Witnessed : Type 0 where
  -- writing: at the last position the word is written, and a refusal leaves what was lent; one bit lies between 14 and 15, in either
  -- order, and between 1 and 0; the last position's word is no other's
  pub written : (answer : WriteAnswer) → WrittenIfServable card_b 15 (0xaa ∷ 0xaa ∷ []) answer → answer ≡ Written
  pub unchanged : (left : List ℕ) → UnchangedIfRefused (0xaa ∷ 0xaa ∷ []) left (Refused 7) → left ≡ 0xaa ∷ 0xaa ∷ []
  pub last_is_next : (word : List ℕ) → NeighboursDifferInOneBit card_b 14 word → differing_bits word (0xff ∷ 0x7f ∷ []) ≡ 1
  pub before_last : (word : List ℕ) → NeighboursDifferInOneBit card_b 15 word → differing_bits word (0xff ∷ 0x3f ∷ []) ≡ 1
  pub zero_is_before : (word : List ℕ) → NeighboursDifferInOneBit card_b 1 word → differing_bits word (0x00 ∷ 0x00 ∷ []) ≡ 1
  pub alone : (position : ℕ) → NoOtherPositionsWord card_b position (0xff ∷ 0x7f ∷ []) → position ≡ 15
  -- the nearest: 5 and 7 are as near, or 13 and 15, and the smaller is answered; by residuals that count differing bits, at the last
  -- position too; a word mixed from two telegrams is refused by 17
  pub smaller_of_two : (answer : ReadAnswer) → NearestOfAllowed card_b seven_damaged answer → ReadAs 5 1 2 answer
  pub smaller_at_last : (answer : ReadAnswer) → NearestOfAllowed card_b last_damaged answer → ReadAs 13 1 3 answer
  pub residual_counts : (answer : ReadAnswer) → NearestOfAllowed card_b last_damaged answer
      → residual (code_of card_b) (place last_damaged) 15 ≡ differing_bits (word_bytes (code_of card_b) 15) last_damaged
  pub by_17 : (answer : ReadAnswer) → NearestOfAllowed card_b mixed answer → answer ≡ Refused 17
  -- demand 3: off by at most twice the damaged bits, which 5 for 7 and 13 for 15 are; with t damaged bits in every chunk; and the sharper
  -- bound of the same words
  pub twice : (answer : ReadAnswer) → OffByAtMostTwiceDamaged card_b seven_damaged answer → ReadWithin 2 7 answer
  pub twice_at_last : (answer : ReadAnswer) → OffByAtMostTwiceDamaged card_b last_damaged answer → ReadWithin 2 15 answer
  pub twice_in_all : (answer : ReadAnswer) → OffByAtMostTwiceDamaged card_b last_all_damaged answer → ReadWithin 10 15 answer
  pub sharper : (answer : ReadAnswer) → OffByAtMostDamagedAndResidual card_b seven_damaged answer → ReadWithinErrorBar 1 7 answer
  pub sharper_at_last : (answer : ReadAnswer) → OffByAtMostDamagedAndResidual card_b last_damaged answer → ReadWithinErrorBar 1 15 answer
  pub sharper_in_all : (answer : ReadAnswer) → OffByAtMostDamagedAndResidual card_b last_all_damaged answer → ReadWithinErrorBar 5 15 answer
  -- each chunk in turn divided and damaged in every bit, each other one with t damaged bits, and the last position, where none is divided;
  -- and the error bar for just the damaged bits
  pub separator_1_arbitrary : SevenArbitrary 2 (0b01001100 ∷ 0b0010010 ∷ [])
  pub chunk_1_arbitrary : SevenArbitrary 5 (0b01100110 ∷ 0b0010010 ∷ [])
  pub separator_2_arbitrary : SevenArbitrary 8 (0b00110110 ∷ 0b0010011 ∷ [])
  pub chunk_2_arbitrary : SevenArbitrary 11 (0b10110110 ∷ 0b0011001 ∷ [])
  pub separator_3_arbitrary : SevenArbitrary 14 (0b10110110 ∷ 0b1001101 ∷ [])
  pub undivided_at_last : (answer : ReadAnswer) → ReadWithDividedArbitrary card_b last_damaged answer
      → ReadWithinErrorBar 1 15 answer × ReadWithin 2 15 answer
  pub error_bar : (answer : ReadAnswer) → ErrorBarHoldsPosition card_b divided_damaged answer → ReadWithinErrorBar 3 4 answer
  pub error_bar_at_last : (answer : ReadAnswer) → ErrorBarHoldsPosition card_b last_damaged answer → ReadWithinErrorBar 1 15 answer
  pub error_bar_residual : (r : Reading) → ErrorBarHoldsPosition card_b divided_damaged (Ok r) → r.residual ≤ 3
  pub one_divided : AtMostOneDivided card_b → (c : ℕ) → c < 5 → divided (code_of card_b) 14 c ≡ true → c ≡ 4
  -- bits of chunks: a count of just t, no count of a chunk that is not named, and no reading of a chunk with t + 1 damaged bits, card A's
  -- 100; and a chunk that is named needed the damaged bits
  pub just_t : (r : Reading) → CountsBitsOfChunks card_b zero_damaged (Ok r) → (r.chunk1 ≡ Some 1) × (r.chunk2 ≡ Some 0)
  pub not_named : (r : Reading) → CountsBitsOfChunks card_b seven_damaged (Ok r) → (r.chunk1 ≡ None) × (r.chunk2 ≡ Some 0)
  pub not_named_by_rule_1 : (r : Reading) → CountsBitsOfChunks card_b eleven (Ok r) → r.chunk2 ≡ None
  pub above_t : NoneReads (CountsBitsOfChunks card_a unreadable_a)
  pub needed : (r : Reading) → r.rule ≡ 3 → NeededAsDamaged card_b zero_damaged (Ok r)
      → (bits_value r.chunk1 ≡ 1) × (bits_value r.chunk2 ≡ 0)
  pub needed_in_all : (r : Reading) → r.rule ≡ 3 → NeededAsDamaged card_b last_all_damaged (Ok r)
      → (bits_value r.chunk1 ≡ 1) × (bits_value r.chunk2 ≡ 1)
  pub needed_by_rule_1 : (r : Reading) → r.rule ≡ 1 → NeededAsDamaged card_b ten_damaged (Ok r) → bits_value r.chunk1 ≡ 1
  pub needed_by_rule_2 : (r : Reading) → r.rule ≡ 2 → NeededAsDamaged card_b seven_in_chunk2 (Ok r) → bits_value r.chunk2 ≡ 1
  -- separators that contradict the codeword, by each rule; and words mixed from two telegrams, by each rule and each chunk that it names,
  -- with t damaged bits in both parts
  pub contradicts : NoneReads (ReadOnlyIfParityAgrees card_b mixed)
  pub contradicts_by_rule_1 : NoneReads (ReadOnlyIfParityAgrees card_b mixed_by_rule1)
  pub contradicts_by_rule_2 : NoneReads (ReadOnlyIfParityAgrees card_b mixed_by_rule2)
  pub mixed_never_read : NoneReads (MixedNeverRead card_b mixed)
  pub mixed_damaged_lem : NoneReads (MixedNeverRead card_b mixed_damaged)
  pub mixed_in_chunk_2 : NoneReads (MixedNeverRead card_b mixed_in_chunk2)
  pub mixed_by_rule_1 : NoneReads (MixedNeverRead card_b mixed_by_rule1)
  pub mixed_by_rule_2 : NoneReads (MixedNeverRead card_b mixed_by_rule2)
  -- what 17 changes: a word that was read is refused by it, another is read as before, and a refusal stays
  pub refused_now : (answer : ReadAnswer) → AsBeforeUnlessContradicted card_b mixed answer → answer ≡ Refused 17
  pub read_as_before : (answer : ReadAnswer) → AsBeforeUnlessContradicted card_b seven_damaged answer → ReadAs 5 1 2 answer
  pub refused_as_before : (answer : ReadAnswer) → AsBeforeUnlessContradicted card_b mixed_in_chunk2 answer → answer ≡ Refused 11
