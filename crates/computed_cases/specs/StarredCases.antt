-- Document 01, "Two cards to try": the cases marked *, and no others, in one table of questions and answers. Document 02's P1 to P9 name
-- no example: their numbers are limits and the ends of ranges, whose borders are cases that run (rust/tests/cases.txt), as are those
-- that document 01 doesn't mark. That the definitions answer so is one theorem, `starred_cases_lem`. Assumes nothing.
use Rattle.std.specs.Prelude.{List, [], ◌∷◌, ◌++◌, ℕ, zero, suc}
use Rattle.bits.specs.Sums.{sum_below}
use Rattle.bits.specs.Places.{bit, place, list_of, differing_bits}
use Rattle.model.specs.Card.{Code, code_of}
use Rattle.model.specs.CardsToTry.{card_a, card_b}
use Rattle.model.specs.Order.{codeword, last_position, start}
use Rattle.model.specs.Words.{separator₁, separator₂, separator₃, word_bytes}
use Rattle.model.specs.Reading.{not_read}
use Rattle.model.specs.WriteWord.{write_answer, lent_after_write, write_values}
use Rattle.model.specs.ReadWord.{read_answer, read_values}
use Rattle.model.specs.Refusals.{status_of}

-- what may be asked of a card
pub data Question : Type 0 where
  -- so many codewords in their order, place by place
  order : (card : List ℕ) (codewords : ℕ) → Question
  -- the starts of so many blocks, and the last position
  starts : (card : List ℕ) (blocks : ℕ) → Question
  -- the answer to a write, and the bytes that the lent word is left with
  write : (card : List ℕ) (position : ℕ) (lent : List ℕ) → Question
  -- the answer to a read
  read : (card received : List ℕ) → Question
  -- in how many bits the position's word and the received word differ
  bits_differing : (card : List ℕ) (position : ℕ) (received : List ℕ) → Question
  -- how many bits of each separator are 1
  ones_of_separators : (card received : List ℕ) → Question

-- an answer written out: its status, then its values
unfoldable pub numbers_of : {A : Type 0} (status : A → ℕ) (values : A → List ℕ) (answer : A) → List ℕ
numbers_of status values answer = status answer ∷ values answer

-- the codewords c(0), …, c(m - 1) of n places, each place 0 first
unfoldable pub codeword_places : List ℕ → ℕ → List ℕ
codeword_places card zero = []
codeword_places card (suc i) = codeword_places card i ++ list_of (code_of card).n (bit (codeword (code_of card) i))

-- what the definitions answer
unfoldable pub answer_to : Question → List ℕ
answer_to (order card m) = codeword_places card m
answer_to (starts card m) = list_of m (start (code_of card)) ++ (last_position (code_of card) ∷ [])
answer_to (write card position lent) =
    numbers_of status_of write_values (write_answer card position lent) ++ lent_after_write card position lent
answer_to (read card received) = numbers_of status_of read_values (read_answer card received)
answer_to (bits_differing card position received) = differing_bits (word_bytes (code_of card) position) received ∷ []
answer_to (ones_of_separators card received) =
    let C : Code = code_of card in
    let x : ℕ → ℕ = place received in
    sum_below (separator₁ C x) C.D ∷ sum_below (separator₂ C x) C.D ∷ sum_below (separator₃ C x) C.D ∷ []

-- a question and what the document says
pub record Case : Type 0 where
  pub question : Question
  pub answer : List ℕ

abbrev case : Question → List ℕ → Case
case question answer = record { question = question; answer = answer }

unfoldable pub starred_cases : List Case
starred_cases =
    -- card B: position 0 is `00 00`
    case (write card_b 0 (0xaa ∷ 0xaa ∷ [])) (0 ∷ 0x00 ∷ 0x00 ∷ [])
    -- 7 is `7F 00`
    ∷ case (write card_b 7 (0xaa ∷ 0xaa ∷ [])) (0 ∷ 0x7f ∷ 0x00 ∷ [])
    -- 15 is `FF 7F`
    ∷ case (write card_b 15 (0xaa ∷ 0xaa ∷ [])) (0 ∷ 0xff ∷ 0x7f ∷ [])
    -- writing 16: refusal 7, and no byte of the lent word is changed
    ∷ case (write card_b 16 (0xaa ∷ 0xaa ∷ [])) (7 ∷ 0xaa ∷ 0xaa ∷ [])
    -- `5F 00` reads 5; it is 7 with one bit damaged, off by two (the residual is 1, by rule 2, which names chunk 2)
    ∷ case (read card_b (0x5f ∷ 0x00 ∷ [])) (0 ∷ 5 ∷ 1 ∷ 2 ∷ not_read ∷ 0 ∷ [])
    ∷ case (bits_differing card_b 7 (0x5f ∷ 0x00 ∷ [])) (1 ∷ [])
    -- `00 70`: 12
    ∷ case (read card_b (0x00 ∷ 0x70 ∷ [])) (12 ∷ [])
    -- `00 0E` (chunk 2 all ones): 11
    ∷ case (read card_b (0x00 ∷ 0x0e ∷ [])) (11 ∷ [])
    -- card A: order 000, 110, 101, 011 (place 0 leftmost)
    ∷ case (order card_a 4) (0 ∷ 0 ∷ 0 ∷ 1 ∷ 1 ∷ 0 ∷ 1 ∷ 0 ∷ 1 ∷ 0 ∷ 1 ∷ 1 ∷ [])
    -- starts 0, 10, 20, 30; last 30
    ∷ case (starts card_a 4) (0 ∷ 10 ∷ 20 ∷ 30 ∷ 30 ∷ [])
    -- word of 5 is 11 110 10 000 00; separator 2 ties and it reads 5 by rule 2
    ∷ case (write card_a 5 (0 ∷ 0 ∷ [])) (0 ∷ 0b00101111 ∷ 0b0000 ∷ [])
    ∷ case (ones_of_separators card_a (0b00101111 ∷ 0b0000 ∷ [])) (2 ∷ 1 ∷ 0 ∷ [])
    ∷ case (read card_a (0b00101111 ∷ 0b0000 ∷ [])) (0 ∷ 5 ∷ 0 ∷ 2 ∷ not_read ∷ 0 ∷ [])
    -- word of 9, which is 11 110 11 110 10, reads 9 by rule 1
    ∷ case (write card_a 9 (0 ∷ 0 ∷ [])) (0 ∷ 0b11101111 ∷ 0b0101 ∷ [])
    ∷ case (read card_a (0b11101111 ∷ 0b0101 ∷ [])) (0 ∷ 9 ∷ 0 ∷ 1 ∷ 0 ∷ not_read ∷ [])
    -- 00 100 00 000 00: 10
    ∷ case (read card_a (0b00000100 ∷ 0b0000 ∷ [])) (10 ∷ [])
    ∷ []
