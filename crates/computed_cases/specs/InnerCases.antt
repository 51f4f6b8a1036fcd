-- Values of document 02's P1, P2, P4, P7 and P8 that no call answers, so that no program can try them: that no bytes stand beside refusal 13, an
-- offset at the ends of the numbers of 32 bits (such a card is refused by 14), a distance at a position that no sound card reaches, the
-- sums on the way to a block's start, widened stretches and how far they are from a mark; and at which positions each chunk is divided.
-- That the definitions give them is computed, `inner_cases_lem` and `divided_cases_lem`. Assumes nothing.
use Rattle.std.specs.Prelude.{List, [], ◌∷◌, ◌++◌, map, ℕ, suc, ℤ, pos, neg_ℤ, replicate}
use Rattle.bits.specs.Places.{list_of}
use Rattle.bits.specs.Counting.{those}
use Rattle.model.specs.Card.{Code, offset_of, code_of}
use Rattle.model.specs.Order.{row_share, sum_after_row, sum_before_row, last_position}
use Rattle.model.specs.Words.{millimetres_of, divided}
use Rattle.model.specs.MakeCard.{MadeCard, made_bytes, make_answer}
use Rattle.model.specs.Trams.{margin, widened}
use Rattle.model.specs.NearestTram.{distance_to}
use Rattle.model.specs.CardsToTry.{card_with, card_a, card_b}
use Rattle.model.specs.declared.Stretch.{Stretch}
use Rattle.model.specs.Refusals.{status_of}

-- four rows, of weights 4, 3, 2 and 1, and D 1
abbrev four_row_card : List ℕ
four_row_card = card_with 4 4 0 (0b1111 ∷ 0b0111 ∷ 0b0011 ∷ 0b0001 ∷ [])

-- the offset in these bytes 100 to 103
abbrev offset_in : List ℕ → List ℤ
offset_in bytes = offset_of (replicate 100 0 ++ bytes) ∷ []

-- the status of a card that is to be made, and its bytes, none of a refusal
abbrev made : MadeCard → List ℤ
made card = map pos (status_of card ∷ made_bytes card)

-- the shares of rows 0 to k - 1 in the start of a block
abbrev row_shares : (card : List ℕ) (block : ℕ) → List ℤ
row_shares card i = map pos (list_of (code_of card).k (row_share (code_of card) i))

-- the sum for the start of a block, before row 0 and after each row
abbrev row_sums : (card : List ℕ) (block : ℕ) → List ℤ
row_sums card i = map pos (sum_before_row (code_of card) i 0 ∷ list_of (code_of card).k (sum_after_row (code_of card) i))

-- a tram's stretch once it is widened on this card's track, and its distance from a mark
abbrev wide : (card : List ℕ) (low high : ℕ) → Stretch
wide card low high = let C : Code = code_of card in widened (margin C) (last_position C) (record { low = low; high = high })

abbrev wide_ends : (card : List ℕ) (low high : ℕ) → List ℤ
wide_ends card low high = map pos ((wide card low high).low ∷ (wide card low high).high ∷ [])

abbrev distance_from : (mark : ℕ) (card : List ℕ) (low high : ℕ) → List ℤ
distance_from mark card low high = map pos (distance_to mark (wide card low high) ∷ [])

-- values of the definitions, and what the document says
pub record InnerCase : Type 0 where
  pub given : List ℤ
  pub expected : List ℤ

abbrev signed_case : List ℤ → List ℤ → InnerCase
signed_case given expected = record { given = given; expected = expected }

abbrev inner_case : List ℤ → List ℕ → InnerCase
inner_case given expected = signed_case given (map pos expected)

unfoldable pub inner_cases : List InnerCase
inner_cases =
    -- P1: m 0 is 13, and no bytes stand beside a refusal
    inner_case (made (make_answer 14 0 0)) (13 ∷ [])
    -- P2: -2^31 and 2^31 - 1
    ∷ signed_case (offset_in (0x80 ∷ 0x00 ∷ 0x00 ∷ 0x00 ∷ [])) (neg_ℤ (pos 2147483648) ∷ [])
    ∷ inner_case (offset_in (0x7f ∷ 0xff ∷ 0xff ∷ 0xff ∷ [])) (2147483647 ∷ [])
    -- both ends of the range; no sound card has a position above 1,310,400
    ∷ inner_case (millimetres_of (neg_ℤ (pos 20000)) 1310400 ∷ []) (65500000 ∷ [])
    ∷ inner_case (millimetres_of (pos 20000) 1310400 ∷ []) (65540000 ∷ [])
    -- P4, with 3D × i first: card B's one row, of weight 3, is added at codeword 1
    ∷ inner_case (row_sums card_b 0) (0 ∷ 0 ∷ [])
    ∷ inner_case (row_sums card_b 1) (9 ∷ 15 ∷ [])
    -- card A's two rows, of weight 2, are first added at codewords 1 and 2, and row 0 again at 3
    ∷ inner_case (row_sums card_a 0) (0 ∷ 0 ∷ 0 ∷ [])
    ∷ inner_case (row_sums card_a 1) (6 ∷ 10 ∷ 10 ∷ [])
    ∷ inner_case (row_sums card_a 2) (12 ∷ 16 ∷ 20 ∷ [])
    ∷ inner_case (row_sums card_a 3) (18 ∷ 26 ∷ 30 ∷ [])
    -- of four rows, just before row 3 is added, where it is, and at the last codeword
    ∷ inner_case (row_shares four_row_card 7) (32 ∷ 12 ∷ 4 ∷ 0 ∷ [])
    ∷ inner_case (row_shares four_row_card 8) (32 ∷ 12 ∷ 4 ∷ 2 ∷ [])
    ∷ inner_case (row_shares four_row_card 15) (64 ∷ 24 ∷ 8 ∷ 2 ∷ [])
    ∷ inner_case (row_sums four_row_card 15) (45 ∷ 109 ∷ 133 ∷ 141 ∷ 143 ∷ [])
    -- P8: card B's t is 1, so 10 more at both ends, cut to the last position, 15, to 0, and to both; card A's t is 0
    ∷ inner_case (wide_ends card_b 12 13) (2 ∷ 15 ∷ [])
    ∷ inner_case (wide_ends card_b 3 4) (0 ∷ 14 ∷ [])
    ∷ inner_case (wide_ends card_b 5 10) (0 ∷ 15 ∷ [])
    ∷ inner_case (wide_ends card_a 4 6) (4 ∷ 6 ∷ [])
    -- below, at, in, at and above: to the nearer end
    ∷ inner_case (distance_from 1 card_a 4 6) (3 ∷ [])
    ∷ inner_case (distance_from 4 card_a 4 6) (0 ∷ [])
    ∷ inner_case (distance_from 5 card_a 4 6) (0 ∷ [])
    ∷ inner_case (distance_from 6 card_a 4 6) (0 ∷ [])
    ∷ inner_case (distance_from 8 card_a 4 6) (2 ∷ [])
    ∷ []

-- the positions, up to the last, at which a chunk, 0 to 4, of the position's word is divided
unfoldable pub where_divided : (card : List ℕ) (chunk : ℕ) → List ℕ
where_divided card chunk =
    let C : Code = code_of card in those (λ position. divided C position chunk) (suc (last_position C))

-- a card, a chunk of it, and the positions that the document gives
pub record Divisions : Type 0 where
  pub card : List ℕ
  pub chunk : ℕ
  pub positions : List ℕ

abbrev divides : List ℕ → ℕ → List ℕ → Divisions
divides card chunk positions = record { card = card; chunk = chunk; positions = positions }

-- two rows, of weights 2 and 1, and D 1: A is 2 in blocks 0 and 2, and 1 in block 1
unfoldable pub card_of_unequal_blocks : List ℕ
card_of_unequal_blocks = card_with 2 2 0 (0b11 ∷ 0b01 ∷ [])

unfoldable pub divided_cases : List Divisions
divided_cases =
    -- P7: on card B three places differ in each chunk, so each is divided at two positions, with one and with two of them taken
    divides card_b 0 (1 ∷ 2 ∷ [])
    ∷ divides card_b 1 (4 ∷ 5 ∷ [])
    ∷ divides card_b 2 (7 ∷ 8 ∷ [])
    ∷ divides card_b 3 (10 ∷ 11 ∷ [])
    ∷ divides card_b 4 (13 ∷ 14 ∷ [])
    -- card A, each block alike: two places differ in a chunk, so it is divided at one position of a block, and none at its start
    ∷ divides card_a 0 (1 ∷ 11 ∷ 21 ∷ [])
    ∷ divides card_a 1 (3 ∷ 13 ∷ 23 ∷ [])
    ∷ divides card_a 2 (5 ∷ 15 ∷ 25 ∷ [])
    ∷ divides card_a 3 (7 ∷ 17 ∷ 27 ∷ [])
    ∷ divides card_a 4 (9 ∷ 19 ∷ 29 ∷ [])
    -- with D 1 a separator is never divided, and with A 1, in block 1, neither is a code chunk
    ∷ divides card_of_unequal_blocks 0 []
    ∷ divides card_of_unequal_blocks 1 (2 ∷ 14 ∷ [])
    ∷ divides card_of_unequal_blocks 2 []
    ∷ divides card_of_unequal_blocks 3 (5 ∷ 17 ∷ [])
    ∷ divides card_of_unequal_blocks 4 []
    ∷ []
