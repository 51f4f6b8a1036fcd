-- Document 01's example: card B followed by four words prints the six lines that it shows, with document 02's bits of the chunks that
-- were read; computed. Assumes nothing.
use mathlib.Core.Path.{◌≡◌, refl}
use mathlib.Core.List.{List, [], ◌∷◌, ◌++◌}
use Prim.Native.Nat.{ℕ}
use Rattle.bits.specs.Sums.{sum_below, distance, join_at}
use Rattle.bits.specs.Walk.{walk}
use Rattle.bits.specs.Places.{weight, place}
use Rattle.bits.specs.Searches.{any_below, first_from, first, least_at, greatest}
use Rattle.model.specs.Refusals.{first_refusal, unless_refused}
use Rattle.model.specs.Card.{high_first, track_of, row_of, twos_complement, offset_of, stored_check, computed_check, sum_of_rows}
use Rattle.model.specs.Card.{least_weight, code_of}
use Rattle.model.specs.Card.{within_limits, row_too_wide, unused_row_set, unused_byte_set, misplaced, offset_outside, dependent, card_refusal}
use Rattle.model.specs.Order.{gray, last_codeword, codeword, changed_row, changed_weight, start, last_position}
use Rattle.model.specs.Words.{five_chunks, word, block_of, word_at}
use Rattle.model.specs.Reading.{majority, chunk_distance, within_radius, read_first, chunk_reading, unreadable, number_read, seen}
use Rattle.model.specs.Reading.{rule_of, number_by, separator_of, parity_differs, two_ends, rows_9_to_12, rows_seen, rule_named, rows_of}
use Rattle.model.specs.Reading.{allowed, residual, nearest_in, bits_needed, nearest_reading}
use Rattle.model.specs.CheckCard.{summary_of, card_answer}
use Rattle.model.specs.ReadWord.{spare_set, rows_of_word, read_word}
use Rattle.model.specs.CardBytes.{bytes_of, row_bytes, sealed, card_of}
use Rattle.model.specs.CardsToTry.{card_b}
use Rattle.report.specs.Text.{ascii, digits_within, decimal}
use Rattle.report.specs.Lines.{card_line, bits_text, rule_and_bits, word_line, short_line, last_line}
use Rattle.report.specs.Report.{word_lines, count_if_read, words_read, words_report, report_of}

-- the words of the example
abbrev words : List ℕ
words = 0x7f ∷ 0x00 ∷ 0x5f ∷ 0x00 ∷ 0xc0 ∷ 0x01 ∷ 0x00 ∷ 0x80 ∷ []

pub example : report_of (card_b ++ words)
    ≡ ascii "track 14 last 15 radius 1\n1 at 7 residual 0 rule 2 0\n2 at 5 residual 1 rule 2 0\n3 refused 9\n4 refused 8\nwords 4 read 2\n"
unfolding sum_below distance join_at
    walk
    weight place
    any_below first_from first least_at greatest
    high_first track_of row_of twos_complement offset_of stored_check computed_check sum_of_rows least_weight code_of
    first_refusal unless_refused within_limits row_too_wide unused_row_set unused_byte_set misplaced offset_outside dependent card_refusal
    gray last_codeword codeword changed_row changed_weight start last_position
    five_chunks word block_of word_at
    majority chunk_distance within_radius read_first chunk_reading unreadable number_read seen
    rule_of number_by separator_of parity_differs two_ends rows_9_to_12 rows_seen rule_named rows_of allowed residual nearest_in bits_needed nearest_reading
    summary_of card_answer spare_set rows_of_word read_word
    bytes_of row_bytes sealed card_of card_b
    ascii digits_within decimal
    card_line bits_text rule_and_bits word_line short_line last_line
    word_lines count_if_read words_read words_report report_of
example = refl
