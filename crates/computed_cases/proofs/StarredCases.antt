-- The definitions answer every case of the table as document 01 says: computed, all at once. Assumes nothing.
use mathlib.Core.Path.{◌≡◌, refl}
use mathlib.Core.List.{map}
use Rattle.bits.specs.Sums.{sum_below, distance, join_at}
use Rattle.bits.specs.Walk.{walk}
use Rattle.bits.specs.Places.{weight, place, cut, byte_of, list_of, pack, differing_bits}
use Rattle.bits.specs.Searches.{any_below, first, least_at, greatest}
use Rattle.model.specs.Refusals.{first_refusal, unless_refused}
use Rattle.model.specs.Card.{high_first, row_of, twos_complement, offset_of, stored_check, computed_check, sum_of_rows, least_weight, code_of}
use Rattle.model.specs.Card.{within_limits, row_too_wide, unused_row_set, unused_byte_set, misplaced, offset_outside, dependent, card_refusal}
use Rattle.model.specs.CardBytes.{bytes_of, row_bytes, sealed, card_of}
use Rattle.model.specs.Order.{gray, last_codeword, codeword, changed_row, changed_weight, start, last_position}
use Rattle.model.specs.Words.{chunk_size, places_before, five_chunks, word, block_of, word_at, word_bytes}
use Rattle.model.specs.Reading.{majority, chunk_distance, within_radius, read_first, chunk_reading, unreadable, number_read, seen}
use Rattle.model.specs.Reading.{rule_of, number_by, separator_of, parity_differs, two_ends, rows_9_to_12, rows_seen, rule_named, rows_of}
use Rattle.model.specs.Reading.{allowed, residual, nearest_in, bits_needed, nearest_reading, bits_value}
use Rattle.model.specs.WriteWord.{write_refusal, write_answer, lent_after_write}
use Rattle.model.specs.ReadWord.{spare_set, rows_of_word, read_refusal, read_answer}
use Rattle.model.specs.CardsToTry.{card_a, card_b}
use Rattle.computed_cases.specs.StarredCases.{Case, numbers_of, codeword_places, answer_to, starred_cases}
use Rattle.model.specs.Refusals.{status_of}
use Rattle.model.specs.Refusals.{values_by}

pub starred_cases_lem : map (λ (c : Case). answer_to c.question) starred_cases ≡ map (λ (c : Case). c.answer) starred_cases
unfolding sum_below distance join_at
    walk
    weight place cut byte_of list_of pack differing_bits
    any_below first least_at greatest
    high_first row_of twos_complement offset_of stored_check computed_check sum_of_rows least_weight code_of
    first_refusal unless_refused within_limits row_too_wide unused_row_set unused_byte_set misplaced offset_outside dependent card_refusal
    gray last_codeword codeword changed_row changed_weight start last_position
    chunk_size places_before five_chunks word block_of word_at word_bytes
    majority chunk_distance within_radius read_first chunk_reading unreadable number_read seen
    rule_of number_by separator_of parity_differs two_ends rows_9_to_12 rows_seen rule_named rows_of allowed residual nearest_in bits_needed nearest_reading
    write_refusal write_answer lent_after_write spare_set rows_of_word read_refusal read_answer
    status_of values_by bits_value
    bytes_of row_bytes sealed card_of card_a card_b numbers_of codeword_places answer_to starred_cases
starred_cases_lem = refl
