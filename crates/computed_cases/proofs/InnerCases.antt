-- The definitions give the values that no call answers as document 02 says: computed, all at once. Assumes nothing.
use mathlib.Core.Path.{◌≡◌, refl}
use mathlib.Core.List.{map}
use Rattle.bits.specs.Sums.{sum_below, distance, join_at}
use Rattle.bits.specs.Walk.{walk}
use Rattle.bits.specs.Places.{weight, list_of}
use Rattle.bits.specs.Searches.{any_below, greatest}
use Rattle.bits.specs.Counting.{those}
use Rattle.model.specs.Refusals.{first_refusal, unless_refused}
use Rattle.model.specs.Card.{high_first, row_of, twos_complement, offset_of, sum_of_rows, least_weight, code_of}
use Rattle.model.specs.CardBytes.{bytes_of, row_bytes, sealed, card_of}
use Rattle.model.specs.Order.{sum_after_row, sum_before_row, gray, last_codeword, codeword, changed_row, changed_weight, start, last_position}
use Rattle.model.specs.Words.{millimetres_of, chunk_size, places_before, five_chunks, word, block_of, word_at, divided}
use Rattle.model.specs.ReedMuller.{order_within_limits}
use Rattle.model.specs.MakeCard.{make_refusal, make_answer}
use Rattle.model.specs.Trams.{widened}
use Rattle.model.specs.TramsCrossing.{crosses}
use Rattle.model.specs.NearestTram.{distance_to}
use Rattle.model.specs.CardsToTry.{card_a, card_b}
use Rattle.computed_cases.specs.InnerCases.{InnerCase, inner_cases, card_of_unequal_blocks, where_divided, Divisions, divided_cases}
use Rattle.model.specs.Refusals.{status_of, values_by}

pub inner_cases_lem : map (λ (f : InnerCase). f.given) inner_cases ≡ map (λ (f : InnerCase). f.expected) inner_cases
unfolding sum_below
    weight list_of
    first_refusal unless_refused
    high_first row_of twos_complement offset_of sum_of_rows least_weight code_of
    bytes_of row_bytes sealed card_of
    sum_after_row sum_before_row
    last_codeword start last_position
    millimetres_of order_within_limits make_refusal make_answer status_of values_by widened crosses distance_to
    card_a card_b inner_cases
inner_cases_lem = refl

pub divided_cases_lem : map (λ (d : Divisions). where_divided d.card d.chunk) divided_cases ≡ map (λ (d : Divisions). d.positions) divided_cases
unfolding sum_below distance join_at walk weight any_below greatest
    high_first row_of sum_of_rows least_weight code_of bytes_of row_bytes sealed card_of
    gray last_codeword codeword changed_row changed_weight start last_position
    chunk_size places_before five_chunks word block_of word_at divided those
    card_a card_b card_of_unequal_blocks where_divided divided_cases
divided_cases_lem = refl
