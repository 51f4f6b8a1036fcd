-- Each row by its promise, whose premise is computed; of a chunk that no codeword is near enough to, every codeword is tried.
-- Assumes nothing.
use mathlib.Core.Path.{refl, sym, ◌∙◌}
use mathlib.Core.Bool.{false≢true}
use Prim.Native.Nat.{◌≤◌}
use native.Mathlib.Omega.{arith}
use borrow.Author.Tests.{leb-true}
use Rattle.bits.specs.Sums.{sum_below, distance}
use Rattle.bits.specs.Places.{weight, bit}
use Rattle.bits.specs.Searches.{any_below, first_from, first}
use Rattle.bits.specs.Counting.{those}
use Rattle.bits.proofs.Searches.{none_of_any}
use Rattle.model.specs.Refusals.{unless_refused}
use Rattle.model.specs.Card.{sum_of_rows, least_weight}
use Rattle.model.specs.Order.{gray, last_codeword, codeword, start, last_position}
use Rattle.model.specs.Reading.{chunk_distance, within_radius, read_first, chunk_reading, chunk_status, chunk_values}
use Rattle.model.specs.ReedMuller.{product, sets_of, sets_up_to, count_of_sets, product_row, product_of, reed_muller, order_within_limits}
use Rattle.model.specs.CheckCard.{summary_of, card_answer}
use Rattle.reed_muller_theory.specs.ReedMullerWitnesses.{two_off, VotesWitnessed}
use Rattle.reed_muller_theory.proofs.MadeCards.{code_of_made}

pub votes_witnessed : VotesWitnessed
unfolding sum_below distance weight any_below first_from first unless_refused sum_of_rows least_weight
    gray last_codeword codeword start last_position chunk_distance within_radius read_first chunk_reading
    product those sets_of sets_up_to count_of_sets product_row product_of order_within_limits summary_of card_answer chunk_status chunk_values
votes_witnessed =
    record {
      fewest = refl;
      most_variables = refl;
      order_of_m = refl;
      most_rows = refl;
      checked = λ card made. rw (made.sound, made.code_is, made.track_is);
      fields = λ card made. (made.n_is, made.k_is, made.D-is, made.offset_is, rw made.code_is);
      just_t = λ answer promise. (promise refl (leb-true _ _ refl)).reads 12 (leb-true _ _ refl) refl;
      above_t = λ p e promise.
          let (in_code, near, _) = (promise refl (leb-true _ _ refl)).within p e refl in
          let small : p ≤ 15 = in_code in
          let far = none_of_any (within_radius (reed_muller 1 3) (bit two_off)) 16 refl p (omega arith) in false≢true (sym far ∙ near);
      widest = λ answer promise. (promise refl (leb-true _ _ refl)).reads 1 (leb-true _ _ refl) refl;
      as_search = λ answer promise. rw (code_of_made 14 0 2 refl) at (promise 14 refl (leb-true _ _ refl));
      widest_as_search = λ answer promise. rw (code_of_made 14 0 2 refl) at (promise 14 refl (leb-true _ _ refl));
      refused_as_search = λ answer promise. rw (code_of_made 14 0 2 refl) at (promise 14 refl (leb-true _ _ refl));
    }
