-- Each row by its promise: the premise is computed of the yard, the card and the damaged word, and what the promise then says is the row.
-- Assumes nothing.
use mathlib.Core.Path.{◌≡◌, refl, sym, ap, ◌∙◌}
use mathlib.Core.List.{List, [], ◌∷◌}
use Prim.Native.Nat.{ℕ}
use native.Mathlib.Omega.{arith}
use lib.ListN.{get_or, drop}
use Rattle.bits.specs.Sums.{sum_below, distance, join_at}
use Rattle.bits.specs.Walk.{walk}
use Rattle.bits.specs.Places.{weight, place, cut, byte_of, list_of, pack}
use Rattle.bits.specs.Searches.{any_below, first, least_at, greatest}
use Rattle.model.specs.Refusals.{first_refusal, unless_refused}
use Rattle.model.specs.Card.{high_first, track_of, row_of, twos_complement, offset_of, stored_check, computed_check, sum_of_rows, least_weight, code_of}
use Rattle.model.specs.Card.{within_limits, row_too_wide, unused_row_set, unused_byte_set, misplaced, offset_outside, dependent, card_refusal, SoundCard}
use Rattle.model.specs.CardBytes.{bytes_of, row_bytes, sealed, card_of}
use Rattle.model.specs.Order.{gray, last_codeword, codeword, changed_row, changed_weight, start, last_position}
use Rattle.model.specs.Words.{chunk_size, places_before, five_chunks, word, block_of, word_at, word_bytes}
use Rattle.model.specs.ReadWord.{spare_set}
use Rattle.model.specs.CardsToTry.{card_b}
use Rattle.model.specs.Yard.{empty_yard, queue_in, holders, trams_of, among, any_twice, any_for_free, unsound, holding, joined}
use Rattle.model.specs.RequestTrack.{rows_of_request, request_refusal, request_served, request_answer}
use Rattle.model.specs.ReleaseTrack.{is_holder, rows_of_release, refusal_ahead_of_word, accepted}
use Rattle.position_theory.specs.Damage.{damaged_in}
use Rattle.position_theory.specs.PositionWitnesses.{last_damaged}
use Rattle.position_theory.proofs.PositionWitnesses.{computed, within}
use Rattle.yard_theory.specs.Lines.{line}
use Rattle.yard_theory.specs.Runs.{yard_after, run, NeverUnsound, ServedInTurn}
use Rattle.yard_theory.specs.YardPromises.{OtherLinesStay, OnlyClearGivenAway, ClearNeverKept}
use Rattle.yard_theory.specs.YardWitnesses.{longer, last_of_longer, three_requests, alone, YardWitnessed}
use Rattle.model.specs.Refusals.{status_of}
use Rattle.model.specs.ReleaseTrack.{accepted_release}

longer_sound : SoundCard longer
unfolding sum_below any_below first_refusal high_first row_of twos_complement offset_of stored_check computed_check sum_of_rows
    within_limits row_too_wide unused_row_set unused_byte_set misplaced offset_outside dependent card_refusal
    bytes_of row_bytes sealed card_of longer
longer_sound = refl

longer_passes : refusal_ahead_of_word (alone 15) 9 longer ≡ 0
unfolding high_first track_of bytes_of row_bytes sealed card_of longer first_refusal refusal_ahead_of_word rows_of_release is_holder
    holders trams_of among any_twice any_for_free unsound
longer_passes = rw longer_sound

pub yard_witnessed : YardWitnessed
unfolding sum_below distance join_at walk weight place cut byte_of list_of pack
    any_below first least_at greatest
    high_first track_of row_of sum_of_rows least_weight code_of first_refusal unless_refused bytes_of row_bytes sealed card_of card_b longer
    gray last_codeword codeword changed_row changed_weight start last_position
    chunk_size places_before five_chunks word block_of word_at word_bytes spare_set damaged_in
    empty_yard queue_in holders trams_of among any_twice any_for_free unsound holding joined
    rows_of_request request_refusal request_served request_answer status_of accepted accepted_release
    line OtherLinesStay yard_after run NeverUnsound ServedInTurn OnlyClearGivenAway ClearNeverKept
yard_witnessed =
    record {
      request_refused = λ r status promise. promise.unchanged (λ is. let n : ◌≡◌ {A = ℕ} 21 0 = sym status ∙ is in omega (arith, n));
      holds = λ r is promise. promise.holds is;
      waits = λ r is promise. promise.waits is;
      joins = λ r is promise. promise.joins is;
      others_stay = λ r is promise. promise.others is 2 (λ same. let n : ◌≡◌ {A = ℕ} 2 14 = same in omega (arith, n));
      stays_sound = λ r is promise. promise.sound is;
      not_clear = λ r is promise. promise.unchanged (ap accepted is);
      freed = λ r is promise. promise.freed is;
      handed = λ r is promise. promise.handed 10 is;
      head_leaves = λ r is promise. sym (ap (drop 1) (promise.leaves is));
      no_other_leaves = λ r is promise.
          let n : ◌≡◌ {A = ℕ} 9 8 = ap (λ (l : List ℕ). get_or l 0 0) (promise.leaves is) in omega (arith, n);
      other_line = λ r is promise. promise.others is 2 (λ same. let n : ◌≡◌ {A = ℕ} 2 14 = same in omega (arith, n));
      left_sound = λ r is promise. promise.sound is;
      not_at_its_mark = λ r promise is.
          let above = promise 15 (computed refl) (within _ 15 last_damaged refl refl refl) is in omega (arith, above);
      just_clear = λ r promise.
          promise 45 (computed refl) (within _ 45 last_of_longer refl refl refl) (computed refl) longer_passes;
      third_waits = λ theorem later counted. (theorem three_requests later 3 14 1
          (record { ahead = 2 ∷ []; behind = []; in_list = refl; as_many = refl })).0 0 (omega (arith, counted));
      third_holds = λ theorem later counted. (theorem three_requests later 3 14 1
          (record { ahead = 2 ∷ []; behind = []; in_list = refl; as_many = refl })).1 counted;
      run_sound = λ theorem. theorem three_requests;
    }
