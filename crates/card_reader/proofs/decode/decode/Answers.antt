-- `card_reader::decode::decode` meets its contract. The first three tests are refusals 1 to 3, one law each. Past them, what was read is
-- what the card's bytes hold: n, k, the rows, the offset, and the rows' least weight where none is too wide. By these the last tests
-- decide between refusals 4, 14 and 5 and a sound card, whose code and offset they are. Assumes nothing.
use mathlib.Core.Path.{◌≡◌, sym, ◌∙◌}
use mathlib.Core.Bool.{true}
use lib.ListN.{get_or}
use native.Mathlib.Omega.{arith}
use mir.Facts.{to_z-of_z}
use mir.Syntax.{w32}
use mir.Val.{to_z, of_z}
use Rattle.model.specs.Card.{length_of, row_count_of, row_of, code_of, offset_of, stored_check, computed_check, within_limits, misplaced}
use Rattle.model.specs.Card.{offset_outside, SoundCard}
use Rattle.code_theory.proofs.SoundCard.{limits_of_test, sound_card}
use Rattle.card_reader.proofs.CardDecoding.{least, least_of_card, refusal_4, refusal_14, refusal_5, not_refused, code_of_least}
use Rattle.card_reader.proofs.CardDecoding.{decoded_from}
use Rattle.card_reader.proofs.SplitRows.{Narrow}
use Rattle.card_reader.proofs.CardRefusals.{refusal_1, refusal_2, refusal_3, misplaced_of_card}
use Rattle.card_reader.proofs.decode.decode.Goals.{After-has_misplaced, After-least_weight-distance, After-offset_is_outside, After-track_of-track}
use Rattle.card_reader.proofs.decode.decode.Goals.{After-offset_of-offset, After-within_limits, Else-not-within_limits, Else-stored_check-computed_check}
use Rattle.card_reader.proofs.decode.decode.Goals as goal

-- past the second test: the two checks are equal
checked : (c : Else-stored_check-computed_check) → stored_check c.args.card.now ≡ computed_check c.args.card.now
checked c = sym c.stored_check.ensures ∙ c.if-stored_check-computed_check.false ∙ c.computed_check.ensures

-- what the third test asks of n and k
limits : (c : After-within_limits)
    → let b = c.args.card.now in c.within_limits.result ≡ within_limits (length_of b) (row_count_of b)
limits c = rw (c.byte_at-n.ensures.0, c.byte_at-k.ensures.0) at c.within_limits.ensures

-- past the third test
within : (c : Else-not-within_limits) → let b = c.args.card.now in within_limits (length_of b) (row_count_of b) ≡ true
within c = rw (c.byte_at-n.ensures.0, c.byte_at-k.ensures.0) at (sym c.within_limits.ensures ∙ c.if-not-within_limits.false)

-- the fourth test
is_misplaced : (c : After-has_misplaced) → c.has_misplaced.result ≡ misplaced c.args.card.now
is_misplaced c =
    misplaced_of_card _ _ _ _ _ _ c.byte_at-n.ensures.0 c.byte_at-k.ensures.0 c.rows_of-rows.ensures
    c.unused_byte_set-unused_set.ensures c.has_misplaced.ensures

-- past the fourth test: the offset, whose bits a local holds, and what the fifth asks of it
is_offset : (c : After-offset_of-offset) → to_z w32 (of_z w32 c.offset_of-offset.result) ≡ offset_of c.args.card.now
is_offset c = to_z-of_z {w = w32} (record { sfits = c.offset_of-offset.type_inv }) ∙ c.offset_of-offset.ensures

offset_is_outside : (c : After-offset_is_outside) → c.offset_is_outside.result ≡ offset_outside (offset_of c.args.card.now)
offset_is_outside c = rw (to_z-of_z {w = w32} (record { sfits = c.offset_of-offset.type_inv }), c.offset_of-offset.ensures) at c.offset_is_outside.ensures

-- past the fifth test: the least weight of the card's rows
is_least : (c : After-least_weight-distance)
    → let b = c.args.card.now in Narrow (length_of b) (row_count_of b) (row_of b) → c.least_weight-distance.result ≡ least b
is_least c =
    least_of_card _ _ _ _ _ c.byte_at-n.ensures.0 c.byte_at-k.ensures.0 c.rows_of-rows.ensures c.least_weight-distance.ensures

pub returns-then-card-ne-CARD_BYTES : goal.returns-then-card-ne-CARD_BYTES
returns-then-card-ne-CARD_BYTES c = record { number = refusal_1 _ c.if-card-ne-CARD_BYTES.true; not_zero = λ e. omega arith }

pub returns-then-stored_check-computed_check : goal.returns-then-stored_check-computed_check
returns-then-stored_check-computed_check c =
    record {
      number = refusal_2 _ c.if-card-ne-CARD_BYTES.false
          (λ e. c.if-stored_check-computed_check.true (c.stored_check.ensures ∙ e ∙ sym c.computed_check.ensures));
      not_zero = λ e. omega arith;
    }

pub returns-then-not-within_limits : goal.returns-then-not-within_limits
returns-then-not-within_limits c =
    let at = goal.at.returns-then-not-within_limits c in
    let outside = sym (limits at.After-within_limits) ∙ c.if-not-within_limits.true in
    record { number = refusal_3 _ c.if-card-ne-CARD_BYTES.false (checked at.Else-stored_check-computed_check) outside; not_zero = λ e. omega arith }

pub returns-then-has_misplaced : goal.returns-then-has_misplaced
returns-then-has_misplaced c =
    let at = goal.at.returns-then-has_misplaced c in
    let test = sym (is_misplaced at.After-has_misplaced) ∙ c.if-has_misplaced.true in
    let checked_card = checked at.Else-stored_check-computed_check in
    let number = refusal_4 _ (within at.Else-not-within_limits) c.if-card-ne-CARD_BYTES.false checked_card test in
    record { number = number; not_zero = λ e. omega arith }

pub least_weight-distance-requires : goal.least_weight-distance-requires
least_weight-distance-requires c =
    let bounds = limits_of_test _ _ (within (goal.at.least_weight-distance-requires c).Else-not-within_limits) in
    (omega (arith, c.byte_at-n.ensures.0, bounds.1), omega (arith, c.byte_at-k.ensures.0, bounds.3))

pub returns-then-offset_is_outside : goal.returns-then-offset_is_outside
returns-then-offset_is_outside c =
    let at = goal.at.returns-then-offset_is_outside c in
    let placed = sym (is_misplaced at.After-has_misplaced) ∙ c.if-has_misplaced.false in
    let test = sym (offset_is_outside at.After-offset_is_outside) ∙ c.if-offset_is_outside.true in
    let checked_card = checked at.Else-stored_check-computed_check in
    let number = refusal_14 _ (within at.Else-not-within_limits) c.if-card-ne-CARD_BYTES.false checked_card placed test in
    record { number = number; not_zero = λ e. omega arith }

pub returns-then-distance-eq0 : goal.returns-then-distance-eq0
returns-then-distance-eq0 c =
    let at = goal.at.returns-then-distance-eq0 c in
    let placed = sym (is_misplaced at.After-has_misplaced) ∙ c.if-has_misplaced.false in
    let in_range = sym (offset_is_outside at.After-offset_is_outside) ∙ c.if-offset_is_outside.false in
    record {
      number = refusal_5 _ (within at.Else-not-within_limits) c.if-card-ne-CARD_BYTES.false (checked at.Else-stored_check-computed_check) placed in_range _
          (is_least at.After-least_weight-distance) c.if-distance-eq0.true;
      not_zero = λ e. omega arith;
    }

-- past the last test: the card is sound, and its code is that of the numbers read
is_sound : (c : After-track_of-track) → SoundCard c.args.card.now
is_sound c =
    let at = goal.at.invariant_of-result c in
    not_refused _ (within at.Else-not-within_limits) c.if-card-ne-CARD_BYTES.false (checked at.Else-stored_check-computed_check)
    (sym (is_misplaced at.After-has_misplaced) ∙ c.if-has_misplaced.false)
    (sym (offset_is_outside at.After-offset_is_outside) ∙ c.if-offset_is_outside.false) _ (is_least at.After-least_weight-distance)
    c.if-distance-eq0.false

is_code : (c : After-track_of-track)
    → record { n = c.byte_at-n.result; k = c.byte_at-k.result; row = λ z. get_or c.rows_of-rows.result z 0; D = c.least_weight-distance.result }
    ≡ code_of c.args.card.now
is_code c =
    code_of_least _ (is_sound c) _ _ _ c.rows_of-rows.result c.byte_at-n.ensures.0 c.byte_at-k.ensures.0 c.rows_of-rows.ensures
    (is_least (goal.at.invariant_of-result c).After-least_weight-distance)

-- so the code that is built is a sound card's
pub invariant_of-result : goal.invariant_of-result
invariant_of-result c = record { sound = rw (is_code c) (sound_card _ (is_sound c)) }

pub returns : goal.returns
returns c =
    let at = goal.at.returns c in
    decoded_from _ _ (is_sound at.After-track_of-track) c.track_of-track.ensures (is_offset at.After-offset_of-offset)
    (is_code at.After-track_of-track)
