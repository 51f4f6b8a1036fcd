-- What the theorems of levels begin with: the position answer is the refusal, or what the levels read as; on a sound card it is that of the
-- inner call; and what follows where a word of levels is read. Assumes nothing.
use mathlib.Core.Path.{◌≡◌, refl, sym, ◌∙◌}
use mathlib.Core.Bool.{false}
use mathlib.Core.List.{List}
use mathlib.Core.Logic.{⊎_elim}
use Prim.Native.Nat.{ℕ}
use borrow.Author.Tests.{eq-eqb}
use lib.Ieee.{Float}
use lib.ListN.{length}
use Rattle.bits.proofs.Numbers.{eq_or_ne}
use Rattle.model.specs.Refusals.{first_refusal, unless_refused}
use Rattle.model.specs.Card.{Code, card_refusal, code_of, SoundCard}
use Rattle.model.specs.Words.{word_bits}
use Rattle.model.specs.Reading.{two_ends, rows_9_to_12, rows_seen}
use Rattle.model.specs.Levels.{any_outside, received_at, seen_in_levels, residual_unerased}
use Rattle.model.specs.ReadLevels.{rows_in_levels, rows_of_levels, levels_answered, read_levels, reading_in_levels, levels_refusal, levels_answer}
use Rattle.model.specs.ReadLevels.{position_answer}
use Rattle.model.specs.declared.Reading.{Reading}
use Rattle.code_theory.proofs.RefusalRows.{NoneHolds, numbered, none_refuses, none_holds, served_if_none, refused_if_some, none_past_card}
use Rattle.position_theory.specs.Nearest.{refusal_of}
use Rattle.position_theory.proofs.WordBytes.{reading_of_seen}
use Rattle.position_theory.proofs.ReadWords.{read_if_served}
use Rattle.level_theory.specs.LevelsSeen.{unerased_of, bits_of}
use Rattle.std.specs.Prelude.{Ok}
use Rattle.model.specs.Refusals.{Refused}

-- the position answer is the refusal, or what the levels read as
pub position_answered : (C : Code) (levels : List Float) (refusal : ℕ)
    → position_answer (levels_answered C levels refusal) ≡ unless_refused refusal Refused (Ok (reading_in_levels C (received_at levels)))
unfolding levels_answered position_answer
position_answered C levels refusal =
    ⊎_elim (λ (none : refusal ≡ 0). rw (served_if_none refusal Refused _ none, served_if_none refusal Refused _ none))
    (λ (some : refusal ≡ 0 → ⊥). rw (refused_if_some refusal Refused _ some, refused_if_some refusal Refused _ some))
    (eq_or_ne refusal 0)

-- d levels, none of them outside the limits, are answered by what is seen of them
pub read_if_inside : (C : Code) (levels : List Float) → length levels ≡ word_bits C → any_outside (word_bits C) levels ≡ false
    → position_answer (read_levels C levels)
    ≡ reading_of_seen (two_ends C) (seen_in_levels C (received_at levels)) (residual_unerased C (unerased_of levels) (bits_of levels))
unfolding read_levels rows_of_levels first_refusal reading_of_seen
read_if_inside C levels whole inside =
    position_answered C levels (first_refusal (rows_of_levels C levels)) ∙ rw (eq-eqb (length levels) (word_bits C) whole, inside)

-- of a sound card, the public call's answer is that of the inner call, which is handed the card's code
pub levels_sound : (card : List ℕ) (levels : List Float) → SoundCard card → levels_answer card levels ≡ read_levels (code_of card) levels
unfolding levels_answer levels_refusal read_levels first_refusal
levels_sound card levels sound = rw (eq-eqb (card_refusal card) 0 sound)

-- a word that is read shows that its card is sound and that no row holds of what is seen of its levels, and the answer is its reading
pub levels_show : (card : List ℕ) (levels : List Float) (r : Reading) → position_answer (levels_answer card levels) ≡ Ok r
    → (card_refusal card ≡ 0) × (refusal_of (two_ends (code_of card)) (seen_in_levels (code_of card) (received_at levels)) ≡ 0)
    × (reading_in_levels (code_of card) (received_at levels) ≡ r)
unfolding levels_answer levels_refusal rows_of_levels rows_seen rows_9_to_12 NoneHolds numbered
levels_show card levels r answered =
    let C = code_of card in
    let (none, is) = read_if_served _ _ _ (sym (position_answered C levels _) ∙ answered) in
    let (sound, none-of-levels) = none_past_card (card_refusal card) (rows_of_levels C levels) none in
    let (_, (_, none-of-rows)) = none_holds (rows_of_levels C levels) refl none-of-levels in
    (sound, none_refuses (rows_in_levels C (received_at levels)) none-of-rows, is)
