-- What follows where a word is read: its card is sound, no row of the table holds of what is seen of it, and the answer is its reading.
-- Assumes nothing.
use mathlib.Core.Path.{◌≡◌, refl, sym, ◌∙◌}
use mathlib.Core.List.{List}
use mathlib.Core.Logic.{⊎_elim}
use Prim.Native.Nat.{ℕ}
use native.Mathlib.Omega.{arith}
use Rattle.bits.specs.Places.{place}
use Rattle.bits.proofs.Numbers.{eq_or_ne}
use Rattle.model.specs.Refusals.{unless_refused}
use Rattle.model.specs.Card.{code_of, card_refusal}
use Rattle.model.specs.Reading.{seen, two_ends, rule_named, rows_9_to_12, rows_seen, rows_of}
use Rattle.model.specs.ReadWord.{rows_of_word, reading_of, read_refusal, read_answer}
use Rattle.model.specs.declared.Reading.{Reading}
use Rattle.code_theory.proofs.RefusalRows.{NoneHolds, numbered, none_refuses, none_holds, served_if_none, refused_if_some, none_past_card}
use Rattle.position_theory.specs.Nearest.{refusal_of}
use Rattle.std.specs.Prelude.{Ok}
use Rattle.model.specs.Refusals.{Refused}

-- a word is read where no refusal holds, and what is answered is its reading
pub read_if_served : (refusal : ℕ) (reading r : Reading) → unless_refused refusal Refused (Ok reading) ≡ Ok r → (refusal ≡ 0) × (reading ≡ r)
read_if_served refusal reading r answered =
    ⊎_elim
    (λ (none : refusal ≡ 0).
    let same : Ok reading ≡ Ok r = sym (served_if_none refusal Refused (Ok reading) none) ∙ answered in (none, cc))
    (λ (some : refusal ≡ 0 → ⊥).
    let clash : Refused refusal ≡ Ok r = sym (refused_if_some refusal Refused (Ok reading) some) ∙ answered in
    let no : ◌≡◌ {A = ℕ} 0 1 = cc in absurd (omega arith))
    (eq_or_ne refusal 0)

-- of a card and a word as bytes
pub read_shows : (card received : List ℕ) (r : Reading) → read_answer card received ≡ Ok r
    → (card_refusal card ≡ 0) × (refusal_of (two_ends (code_of card)) (seen (code_of card) (place received)) ≡ 0)
    × (reading_of (code_of card) received ≡ r)
unfolding read_answer read_refusal rows_of_word rows_of rule_named rows_seen rows_9_to_12 NoneHolds numbered
read_shows card received r answered =
    let (none, is) = read_if_served _ _ _ answered in
    let (sound, none-of-word) = none_past_card (card_refusal card) (rows_of_word (code_of card) received) none in
    let (_, (_, none-of-rows)) = none_holds (rows_of_word (code_of card) received) refl none-of-word in
    (sound, none_refuses (rows_of (code_of card) (place received)) none-of-rows, is)
