-- The theorems of a write, of the answer that the definition gives and of the bytes that it leaves: what can be served is written, what is
-- written could be served, and a refusal leaves the lent word (demand 1); the word of a neighbour differs in one bit, and no other
-- position has the word (demand 2). Assumes nothing.
use mathlib.Core.Path.{◌≡◌, refl, sym, ◌∙◌}
use mathlib.Core.Bool.{Bool, true, false, cond, not}
use mathlib.Core.List.{List}
use mathlib.Core.Logic.{⊎_elim}
use Prim.Native.Nat.{ℕ, ◌+◌, ◌≤◌}
use native.Mathlib.Omega.{arith}
use lib.Dec.{eqb, ltb}
use lib.ListN.{length}
use borrow.Author.Tests.{eq-eqb, ne_eqb, eqb-true, eqb-false, le-ltb, ltb-false}
use Rattle.bits.specs.Places.{differing_bits}
use Rattle.bits.proofs.Distance.{distance_comm}
use Rattle.bits.proofs.Numbers.{eq_or_ne}
use Rattle.model.specs.Refusals.{first_refusal, unless_refused}
use Rattle.model.specs.Card.{Code, card_refusal, code_of, SoundCard}
use Rattle.model.specs.Order.{last_position}
use Rattle.model.specs.Words.{word_bits, word_at, word_bytes, word_length}
use Rattle.model.specs.WriteWord.{write_refusal, write_answer, lent_after_write}
use Rattle.position_theory.specs.WritePromises.{NeighboursDifferInOneBit, NoOtherPositionsWord}
use Rattle.position_theory.specs.WritePromises.{WrittenIfServable, UnchangedIfRefused, WritePromises}
use Rattle.position_theory.proofs.WordBytes.{differing_words}
use Rattle.position_theory.proofs.DistinctWords.{neighbours_differ, words_distinct}
use Rattle.position_theory.proofs.SoundCards.{card_promise}
use Rattle.model.specs.WriteWord.{Written}
use Rattle.model.specs.Refusals.{Refused}

-- ---- demand 2, of the word of a position

-- in how many bits two positions' words differ does not go by their order
differing_comm : (C : Code) (p q : ℕ) → differing_bits (word_bytes C p) (word_bytes C q) ≡ differing_bits (word_bytes C q) (word_bytes C p)
differing_comm C p q =
    differing_words C p q ∙ distance_comm (word_bits C) (word_at C p) (word_at C q) ∙ sym (differing_words C q p)

neighbours_differ_in_one_bit : (card : List ℕ) (position : ℕ) → SoundCard card → position ≤ last_position (code_of card)
    → NeighboursDifferInOneBit card position (word_bytes (code_of card) position)
unfolding NeighboursDifferInOneBit
neighbours_differ_in_one_bit card position sound h neighbour h' =
    ⊎_elim
    (λ (next : neighbour ≡ position + 1). rw next (neighbours_differ (code_of card) (card_promise card sound) position (omega arith)))
    (λ (last : position ≡ neighbour + 1).
    rw (last, differing_comm (code_of card) (neighbour + 1) neighbour)
    (neighbours_differ (code_of card) (card_promise card sound) neighbour (omega arith)))

no_other_positions_word : (card : List ℕ) (position : ℕ) → SoundCard card → position ≤ last_position (code_of card)
    → NoOtherPositionsWord card position (word_bytes (code_of card) position)
unfolding NoOtherPositionsWord
no_other_positions_word card position sound h other h' same =
    words_distinct (code_of card) (card_promise card sound) other position h' h same

-- ---- demand 1, and demand 2 where the answer is Written

module _ (card : List ℕ) (position : ℕ) (lent : List ℕ) where
  -- the refusal's number, or 0
  abbrev refusal : ℕ
  refusal = write_refusal card position lent

  pub written_if_servable : WrittenIfServable card position lent (write_answer card position lent)
  unfolding WrittenIfServable write_answer write_refusal first_refusal unless_refused
  written_if_servable sound on_track whole =
      rw (
        eq-eqb (card_refusal card) 0 sound,
        eq-eqb (length lent) (word_length (code_of card)) whole,
        le-ltb (last_position (code_of card)) position on_track,
      )

  pub unchanged_if_refused : UnchangedIfRefused lent (lent_after_write card position lent) (write_answer card position lent)
  unfolding UnchangedIfRefused write_answer lent_after_write unless_refused
  unchanged_if_refused not_written =
      ⊎_elim (λ (e : refusal ≡ 0). absurd (not_written (rw (eq-eqb refusal 0 e))))
      (λ (ne : refusal ≡ 0 → ⊥). rw (ne_eqb refusal 0 ne))
      (eq_or_ne refusal 0)

  -- a write that answers Written had a sound card, a position on its track, and leaves the position's word
  none_refused : write_answer card position lent ≡ Written → refusal ≡ 0
  unfolding write_answer unless_refused
  none_refused written =
      ⊎_elim (λ (e : refusal ≡ 0). e)
      (λ (ne : refusal ≡ 0 → ⊥).
      let refused : write_answer card position lent ≡ Refused refusal = rw (ne_eqb refusal 0 ne) in
      let never : ◌≡◌ {A = ℕ} 0 1 = cc in absurd (omega arith))
      (eq_or_ne refusal 0)

  served : refusal ≡ 0 → SoundCard card × (position ≤ last_position (code_of card))
  unfolding write_refusal first_refusal
  served =
      by_tests (eqb (card_refusal card) 0) (eqb (length lent) (word_length (code_of card))) (ltb (last_position (code_of card)) position)
      refl refl
    where
      by_tests : (sound whole above : Bool) → eqb (card_refusal card) 0 ≡ sound → ltb (last_position (code_of card)) position ≡ above
          → cond (not sound) (card_refusal card) (cond (not whole) 6 (cond above 7 0)) ≡ 0
          → SoundCard card × (position ≤ last_position (code_of card))
      by_tests true true false s a e = (eqb-true (card_refusal card) 0 s, ltb-false (last_position (code_of card)) position a)
      by_tests true true true s a e = absurd (omega arith)
      by_tests true false above s a e = absurd (omega arith)
      by_tests false whole above s a e = absurd (eqb-false (card_refusal card) 0 s e)

  written_means : write_answer card position lent ≡ Written
      → SoundCard card × (position ≤ last_position (code_of card))
      × (lent_after_write card position lent ≡ word_bytes (code_of card) position)
  unfolding lent_after_write unless_refused
  written_means written =
      let none = none_refused written in ((served none).0, (served none).1, rw (eq-eqb refusal 0 none))

  pub written_neighbours : write_answer card position lent ≡ Written
      → NeighboursDifferInOneBit card position (lent_after_write card position lent)
  written_neighbours w =
      let means = written_means w in
      rw means.2 (neighbours_differ_in_one_bit card position means.0 means.1)

  pub written_alone : write_answer card position lent ≡ Written → NoOtherPositionsWord card position (lent_after_write card position lent)
  written_alone w =
      let means = written_means w in
      rw means.2 (no_other_positions_word card position means.0 means.1)

  -- all that is promised of a write beside these two
  pub write_promises : WritePromises card position lent (write_answer card position lent) (lent_after_write card position lent)
  write_promises = record { served = written_if_servable; unchanged = unchanged_if_refused }
