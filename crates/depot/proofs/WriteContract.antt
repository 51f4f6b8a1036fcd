-- What a write answers and what it leaves in the lent word: the card's refusal, or on the code of a sound card refusals 6 and 7, each with the
-- lent word as it was, or that it is written, with the word of the position. Answer and what is left are the ones that the definition
-- gives, of which the clauses of the contract are theorems. Assumes nothing.
use mathlib.Core.Path.{◌≡◌, refl, sym, ◌∙◌}
use mathlib.Core.Bool.{cond, not}
use mathlib.Core.List.{List, []}
use Prim.Native.Nat.{ℕ, ◌≤◌, ◌<◌}
use native.Mathlib.Omega.{arith}
use borrow.Author.Tests.{eq-eqb, ne_eqb, lt-ltb, le-ltb}
use lib.Dec.{eqb, ltb}
use lib.ListN.{length}
use Rattle.std.specs.Prelude.{Ok, Err}
use Rattle.model.specs.Refusals.{Refused, status_of, values_by, first_refusal}
use Rattle.model.specs.Card.{card_refusal}
use Rattle.model.specs.Decoded.{meaning}
use Rattle.model.specs.Order.{last_position}
use Rattle.model.specs.Words.{word_bytes, word_length}
use Rattle.model.specs.WriteWord.{WriteAnswer, Written, write_refusal, write_answer, lent_after_write, write_values}
use Rattle.model.specs.declared.DecodedCard.{DecodedCard}
use Rattle.model.specs.declared.Refusal.{Refusal}
use Rattle.code_theory.specs.Promise.{RefusalOf}
use Rattle.code_theory.proofs.RefusalRows.{served_if_none, refused_if_some, status_and_values_alone}
use Rattle.card_reader.specs.DecodedFrom.{DecodedCardOf}
use Rattle.position_theory.specs.WritePromises.{NeighboursDifferInOneBit, NoOtherPositionsWord, WritePromises}
use Rattle.position_theory.proofs.WritePromises.{written_neighbours, written_alone, write_promises}

module _ (card : List ℕ) (position : ℕ) (lent : List ℕ) where
  -- the answer and what is left, as the definition has them
  abbrev Defined : WriteAnswer → (left : List ℕ) → Type 0
  Defined answer left = (answer ≡ write_answer card position lent) × (left ≡ lent_after_write card position lent)

  refused : (number : ℕ) → write_refusal card position lent ≡ number → (number ≡ 0 → ⊥) → Defined (Refused number) lent
  unfolding write_answer lent_after_write
  refused number e ne =
      (rw e (sym (refused_if_some number Refused Written ne)), rw e (sym (refused_if_some number (λ refusal. lent) _ ne)))

  pub write_by_card : (refusal : Refusal) → RefusalOf card refusal → Defined (Err refusal) lent
  unfolding write_refusal first_refusal
  write_by_card refusal is = refused refusal.number (rw (is.number, ne_eqb refusal.number 0 is.not_zero)) is.not_zero

  -- a sound card
  module _ (decoded : DecodedCard) (from : DecodedCardOf card decoded) where
    abbrev word_size : ℕ
    word_size = word_length (meaning decoded.code)

    abbrev last : ℕ
    last = last_position (meaning decoded.code)

    word_refusal : write_refusal card position lent ≡ cond (not (eqb (length lent) word_size)) 6 (cond (ltb last position) 7 0)
    unfolding write_refusal first_refusal
    word_refusal = rw (eq-eqb (card_refusal card) 0 from.sound_card, ← from.code)

    pub refused_6 : (length lent ≡ word_size → ⊥) → Defined (Refused 6) lent
    refused_6 other_length = refused 6 (word_refusal ∙ rw (ne_eqb (length lent) word_size other_length)) (λ e. omega arith)

    module _ (whole : length lent ≡ word_size) where
      pub refused_7 : last < position → Defined (Refused 7) lent
      refused_7 above =
          refused 7 (word_refusal ∙ rw (eq-eqb (length lent) word_size whole, lt-ltb last position above)) (λ e. omega arith)

      -- where neither holds, it is written
      pub written : position ≤ last → (left : List ℕ) → left ≡ word_bytes (meaning decoded.code) position → Defined Written left
      unfolding write_answer lent_after_write
      written within left e =
          let none : write_refusal card position lent ≡ 0 =
          word_refusal ∙ rw (eq-eqb (length lent) word_size whole, le-ltb last position within) in
          (sym (served_if_none _ Refused Written none), rw (e, from.code) (sym (served_if_none _ (λ refusal. lent) _ none)))

  -- the contract, and that the definition's answer meets it, with what the definition leaves
  abbrev WriteMeets : WriteAnswer → (left : List ℕ) → Type 0
  WriteMeets a lent_after =
      record {
        answer : a ≡ write_answer card position lent;
        status : status_of a ≡ write_refusal card position lent;
        values : write_values a ≡ [];
        left : lent_after ≡ lent_after_write card position lent;
        neighbours : a ≡ Written → NeighboursDifferInOneBit card position lent_after;
        alone : a ≡ Written → NoOtherPositionsWord card position lent_after;
        promises : WritePromises card position lent a lent_after;
      }

  none_written : (answer : WriteAnswer) → write_values answer ≡ []
  unfolding values_by
  none_written (Ok served) = refl
  none_written (Err refusal) = refl

  pub write_answered : {answer : WriteAnswer} {left : List ℕ} → Defined answer left → WriteMeets answer left
  unfolding write_answer
  write_answered (answered, leaves) =
      let (status, _) = status_and_values_alone {B = ℕ} (λ (served : Unit). []) (write_refusal card position lent) tt in
      rw (answered, leaves)
      (record {
        answer = refl;
        status = status;
        values = none_written _;
        left = refl;
        neighbours = written_neighbours card position lent;
        alone = written_alone card position lent;
        promises = write_promises card position lent;
      })
