-- What the library's contract promises of a write holds of its status and the lent word as it is left: the status decodes to the
-- library's answer. Assumes nothing.
use mathlib.Core.Path.{◌≡◌, refl, sym, ap, ◌∙◌}
use mathlib.Core.List.{List, []}
use Prim.Native.Nat.{ℕ}
use Rattle.model.specs.WriteWord.{write_refusal, write_answer, lent_after_write, write_values}
use Rattle.code_theory.proofs.RefusalRows.{served_if_none}
use Rattle.position_theory.specs.WritePromises.{NeighboursDifferInOneBit, NoOtherPositionsWord, WritePromises, UnchangedIfRefused}
use Rattle.dunnavish.specs.Crossing.{UnchangedUnlessZero}
use Rattle.dunnavish.specs.Decoding.{write_left}
use Rattle.model.specs.WriteWord.{WriteAnswer, Written}
use Rattle.model.specs.Refusals.{Refused, status_of}

written_if_zero : (status : ℕ) → status ≡ 0 → write_left status ≡ Written
unfolding write_left
written_if_zero status zero = served_if_none status Refused Written zero

module _ (card : List ℕ) (position : ℕ) (lent : List ℕ) where
  abbrev answer : WriteAnswer
  answer = write_answer card position lent

  answer_decodes : write_left (write_refusal card position lent) ≡ answer
  unfolding write_answer write_left
  answer_decodes = refl

  -- what the library's contract says of its answer and of the lent word after it
  abbrev WriteEnsured : (answered : WriteAnswer) (left : List ℕ) → Type 0
  WriteEnsured answered left =
      (answered ≡ answer)
      × ((status_of answered ≡ write_refusal card position lent)
      × ((write_values answered ≡ [])
      × ((left ≡ lent_after_write card position lent)
      × ((answered ≡ Written → NeighboursDifferInOneBit card position left)
      × ((answered ≡ Written → NoOtherPositionsWord card position left) × WritePromises card position lent answered left)))))

  pub write_crosses : (answered : WriteAnswer) (status : ℕ) (left : List ℕ) → WriteEnsured answered left → status ≡ status_of answered
      → (status ≡ status_of answer)
      × ((left ≡ lent_after_write card position lent)
      × (UnchangedUnlessZero lent status left
      × ((status ≡ 0 → NeighboursDifferInOneBit card position left)
      × ((status ≡ 0 → NoOtherPositionsWord card position left) × WritePromises card position lent (write_left status) left))))
  unfolding UnchangedUnlessZero UnchangedIfRefused status_of
  write_crosses answered status left (is, (refusal_is, (_, (is-left, (neighbours, (alone, promises)))))) is-status =
      let decoded : write_left status ≡ answered = rw (is-status, refusal_is, is) answer_decodes in
      let written : status ≡ 0 → answered ≡ Written = λ zero. sym decoded ∙ written_if_zero status zero in
      let unchanged : UnchangedUnlessZero lent status left =
      λ nonzero. promises.unchanged (λ is-written. nonzero (is-status ∙ ap status_of is-written)) in
      let as_decoded : WritePromises card position lent (write_left status) left = rw decoded promises in
      let number : status ≡ status_of answer = is-status ∙ ap status_of is in
      (number, (is-left, (unchanged, (λ zero. neighbours (written zero), (λ zero. alone (written zero), as_decoded)))))
