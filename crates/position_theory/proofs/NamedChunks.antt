-- At every position that a rule allows for a codeword c(p), the code chunks that the rule names are whole, and hold c(p): rule 1 allows
-- positions past chunk 1 of the block before c(p), rule 2 positions before chunk 2 of the block after it, and rule 3 those within D
-- steps of its start, where separators alone change. Assumes nothing.
use mathlib.Core.Path.{◌≡◌, refl}
use mathlib.Core.Bool.{true, false≢true}
use mathlib.Core.Logic.{⊎_elim}
use Prim.Native.Nat.{ℕ, ◌+◌, ◌≤◌, ◌<◌}
use native.Mathlib.Nat.{le_dest, add-sub_cancel}
use native.Mathlib.Omega.{arith}
use borrow.Author.Tests.{eqb-false}
use Rattle.bits.proofs.Numbers.{lt_or_le, eq_or_ne, or_false_left}
use Rattle.model.specs.Card.{Code}
use Rattle.model.specs.Order.{last_codeword, changed_weight, start, last_position}
use Rattle.model.specs.Words.{word_at}
use Rattle.model.specs.Reading.{Seen, rule_seen, names_first, names_second, number_by, Range, range₁, range₂, range₃, two_ends, range_seen}
use Rattle.code_theory.specs.Promise.{ChunkPromise}
use Rattle.position_theory.specs.Nearest.{refusal_of, allowed_by}
use Rattle.position_theory.proofs.Ways.{HoldsCodeword, BothHold, both_ahead, second_ahead, first_passed, both_passed}
use Rattle.position_theory.proofs.Blocks.{block_way}
use Rattle.position_theory.proofs.Separators.{of_every_rule}
use Rattle.position_theory.proofs.RuleReads.{BothRead, InCode, RuleReads, rule_reads}

-- a position of a range
abbrev pub InRange : Range → (position : ℕ) → Type 0
InRange range position = (range.low ≤ position) × (position ≤ range.high)

module _ (C : Code) (promise : ChunkPromise C) where
  -- by rule 1, in block p - 1
  rule₁_holds : (p q : ℕ) → p ≤ last_codeword C → (p ≡ 0 → ⊥) → InRange (range₁ C p) q → HoldsCodeword C (word_at C q) 1 p
  rule₁_holds p q h ne (low, high) =
      let before : (i : ℕ) × (1 + i ≡ p) = le_dest {n = 1} {m = p} (omega arith) in
      let i : ℕ = before.0 in
      let here : p ≡ i + 1 = omega arith in
      let next = promise.start_next i (omega arith) in
      let from : start C i + C.D + changed_weight C i ≤ q = rw (here, add-sub_cancel i 1) at low in
      let to : q ≤ start C (i + 1) = rw here at high in
      let steps : (m : ℕ) × (start C i + m ≡ q) = le_dest (omega arith) in
      rw (here, ← steps.1) (first_passed C (block_way C promise i (omega arith)) steps.0 (omega arith) (omega arith))

  -- by rule 2, in block p
  rule₂_holds : (p q : ℕ) → p < last_codeword C → InRange (range₂ C p) q → HoldsCodeword C (word_at C q) 3 p
  rule₂_holds p q inside (low, high) =
      let steps : (m : ℕ) × (start C p + m ≡ q) = le_dest low in
      let next = promise.start_next p inside in
      rw (← steps.1) (second_ahead C (block_way C promise p inside) steps.0 (omega (arith, next)) (omega arith))

  -- by rule 3, at the end of block p - 1, up to the start of block p; and after that start, where p is not the last number
  up_to_start : (p q : ℕ) → p ≤ last_codeword C → start C p ≤ q + C.D → q ≤ start C p → BothHold C (word_at C q) p
  up_to_start p q h low high =
      ⊎_elim
      (λ (first : p ≡ 0).
      let here : start C 0 + 0 ≡ q = omega (arith, promise.start_zero, rw first at high) in
      let inside : 0 < last_codeword C = promise.two_codewords in
      rw (first, ← here)
      (both_ahead C (block_way C promise 0 inside) 0 (omega (arith, promise.start_next 0 inside)) (omega arith)))
      (λ (later : p ≡ 0 → ⊥).
      let before : (i : ℕ) × (1 + i ≡ p) = le_dest {n = 1} {m = p} (omega arith) in
      let i : ℕ = before.0 in
      let here : p ≡ i + 1 = omega arith in
      let next = promise.start_next i (omega arith) in
      let from : start C (i + 1) ≤ q + C.D = rw here at low in
      let to : q ≤ start C (i + 1) = rw here at high in
      let steps : (m : ℕ) × (start C i + m ≡ q) = le_dest (omega arith) in
      rw (here, ← steps.1) (both_passed C (block_way C promise i (omega arith)) steps.0 (omega arith) (omega arith)))
      (eq_or_ne p 0)

  after_start : (p q : ℕ) → p ≤ last_codeword C → start C p < q → q ≤ start C p + C.D → q ≤ last_position C
      → BothHold C (word_at C q) p
  unfolding last_position
  after_start p q h past high on_track =
      let not_last : p ≡ last_codeword C → ⊥ = λ e. omega (arith, rw e at past) in
      let steps : (m : ℕ) × (start C p + m ≡ q) = le_dest (omega arith) in
      rw (← steps.1)
      (both_ahead C (block_way C promise p (omega arith)) steps.0 (omega (arith, promise.start_next p (omega arith))) (omega arith))

  rule₃_holds : (p q : ℕ) → p ≤ last_codeword C → InRange (range₃ C p) q → BothHold C (word_at C q) p
  rule₃_holds p q h (low, high) =
      ⊎_elim (λ (past : start C p < q). after_start p q h past (omega arith) (omega arith))
      (λ (up_to_lem : q ≤ start C p). up_to_start p q h (omega arith) up_to_lem) (lt_or_le (start C p) q)

  -- at every position that what is seen of a word allows
  module _ (s : Seen) (kinds : BothRead (InCode C) s) (none : refusal_of (two_ends C) s ≡ 0) (q : ℕ)
      (within : InRange (allowed_by (two_ends C) s) q) where
    abbrev NamedHold : (rule : ℕ) → Type 0
    NamedHold rule =
        let p : ℕ = number_by s rule in
        (names_first rule ≡ true → HoldsCodeword C (word_at C q) 1 p) × (names_second rule ≡ true → HoldsCodeword C (word_at C q) 3 p)

    pub named_hold : NamedHold (rule_seen s)
    unfolding two_ends
    named_hold =
        of_every_rule (λ rule. RuleReads (two_ends C) s (InCode C) rule → InRange (range_seen (two_ends C) s rule) q → NamedHold rule)
        (λ reads there. absurd (reads.some_rule refl))
        (λ reads there. (
          λ named. rule₁_holds _ q reads.kind (eqb-false _ 0 (or_false_left _ _ reads.block)) there,
          λ named. absurd (false≢true named),
        ))
        (λ reads there. (
          λ named. absurd (false≢true named),
          λ named. rule₂_holds _ q (omega (arith, eqb-false _ (last_codeword C) reads.block, reads.kind)) there,
        ))
        (λ reads there.
        let both = rule₃_holds _ q reads.kind there in
        (λ named. both.0, λ named. both.1))
        s.s₁ s.s₂ s.s₃ (rule_reads (two_ends C) s (InCode C) kinds none) within
