-- The true position is allowed: in each of the four cases of what is seen of its word, the rule's range holds the position that
-- stands m steps into block i of a track with two ends. Assumes nothing.
use mathlib.Core.Path.{◌≡◌, refl, ap, ◌∙◌}
use mathlib.Core.Bool.{false}
use Prim.Native.Nat.{ℕ, ◌+◌, ◌%◌, ◌≤◌, ◌<◌}
use native.Mathlib.Nat.{add-sub_cancel}
use native.Mathlib.Omega.{arith}
use borrow.Author.Tests.{eq-eqb, ne_eqb}
use Rattle.model.specs.Refusals.{first_refusal}
use Rattle.model.specs.Card.{Code}
use Rattle.model.specs.Order.{last_codeword, changed_weight, block_length, start, last_position}
use Rattle.model.specs.Reading.{unreadable, number_read, Seen, rule_seen, number_by, separator_of, parity_differs}
use Rattle.model.specs.Reading.{Rules, two_ends, rows_9_to_12, rows_seen, range_seen}
use Rattle.code_theory.specs.Promise.{ChunkPromise}
use Rattle.position_theory.specs.SeenChunks.{ReadsAs}
use Rattle.position_theory.specs.Nearest.{refusal_of, allowed_by}
use Rattle.position_theory.proofs.Blocks.{start_on_track}
use Rattle.position_theory.proofs.RuleReads.{number_of}
use Rattle.position_theory.proofs.TrueCases.{TrueCase, around_first, first_part, last_part, around_last}

-- no row of the table holds of what is seen, and what is allowed holds this position
pub record Allows (R : Rules) (s : Seen) (position : ℕ) : Type 0 where
  pub none_refuses : refusal_of R s ≡ 0
  pub from_low : (allowed_by R s).low ≤ position
  pub to_high : position ≤ (allowed_by R s).high

-- by each rule, where its chunks read p, its block exists, and its separator has the parity of p
module _ (R : Rules) (s : Seen) (p position : ℕ) where
  -- the range of the rule holds the position
  abbrev pub Within : (rule : ℕ) → Type 0
  Within rule = ((R.range rule p).low ≤ position) × (position ≤ (R.range rule p).high)

  -- the allowed positions are those of a rule and the number that its chunks read
  range_is : (rule : ℕ) → rule_seen s ≡ rule → number_by s rule ≡ p → allowed_by R s ≡ R.range rule p
  range_is rule named number = ap (range_seen R s) named ∙ ap (R.range rule) number

  pub by_rule₁ : rule_seen s ≡ 1 → ReadsAs s.read₁ p → s.s₁ ≡ p % 2 → R.no_block 1 p ≡ false → Within 1 → Allows R s position
  unfolding rows_seen rows_9_to_12 number_by separator_of parity_differs unreadable number_read first_refusal
  by_rule₁ rule r parity block within =
      let range = range_is 1 rule (number_of s.read₁ r) in
      record {
        none_refuses = simp (rule, r.1, block, eq-eqb s.s₁ (p % 2) parity);
        from_low = rw range within.0;
        to_high = rw range within.1;
      }

  pub by_rule₂ : rule_seen s ≡ 2 → ReadsAs s.read₂ p → s.s₃ ≡ p % 2 → R.no_block 2 p ≡ false → Within 2 → Allows R s position
  unfolding rows_seen rows_9_to_12 number_by separator_of parity_differs unreadable number_read first_refusal
  by_rule₂ rule r parity block within =
      let range = range_is 2 rule (number_of s.read₂ r) in
      record {
        none_refuses = simp (rule, r.1, block, eq-eqb s.s₃ (p % 2) parity);
        from_low = rw range within.0;
        to_high = rw range within.1;
      }

  pub by_rule₃ : rule_seen s ≡ 3 → ReadsAs s.read₁ p → ReadsAs s.read₂ p → s.s₁ ≡ p % 2 → R.no_block 3 p ≡ false → Within 3
      → Allows R s position
  unfolding rows_seen rows_9_to_12 number_by separator_of parity_differs unreadable number_read first_refusal
  by_rule₃ rule r r' parity block within =
      let range = range_is 3 rule (number_of s.read₁ r) in
      record {
        none_refuses = simp (rule, r.1, r'.1, eq-eqb p p refl, block, eq-eqb s.s₁ (p % 2) parity);
        from_low = rw range within.0;
        to_high = rw range within.1;
      }

-- on a track with two ends
pub true_allowed : (C : Code) (promise : ChunkPromise C) (s : Seen) (i m : ℕ) → i < last_codeword C → m ≤ block_length C i
    → TrueCase C.D (changed_weight C i) i (i + 1) m s → Allows (two_ends C) s (start C i + m)
unfolding two_ends
true_allowed C promise s i m inside room = by_case
  where
    next : start C (i + 1) ≡ start C i + block_length C i
    next = promise.start_next i inside

    on_track : start C i + m ≤ last_position C
    on_track = omega (arith, next, start_on_track C promise (i + 1) (omega arith))

    by_case : TrueCase C.D (changed_weight C i) i (i + 1) m s → Allows (two_ends C) s (start C i + m)
    by_case (around_first rule r r' parity h) =
        by_rule₃ (two_ends C) s i (start C i + m) rule r r' parity refl (omega arith, omega (arith, on_track))
    by_case (first_part rule r parity h) =
        by_rule₂ (two_ends C) s i (start C i + m) rule r parity (ne_eqb i (last_codeword C) (omega arith)) (omega arith, omega arith)
    by_case (last_part rule r parity l) =
        by_rule₁ (two_ends C) s (i + 1) (start C i + m) rule r parity (rw (ne_eqb (i + 1) 0 (omega arith)))
        (rw (add-sub_cancel i 1) (omega arith), omega (arith, next))
    by_case (around_last rule r r' parity l) =
        by_rule₃ (two_ends C) s (i + 1) (start C i + m) rule r r' parity refl (omega (arith, next), omega (arith, next, on_track))
