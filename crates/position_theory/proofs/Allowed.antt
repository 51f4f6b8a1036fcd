-- Whatever word is received, where no row of the table holds, the positions that it allows are on the track, and their words differ
-- in as many bits as they in steps: by rules 1 and 2 they lie in one block, by rule 3 within D steps of a start. Assumes nothing.
use mathlib.Core.Path.{◌≡◌, refl}
use mathlib.Core.Bool.{false}
use Prim.Native.Nat.{ℕ, ◌+◌, ◌≤◌, ◌<◌}
use native.Mathlib.Nat.{le_dest, add-sub_cancel}
use native.Mathlib.Omega.{arith}
use borrow.Author.Tests.{eqb-false}
use Rattle.bits.proofs.Numbers.{or_false_left}
use Rattle.model.specs.Card.{Code}
use Rattle.model.specs.Order.{last_codeword, changed_weight, start, last_position}
use Rattle.model.specs.Words.{word_bits, word_at}
use Rattle.model.specs.Reading.{Seen, Range, range₁, range₂, range₃, Rules, two_ends, range_seen}
use Rattle.code_theory.specs.Promise.{ChunkPromise}
use Rattle.position_theory.specs.Nearest.{refusal_of, allowed_by}
use Rattle.position_theory.proofs.Blocks.{start_on_track}
use Rattle.position_theory.proofs.Ranges.{isometric_part, IsometricRange}
use Rattle.position_theory.proofs.Separators.{of_every_rule}
use Rattle.position_theory.proofs.RuleReads.{BothRead, InCode, RuleReads, rule_reads}
use Rattle.position_theory.proofs.Isometry.{isometric_block, isometric_around}

-- What is allowed goes by what is seen. A property of each rule's range, where its chunks read a number of some kind and its block
-- exists, is one of the range that is allowed, where chunks read such numbers only.
module _ (R : Rules) (P : Range → Type 0) (Kind : ℕ → Type 0) where
  -- what a rule allows where its chunks read p
  abbrev Rule : (rule : ℕ) → Type 0
  Rule rule = (p : ℕ) → Kind p → R.no_block rule p ≡ false → P (R.range rule p)

  module _ (s : Seen) (kinds : BothRead Kind s) where
    pub of_all_allowed : Rule 1 → Rule 2 → Rule 3 → refusal_of R s ≡ 0 → P (allowed_by R s)
    of_all_allowed rule₁ rule₂ rule₃ none =
        of_every_rule (λ rule. RuleReads R s Kind rule → P (range_seen R s rule))
        (λ reads. absurd (reads.some_rule refl))
        (λ reads. rule₁ _ reads.kind reads.block)
        (λ reads. rule₂ _ reads.kind reads.block)
        (λ reads. rule₃ _ reads.kind reads.block)
        s.s₁ s.s₂ s.s₃ (rule_reads R s Kind kinds none)

-- on a track with two ends, where chunks read codewords of the code
abbrev IsometricOnTrack : Code → Range → Type 0
IsometricOnTrack C = IsometricRange (word_bits C) (word_at C) (last_position C)

module _ (C : Code) (promise : ChunkPromise C) where
  -- rule 1: the part of block i from offset D + A(i) on
  end_of_block : (i : ℕ) → i + 1 ≤ last_codeword C
      → IsometricOnTrack C (record { low = start C i + C.D + changed_weight C i; high = start C (i + 1) })
  end_of_block i inside =
      record {
        some = omega (arith, promise.start_next i (omega arith));
        on_track = start_on_track C promise (i + 1) inside;
        isometric =
            isometric_part (word_bits C) (word_at C) (start C i) (start C (i + 1)) (isometric_block C promise i (omega arith))
            (omega arith) (omega arith);
      }

  rule₁_isometric : (p : ℕ) → p ≤ last_codeword C → (p ≡ 0 → ⊥) → IsometricOnTrack C (range₁ C p)
  rule₁_isometric p h ne =
      let before : (i : ℕ) × (1 + i ≡ p) = le_dest {n = 1} {m = p} (omega arith) in
      let here : p ≡ before.0 + 1 = omega arith in
      rw (here, add-sub_cancel before.0 1) (end_of_block before.0 (rw (← here) h))

  -- rule 2: the part of block p up to offset 2D + A(p)
  rule₂_isometric : (p : ℕ) → p < last_codeword C → IsometricOnTrack C (range₂ C p)
  rule₂_isometric p inside =
      record {
        some = omega arith;
        on_track = omega (arith, promise.start_next p inside, start_on_track C promise (p + 1) (omega arith));
        isometric =
            isometric_part (word_bits C) (word_at C) (start C p) (start C (p + 1)) (isometric_block C promise p inside) (omega arith)
            (omega (arith, promise.start_next p inside));
      }

  -- rule 3: the positions within D steps of a start
  rule₃_isometric : (p : ℕ) → p ≤ last_codeword C → IsometricOnTrack C (range₃ C p)
  rule₃_isometric p h =
      record { some = omega (arith, start_on_track C promise p h); on_track = omega arith; isometric = isometric_around C promise p h }

  pub allowed_isometric : (s : Seen) → BothRead (InCode C) s → refusal_of (two_ends C) s ≡ 0
      → IsometricOnTrack C (allowed_by (two_ends C) s)
  unfolding two_ends
  allowed_isometric s kinds =
      of_all_allowed (two_ends C) (IsometricOnTrack C) (InCode C) s kinds
      (λ p h block. rule₁_isometric p h (eqb-false p 0 (or_false_left _ _ block)))
      (λ p h block. rule₂_isometric p (omega (arith, eqb-false p (last_codeword C) block, h)))
      (λ p h block. rule₃_isometric p h)
