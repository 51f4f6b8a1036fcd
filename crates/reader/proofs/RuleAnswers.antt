-- What a rule answers, by what its chunks read as: one law for each way out of the code. A chunk that is unreadable is refusal 10; chunks
-- that read differently are 11; where they read as a codeword, a block that does not exist is 12, and a separator that contradicts the
-- codeword is 17. What a search of the allowed positions has found is answered with the counts of bits in which the rule's chunks differ
-- from the codeword. No kind of track is known here. Assumes nothing.
use mathlib.Core.Path.{◌≡◌, refl, ap, ◌∙◌}
use mathlib.Core.Bool.{true, false}
use Prim.Native.Nat.{ℕ}
use borrow.Author.Tests.{eq-eqb, ne_eqb}
use Rattle.model.specs.Refusals.{first_refusal, unless_refused}
use Rattle.model.specs.Reading.{unreadable, number_read, Seen, number_by, separator_by, parity_differs}
use Rattle.model.specs.Reading.{Range, Rules, rows_9_to_12, rows_seen, range_seen, nearest_in, bits_needed, nearest_reading}
use Rattle.reader.specs.declared.chunks.ChunksRead.{ChunksRead}
use Rattle.nearest_position.specs.declared.scan.Scan.{Scan}
use Rattle.nearest_position.specs.Scanned.{SearchedRange}
use Rattle.reader.specs.RuleAnswers.{found_at, answer_by, ChunksReadAs}
use Rattle.model.specs.Reading.{Codeword, Unreadable}
use Rattle.std.specs.Prelude.{None, Ok, Some}
use Rattle.model.specs.Refusals.{Refused}

-- ---- what the chunks read as

module _ (s : Seen) (R : Rules) (residual : ℕ → ℕ) where
  pub rule₁_unreadable : s.read₁ ≡ Unreadable → Refused 10 ≡ answer_by R s residual 1
  unfolding answer_by rows_seen rows_9_to_12 unreadable first_refusal unless_refused
  rule₁_unreadable r = rw r

  pub rule₂_unreadable : s.read₂ ≡ Unreadable → Refused 10 ≡ answer_by R s residual 2
  unfolding answer_by rows_seen rows_9_to_12 unreadable first_refusal unless_refused
  rule₂_unreadable r = rw r

  pub rule₃_unreadable : s.read₁ ≡ Unreadable → Refused 10 ≡ answer_by R s residual 3
  unfolding answer_by rows_seen rows_9_to_12 unreadable first_refusal unless_refused
  rule₃_unreadable r = rw r

  module _ (p e : ℕ) (r : s.read₁ ≡ Codeword p e) where
    pub rule₃_second_unreadable : s.read₂ ≡ Unreadable → Refused 10 ≡ answer_by R s residual 3
    unfolding answer_by rows_seen rows_9_to_12 unreadable first_refusal unless_refused
    rule₃_second_unreadable r' = rw (r, r')

    pub rule₃_differs : (q f : ℕ) → s.read₂ ≡ Codeword q f → (p ≡ q → ⊥) → Refused 11 ≡ answer_by R s residual 3
    unfolding answer_by rows_seen rows_9_to_12 unreadable number_by number_read first_refusal unless_refused
    rule₃_differs q f r' differ = rw (r, r', ne_eqb p q differ)

module _ (s : Seen) (p e : ℕ) where
  pub rule₁_read : s.read₁ ≡ Codeword p e → ChunksReadAs s 1 (record { number = p; chunk1 = Some e; chunk2 = None })
  unfolding rows_seen rows_9_to_12 unreadable number_by number_read bits_needed first_refusal
  rule₁_read r = record { number_is = rw r; chunk₁_is = rw r; chunk₂_is = refl; rows_left = λ R. rw r }

  pub rule₂_read : s.read₂ ≡ Codeword p e → ChunksReadAs s 2 (record { number = p; chunk1 = None; chunk2 = Some e })
  unfolding rows_seen rows_9_to_12 unreadable number_by number_read bits_needed first_refusal
  rule₂_read r = record { number_is = rw r; chunk₁_is = refl; chunk₂_is = rw r; rows_left = λ R. rw r }

  pub rule₃_read : (q f : ℕ) → s.read₁ ≡ Codeword p e → s.read₂ ≡ Codeword q f → p ≡ q
      → ChunksReadAs s 3 (record { number = p; chunk1 = Some e; chunk2 = Some f })
  unfolding rows_seen rows_9_to_12 unreadable number_by number_read bits_needed first_refusal
  rule₃_read q f r r' same =
      record { number_is = rw r; chunk₁_is = rw r; chunk₂_is = rw r'; rows_left = λ R. rw (r, r', eq-eqb p q same) }

-- ---- what the rule answers of chunks that are read

module _ (R : Rules) (s : Seen) (residual : ℕ → ℕ) (rule : ℕ) (read : ChunksRead) (as_read : ChunksReadAs s rule read) where
  answer_of_search : (range : Range) (scan : Scan) → SearchedRange residual range scan
      → found_at scan rule read ≡ Ok (nearest_reading residual s rule range)
  unfolding found_at nearest_reading nearest_in
  answer_of_search range scan searched =
      let scanned = searched.scanned in
      rw (← searched.low_is, ← searched.high_is, ← scanned.nearest, scanned.least, as_read.chunk₁_is, as_read.chunk₂_is)

  pub no_block_lem : R.no_block rule read.number ≡ true → Refused 12 ≡ answer_by R s residual rule
  unfolding answer_by first_refusal unless_refused
  no_block_lem none = rw (as_read.rows_left R, none)

  module _ (block : R.no_block rule read.number ≡ false) where
    pub contradicted : parity_differs (separator_by s rule) read.number ≡ true → Refused 17 ≡ answer_by R s residual rule
    unfolding answer_by first_refusal unless_refused
    contradicted differs = rw (as_read.rows_left R, block, differs)

    agreed : parity_differs (separator_by s rule) read.number ≡ false
        → Ok (nearest_reading residual s rule (range_seen R s rule)) ≡ answer_by R s residual rule
    unfolding answer_by first_refusal unless_refused
    agreed agrees = rw (as_read.rows_left R, block, agrees)

    -- of a search through the positions that the rule allows
    pub answered : parity_differs (separator_by s rule) read.number ≡ false → (scan : Scan)
        → SearchedRange residual (R.range rule read.number) scan → found_at scan rule read ≡ answer_by R s residual rule
    answered agrees scan searched =
        answer_of_search (R.range rule read.number) scan searched
        ∙ ap (λ (p : ℕ). Ok (nearest_reading residual s rule (R.range rule p))) as_read.number_is
        ∙ agreed agrees

-- the ways out of a rule whose chunks are read
pub ruleset ways_out = (no_block_lem, contradicted, answered)
