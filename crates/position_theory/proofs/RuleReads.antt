-- Where no row of the table holds of what is seen of a word, its separators name a rule, the rule's block exists, each code chunk that
-- the rule names reads as one number, the one that the rule goes by, and the rule's separator reads as the parity of that number.
-- Assumes nothing.
use mathlib.Core.Path.{◌≡◌, refl, sym, ap, ◌∙◌}
use mathlib.Core.Bool.{Bool, true, false, not, true≢false, false≢true}
use Prim.Native.Nat.{ℕ, ◌%◌, ◌≤◌}
use native.Mathlib.Omega.{arith}
use borrow.Author.Tests.{eqb-true}
use lib.Dec.{eqb}
use Rattle.bits.proofs.Numbers.{or_false_left, or_false_right}
use Rattle.model.specs.Card.{Code}
use Rattle.model.specs.Order.{last_codeword}
use Rattle.model.specs.Reading.{unreadable, number_read, Seen, rule_seen, names_first, names_second, number_by}
use Rattle.model.specs.Reading.{separator_of, separator_by, parity_differs, Rules, rows_9_to_12, rows_seen}
use Rattle.code_theory.proofs.RefusalRows.{NoneHolds, numbered, none_holds}
use Rattle.position_theory.specs.SeenChunks.{SeesChunks, ReadsAs, NamedReads}
use Rattle.position_theory.specs.Nearest.{refusal_of}
use Rattle.position_theory.proofs.Separators.{of_every_rule}
use Rattle.model.specs.Reading.{Chunk, Codeword}
use Rattle.std.specs.Prelude.{Some, None}

-- a chunk reads as a codeword whose number is of some kind, if any
abbrev pub ReadsKind : (Kind : ℕ → Type 0) → Chunk → Type 0
ReadsKind Kind read = (p e : ℕ) → read ≡ Codeword p e → Kind p

-- both chunks read numbers of some kind
abbrev pub BothRead : (Kind : ℕ → Type 0) → Seen → Type 0
BothRead Kind s = ReadsKind Kind s.read₁ × ReadsKind Kind s.read₂

-- those of the code, by the chunk promise
abbrev pub InCode : Code → (p : ℕ) → Type 0
InCode C p = p ≤ last_codeword C

pub reads_in_code : (C : Code) {unerased : ℕ → Bool} {x : ℕ → ℕ} {s : Seen} → SeesChunks C unerased x s → BothRead (InCode C) s
reads_in_code C sees = (
  λ p e read. (sees.first.keeps.within _ p e (sym sees.first.answers ∙ read)).0,
  λ p e read. (sees.second.keeps.within _ p e (sym sees.second.answers ∙ read)).0,
)

-- what is known of a rule, where chunks read numbers of some kind only
pub record RuleReads (R : Rules) (s : Seen) (Kind : ℕ → Type 0) (rule : ℕ) : Type 0 where
  pub some_rule : rule ≡ 0 → ⊥
  pub kind : Kind (number_by s rule)
  pub block : R.no_block rule (number_by s rule) ≡ false
  pub first : NamedReads (names_first rule) s.read₁ (number_by s rule)
  pub second : NamedReads (names_second rule) s.read₂ (number_by s rule)
  pub parity : separator_by s rule ≡ number_by s rule % 2

-- a chunk that is not unreadable reads as its number
readable : (read : Chunk) → unreadable read ≡ false → ReadsAs read (number_read read)
unfolding unreadable number_read
readable (Some read) is = (read.differing, refl)
readable None is = absurd (true≢false is)

-- and one that reads as p has that number
pub number_of : (read : Chunk) {p : ℕ} → ReadsAs read p → number_read read ≡ p
unfolding number_read
number_of read reads = rw reads.1

-- two numbers that no test finds different
same_number : (a b : ℕ) → not (eqb a b) ≡ false → a ≡ b
same_number a b alike = eqb-true a b (holds (eqb a b) alike)
  where
    holds : (t : Bool) → not t ≡ false → t ≡ true
    holds true e = refl
    holds false e = absurd (true≢false e)

module _ (R : Rules) (s : Seen) (Kind : ℕ → Type 0) (kinds : BothRead Kind s) where
  pub rule_reads : refusal_of R s ≡ 0 → RuleReads R s Kind (rule_seen s)
  unfolding NoneHolds numbered rows_seen rows_9_to_12 number_by separator_of parity_differs
  rule_reads none =
      of_every_rule (λ rule. NoneHolds (rows_seen R s rule) → RuleReads R s Kind rule)
      (λ holds. absurd (true≢false holds.0))
      (λ (_, (row, (_, (block, (agrees, _))))).
      let read = readable s.read₁ (or_false_left _ _ row) in
      record {
        some_rule = λ e. omega arith;
        kind = kinds.0 _ _ read.1;
        block = block;
        first = λ named. read;
        second = λ named. absurd (false≢true named);
        parity = same_number _ _ agrees;
      })
      (λ (_, (row, (_, (block, (agrees, _))))).
      let read = readable s.read₂ row in
      record {
        some_rule = λ e. omega arith;
        kind = kinds.1 _ _ read.1;
        block = block;
        first = λ named. absurd (false≢true named);
        second = λ named. read;
        parity = same_number _ _ agrees;
      })
      (λ (_, (row, (alike, (block, (agrees, _))))).
      let read = readable s.read₁ (or_false_left _ _ row) in
      let (e, read') = readable s.read₂ (or_false_right (unreadable s.read₁) _ row) in
      record {
        some_rule = λ e. omega arith;
        kind = kinds.0 _ _ read.1;
        block = block;
        first = λ named. read;
        second = λ named. (e, read' ∙ ap (λ (p : ℕ). Codeword p e) (sym (same_number _ _ alike)));
        parity = same_number _ _ agrees;
      })
      s.s₁ s.s₂ s.s₃ (none_holds _ refl none)
