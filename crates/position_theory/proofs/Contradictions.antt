-- P6. A word that is read has the parity of p in its rule's separator: row 17 does not hold. A chunk of a word w(i) reads as i, so a
-- separator of w(i) and a code chunk of w(j) of another parity contradict each other, and the word is refused. And row 17 is the last:
-- without it a word is answered alike, or it is read. Assumes nothing.
use mathlib.Core.Path.{◌≡◌, refl, sym, ap, ◌∙◌}
use mathlib.Core.Bool.{Bool, true, false, cond}
use mathlib.Core.List.{List, [], ◌∷◌, ◌++◌}
use mathlib.Core.Logic.{⊎_elim}
use Prim.Native.Nat.{ℕ, ◌%◌, ◌≤◌, ◌<◌}
use native.Mathlib.Omega.{arith}
use borrow.Author.Tests.{ne_eqb}
use Rattle.bits.proofs.Numbers.{eq_or_ne}
use Rattle.model.specs.Refusals.{Row, refuses, refused_as, first_refusal, unless_refused}
use Rattle.model.specs.Card.{Code}
use Rattle.model.specs.Order.{last_codeword}
use Rattle.model.specs.Words.{word}
use Rattle.model.specs.Reading.{Seen, rule_seen, number_by, separator_of, separator_by, Rules}
use Rattle.model.specs.declared.Reading.{Reading}
use Rattle.code_theory.proofs.RefusalRows.{numbered, rows_after_lem, refused_if_some, refused_by_card, past_card}
use Rattle.position_theory.specs.Damage.{ChunkBelowD}
use Rattle.position_theory.specs.SeenChunks.{SeesChunks}
use Rattle.position_theory.specs.Nearest.{refusal_of}
use Rattle.position_theory.specs.Contradictions.{ParityAgrees, separator_chunk, NamedChunk, unless_contradicted}
use Rattle.position_theory.proofs.Separators.{of_every_rule}
use Rattle.position_theory.proofs.WordChunkLaws.{word_chunk}
use Rattle.position_theory.proofs.WholeChunks.{ChunkReads, Sees, chunk₁_reads, chunk₂_reads, word_reads}
use Rattle.position_theory.proofs.RuleReads.{BothRead, InCode, RuleReads, number_of, reads_in_code, rule_reads}
use Rattle.std.specs.Prelude.{Ok}
use Rattle.model.specs.Refusals.{Refused}

-- ---- whatever is seen of a word, where no row holds

pub parity_agrees : (C : Code) (R : Rules) (s : Seen) → BothRead (InCode C) s → refusal_of R s ≡ 0 → ParityAgrees C s (rule_seen s)
parity_agrees C R s kinds none =
    let reads = rule_reads R s (InCode C) kinds none in
    record {
      by_rule = refl;
      some_rule = reads.some_rule;
      p = number_by s (rule_seen s);
      in_code = reads.kind;
      first = reads.first;
      second = reads.second;
      parity = reads.parity;
    }

-- a separator from w(i), with 2 × wrong + erased below D, reads as the parity of i
pub separator_from : (C : Code) {unerased : ℕ → Bool} {x : ℕ → ℕ} {s : Seen} → Sees C unerased x s → (i : ℕ) → i ≤ last_codeword C
    → ChunkBelowD C unerased (word C i) x (separator_chunk (rule_seen s)) → separator_by s (rule_seen s) ≡ i % 2
unfolding ChunkReads separator_of
separator_from C {unerased} {x} {s} sees i in_code =
    let reads_as : (c : ℕ) → c < 5 → ChunkBelowD C unerased (word C i) x c → ChunkReads s c i =
    λ c five. word_reads C sees c i five in_code in
    of_every_rule (λ rule. ChunkBelowD C unerased (word C i) x (separator_chunk rule) → separator_by s rule ≡ i % 2)
    (reads_as 0 (omega arith)) (reads_as 0 (omega arith)) (reads_as 4 (omega arith)) (reads_as 0 (omega arith)) s.s₁ s.s₂ s.s₃

module _ (C : Code) (R : Rules) {unerased : ℕ → Bool} {x : ℕ → ℕ} {s : Seen} (sees : SeesChunks C unerased x s) where
  -- a code chunk from w(j), likewise, reads as codeword j; so where the rule names it and no row holds, j is the number that is read
  chunk_from : (j c : ℕ) → j ≤ last_codeword C → NamedChunk (rule_seen s) c → ChunkBelowD C unerased (word C j) x c
      → RuleReads R s (InCode C) (rule_seen s) → number_by s (rule_seen s) ≡ j
  chunk_from j c in_code named below reads =
      ⊎_elim
      (λ (is, first).
      let reads_as = chunk₁_reads C sees (word C j) j in_code (word_chunk C j 1 (omega arith)) (rw is at below) in
      sym (number_of s.read₁ (reads.first first)) ∙ number_of s.read₁ reads_as)
      (λ (is, second).
      let reads_as = chunk₂_reads C sees (word C j) j in_code (word_chunk C j 3 (omega arith)) (rw is at below) in
      sym (number_of s.read₂ (reads.second second)) ∙ number_of s.read₂ reads_as)
      named

  -- so a word whose rule's separator has another parity than j is refused
  pub mixed_refused : (i j c : ℕ) → j ≤ last_codeword C → (i % 2 ≡ j % 2 → ⊥) → separator_by s (rule_seen s) ≡ i % 2
      → NamedChunk (rule_seen s) c → ChunkBelowD C unerased (word C j) x c → refusal_of R s ≡ 0 → ⊥
  mixed_refused i j c in_code differ reads-i named below none =
      let reads = rule_reads R s (InCode C) (reads_in_code C sees) none in
      differ (sym reads-i ∙ reads.parity ∙ ap (λ (p : ℕ). p % 2) (chunk_from j c in_code named below reads))

-- ---- row 17 is the last

-- a refusal stays, and a reading stays or is refused by 17
unless_refused_lem : (differs : Bool) (refusal : ℕ) → unless_contradicted differs (Refused refusal) ≡ Refused refusal
unfolding unless_contradicted
unless_refused_lem true refusal = refl
unless_refused_lem false refusal = refl

unless_read : (differs : Bool) (r : Reading) → unless_refused (cond differs 17 0) Refused (Ok r) ≡ unless_contradicted differs (Ok r)
unfolding unless_contradicted unless_refused
unless_read true r = refl
unless_read false r = refl

seventeen_last : (rows : List Row) → numbered rows ≡ true → (differs : Bool) (r : Reading)
    → unless_refused (first_refusal (rows ++ (refuses 17 differs ∷ []))) Refused (Ok r)
    ≡ unless_contradicted differs (unless_refused (first_refusal rows) Refused (Ok r))
unfolding first_refusal unless_refused
seventeen_last rows all differs r =
    ⊎_elim
    (λ (none : first_refusal rows ≡ 0). rw (rows_after_lem rows (refuses 17 differs ∷ []) all, none) (unless_read differs r))
    (λ (some : first_refusal rows ≡ 0 → ⊥).
    rw (
      rows_after_lem rows (refuses 17 differs ∷ []) all,
      ne_eqb (first_refusal rows) 0 some,
      refused_if_some (first_refusal rows) Refused (Ok r) some,
      unless_refused_lem differs (first_refusal rows),
    ))
    (eq_or_ne (first_refusal rows) 0)

-- past the card's refusal
pub seventeen_past_card : (card : ℕ) (rows : List Row) → numbered rows ≡ true → (differs : Bool) (r : Reading)
    → unless_refused (first_refusal (refused_as card ∷ (rows ++ (refuses 17 differs ∷ [])))) Refused (Ok r)
    ≡ unless_contradicted differs (unless_refused (first_refusal (refused_as card ∷ rows)) Refused (Ok r))
seventeen_past_card card rows all differs r =
    ⊎_elim
    (λ (sound : card ≡ 0). rw (past_card card _ Refused (Ok r) sound, past_card card rows Refused (Ok r) sound)
    (seventeen_last rows all differs r))
    (λ (refused : card ≡ 0 → ⊥).
    rw (refused_by_card card _ Refused (Ok r) refused, refused_by_card card rows Refused (Ok r) refused, unless_refused_lem differs card))
    (eq_or_ne card 0)
