-- Document 02, P6, "Separators that contradict the codeword": that a word's separator has the parity of its codeword's number, that a
-- word is mixed from two telegrams, and what was answered without P6. Assumes nothing.
use Rattle.std.specs.Prelude.{◌≡◌, Bool, true, false, cond, not, List, ◌∷◌, ◌⊎◌, ℕ, ◌%◌, ◌≤◌, eqb, length}
use Rattle.bits.specs.Places.{place}
use Rattle.model.specs.Refusals.{refuses, refused_as, first_refusal, unless_refused}
use Rattle.model.specs.Card.{Code, code_of, card_refusal, radius}
use Rattle.model.specs.Order.{last_codeword}
use Rattle.model.specs.Words.{word, word_length}
use Rattle.model.specs.Reading.{Seen, seen, rule_seen, rule_named, names_first, names_second, number_by, separator_by, parity_differs}
use Rattle.model.specs.Reading.{two_ends, rows_9_to_12}
use Rattle.model.specs.ReadWord.{spare_set, reading_of}
use Rattle.model.specs.declared.Reading.{Reading}
use Rattle.position_theory.specs.Damage.{damaged_in}
use Rattle.position_theory.specs.SeenChunks.{NamedReads}
use Rattle.model.specs.ReadWord.{ReadAnswer}
use Rattle.std.specs.Prelude.{Ok, Err}
use Rattle.model.specs.Refusals.{Refused}

-- ---- words that are read

-- The rule is the one that the separators name; the code chunks that it names read as one codeword c(p); and the rule's separator,
-- separator 1 by rules 1 and 3 and separator 3 by rule 2, reads as the parity of p.
pub record ParityAgrees (C : Code) (s : Seen) (rule : ℕ) : Type 0 where
  pub by_rule : rule ≡ rule_seen s
  pub some_rule : rule ≡ 0 → ⊥
  pub p : ℕ
  pub in_code : p ≤ last_codeword C
  pub first : NamedReads (names_first rule) s.read₁ p
  pub second : NamedReads (names_second rule) s.read₂ p
  pub parity : separator_by s rule ≡ p % 2

-- this holds of a word that is read, whatever is seen of it
abbrev pub AgreesIfRead : Code → Seen → ReadAnswer → Type 0
AgreesIfRead C s answer = (r : Reading) → answer ≡ Ok r → ParityAgrees C s r.rule

-- ---- words mixed from two telegrams

-- of the five chunks, 0 to 4: the rule's separator; and that a chunk is a code chunk that the rule names, by rule 3 either of the two
abbrev pub separator_chunk : (rule : ℕ) → ℕ
separator_chunk rule = cond (eqb rule 2) 4 0

abbrev pub NamedChunk : (rule c : ℕ) → Type 0
NamedChunk rule c = ((c ≡ 1) × (names_first rule ≡ true)) ⊎ ((c ≡ 3) × (names_second rule ≡ true))

-- A word x is mixed from two telegrams, w(i) and w(j), whose parities differ: by the rule that its separators name, it has the rule's
-- separator from the first and a code chunk c that the rule names from the second, with at most t damaged bits in each, and whatever else
-- elsewhere. (A telegram of any position has, in a chunk that is not being changed there, what some w(i) has.)
pub record Mixed (C : Code) (x : ℕ → ℕ) (i j c : ℕ) : Type 0 where
  pub in_code : i ≤ last_codeword C
  pub in_code' : j ≤ last_codeword C
  pub differ : i % 2 ≡ j % 2 → ⊥
  pub named : NamedChunk (rule_named C x) c
  pub separator : damaged_in C (separator_chunk (rule_named C x)) (word C i) x ≤ radius C
  pub chunk : damaged_in C c (word C j) x ≤ radius C

-- ---- what is answered otherwise than without P6

-- whether the separator of the rule that is named differs from the parity of p
abbrev pub contradicted : Seen → Bool
contradicted s = parity_differs (separator_by s (rule_seen s)) (number_by s (rule_seen s))

-- an answer with refusal 17 in the place of a reading, where this is so; a refusal stays
unfoldable pub unless_contradicted : (contradicted : Bool) → ReadAnswer → ReadAnswer
unless_contradicted true (Ok r) = Refused 17
unless_contradicted true (Err refusal) = Err refusal
unless_contradicted false answer = answer

-- the answer without P6: rows 9 to 12 are the last
unfoldable pub answer_before : (card received : List ℕ) → ReadAnswer
answer_before card received =
    let C : Code = code_of card in
    let x : ℕ → ℕ = place received in
    unless_refused
    (first_refusal
    (refused_as (card_refusal card)
    ∷ refuses 6 (not (eqb (length received) (word_length C)))
    ∷ refuses 8 (spare_set C received)
    ∷ rows_9_to_12 (two_ends C) (seen C x) (rule_named C x)))
    Refused (Ok (reading_of C received))
