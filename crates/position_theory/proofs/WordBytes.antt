-- The bytes of a word, a position's or any other: its d places, then spare bits that are zero. So the bytes of two words differ in as many
-- bits as the words, a received word of the right length with spare bits zero is read, and a residual is the count of bits in which
-- the position's bytes and the received ones differ. Assumes nothing.
use mathlib.Core.Path.{◌≡◌, sym, ◌∙◌}
use mathlib.Core.Bool.{false}
use mathlib.Core.List.{List}
use Prim.Native.Nat.{ℕ, ◌+◌, ◌-◌, ◌*◌, ◌≤◌, ◌<◌}
use native.Mathlib.Nat.{le_dest}
use native.Mathlib.Omega.{arith}
use lib.Dec.{eqb}
use lib.ListN.{length}
use borrow.Author.Tests.{eq-eqb, eqb-false}
use Rattle.bits.specs.Sums.{distance}
use Rattle.bits.specs.Places.{place, pack, differing_bits}
use Rattle.bits.proofs.Distance.{distance_ext_left}
use Rattle.bits.proofs.Walk.{walk_bit}
use Rattle.bits.proofs.Searches.{any_none, none_of_any}
use Rattle.bits.proofs.Places.{place_bit, length_pack, place_packed, place_spare}
use Rattle.bits.proofs.ByteLists.{differing_below, packed_distance}
use Rattle.model.specs.Refusals.{first_refusal, unless_refused}
use Rattle.model.specs.Card.{Code}
use Rattle.model.specs.Words.{word_bits, block_of, word_at, word_bytes, word_length}
use Rattle.model.specs.Reading.{Seen, seen, rule_seen, Rules, two_ends, rule_named, rows_of, allowed, residual, nearest_reading}
use Rattle.model.specs.ReadWord.{spare_set, rows_of_word, read_word}
use Rattle.position_theory.specs.Nearest.{refusal_of, allowed_by}
use Rattle.position_theory.proofs.WordChunkLaws.{word_bit}
use Rattle.model.specs.ReadWord.{ReadAnswer}
use Rattle.std.specs.Prelude.{Ok}
use Rattle.model.specs.Refusals.{Refused}

-- the bytes of any word have no spare bit set
pub packed_none_spare : (C : Code) {w : ℕ → ℕ} → ((p : ℕ) → w p < 2) → spare_set C (pack (word_bits C) w) ≡ false
unfolding spare_set
packed_none_spare C {w} bits = any_none _ _ (λ q b. rw (place_spare (word_bits C) w bits (word_bits C + q) (omega arith)))

-- ---- the word of a position

pub word_at_bit : (C : Code) (position p : ℕ) → word_at C position p < 2
unfolding word_at
word_at_bit C position p = walk_bit (word_bit C (block_of C position)) (word_bit C (block_of C position + 1)) _ p

module _ (C : Code) (position : ℕ) where
  pub length_of_word : length (word_bytes C position) ≡ word_length C
  unfolding word_bytes
  length_of_word = length_pack (word_bits C) (word_at C position)

  pub place_of_word : (p : ℕ) → p < word_bits C → place (word_bytes C position) p ≡ word_at C position p
  unfolding word_bytes
  place_of_word = place_packed (word_bits C) (word_at C position) (word_at_bit C position)

  pub no_spare_set : spare_set C (word_bytes C position) ≡ false
  unfolding word_bytes
  no_spare_set = packed_none_spare C (word_at_bit C position)

pub differing_words : (C : Code) (p q : ℕ)
    → differing_bits (word_bytes C p) (word_bytes C q) ≡ distance (word_bits C) (word_at C p) (word_at C q)
unfolding word_bytes
differing_words C p q = packed_distance (word_bits C) (word_at_bit C p) (word_at_bit C q)

-- ---- the reading of a word

-- the reading of what is seen of a word: refusals 9 to 12 and 17, or the nearest allowed position
unfoldable pub reading_of_seen : Rules → Seen → (residual : ℕ → ℕ) → ReadAnswer
reading_of_seen R s residual = unless_refused (refusal_of R s) Refused (Ok (nearest_reading residual s (rule_seen s) (allowed_by R s)))

-- of a plain word, given as a bit function, on a track with two ends
abbrev pub reading : Code → (x : ℕ → ℕ) → ReadAnswer
reading C x = reading_of_seen (two_ends C) (seen C x) (residual C x)

-- a word of the right length with spare bits zero is read
pub read_if_whole : (C : Code) (received : List ℕ) → length received ≡ word_length C → spare_set C received ≡ false
    → read_word C received ≡ reading C (place received)
unfolding read_word rows_of_word first_refusal reading_of_seen rows_of allowed rule_named
read_if_whole C received h spare = rw (eq-eqb (length received) (word_length C) h, spare)

-- a received word with spare bits zero
module _ (C : Code) (received : List ℕ) (spare : spare_set C received ≡ false) where
  pub spare_bits_zero : (p : ℕ) → word_bits C ≤ p → p < 8 * word_length C → place received p ≡ 0
  unfolding spare_set
  spare_bits_zero p h b =
      let rest : (q : ℕ) × (word_bits C + q ≡ p) = le_dest h in
      let test = none_of_any (λ q. eqb (place received (word_bits C + q)) 1) (8 * word_length C - word_bits C) spare rest.0 (omega arith) in
      let not_one = eqb-false (place received (word_bits C + rest.0)) 1 test in
      rw (← rest.1) (omega (arith, place_bit received (word_bits C + rest.0), not_one))

  -- it differs from any word in as many bits as their bytes differ in
  pub packed_differing : {w : ℕ → ℕ} → ((p : ℕ) → w p < 2)
      → distance (word_bits C) w (place received) ≡ differing_bits (pack (word_bits C) w) received
  packed_differing {w} bits =
      sym (distance_ext_left (word_bits C) (place received) (place_packed (word_bits C) w bits))
      ∙ sym (differing_below (word_bits C) (pack (word_bits C) w) received (length_pack (word_bits C) w)
      (λ p h b. place_spare (word_bits C) w bits p h ∙ sym (spare_bits_zero p h b)))

  pub residual_counts : (position : ℕ) → residual C (place received) position ≡ differing_bits (word_bytes C position) received
  unfolding residual word_bytes
  residual_counts position = packed_differing (word_at_bit C position)
