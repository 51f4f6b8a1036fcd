-- Demand 2, writing: the words of neighbouring positions differ in one bit, since both lie in one block; and no two positions share a
-- word, since an undamaged word is read as each position that has it. Assumes nothing.
use mathlib.Core.Path.{◌≡◌, sym, ◌∙◌}
use mathlib.Core.Logic.{⊎_elim}
use Prim.Native.Nat.{ℕ, ◌+◌, ◌≤◌, ◌<◌}
use native.Mathlib.Nat.{eq-or-lt_of_le}
use native.Mathlib.Omega.{arith}
use Rattle.bits.specs.Sums.{distance}
use Rattle.bits.specs.Places.{place, differing_bits}
use Rattle.bits.proofs.Distance.{distance_self}
use Rattle.model.specs.Card.{Code}
use Rattle.model.specs.Order.{last_codeword, last_position}
use Rattle.model.specs.Words.{word_bits, block_of, word_at, word_bytes}
use Rattle.model.specs.ReadWord.{read_word}
use Rattle.code_theory.specs.Promise.{ChunkPromise}
use Rattle.position_theory.specs.Damage.{damaged_in, ChunksWithin, WithinRadius, damaged, Near}
use Rattle.position_theory.proofs.WordChunkLaws.{five_distance}
use Rattle.position_theory.proofs.WordBytes.{length_of_word, no_spare_set, differing_words}
use Rattle.position_theory.proofs.Blocks.{block_le, block_low, block_high}
use Rattle.position_theory.proofs.Ranges.{Isometric}
use Rattle.position_theory.proofs.Isometry.{isometric_block}
use Rattle.position_theory.proofs.BoundedError.{all_within, error_bounded, near_loosen}
use Rattle.model.specs.ReadWord.{ReadAnswer}
use Rattle.std.specs.Prelude.{Ok, Err}

module _ (C : Code) (promise : ChunkPromise C) where
  -- a position before the last is in a block that is not the last
  block_before_last : (position : ℕ) → position < last_position C → block_of C position < last_codeword C
  unfolding last_position
  block_before_last position h =
      ⊎_elim
      (λ (e : block_of C position ≡ last_codeword C). absurd (omega (arith, rw e at (block_low C promise position))))
      (λ (l : block_of C position < last_codeword C). l)
      (eq-or-lt_of_le (block_le C position))

  -- one step flips one bit
  step_flips_one_bit : (position : ℕ) → position < last_position C
      → distance (word_bits C) (word_at C position) (word_at C (position + 1)) ≡ 1
  unfolding Isometric
  step_flips_one_bit position h =
      let inside = block_before_last position h in
      omega (
        arith,
        isometric_block C promise (block_of C position) inside position (position + 1) (block_low C promise position) (omega arith)
            (omega (arith, block_high C position (block_of C position + 1) (omega arith) (omega arith))),
      )

  pub neighbours_differ : (position : ℕ) → position < last_position C
      → differing_bits (word_bytes C position) (word_bytes C (position + 1)) ≡ 1
  neighbours_differ position h = differing_words C position (position + 1) ∙ step_flips_one_bit position h

  -- an undamaged word is within the radius, with no bit damaged
  undamaged : (position : ℕ) → WithinRadius C position (word_bytes C position)
  unfolding ChunksWithin damaged_in
  undamaged position =
      record {
        right_length = length_of_word C position;
        spare_zero = no_spare_set C position;
        chunks = λ c b. rw distance_self (omega arith);
      }

  nothing_damaged : (position : ℕ) → damaged C position (word_bytes C position) ≡ 0
  unfolding damaged
  nothing_damaged position =
      let u = place (word_bytes C position) in sym (five_distance C u u) ∙ distance_self (word_bits C) u

  -- two positions that are no steps from one answer are one
  one_answer : (answer : ReadAnswer) (p q : ℕ) → Near answer p 0 → Near answer q 0 → p ≡ q
  unfolding Near
  one_answer (Ok r) p q near near' = omega arith
  one_answer (Err refusal) p q near near' = absurd near

  -- so an undamaged word is read as its position, and no other has it
  read_as_itself : (position : ℕ) → position ≤ last_position C → Near (read_word C (word_bytes C position)) position 0
  read_as_itself position h =
      let bound =
      error_bounded C promise position (word_bytes C position) h (all_within C position (word_bytes C position) (undamaged position)) in
      near_loosen (read_word C (word_bytes C position)) position _ 0 (omega (arith, nothing_damaged position)) bound.0

  pub words_distinct : (p q : ℕ) → p ≤ last_position C → q ≤ last_position C → word_bytes C p ≡ word_bytes C q → p ≡ q
  words_distinct p q hp hq e =
      one_answer (read_word C (word_bytes C q)) p q (rw e at (read_as_itself p hp)) (read_as_itself q hq)
