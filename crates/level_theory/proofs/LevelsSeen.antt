-- What is seen of a word of received levels: its code chunks are read over the unerased places; and its separators read a parity where each
-- bit is erased or received as the level 1 or -1. Where every level is 1 or -1, it is what is seen of the plain word of these bits. Assumes
-- nothing.
use mathlib.Core.Path.{◌≡◌, refl, sym, ap, fun_ext, ◌∙◌}
use mathlib.Core.Bool.{true}
use Prim.Native.Nat.{ℕ, ◌+◌, ◌^◌, ◌≤◌, ◌<◌}
use native.Mathlib.Omega.{arith}
use Rattle.bits.specs.Sums.{everywhere, from_place}
use Rattle.bits.proofs.Sums.{sum_ext, from_place_zero}
use Rattle.bits.proofs.Erasures.{unerased_ext}
use Rattle.model.specs.Card.{Code}
use Rattle.model.specs.Words.{word_bits, chunk_size, places_before}
use Rattle.model.specs.Reading.{majority, chunk_reading, seen, residual}
use Rattle.model.specs.Levels.{is_unerased, bit_of_level, unerased_in, bits_in, erasure_reading, separator_reading}
use Rattle.model.specs.Levels.{levels_chunk_reading, seen_in_levels, residual_unerased}
use Rattle.model.specs.declared.ReceivedLevel.{ReceivedLevel}
use Rattle.code_theory.specs.Promise.{Sound, ChunkPromise}
use Rattle.code_theory.proofs.ChunkReading.{erasure_reading_ext}
use Rattle.code_theory.proofs.LeastDistance.{D-high}
use Rattle.code_theory.proofs.Promise.{promise, plain_reading}
use Rattle.position_theory.specs.SeenChunks.{SeesChunk, SeesChunks}
use Rattle.position_theory.proofs.WholeChunks.{ReadsParity, Sees}
use Rattle.position_theory.proofs.PlainSeen.{plain_residual}
use Rattle.level_theory.proofs.UnitsReceived.{UnitOrErased}
use Rattle.level_theory.proofs.SeparatorsRead.{separator_bit, separator_reads, separator_as_bits}

module _ (C : Code) (promised : ChunkPromise C) where
  levels_see_chunk : (chunk : ℕ → ReceivedLevel) → SeesChunk C (unerased_in chunk) (bits_in chunk) (levels_chunk_reading C chunk)
  levels_see_chunk chunk =
      record { reader = erasure_reading C (unerased_in chunk); keeps = promised.chunks (unerased_in chunk); answers = refl }

  pub levels_see_chunks : (word : ℕ → ReceivedLevel) → SeesChunks C (unerased_in word) (bits_in word) (seen_in_levels C word)
  unfolding seen_in_levels
  levels_see_chunks word = record { first = levels_see_chunk _; second = levels_see_chunk _ }

module _ (C : Code) (sound : Sound C) (word : ℕ → ReceivedLevel) (units : (p : ℕ) → p < word_bits C → UnitOrErased (word p)) where
  few : C.D ≤ 2 ^ 24
  few = omega (arith, D-high C sound, sound.n_high)

  -- a separator that begins at this place
  units_from : (at : ℕ) → at + C.D ≤ word_bits C → (p : ℕ) → p < C.D → UnitOrErased (from_place at word p)
  units_from at room p b = units (at + p) (omega arith)

  reads_from : (at : ℕ) → at + C.D ≤ word_bits C
      → ReadsParity C.D (from_place at (unerased_in word)) (from_place at (bits_in word)) (separator_reading C.D (from_place at word))
  reads_from at room =
      record { bit = separator_bit C.D (from_place at word); reads = separator_reads C.D (from_place at word) few (units_from at room) }

  pub levels_see : Sees C (unerased_in word) (bits_in word) (seen_in_levels C word)
  unfolding seen_in_levels places_before chunk_size
  levels_see =
      record {
        chunks = levels_see_chunks C (promise C sound) word;
        separator₁ = rw (← ap (separator_reading C.D) (from_place_zero word)) (reads_from 0 (omega arith));
        separator₂ = reads_from (C.D + C.n) (omega arith);
        separator₃ = reads_from (C.D + C.n + C.D + C.n) (omega arith);
      }

  -- where nothing is erased, of a plain word x that has these bits
  module _ (unerased : (p : ℕ) → p < word_bits C → is_unerased (word p) ≡ true) (x : ℕ → ℕ)
      (same : (p : ℕ) → p < word_bits C → x p ≡ bit_of_level (word p)) where
    majority_from : (at : ℕ) → at + C.D ≤ word_bits C → separator_reading C.D (from_place at word) ≡ majority C.D (from_place at x)
    unfolding majority
    majority_from at room =
        separator_as_bits C.D (from_place at word) few (units_from at room) (λ p b. unerased (at + p) (omega arith))
        ∙ rw (sum_ext C.D (λ p b. sym (same (at + p) (omega arith))))

    chunk_from : (at : ℕ) → at + C.n ≤ word_bits C → levels_chunk_reading C (from_place at word) ≡ chunk_reading C (from_place at x)
    chunk_from at room =
        erasure_reading_ext C {unerased' = everywhere} (λ p b. unerased (at + p) (omega arith)) (λ p b. sym (same (at + p) (omega arith)))
        ∙ sym (plain_reading C (promise C sound) (from_place at x))

    first_separator : separator_reading C.D word ≡ majority C.D x
    first_separator =
        ap (separator_reading C.D) (sym (from_place_zero word))
        ∙ majority_from 0 (omega arith)
        ∙ ap (majority C.D) (from_place_zero x)

    pub as_plain_seen : seen_in_levels C word ≡ seen C x
    unfolding seen_in_levels seen
    as_plain_seen =
        rw (
          first_separator,
          majority_from (C.D + C.n) (omega arith),
          majority_from (C.D + C.n + C.D + C.n) (omega arith),
          chunk_from C.D (omega arith),
          chunk_from (C.D + C.n + C.D) (omega arith),
        )

    pub as_plain_residual : residual_unerased C (unerased_in word) (bits_in word) ≡ residual C x
    unfolding residual_unerased
    as_plain_residual =
        fun_ext (λ q. unerased_ext {unerased' = everywhere} (word_bits C) unerased (λ p b. refl) (λ p b. sym (same p b)))
        ∙ sym (plain_residual C x)
