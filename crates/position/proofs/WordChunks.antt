-- The five chunks of a word, put down one after the other: after each of them the array has the word's bits as far as it goes. And the
-- five chunks of w(i). Assumes nothing.
use mathlib.Core.Path.{◌≡◌, sym, ap, ◌∙◌}
use Prim.Native.Nat.{ℕ, ◌+◌, ◌%◌, ◌^◌, ◌≤◌, ◌<◌}
use native.Mathlib.Nat.{zero-add}
use native.Mathlib.Omega.{arith}
use Rattle.bits.specs.Sums.{join_at}
use Rattle.bits.specs.Places.{bit, cut}
use Rattle.bits.proofs.Places.{cut_above}
use Rattle.model.specs.Card.{Code}
use Rattle.model.specs.Order.{codeword}
use Rattle.model.specs.Words.{word}
use Rattle.position_theory.proofs.WordChunkLaws.{word_separator₁, word_chunk₁, word_separator₂, word_chunk₂, word_separator₃}
use Rattle.position.specs.FiveChunks.{BitsFrom, FiveChunks}
use Rattle.position.proofs.ChunkByChunk.{chunk_appended}

-- the first `at` bits of u, and zeros
abbrev pub UpTo : (u : ℕ → ℕ) (at : ℕ) → (ℕ → ℕ) → Type 0
UpTo u at w = (p : ℕ) → w p ≡ cut at u p

-- past the chunks so far there are zeros
pub zeros_behind : (u : ℕ → ℕ) (at : ℕ) {w : ℕ → ℕ} → UpTo u at w → (p : ℕ) → at ≤ p → w p ≡ 0
zeros_behind u at before p h = before p ∙ cut_above at u p h

-- before the first chunk there are zeros alone
pub nothing_yet : (u : ℕ → ℕ) {w : ℕ → ℕ} → ((p : ℕ) → w p ≡ 0) → UpTo u 0 w
nothing_yet u zeros p = zeros p ∙ sym (cut_above 0 u p (omega arith))

-- a chunk with the bits of u from place `at` on, as far as place `next`
pub put_next : (u : ℕ → ℕ) (at len next value : ℕ) → at + len ≡ next → BitsFrom u at len value
    → {w r : ℕ → ℕ} → UpTo u at w → ((p : ℕ) → r p ≡ join_at at w (cut len (bit value)) p) → UpTo u next r
put_next u at len next value behind bits before put = rw behind at (chunk_appended at len u before bits.1 put)

-- the chunks of w(i): the parity of i in each separator, and c(i) in either code chunk
pub chunks_of_word : (C : Code) (i parity c : ℕ)
    → (parity < 2 ^ C.D) × ((p : ℕ) → p < C.D → bit parity p ≡ i % 2) → (c ≡ codeword C i) × (c < 2 ^ C.n)
    → FiveChunks C.n C.D (word C i) parity c parity c parity
chunks_of_word C i parity c (narrow, bits) (is, short) =
    record {
      separator₁_bits = (narrow, λ p b. rw zero-add (bits p b ∙ sym (word_separator₁ C i p b)));
      chunk₁_bits = (short, λ p b. code_bit p ∙ sym (word_chunk₁ C i p b));
      separator₂_bits = (narrow, λ p b. bits p b ∙ sym (word_separator₂ C i p b));
      chunk₂_bits = (short, λ p b. code_bit p ∙ sym (word_chunk₂ C i p b));
      separator₃_bits = (narrow, λ p b. bits p b ∙ sym (word_separator₃ C i p));
    }
  where
    code_bit : (p : ℕ) → bit c p ≡ bit (codeword C i) p
    code_bit p = ap (λ (x : ℕ). bit x p) is
