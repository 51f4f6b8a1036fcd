-- What is seen of a chunk reads as a number: a separator as the number's parity, a code chunk as the number itself. A whole chunk whose
-- 2 × wrong + erased is below D reads as the number that it stands for: a separator by `ReadsParity`, a code chunk by the chunk promise. So
-- on the way from one codeword to the next every whole chunk reads as its number; of the one that is divided nothing is
-- asked and nothing said. Assumes nothing.
use mathlib.Core.Path.{◌≡◌, ◌∙◌}
use mathlib.Core.Bool.{Bool}
use mathlib.Core.Logic.{inl, inr}
use Prim.Native.Nat.{ℕ, zero, suc, ◌+◌, ◌*◌, ◌%◌, ◌≤◌, ◌<◌}
use native.Mathlib.Omega.{arith}
use borrow.Author.Tests.{lt-ltb}
use Rattle.bits.specs.Sums.{distance_unerased, erased_below, from_place}
use Rattle.bits.specs.Places.{bit}
use Rattle.bits.specs.Walk.{walk}
use Rattle.bits.proofs.Erasures.{unerased_ext_left}
use Rattle.model.specs.Card.{Code}
use Rattle.model.specs.Order.{codeword, last_codeword}
use Rattle.model.specs.Words.{chunk_size, places_before, chunk_of, word}
use Rattle.model.specs.Reading.{Seen}
use Rattle.model.specs.Levels.{chunk_wrong, within_erasures}
use Rattle.position_theory.specs.Damage.{wrong_in, erased_in, ChunkBelowD}
use Rattle.position_theory.specs.SeenChunks.{SeesChunk, SeesChunks, ReadsAs}
use Rattle.position_theory.proofs.WordChunkLaws.{content, word_chunk}
use Rattle.position_theory.proofs.Between.{Next, WholeAt, chunk_ahead, chunk_passed}
use Rattle.model.specs.Reading.{Chunk}

-- what is seen of chunk c reads as the number j
unfoldable pub ChunkReads : Seen → (c j : ℕ) → Type 0
ChunkReads s zero j = s.s₁ ≡ j % 2
ChunkReads s (suc zero) j = ReadsAs s.read₁ j
ChunkReads s (suc (suc zero)) j = s.s₂ ≡ j % 2
ChunkReads s (suc (suc (suc zero))) j = ReadsAs s.read₂ j
ChunkReads s (suc (suc (suc (suc c)))) j = s.s₃ ≡ j % 2

-- where code chunks are A apart, m steps on the way from number i to number j: each chunk that the walk has not reached reads as i, and
-- each that it has passed as j; and separators read 0 or 1
pub record WholeChunksRead (D A i j m : ℕ) (s : Seen) : Type 0 where
  pub ahead : (c : ℕ) → c < 5 → m ≤ places_before D A c → ChunkReads s c i
  pub passed : (c : ℕ) → c < 5 → places_before D A (suc c) ≤ m → ChunkReads s c j
  pub bit₁ : s.s₁ < 2
  pub bit₂ : s.s₂ < 2
  pub bit₃ : s.s₃ < 2

-- a separator of D bits, of which these places are unerased, has been read as a parity: 0 or 1, and b where all bits of the true word are
-- b and 2 × wrong + erased is below D
pub record ReadsParity (D : ℕ) (unerased : ℕ → Bool) (x : ℕ → ℕ) (read : ℕ) : Type 0 where
  pub bit : read < 2
  pub reads : (b : ℕ) (u : ℕ → ℕ) → b < 2 → ((p : ℕ) → p < D → u p ≡ b) → 2 * distance_unerased unerased D u x + erased_below unerased D < D
      → read ≡ b

-- s is what is seen of the word x of which these places are unerased: its code chunks are read over them, and its separators as parities
pub record Sees (C : Code) (unerased : ℕ → Bool) (x : ℕ → ℕ) (s : Seen) : Type 0 where
  pub chunks : SeesChunks C unerased x s
  pub separator₁ : ReadsParity C.D (chunk_of C 0 unerased) (chunk_of C 0 x) s.s₁
  pub separator₂ : ReadsParity C.D (chunk_of C 2 unerased) (chunk_of C 2 x) s.s₂
  pub separator₃ : ReadsParity C.D (chunk_of C 4 unerased) (chunk_of C 4 x) s.s₃

-- a code chunk that holds c(j) reads j if 2 × wrong + erased is below D
code_reads : (C : Code) {unerased : ℕ → Bool} {y : ℕ → ℕ} {answer : Chunk} → SeesChunk C unerased y answer → (j : ℕ) (u : ℕ → ℕ)
    → j ≤ last_codeword C → ((p : ℕ) → p < C.n → u p ≡ bit (codeword C j) p)
    → 2 * distance_unerased unerased C.n u y + erased_below unerased C.n < C.D → ReadsAs answer j
unfolding within_erasures chunk_wrong
code_reads C {unerased} {y} sees j u h hu d =
    (_, sees.answers ∙ sees.keeps.reads y j h (lt-ltb _ _ (rw (unerased_ext_left unerased C.n y hu) at d)))

-- so does what is seen of either code chunk of a word u that holds c(j) there
module _ (C : Code) {unerased : ℕ → Bool} {x : ℕ → ℕ} {s : Seen} (sees : SeesChunks C unerased x s) where
  pub chunk₁_reads : (u : ℕ → ℕ) (j : ℕ) → j ≤ last_codeword C
      → ((p : ℕ) → p < chunk_size C.D C.n 1 → chunk_of C 1 u p ≡ content C j 1 p) → ChunkBelowD C unerased u x 1 → ReadsAs s.read₁ j
  unfolding chunk_size places_before content wrong_in erased_in
  chunk₁_reads u j h same d = code_reads C sees.first j _ h same d

  pub chunk₂_reads : (u : ℕ → ℕ) (j : ℕ) → j ≤ last_codeword C
      → ((p : ℕ) → p < chunk_size C.D C.n 3 → chunk_of C 3 u p ≡ content C j 3 p) → ChunkBelowD C unerased u x 3 → ReadsAs s.read₂ j
  unfolding chunk_size places_before content wrong_in erased_in
  chunk₂_reads u j h same d = code_reads C sees.second j _ h same d

module _ (C : Code) {unerased : ℕ → Bool} {x : ℕ → ℕ} {s : Seen} (sees : Sees C unerased x s) where
  -- chunk c of a word u that holds there what w(j) holds, with 2 × wrong + erased below D
  chunk_reads : (u : ℕ → ℕ) (c j : ℕ) → c < 5 → j ≤ last_codeword C
      → ((p : ℕ) → p < chunk_size C.D C.n c → chunk_of C c u p ≡ content C j c p) → ChunkBelowD C unerased u x c → ChunkReads s c j
  unfolding ChunkReads chunk_size places_before content wrong_in erased_in
  chunk_reads u zero j b h same d = sees.separator₁.reads (j % 2) (from_place 0 u) (omega arith) same d
  chunk_reads u (suc zero) j b h same d = chunk₁_reads C sees.chunks u j h same d
  chunk_reads u (suc (suc zero)) j b h same d = sees.separator₂.reads (j % 2) _ (omega arith) same d
  chunk_reads u (suc (suc (suc zero))) j b h same d = chunk₂_reads C sees.chunks u j h same d
  chunk_reads u (suc (suc (suc (suc zero)))) j b h same d = sees.separator₃.reads (j % 2) _ (omega arith) same d
  chunk_reads u (suc (suc (suc (suc (suc c))))) j b h same d = absurd (omega arith)

  -- so a chunk of w(j) reads as j
  pub word_reads : (c j : ℕ) → c < 5 → j ≤ last_codeword C → ChunkBelowD C unerased (word C j) x c → ChunkReads s c j
  word_reads c j b h d = chunk_reads (word C j) c j b h (word_chunk C j c b) d

  -- m steps on the way from w(i) to w(j), where every whole chunk has 2 × wrong + erased below D
  pub whole_chunks_read : {i j A : ℕ} → Next C i j A → (m : ℕ)
      → ((c : ℕ) → c < 5 → WholeAt C A m c → ChunkBelowD C unerased (walk (word C i) (word C j) m) x c) → WholeChunksRead C.D A i j m s
  whole_chunks_read {i} {j} next m within =
      record {
        ahead = λ c b h. chunk_reads _ c i b next.from_codeword (chunk_ahead C next c m b h) (within c b (inl h));
        passed = λ c b h. chunk_reads _ c j b next.to_codeword (chunk_passed C next c m b h) (within c b (inr h));
        bit₁ = sees.separator₁.bit;
        bit₂ = sees.separator₂.bit;
        bit₃ = sees.separator₃.bit;
      }
