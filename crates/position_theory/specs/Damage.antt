-- Document 01, "Reading a word", last paragraph: the bits that the cable damages, chunk by chunk, and how far one position is from
-- another. Document 02, P5: the bits of a chunk that are wrong and those that are erased; and P7: words whose divided chunk is damaged
-- arbitrarily. Assumes nothing.
use Rattle.std.specs.Prelude.{◌≡◌, Bool, false, List, ℕ, ◌+◌, ◌*◌, ◌≤◌, ◌<◌, length}
use Rattle.bits.specs.Sums.{sum_below, distance, distance_unerased, erased_below}
use Rattle.bits.specs.Places.{place}
use Rattle.model.specs.Card.{Code, radius}
use Rattle.model.specs.Words.{chunk_size, chunk_of, word_bytes, word_length, divided}
use Rattle.model.specs.ReadWord.{spare_set}
use Rattle.model.specs.ReadWord.{ReadAnswer}
use Rattle.std.specs.Prelude.{Ok, Err}

-- the number of damaged bits in chunk c, of the chunks 0 to 4: the places of it in which x differs from u
unfoldable pub damaged_in : Code → (c : ℕ) (u x : ℕ → ℕ) → ℕ
damaged_in C c u x = distance (chunk_size C.D C.n c) (chunk_of C c u) (chunk_of C c x)

-- where only some places are unerased: the number of wrong bits in chunk c, the unerased places of it in which x differs from u; and the
-- number of erased bits in it
unfoldable pub wrong_in : Code → (unerased : ℕ → Bool) (c : ℕ) (u x : ℕ → ℕ) → ℕ
wrong_in C unerased c u x = distance_unerased (chunk_of C c unerased) (chunk_size C.D C.n c) (chunk_of C c u) (chunk_of C c x)

unfoldable pub erased_in : Code → (unerased : ℕ → Bool) (c : ℕ) → ℕ
erased_in C unerased c = erased_below (chunk_of C c unerased) (chunk_size C.D C.n c)

-- 2 × wrong + erased of chunk c is below D; and that of each of the five chunks is
abbrev pub ChunkBelowD : Code → (unerased : ℕ → Bool) (u x : ℕ → ℕ) (c : ℕ) → Type 0
ChunkBelowD C unerased u x c = 2 * wrong_in C unerased c u x + erased_in C unerased c < C.D

unfoldable pub ChunksBelowD : Code → (unerased : ℕ → Bool) (u x : ℕ → ℕ) → Type 0
ChunksBelowD C unerased u x = (c : ℕ) → c < 5 → ChunkBelowD C unerased u x c

-- the number of wrong bits in all, and of erased bits in all: the sums over the five chunks
unfoldable pub wrong_in_all : Code → (unerased : ℕ → Bool) (u x : ℕ → ℕ) → ℕ
wrong_in_all C unerased u x = sum_below (λ c. wrong_in C unerased c u x) 5

unfoldable pub erased_in_all : Code → (unerased : ℕ → Bool) → ℕ
erased_in_all C unerased = sum_below (erased_in C unerased) 5

-- in each of the five chunks at most e bits are damaged
unfoldable pub ChunksWithin : Code → (e : ℕ) (u x : ℕ → ℕ) → Type 0
ChunksWithin C e u x = (c : ℕ) → c < 5 → damaged_in C c u x ≤ e

-- the number of damaged bits in all: the sum over the five chunks
unfoldable pub damaged_in_all : Code → (u x : ℕ → ℕ) → ℕ
damaged_in_all C u x = sum_below (λ c. damaged_in C c u x) 5

-- how many bits of the position's word are damaged in the received word
unfoldable pub damaged : Code → (position : ℕ) (received : List ℕ) → ℕ
damaged C position received = damaged_in_all C (place (word_bytes C position)) (place received)

-- the received bytes are a word with spare bits zero in which at most t bits of each chunk of the word sent are damaged; and the same
-- where that is the word of a position
pub record WithinRadiusOf (C : Code) (sent received : List ℕ) : Type 0 where
  pub right_length : length received ≡ word_length C
  pub spare_zero : spare_set C received ≡ false
  pub chunks : ChunksWithin C (radius C) (place sent) (place received)

abbrev pub WithinRadius : Code → (position : ℕ) (received : List ℕ) → Type 0
WithinRadius C position = WithinRadiusOf C (word_bytes C position)

-- The received bytes are a word with spare bits zero in which each chunk of the position's word that is not divided has at most t damaged
-- bits. A divided chunk may be damaged arbitrarily; where none is divided, the limit binds all five, as in `WithinRadius`.
pub record UndividedWithinRadius (C : Code) (position : ℕ) (received : List ℕ) : Type 0 where
  pub right_length : length received ≡ word_length C
  pub spare_zero : spare_set C received ≡ false
  pub chunks : (c : ℕ) → c < 5 → divided C position c ≡ false
      → damaged_in C c (place (word_bytes C position)) (place received) ≤ radius C

-- an answer that is no refusal, whose position is at most e steps from this one
unfoldable pub Near : ReadAnswer → (position e : ℕ) → Type 0
Near (Ok r) position e = (r.position ≤ position + e) × (position ≤ r.position + e)
Near (Err refusal) position e = ⊥

-- the residual of an answer (0 of a refusal, which means nothing)
unfoldable pub residual_of : ReadAnswer → ℕ
residual_of (Ok r) = r.residual
residual_of (Err refusal) = 0
