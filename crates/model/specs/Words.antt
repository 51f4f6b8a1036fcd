-- Document 01, "Order and words", second half: the chunks of a word, the word of a position, its bytes, and millimetres; and which
-- chunks of a position's word document 02's P7 calls divided. Assumes nothing.
use Rattle.std.specs.Prelude.{Bool, not, ◌&&◌, List, ℕ, zero, suc, ◌+◌, ◌-◌, ◌*◌, ◌%◌, leb, eqb, ℤ, pos, ◌+ℤ◌}
use Rattle.bits.specs.Sums.{join_at, from_place}
use Rattle.bits.specs.Walk.{walk}
use Rattle.bits.specs.Places.{bit, bytes_for, pack}
use Rattle.bits.specs.Searches.{any_below, greatest}
use Rattle.model.specs.Card.{Code}
use Rattle.model.specs.Order.{codeword, last_codeword, start}

-- d, the bits of a word: 2n + 3D
abbrev pub word_bits : Code → ℕ
word_bits C = 2 * C.n + 3 * C.D

-- how many bytes a word of this code has
abbrev pub word_length : Code → ℕ
word_length C = bytes_for (word_bits C)

-- The five chunks of a word by number: 0, 2 and 4 are the separators, of D bits each, and 1 and 3 the code chunks, of n. How many
-- bits chunk c has, and how many stand before it:
unfoldable pub chunk_size : (D n c : ℕ) → ℕ
chunk_size D n zero = D
chunk_size D n (suc zero) = n
chunk_size D n (suc (suc c)) = chunk_size D n c

unfoldable pub places_before : (D n c : ℕ) → ℕ
places_before D n zero = 0
places_before D n (suc zero) = D
places_before D n (suc (suc c)) = places_before D n (suc c) + chunk_size D n (suc c)

-- chunk c of a word, from its first place on: of its bits, or of whatever else each place has
abbrev pub chunk_of : {A : Type 0} → Code → (c : ℕ) (x : ℕ → A) → ℕ → A
chunk_of C c = from_place (places_before C.D C.n c)

-- the chunks 0 to 4 by name (that they are these is the law `named_chunks`)
abbrev pub separator₁ : {A : Type 0} → Code → (ℕ → A) → ℕ → A
separator₁ C x = x

abbrev pub chunk₁ : {A : Type 0} → Code → (ℕ → A) → ℕ → A
chunk₁ C = from_place C.D

abbrev pub separator₂ : {A : Type 0} → Code → (ℕ → A) → ℕ → A
separator₂ C = from_place (C.D + C.n)

abbrev pub chunk₂ : {A : Type 0} → Code → (ℕ → A) → ℕ → A
chunk₂ C = from_place (C.D + C.n + C.D)

abbrev pub separator₃ : {A : Type 0} → Code → (ℕ → A) → ℕ → A
separator₃ C = from_place (C.D + C.n + C.D + C.n)

-- a word of five chunks: separator 1 (D bits), code chunk 1 (n), separator 2 (D), code chunk 2 (n), separator 3 (D)
unfoldable pub five_chunks : Code → (s₁ c₁ s₂ c₂ s₃ : ℕ → ℕ) → ℕ → ℕ
five_chunks C s₁ c₁ s₂ c₂ s₃ = join_at C.D s₁ (join_at C.n c₁ (join_at C.D s₂ (join_at C.n c₂ s₃)))

-- w(i): c(i) in both code chunks and the parity of i in every separator bit
unfoldable pub word : Code → (i p : ℕ) → ℕ
word C i =
    let parity : ℕ → ℕ = λ p. i % 2 in let c : ℕ → ℕ = bit (codeword C i) in five_chunks C parity c parity c parity

-- the block of a position: the greatest i up to 2^k - 1 with r(i) at most the position
unfoldable pub block_of : Code → (position : ℕ) → ℕ
block_of C position = greatest (λ i. leb (start C i) position) (last_codeword C)

-- the word of a position r(i) + m of block i: w(i) with the first m places in which w(i) and w(i+1) differ taken from w(i+1)
-- (for positions up to the last, at which m is 0, so that nothing is taken from w(2^k), which doesn't exist)
unfoldable pub word_at : Code → (position p : ℕ) → ℕ
word_at C position =
    let i : ℕ = block_of C position in walk (word C i) (word C (i + 1)) (position - start C i)

-- the word of a position as it travels: place p is bit p mod 8, lowest first, of byte p / 8; bits past d are zero
unfoldable pub word_bytes : Code → (position : ℕ) → List ℕ
word_bytes C position = pack (word_bits C) (word_at C position)

-- distance from the buffer face, a signed number: offset + 50 mm × position (document 02, P2)
unfoldable pub millimetres_of : (offset : ℤ) (position : ℕ) → ℤ
millimetres_of offset position = offset +ℤ pos (50 * position)

-- ---- document 02, P7: which chunks of a position's word are divided

-- whether w(i) and w(i+1) differ in place p of a word
abbrev pub differ_at : Code → (i p : ℕ) → Bool
differ_at C i p = not (eqb (word C i p) (word C (i + 1) p))

-- of a place in which w(i) and w(i+1) differ: whether the word of a position of block i has it taken from w(i+1), so has the bit of w(i+1)
-- (of any other place this means nothing)
abbrev pub taken_at : Code → (position p : ℕ) → Bool
taken_at C position p = eqb (word_at C position p) (word C (block_of C position + 1) p)

-- chunk c, 0 to 4, of the word of a position of block i is divided: some, but not all, of the places in which w(i) and w(i+1) differ
-- there are taken from w(i+1), so that one of these places is taken from it and one is not (none is at the last position, where w(i+1)
-- doesn't exist and nothing is taken from it)
unfoldable pub divided : Code → (position c : ℕ) → Bool
divided C position c =
    let size : ℕ = chunk_size C.D C.n c in
    let differ : ℕ → Bool = chunk_of C c (differ_at C (block_of C position)) in
    let taken : ℕ → Bool = chunk_of C c (taken_at C position) in
    any_below (λ p. differ p && taken p) size && any_below (λ p. differ p && not (taken p)) size
