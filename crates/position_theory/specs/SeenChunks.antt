-- What both ways to see a word have in common, plain bits and levels: the code chunks are read as the chunk promise has it, over the
-- unerased places, which in a plain word are all; and what it is for a chunk to read as a codeword. Assumes nothing.
use Rattle.std.specs.Prelude.{◌≡◌, Bool, true, ℕ}
use Rattle.model.specs.Card.{Code}
use Rattle.model.specs.Words.{chunk₁, chunk₂}
use Rattle.model.specs.Reading.{Seen}
use Rattle.code_theory.specs.Promise.{ReadsWithErasures}
use Rattle.model.specs.Reading.{Chunk, Codeword}

-- what is seen of a code chunk of which these places are unerased is the answer of a reader, whichever, that keeps the promise over them
pub record SeesChunk (C : Code) (unerased : ℕ → Bool) (chunk : ℕ → ℕ) (answer : Chunk) : Type 0 where
  pub reader : (ℕ → ℕ) → Chunk
  pub keeps : ReadsWithErasures C unerased reader
  pub answers : answer ≡ reader chunk

-- the code chunks of what is seen, s, are seen so in the word x of which these places are unerased
pub record SeesChunks (C : Code) (unerased : ℕ → Bool) (x : ℕ → ℕ) (s : Seen) : Type 0 where
  pub first : SeesChunk C (chunk₁ C unerased) (chunk₁ C x) s.read₁
  pub second : SeesChunk C (chunk₂ C unerased) (chunk₂ C x) s.read₂

-- a code chunk reads as codeword number p; and it does if the rule names it
abbrev pub ReadsAs : Chunk → (p : ℕ) → Type 0
ReadsAs read p = (e : ℕ) × (read ≡ Codeword p e)

abbrev pub NamedReads : (named : Bool) → Chunk → (p : ℕ) → Type 0
NamedReads named read p = named ≡ true → ReadsAs read p
