-- `position::words::put_down` meets its contract: each chunk is put down on the zeros behind the ones before it, and after each the array
-- has the word's bits as far as it goes, by one law; the chunks fit, each and together. Assumes nothing.
use Prim.Native.Nat.{ℕ, ◌+◌}
use mathlib.Core.List.{List}
use mathlib.Core.Path.{refl}
use native.Mathlib.Omega.{arith}
use Rattle.bits.specs.Places.{place}
use Rattle.bits.proofs.ByteLists.{zero_place}
use Rattle.position.specs.FiveChunks.{FiveChunks}
use Rattle.position.proofs.WordChunks.{UpTo, zeros_behind, nothing_yet, put_next}
use Rattle.position.proofs.words.put_down.Goals.{After-put_chunk-to_chunk1, After-put_chunk-to_chunk2, After-put_chunk-to_separator2, After-put_chunk-to_separator3, Start}
use Rattle.position.proofs.words.put_down.Goals as goal

module _ (first : Start) where
  abbrev n : ℕ
  n = first.args.n

  abbrev d : ℕ
  d = first.args.d

  abbrev Numbers : (ℕ → ℕ) → Type 0
  Numbers u =
      FiveChunks n d u first.args.separator1 first.args.chunk1 first.args.separator2 first.args.chunk2
      first.args.separator3

-- the array has the bits of u up to a place
abbrev Holds : (ℕ → ℕ) → ℕ → List ℕ → Type 0
Holds u to held = UpTo u to (place held)

-- after each chunk
module _ (u : ℕ → ℕ) where
  to_chunk₁ : (c : After-put_chunk-to_chunk1) → let first = c.before in Numbers first u → Holds u (d first) c.put_chunk-to_chunk1.result
  to_chunk₁ c five =
      put_next u _ _ _ _ (omega arith) five.separator₁_bits (nothing_yet u (zero_place 40)) c.put_chunk-to_chunk1.ensures

  to_separator₂ : (c : After-put_chunk-to_separator2)
      → let first = c.before.before in Numbers first u → Holds u (d first + n first) c.put_chunk-to_separator2.result
  to_separator₂ c five = put_next u _ _ _ _ refl five.chunk₁_bits (to_chunk₁ c.before five) c.put_chunk-to_separator2.ensures

  to_chunk₂ : (c : After-put_chunk-to_chunk2)
      → let first = c.before.before.before in Numbers first u → Holds u (d first + n first + d first) c.put_chunk-to_chunk2.result
  to_chunk₂ c five = put_next u _ _ _ _ refl five.separator₂_bits (to_separator₂ c.before five) c.put_chunk-to_chunk2.ensures

  to_separator₃ : (c : After-put_chunk-to_separator3)
      → let first = c.before.before.before.before in Numbers first u → Holds u (d first + n first + d first + n first) c.put_chunk-to_separator3.result
  to_separator₃ c five = put_next u _ _ _ _ refl five.chunk₂_bits (to_chunk₂ c.before five) c.put_chunk-to_separator3.ensures

pub put_chunk-to_chunk1-requires : goal.put_chunk-to_chunk1-requires
put_chunk-to_chunk1-requires c =
    let (u, five) = c.requires.five in (omega arith, omega arith, five.separator₁_bits.0, λ p _. zero_place 40 p)

pub put_chunk-to_separator2-requires : goal.put_chunk-to_separator2-requires
put_chunk-to_separator2-requires c =
    let (u, five) = c.requires.five in (omega arith, omega arith, five.chunk₁_bits.0, zeros_behind u _ (to_chunk₁ u c five))

pub put_chunk-to_chunk2-requires : goal.put_chunk-to_chunk2-requires
put_chunk-to_chunk2-requires c =
    let (u, five) = c.requires.five in
    (omega arith, omega arith, five.separator₂_bits.0, zeros_behind u _ (to_separator₂ u c five))

pub put_chunk-to_separator3-requires : goal.put_chunk-to_separator3-requires
put_chunk-to_separator3-requires c =
    let (u, five) = c.requires.five in
    (omega arith, omega arith, five.chunk₂_bits.0, zeros_behind u _ (to_chunk₂ u c five))

pub put_chunk-requires : goal.put_chunk-requires
put_chunk-requires c =
    let (u, five) = c.requires.five in
    (omega arith, omega arith, five.separator₃_bits.0, zeros_behind u _ (to_separator₃ u c five))

pub returns : goal.returns
returns c u five = put_next u _ _ _ _ refl five.separator₃_bits (to_separator₃ u (goal.at.returns c).After-put_chunk-to_separator3 five) c.put_chunk.ensures
