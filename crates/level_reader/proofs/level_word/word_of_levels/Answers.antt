-- `level_reader::level_word::word_of_levels` meets its contract: each chunk is folded where the layout has it, the strength going on to
-- where the next one begins; bits and unerased places are those of the five chunks, and the sums those of the separators. Assumes nothing.
use mathlib.Core.Path.{◌≡◌, ap, ◌∙◌}
use Prim.Native.Nat.{ℕ, ◌+◌}
use native.Mathlib.Omega.{arith}
use Rattle.bits.specs.Places.{cut}
use Rattle.bits.proofs.Sums.{from_place_zero}
use Rattle.model.specs.Card.{Code}
use Rattle.model.specs.Decoded.{meaning}
use Rattle.model.specs.Words.{word_bits}
use Rattle.model.specs.Levels.{received_at, bits_in, sum_of_levels, strength_of}
use Rattle.model.specs.declared.ReceivedLevel.{ReceivedLevel}
use Rattle.position.specs.FiveChunks.{FiveChunks}
use Rattle.position.specs.LayoutOf.{LayoutOf}
use Rattle.levels.specs.LevelChunks.{unerased_bits}
use Rattle.level_reader.proofs.LevelWordParts.{five_bits, five_unerased}
use Rattle.level_reader.proofs.level_word.word_of_levels.Goals.{After-chunk_of_levels-s3}
use Rattle.level_reader.proofs.level_word.word_of_levels.Goals as goal

pub chunk_of_levels-s1-requires-clause-before_value : goal.chunk_of_levels-s1-requires-clause-before_value
unfolding strength_of
chunk_of_levels-s1-requires-clause-before_value c = c.no_strength.ensures

-- all five are folded
module _ (c : After-chunk_of_levels-s3) where
  abbrev C : Code
  C = meaning c.args.code

  abbrev word : ℕ → ReceivedLevel
  word = received_at c.args.levels.now

  laid : LayoutOf C c.args.at
  laid = c.requires.0

  all_bits :
      FiveChunks C.n C.D (bits_in word)
      c.chunk_of_levels-s1.result.bits c.chunk_of_levels-c1.result.bits c.chunk_of_levels-s2.result.bits
      c.chunk_of_levels-c2.result.bits c.chunk_of_levels-s3.result.bits
  all_bits =
      five_bits _ _ laid _ _ _ _ _ _ c.chunk_of_levels-s1.ensures.received
      c.chunk_of_levels-c1.ensures.received c.chunk_of_levels-s2.ensures.received
      c.chunk_of_levels-c2.ensures.received c.chunk_of_levels-s3.ensures.received

  all_unerased :
      FiveChunks C.n C.D (unerased_bits word)
      c.chunk_of_levels-s1.result.unerased c.chunk_of_levels-c1.result.unerased c.chunk_of_levels-s2.result.unerased
      c.chunk_of_levels-c2.result.unerased c.chunk_of_levels-s3.result.unerased
  all_unerased =
      five_unerased _ _ laid _ _ _ _ _ _ c.chunk_of_levels-s1.ensures.received
      c.chunk_of_levels-c1.ensures.received c.chunk_of_levels-s2.ensures.received
      c.chunk_of_levels-c2.ensures.received c.chunk_of_levels-s3.ensures.received

-- five chunks put down are a word
whole : (C : Code) (u : ℕ → ℕ) (p : ℕ) → cut (C.D + C.n + C.D + C.n + C.D) u p ≡ cut (word_bits C) u p
whole C u p =
    let bits : C.D + C.n + C.D + C.n + C.D ≡ word_bits C = omega arith in ap (λ (d : ℕ). cut d u p) bits

pub put_down-bits-requires-clause-five : goal.put_down-bits-requires-clause-five
put_down-bits-requires-clause-five c = (_, all_bits (goal.at.put_down-bits-requires-clause-five c).After-chunk_of_levels-s3)

pub put_down-unerased-requires-clause-five : goal.put_down-unerased-requires-clause-five
put_down-unerased-requires-clause-five c = (_, all_unerased (goal.at.put_down-unerased-requires-clause-five c).After-chunk_of_levels-s3)

pub returns : goal.returns
returns c =
    let folded = (goal.at.returns c).After-chunk_of_levels-s3 in
    let at = laid folded in
    record {
      bits_are = λ p. c.put_down-bits.ensures _ (all_bits folded) p ∙ whole (C folded) _ p;
      unerased_are = λ p. c.put_down-unerased.ensures _ (all_unerased folded) p ∙ whole (C folded) _ p;
      sum₁ =
          c.chunk_of_levels-s1.ensures.folded
          ∙ ap (λ (separator : ℕ → ReceivedLevel). sum_of_levels separator (C folded).D) (from_place_zero (word folded));
      sum₂ = rw at.separator₂_at at c.chunk_of_levels-s2.ensures.folded;
      sum₃ = rw at.separator₃_at at c.chunk_of_levels-s3.ensures.folded;
      strength_is = c.chunk_of_levels-s3.ensures.received.strength_is ∙ ap (strength_of (word folded)) (omega (arith, at.separator₃_at));
    }
