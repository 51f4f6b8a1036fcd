-- P5: a code chunk of a sound card reads as the codeword for which 2 × wrong + erased is below D, one at most. Assumes nothing.
use mathlib.Core.List.{List}
use Prim.Native.Nat.{ℕ}
use borrow.Author.Tests.{ltb-true, lt-ltb}
use Rattle.model.specs.Card.{code_of}
use Rattle.model.specs.Levels.{within_erasures}
use Rattle.code_theory.proofs.Promise.{one_near}
use Rattle.code_theory.proofs.SoundCard.{sound_card}
use Rattle.position_theory.proofs.SoundCards.{card_promise}
use Rattle.level_theory.specs.ReadsBelowD.{ChunksReadBelowD}

pub chunks_read_below_d : (card : List ℕ) → ChunksReadBelowD card
unfolding ChunksReadBelowD within_erasures
chunks_read_below_d card sound unerased chunk =
    let C = code_of card in
    let reads = (card_promise card sound).chunks unerased in
    record {
      one = λ p q (lp, hp) (lq, hq). one_near C (sound_card card sound) unerased chunk p q lp lq (lt-ltb _ _ hp) (lt-ltb _ _ hq);
      read = λ p (l, h). reads.reads chunk p l (lt-ltb _ _ h);
      below = λ p e r. let (l, near, count) = reads.within chunk p e r in ((l, ltb-true _ _ near), count);
    }
