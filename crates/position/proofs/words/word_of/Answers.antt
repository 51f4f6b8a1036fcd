-- `position::words::word_of` meets its contract: the parity of i and c(i) are the chunks of w(i). Assumes nothing.
use mathlib.Core.Path.{◌≡◌, ap, ◌∙◌}
use Prim.Native.Nat.{ℕ, ◌+◌}
use native.Mathlib.Omega.{arith}
use Rattle.bits.specs.Places.{cut}
use Rattle.model.specs.Decoded.{meaning}
use Rattle.model.specs.Words.{word_bits, word}
use Rattle.code_theory.proofs.LeastDistance.{D-high}
use Rattle.code_theory.proofs.Starts.{word_bits_bound}
use Rattle.position.specs.FiveChunks.{FiveChunks}
use Rattle.position.proofs.WordChunks.{chunks_of_word}
use Rattle.position.proofs.words.word_of.Goals.{After-codeword-c}
use Rattle.position.proofs.words.word_of.Goals as goal

five : (c : After-codeword-c)
    → let args = c.args in
    let C = meaning args.code in
    let parity = c.separator-parity.result in
    FiveChunks C.n C.D (word C args.i) parity c.codeword-c.result parity c.codeword-c.result parity
five c = chunks_of_word _ _ _ _ c.separator-parity.ensures c.codeword-c.ensures

pub separator-parity-requires : goal.separator-parity-requires
separator-parity-requires c = omega (arith, D-high (meaning c.args.code) c.args.code.sound)

pub put_down-requires : goal.put_down-requires
put_down-requires c =
    let C = meaning c.args.code in
    record {
      room = (c.args.code.sound.n_high, omega (arith, D-high C c.args.code.sound), omega (arith, word_bits_bound C c.args.code.sound));
      five = (_, five c);
    }

pub returns : goal.returns
returns c p =
    let C = meaning c.args.code in
    let whole : C.D + C.n + C.D + C.n + C.D ≡ word_bits C = omega arith in
    c.put_down.ensures _ (five (goal.at.returns c).After-codeword-c) p ∙ ap (λ (bits : ℕ). cut bits (word C c.args.i) p) whole
