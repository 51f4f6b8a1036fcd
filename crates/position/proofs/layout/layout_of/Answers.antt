-- `position::layout::layout_of` meets its contract: the sums fit, since a word has 320 bits at most. Assumes nothing.
use native.Mathlib.Omega.{arith}
use mathlib.Core.Path.{refl}
use Prim.Native.Nat.{◌≤◌}
use Rattle.model.specs.Decoded.{meaning}
use Rattle.model.specs.Words.{word_bits}
use Rattle.code_theory.proofs.LeastDistance.{D-high}
use Rattle.code_theory.proofs.Starts.{word_bits_bound}
use Rattle.position.proofs.layout.layout_of.Goals.{Start}
use Rattle.position.proofs.layout.layout_of.Goals as goal

short : (c : Start) → word_bits (meaning c.args.code) ≤ 320
short c = word_bits_bound (meaning c.args.code) c.args.code.sound

pub overflow_add-separator2 : goal.overflow_add-separator2
overflow_add-separator2 c = omega (arith, short c)

pub overflow_add-chunk2 : goal.overflow_add-chunk2
overflow_add-chunk2 c = omega (arith, short c)

pub overflow_add-separator3 : goal.overflow_add-separator3
overflow_add-separator3 c = omega (arith, short c)

pub overflow_add-result : goal.overflow_add-result
overflow_add-result c = omega (arith, short c)

pub returns : goal.returns
returns c =
    record {
      chunk₁_at = refl;
      separator₂_at = refl;
      chunk₂_at = refl;
      separator₃_at = refl;
      bits_are = omega arith;
      fits = short c;
      separator_fits = omega (arith, D-high (meaning c.args.code) c.args.code.sound);
      chunk_fits = c.args.code.sound.n_high;
    }
