-- `reader::chunks::chunk_reading` meets its contract: the search reads the chunk's bits over the unerased places, both as numbers, by the
-- definition, which looks at no others. Assumes nothing.
use mathlib.Core.Path.{ap, ◌∙◌}
use Prim.Native.Nat.{ℕ}
use native.Mathlib.Omega.{arith}
use lib.Dec.{eqb}
use Rattle.model.specs.Decoded.{meaning}
use Rattle.code_theory.proofs.ChunkReading.{erasure_reading_ext}
use Rattle.code_theory.proofs.Starts.{word_bits_bound}
use Rattle.std.specs.Option.{ok_or}
use Rattle.model.specs.Reading.{Chunk}
use Rattle.reader.specs.RuleAnswers.{unreadable_chunk}
use Rattle.reader.proofs.chunks.chunk_reading.Goals as goal

pub bits_at-bits-requires : goal.bits_at-bits-requires
bits_at-bits-requires c =
    let sound = c.args.code.sound in
    (omega (arith, c.requires, word_bits_bound (meaning c.args.code) sound), sound.n_high)

pub bits_at-unerased-requires : goal.bits_at-unerased-requires
bits_at-unerased-requires c =
    let sound = c.args.code.sound in
    (omega (arith, c.requires, word_bits_bound (meaning c.args.code) sound), sound.n_high)

pub returns : goal.returns
returns c =
    let marks = c.bits_at-unerased.ensures.1 in
    let same =
    c.read_chunk.ensures.unerased
    ∙ erasure_reading_ext (meaning c.args.code) (λ p b. ap (λ (m : ℕ). eqb m 1) (marks p b)) c.bits_at-bits.ensures.1 in
    c.ok_or.ensures.value ∙ ap (λ (read : Chunk). ok_or read unreadable_chunk) same
