-- `read_chunk` meets its contract: a place that is not marked is erased, so where D places or more are erased nothing is read, and
-- otherwise the search over the unerased places within its limit reads the chunk. Assumes nothing.
use mathlib.Core.Path.{◌∙◌}
use native.Mathlib.Omega.{arith}
use Rattle.model.specs.Decoded.{meaning}
use Rattle.code_theory.proofs.LeastDistance.{D-high}
use Rattle.bits.proofs.Masks.{ones_and_erased}
use Rattle.linear_code.proofs.ErasureSearch.{too_many_erased, search_reads, meets}
use Rattle.linear_code.proofs.search.read_chunk.Goals as goal

pub overflow_sub-erased : goal.overflow_sub-erased
overflow_sub-erased c = omega (arith, ones_and_erased c.args.code.n c.args.unerased c.requires.1)

pub returns-then-code-erased : goal.returns-then-code-erased
returns-then-code-erased c =
    let all = ones_and_erased c.args.code.n c.args.unerased c.requires.1 in
    let met = meets (meaning c.args.code) c.args.code.sound _ _ c.requires.0 c.requires.1 _
    (too_many_erased (meaning c.args.code) c.args.code.sound _ _ c.requires.0 c.requires.1 (omega (arith, c.if-code-erased.true, all))) in
    record { unerased = met.0; answer = met.1.0; status = met.1.1.0; values = met.1.1.1 }

pub search-requires : goal.search-requires
search-requires c =
    let sound = c.args.code.sound in
    (sound.k_high, omega (arith, D-high (meaning c.args.code) sound, sound.n_high))

pub returns : goal.returns
returns c =
    let C = meaning c.args.code in
    let all = ones_and_erased c.args.code.n c.args.unerased c.requires.1 in
    let met = meets C c.args.code.sound _ _ c.requires.0 c.requires.1 _
    (c.search.ensures
    ∙ search_reads C c.args.code.sound _ _ c.requires.0 c.requires.1 _ c.unerased_rows.ensures _
    (omega (arith, c.if-code-erased.false, all)) (omega (arith, all))) in
    record { unerased = met.0; answer = met.1.0; status = met.1.1.0; values = met.1.1.1 }
