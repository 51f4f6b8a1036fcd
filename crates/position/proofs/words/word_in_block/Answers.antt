-- `position::words::word_in_block` meets its contract: w(next) up to a place before which the two words differ in m places, and w(i)
-- from there on, is the walk of m steps. There is such a place, since the words differ in m places at least. Assumes nothing.
use mathlib.Core.Path.{◌∙◌, fun_ext}
use native.Mathlib.Omega.{arith}
use Rattle.bits.specs.Places.{cut}
use Rattle.bits.proofs.Walk.{distance_cut, walk_cut, walk_spliced}
use Rattle.bits.proofs.Distance.{distance_longer}
use Rattle.bits.proofs.Places.{place_bit}
use Rattle.model.specs.Decoded.{meaning}
use Rattle.model.specs.Words.{word_bits, word}
use Rattle.code_theory.proofs.Starts.{word_bits_bound}
use Rattle.position.proofs.words.word_in_block.Goals as goal

-- there are m places to pass
pub place_after-requires : goal.place_after-requires
place_after-requires c =
    let C = meaning c.args.code in
    let d = word_bits C in
    let u = word C c.args.i in
    let v = word C c.args.next in
    let longer = distance_longer (cut d u) (cut d v) {a = d} {d = 320} (word_bits_bound C c.args.code.sound) in
    rw (fun_ext c.word_of-u.ensures, fun_ext c.word_of-v.ensures)
    (omega (arith, longer, distance_cut d d u v (omega arith)))

pub returns : goal.returns
returns c p =
    let C = meaning c.args.code in
    c.spliced.ensures p
    ∙ walk_spliced (place_bit _) (place_bit _) _ _ c.place_after.ensures.1 p
    ∙ rw (fun_ext c.word_of-u.ensures, fun_ext c.word_of-v.ensures)
    (walk_cut (word_bits C) (word C c.args.i) (word C c.args.next) c.args.m p)
