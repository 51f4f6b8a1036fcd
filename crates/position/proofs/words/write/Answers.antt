-- `position::words::write` meets its contract: the lent bytes are as many as a word has, which is 40 at most, and the array's first so many
-- bytes are the word. Assumes nothing.
use mathlib.Core.Path.{◌≡◌, ap, ◌∙◌}
use Prim.Native.Nat.{ℕ, ◌≤◌}
use native.Mathlib.Omega.{arith}
use lib.ListN.{length, take, length-take}
use Rattle.model.specs.Decoded.{meaning}
use Rattle.model.specs.Words.{word_length}
use Rattle.code_theory.proofs.Starts.{word_bits_bound}
use Rattle.position.proofs.CopiedWord.{copied_word}
use Rattle.position.proofs.words.write.Goals as goal

pub slice_bounds-word-end : goal.slice_bounds-word-end
slice_bounds-word-end c = omega (arith, word_bits_bound (meaning c.args.code) c.args.code.sound)

pub slice_bounds-copy_from_slice-end : goal.slice_bounds-copy_from_slice-end
slice_bounds-copy_from_slice-end c = omega (arith, word_bits_bound (meaning c.args.code) c.args.code.sound, length-take {A = ℕ})

pub copy_from_slice-requires : goal.copy_from_slice-requires
copy_from_slice-requires c = omega (arith, word_bits_bound (meaning c.args.code) c.args.code.sound, length-take {A = ℕ})

pub returns : goal.returns
returns c =
    let C = meaning c.args.code in
    let word = c.word_at-word.result in
    let whole : c.copy_from_slice.new.self ≡ take (word_length C) word =
    c.copy_from_slice.ensures.after ∙ ap (λ (n : ℕ). take n word) c.requires.lent_len in
    let room : word_length C ≤ length word = omega (arith, word_bits_bound C c.args.code.sound) in
    whole ∙ copied_word C c.args.position word room (λ i. rw whole at (c.type_inv.lent i).fits) c.word_at-word.ensures
