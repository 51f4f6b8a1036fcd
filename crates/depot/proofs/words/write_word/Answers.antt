-- `depot::words::write_word` meets its contract: a card that is refused is one law. Of one that has passed, the length of its words
-- and then its last position refuse the write, which leaves the lent bytes; or the lent word has the right length and the position is
-- on the track, as the writer asks, and is written. Assumes nothing.
use mathlib.Core.Path.{◌≡◌, sym, ◌∙◌}
use Prim.Native.Nat.{◌≤◌}
use lib.ListN.{length}
use Rattle.model.specs.Decoded.{meaning}
use Rattle.model.specs.Order.{last_position}
use Rattle.model.specs.Words.{word_length}
use Rattle.std.proofs.lemmas.Result.{err_from_is_err_and}
use Rattle.depot.proofs.WriteContract.{write_by_card, refused_6, refused_7, written, write_answered}
use Rattle.depot.proofs.words.write_word.Goals.{Else-last_position-position, Else-word-word_length}
use Rattle.depot.proofs.words.write_word.Goals as goal

pub returns-in_err-code : goal.returns-in_err-code
returns-in_err-code c =
    let p = err_from_is_err_and c.from_residual.result c.from_residual.ensures.1 in
    let (answered, left) = write_by_card _ c.args.position c.args.word.now _ c.in_err-code.ensures in
    write_answered _ _ _ (p.1 ∙ rw p.2 answered, left)

pub returns-then-word-word_length : goal.returns-then-word-word_length
returns-then-word-word_length c =
    write_answered _ _ _
    (refused_6 _ _ _ _ c.in_ok-code.ensures (λ e. c.if-word-word_length.true (e ∙ sym c.word_length.ensures.0)))

-- past the test of the length: the lent word has the length of a word
whole : (c : Else-word-word_length) → length c.args.word.now ≡ word_length (meaning c.in_ok-code.field-0.code)
whole c = c.if-word-word_length.false ∙ c.word_length.ensures.0

pub returns-then-last_position-position : goal.returns-then-last_position-position
returns-then-last_position-position c =
    write_answered _ _ _
    (refused_7 _ _ _ _ c.in_ok-code.ensures (whole (goal.at.returns-then-last_position-position c).Else-word-word_length)
    (rw c.last_position.ensures at c.if-last_position-position.true))

-- past the test of the position: it is on the track
on_track : (c : Else-last_position-position) → c.args.position ≤ last_position (meaning c.in_ok-code.field-0.code)
on_track c = rw c.last_position.ensures at c.if-last_position-position.false

pub write-requires : goal.write-requires
write-requires c =
    let at = goal.at.write-requires c in
    record { on_track = on_track at.Else-last_position-position; lent_len = whole at.Else-word-word_length }

pub returns : goal.returns
returns c =
    let at = goal.at.returns c in
    write_answered _ _ _
    (written _ _ _ _ c.in_ok-code.ensures (whole at.Else-word-word_length) (on_track at.Else-last_position-position) _ c.write.ensures)
