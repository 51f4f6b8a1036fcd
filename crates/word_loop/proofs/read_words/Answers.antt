use Prim.Native.Nat.{ℕ, ◌+◌, ◌-◌, ◌*◌, ◌/◌, ◌≤◌}
use mathlib.Core.Path.{◌≡◌, refl, ◌∙◌}
use mathlib.Core.List.{List}
use native.Mathlib.Nat.{div-le_of_le-mul}
use native.Mathlib.Omega.{arith}
use borrow.Rule.Slice.PartMut.{put_mid, same_len_mid}
use lib.ListN.{length, take, drop, length-append, length-drop}
use lib.Seq.{length-take-le}
use Rattle.model.specs.Card.{Code}
use Rattle.model.specs.Decoded.{meaning}
use Rattle.model.specs.Words.{word_length}
use Rattle.stream.specs.Streamed.{Follows, Completes}
use Rattle.stream.proofs.Streaming.{few_read}
use Rattle.word_loop.proofs.Reached.{Reached, reached_first, reached_behind, reached_turn, turn_lines_part}
use Rattle.word_loop.proofs.read_words.Goals.{After-count-count}
use Rattle.word_loop.proofs.read_words.Goals as goal

pub loop-turn-init : goal.loop-turn-init
loop-turn-init c =
    let begun = c.default-progress.ensures in
    record {
      input_long = omega arith;
      out_long = c.requires.room;
      same_buffer = refl;
      numbered = omega arith;
      reached = reached_first _ _ begun.0 begun.1.0 begun.1.1;
    }

-- the buffer of bytes after a read: what it brought stands behind the bytes that were held
module _ (c : After-count-count) where
  abbrev code : Code
  code = meaning c.args.code

  -- where the bytes that come are put, and the end of the room for them
  abbrev from : ℕ
  from = 512 + c.loop-turn.progress.held

  abbrev end : ℕ
  end = 512 + 1600 * c.word_length.result

  abbrev buffer : List ℕ
  buffer = put_mid from (end - from) c.loop-turn.input c.receive.new.room

  -- what is held is still there
  again : Reached code (drop 512 buffer) c.loop-turn.progress c.loop-turn._turn
  again = reached_behind 512 c.loop-turn.input c.receive.new.room (end - from) (omega arith) c.loop-turn.invariant.reached

  -- what a turn takes in, the bytes held and those that came: no more than 1,600 words
  abbrev arrived : ℕ
  arrived = c.loop-turn.progress.held + c.count-count.result

  inside : arrived ≤ c.word_length.result * 1600
  inside = omega (arith, c.in_ok-received.ensures)

  few : arrived / word_length code ≤ 1600
  few = rw (← c.word_length.ensures.0) (div-le_of_le-mul c.word_length.result inside)

pub returns-then-count-eq0-clause-last : goal.returns-then-count-eq0-clause-last
unfolding Completes
returns-then-count-eq0-clause-last c =
    let reached = again (goal.at.returns-then-count-eq0-clause-last c).After-count-count in
    record { came = reached.all; text = reached.text; whole = c.put_end.ensures.whole _ reached.all reached.text _ reached.streamed }

pub take_in-progress-requires-clause-within : goal.take_in-progress-requires-clause-within
take_in-progress-requires-clause-within c =
    let at = (goal.at.take_in-progress-requires-clause-within c).After-count-count in
    (omega arith, omega (arith, same_len_mid _ _ c.loop-turn.input c.receive.new.room c.receive.auto.room, inside at), few_read _ c.loop-turn.invariant.reached.streamed)

pub take_in-progress-requires-clause-room : goal.take_in-progress-requires-clause-room
take_in-progress-requires-clause-room c = omega (arith, few (goal.at.take_in-progress-requires-clause-room c).After-count-count)

pub put_out-requires : goal.put_out-requires
unfolding Follows
put_out-requires c =
    let reached = again (goal.at.put_out-requires c).After-count-count in
    let streamed = c.take_in-progress.ensures.follows reached.all reached.text reached.streamed in
    rw c.as_bytes.ensures (turn_lines_part _ c.requires.from_card reached.text _ streamed)

pub loop-turn-preserved : goal.loop-turn-preserved
loop-turn-preserved c =
    let at = (goal.at.loop-turn-preserved c).After-count-count in
    let taken = c.take_in-progress.ensures.taken in
    let long : length (buffer at) ≡ 64512 = same_len_mid _ _ c.loop-turn.input c.receive.new.room c.receive.auto.room ∙ c.loop-turn.invariant.input_long in
    let within : arrived at ≤ length (drop 512 (buffer at)) = simp length-drop (omega (arith, inside at)) in
    let came : length (take (arrived at) (drop 512 (buffer at))) ≡ arrived at = length-take-le _ _ within in
    record {
      input_long = c.take_in-progress.auto.input ∙ long;
      out_long = omega (arith, simp length-append at taken.lines.same_capacity);
      same_buffer = taken.lines.same_buffer ∙ c.loop-turn.invariant.same_buffer;
      numbered = omega (arith, rw came at taken.met, few at);
      reached = reached_turn _ _ _ _ _ _ _ c.take_in-progress.ensures.follows (omega arith) within (again at);
    }
