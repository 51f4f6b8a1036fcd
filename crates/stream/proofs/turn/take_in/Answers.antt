-- `stream::turn::take_in` meets its contract: n / w words of w bytes are whole, and their lines are those that are put; the n % w
-- bytes that are left are those behind the whole words, and these are kept. So the turn follows what came before it (`follows`).
-- Assumes nothing.
use Prim.Native.Nat.{ℕ, ◌+◌, ◌-◌, ◌*◌, ◌/◌, ◌^◌, ◌≤◌, ◌<◌}
use mathlib.Core.Path.{◌≡◌, refl, sym, ap, ◌∙◌}
use mathlib.Core.List.{List}
use native.Mathlib.Nat.{div-mul-le_self, mod-eq-sub-div-mul, add-sub_cancel_left}
use native.Mathlib.Omega.{arith}
use lib.ListN.{length, take, drop, length-drop, length-append}
use lib.Seq.{length-take-le}
use Rattle.model.specs.Decoded.{meaning}
use Rattle.model.specs.Words.{word_length}
use Rattle.report.specs.Filled.{Filled, filled_of, capacity, unfilled}
use Rattle.stream.specs.TakenIn.{TakenIn}
use Rattle.stream.proofs.Behind.{behind_of_front, part_put_back}
use Rattle.stream.proofs.Streaming.{follows}
use Rattle.stream.proofs.turn.take_in.Goals.{After-word_length-w}
use Rattle.stream.proofs.turn.take_in.Goals as goal

-- the buffer from where the words start
abbrev words_of : After-word_length-w → List ℕ
words_of c = drop c.args.start c.args.input.now

-- n bytes have come in
room : (c : After-word_length-w) → c.args.n ≤ length (words_of c)
room c = rw length-drop (omega arith)

arrived : (c : After-word_length-w) → length (take c.args.n (words_of c)) ≡ c.args.n
arrived c = length-take-le _ _ (room c)

-- the measured length is that of the code's words
each : (c : After-word_length-w) → word_length (meaning c.args.code) ≡ c.word_length-w.result
each c = sym c.word_length-w.ensures.0

-- the words met still fit
met_fits : (c : After-word_length-w) → c.args.before.met + c.args.n / c.word_length-w.result < 2 ^ 64
met_fits c = rw (each c) at c.requires.met_fits

pub slice_bounds-put_words-end-2 : goal.slice_bounds-put_words-end-2
slice_bounds-put_words-end-2 c = sym (length-take-le _ _ c.requires.within.1)

pub put_words-read-requires : goal.put_words-read-requires
put_words-read-requires c =
    let measured = (goal.at.put_words-read-requires c).After-word_length-w in
    let args = c.args in
    let room : c.args.n / c.word_length-w.result * 144 ≤ capacity (filled_of args.out.now) =
    rw (each measured) at c.requires.room in
    record {
      fits = (
        rw (each measured, length-take-le (args.start + args.n) args.input.now c.requires.within.1)
            (omega (arith, div-mul-le_self args.n c.word_length-w.result)),
        rw (ap (λ (b : Filled). b.rest) c.clear.ensures, length-append) room,
        omega (arith, met_fits measured),
      );
    }

pub overflow_mul-m : goal.overflow_mul-m
overflow_mul-m c = omega (arith, div-mul-le_self c.args.n c.word_length-w.result)

pub keep_tail-held-requires : goal.keep_tail-held-requires
keep_tail-held-requires c =
    let measured = (goal.at.keep_tail-held-requires c).After-word_length-w in
    rw (add-sub_cancel_left, arrived measured) (div-mul-le_self _ _)

pub overflow_add-result : goal.overflow_add-result
overflow_add-result c = omega (arith, met_fits (goal.at.overflow_add-result c).After-word_length-w)

pub overflow_add-result-2 : goal.overflow_add-result-2
overflow_add-result-2 c =
    let measured = (goal.at.overflow_add-result-2 c).After-word_length-w in
    omega (arith, met_fits measured, c.requires.within.2, c.put_words-read.ensures.counted.1)

pub returns : goal.returns
returns c =
    let measured = (goal.at.returns c).After-word_length-w in
    let args = c.args in
    let n = args.n in
    let w = c.word_length-w.result in
    let is_length = c.word_length-w.ensures.0 in
    let start : args.start ≤ length args.input.now = omega arith in
    let front = behind_of_front args.start args.input.now start n in
    let tail = c.keep_tail-held in
    let lent : length (take (args.start + n - args.start) (words_of measured)) ≡ n = rw add-sub_cancel_left (arrived measured) in
    let held : tail.result ≡ n - n / w * w = rw lent at tail.ensures.count in
    let taken : TakenIn (meaning args.code) (take n (words_of measured)) args.before _ (unfilled (filled_of args.out.now)) _ _ =
    record {
      met = rw (arrived measured, ← is_length);
      read =
          rw (arrived measured, ← is_length)
          (ap (λ (more : ℕ). args.before.read + more) (rw front at c.put_words-read.ensures.counted.0));
      held = rw (arrived measured, ← is_length) (held ∙ sym (mod-eq-sub-div-mul n w));
      kept =
          part_put_back args.start args.input.now start _ _ _ (omega (arith, held, tail.auto.bytes, lent))
          ∙ tail.ensures.moved
          ∙ rw (add-sub_cancel_left, arrived measured, ← is_length);
      lines = rw (arrived measured, ← is_length) (rw (c.clear.ensures, front) at c.put_words-read.ensures.puts);
    } in
    record {
      taken = taken;
      follows = follows (meaning args.code) (words_of measured) n (rw (each measured) c.word_length-w.ensures.1) c.requires.within.0 refl taken;
    }
