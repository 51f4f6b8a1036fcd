-- `tramread::report_on` meets its contract: the line of a refused card is its report, and of a sound card the words' report follows
-- the card's line. Assumes nothing.
use Prim.Native.Nat.{ℕ, ◌≤◌}
use mathlib.Core.Path.{◌≡◌, sym, ap, ◌∙◌}
use mathlib.Core.List.{List}
use native.Mathlib.Omega.{arith}
use lib.ListN.{length, take}
use lib.Seq.{length-take-le}
use Rattle.model.specs.Card.{SoundCard}
use Rattle.model.specs.CheckCard.{card_answer}
use Rattle.report.specs.Filled.{filled_of}
use Rattle.report.specs.Lines.{card_line}
use Rattle.tramread.proofs.PartsPutOut.{card_line_part, refused_card_line, words_behind_card}
use Rattle.tramread.proofs.report_on.Goals.{Start, After-put_card_line}
use Rattle.tramread.proofs.report_on.Goals as goal

-- the card that came, at the front of the buffer
abbrev card : Start → List ℕ
card c = take c.args.came.count c.args.input.now

short : (c : Start) → length (card c) ≤ 512
short c = rw (length-take-le c.args.came.count c.args.input.now (omega arith)) c.requires.card

-- what is put is the card's line
is_card_line : (c : After-put_card_line)
    → (filled_of c.put_card_line.new.out).text ≡ card_line (card_answer (take c.args.came.count c.args.input.now))
is_card_line c =
    c.put_card_line.ensures.bytes
    ∙ rw c.requires.anew (ap card_line (c.card_answer.ensures _ (rw c.count-n.ensures at c.decode-decoded.ensures)))

pub returns-in_default-clause-last : goal.returns-in_default-clause-last
returns-in_default-clause-last c =
    let at = goal.at.returns-in_default-clause-last c in
    let refusal = rw c.count-n.ensures at c.in_default.ensures in
    let refused : SoundCard (card at.Start) → ⊥ = λ sound. refusal.not_zero (sym refusal.number ∙ sound) in
    refused_card_line (card at.Start) (short at.Start) refused (is_card_line at.After-put_card_line)

pub put_out-requires : goal.put_out-requires
put_out-requires c =
    let at = goal.at.put_out-requires c in
    card_line_part (card at.Start) (short at.Start) (c.as_bytes.ensures ∙ is_card_line at.After-put_card_line)

pub returns-clause-last : goal.returns-clause-last
returns-clause-last c =
    let decoded = rw c.count-n.ensures at c.in-Ok.ensures in
    words_behind_card (card (goal.at.returns-clause-last c).Start) decoded.sound_card _ decoded.code _ _ c.read_words.ensures.last
