-- The whole report from its parts: of a sound card its line, and then the report of the bytes behind it; of a refused card its line
-- alone. Assumes nothing.
use Prim.Native.Nat.{ℕ}
use mathlib.Core.Path.{◌≡◌}
use mathlib.Core.List.{List, ◌++◌, append-nil}
use borrow.Author.Tests.{eq-eqb, ne_eqb}
use lib.Seq.{take_at, drop_at}
use Rattle.model.specs.Card.{card_refusal, code_of, SoundCard}
use Rattle.model.specs.CheckCard.{card_answer}
use Rattle.code_theory.proofs.SoundCard.{card_tests}
use Rattle.report.specs.Lines.{card_line}
use Rattle.report.specs.Report.{card_part, words_report, report_of}

pub report_of_sound : (card : List ℕ) → SoundCard card → (all : List ℕ)
    → report_of (card ++ all) ≡ card_line (card_answer card) ++ words_report (code_of card) all
unfolding report_of
report_of_sound card sound all =
    let size = (card_tests card sound).size in
    rw (take_at card all 512 size, drop_at card all 512 size, eq-eqb (card_refusal card) 0 sound)

-- whatever follows the card
pub report_of_refused : (input : List ℕ) → (SoundCard (card_part input) → ⊥)
    → report_of input ≡ card_line (card_answer (card_part input))
unfolding report_of
report_of_refused input refused = rw (ne_eqb (card_refusal (card_part input)) 0 refused) (append-nil _)
