-- `slot_queue::releases::release` meets its contract: the release is refused ahead of the word, or is by what the word reads as. Assumes nothing.
use Rattle.std.proofs.Common.{◌≡◌, ℕ, List}
use Rattle.std.proofs.lemmas.Bool.{cases_eq}
use mathlib.Core.Logic.{⊎_elim}
use Rattle.model.specs.Refusals.{first_refusal, Refused, unless_refused}
use Rattle.model.specs.Card.{Code}
use Rattle.model.specs.ReadWord.{read_word}
use Rattle.model.specs.ReleaseTrack.{rows_of_release, released_at, released_by, release_on}
use Rattle.model.specs.declared.Yard.{Yard}
use Rattle.code_theory.proofs.RefusalRows.{served_if_none, refused_if_some}
use Rattle.yard_theory.proofs.OrderlyYards.{sound_few}
use Rattle.yard_theory.proofs.PassedRows.{release_passed}
use Rattle.slot_queue.proofs.Checked.{not_refused}
use Rattle.slot_queue.proofs.releases.release.Goals as goal

by_reading : (C : Code) (track : ℕ) (yard : Yard) (tram : ℕ) (word : List ℕ) (mark : ℕ)
    → released_by C track yard (unless_refused (first_refusal (rows_of_release yard tram track)) Refused (read_word C word)) mark
    ≡ release_on C track yard tram word mark
unfolding released_by release_on
by_reading C track yard tram word mark =
    let number = first_refusal (rows_of_release yard tram track) in
    ⊎_elim (λ (none : number ≡ 0). rw (served_if_none number Refused (read_word C word) none, served_if_none number _ _ none))
    (λ (some : number ≡ 0 → ⊥). rw (refused_if_some number Refused (read_word C word) some, refused_if_some number _ _ some))
    (cases_eq number 0)

pub returns-in-Err : goal.returns-in-Err
unfolding released_by
returns-in-Err c = rw (← by_reading, ← c.in-Err.ensures)

pub hand_on-requires : goal.hand_on-requires
hand_on-requires c =
    let passed = release_passed c.args.yard c.args.tram c.args.track (not_refused _ _ _ c.in-Ok.ensures) in
    (passed.on_yard, sound_few c.args.yard passed.sound)

pub returns-in-Ok : goal.returns-in-Ok
unfolding released_by released_at
returns-in-Ok c = rw (← by_reading, ← c.in-Ok.ensures, ← c.if-is_clear.ensures, c.hand_on.ensures)

pub returns-in-Ok-2 : goal.returns-in-Ok-2
unfolding released_by released_at
returns-in-Ok-2 c = rw (← by_reading, ← c.in-Ok.ensures, ← c.if-is_clear.ensures)
