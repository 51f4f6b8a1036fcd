-- What is known of a request or a release once none of its rows holds. Assumes nothing.
use mathlib.Core.Path.{◌≡◌, refl, sym, ap}
use mathlib.Core.Bool.{true, false, ◌&&◌, false≢true}
use mathlib.Core.Logic.{⊎_elim}
use Prim.Native.Nat.{ℕ, ◌≤◌, ◌<◌}
use native.Mathlib.Omega.{arith}
use borrow.Author.Tests.{ltb-false, le-leb, eqb-true, not-false}
use lib.Dec.{eqb}
use Rattle.bits.proofs.Numbers.{lt_or_le}
use Rattle.model.specs.Refusals.{first_refusal}
use Rattle.model.specs.Yard.{track_count, most_waiting, taken, number_in, slot_at, is_held, trams_of, among, unsound}
use Rattle.model.specs.RequestTrack.{rows_of_request, request_refusal}
use Rattle.model.specs.ReleaseTrack.{is_holder, rows_of_release}
use Rattle.model.specs.declared.Slot.{Slot}
use Rattle.model.specs.declared.Slot.TheVariants.{Free, Held}
use Rattle.model.specs.declared.Yard.{Yard}
use Rattle.code_theory.proofs.RefusalRows.{NoneHolds, numbered, none_holds}
use Rattle.yard_theory.specs.Lines.{HoldsTrack}

pub record RequestPassed (yard : Yard) (tram track : ℕ) : Type 0 where
  pub sound : unsound yard ≡ false
  pub on_yard : track < track_count
  pub new : among tram (trams_of yard) ≡ false
  pub room : is_held yard track ≡ true → yard.count < most_waiting

pub request_passed : (yard : Yard) (tram track : ℕ) → request_refusal yard tram track ≡ 0 → RequestPassed yard tram track
unfolding request_refusal rows_of_request NoneHolds numbered
request_passed yard tram track none =
    let (sound, (inside, (new, (room, _)))) = none_holds (rows_of_request yard tram track) refl none in
    record {
      sound = sound;
      on_yard = let low = ltb-false 15 track inside in omega (arith, low);
      new = new;
      room = λ held.
          ⊎_elim (λ few. few)
          (λ (full : most_waiting ≤ yard.count).
          absurd (false≢true (sym (rw (held, le-leb most_waiting yard.count full) at room)))) (lt_or_le yard.count most_waiting);
    }

pub record ReleasePassed (yard : Yard) (tram track : ℕ) : Type 0 where
  pub sound : unsound yard ≡ false
  pub on_yard : track < track_count
  pub holds : HoldsTrack yard track tram

is_holder_lem : (s : Slot) (tram : ℕ) → (taken s && eqb (number_in s) tram) ≡ true → s ≡ Held tram
is_holder_lem (Free number) tram is = absurd (false≢true is)
is_holder_lem (Held holder) tram is = ap (λ (x : ℕ). Held x) (eqb-true holder tram is)

pub release_passed : (yard : Yard) (tram track : ℕ) → first_refusal (rows_of_release yard tram track) ≡ 0 → ReleasePassed yard tram track
unfolding is_holder rows_of_release NoneHolds numbered
release_passed yard tram track none =
    let (sound, (inside, (holder, _))) = none_holds (rows_of_release yard tram track) refl none in
    record {
      sound = sound;
      on_yard = let low = ltb-false 15 track inside in omega (arith, low);
      holds = is_holder_lem (slot_at yard track) tram (not-false (is_holder yard tram track) holder);
    }
