-- The promises of a request, by what it comes to: refused, or a tram that holds a free track or joins the queue of a held one. Assumes
-- nothing.
use mathlib.Core.Path.{◌≡◌, refl, sym, ap}
use mathlib.Core.Bool.{true, false}
use mathlib.Core.Logic.{⊎_elim}
use Prim.Native.Nat.{ℕ}
use native.Mathlib.Omega.{arith}
use lib.ListN.{get_or}
use Rattle.bits.proofs.Numbers.{eq_or_ne, true_or_false}
use Rattle.model.specs.Yard.{is_held, trams_of, holding, joined}
use Rattle.model.specs.RequestTrack.{request_refusal, request_served, request_answer, request_values}
use Rattle.model.specs.declared.Yard.{Yard}
use Rattle.code_theory.proofs.RefusalRows.{served_if_none, refused_if_some}
use Rattle.yard_theory.specs.YardPromises.{RequestPromises}
use Rattle.yard_theory.proofs.TramCounts.{times, among_times}
use Rattle.yard_theory.proofs.OrderlyYards.{Sized, Orderly, sound_orderly, orderly_sound}
use Rattle.yard_theory.proofs.Changes.{holding_holds, holding_line, holding_others, holding_orderly}
use Rattle.yard_theory.proofs.Changes.{joined_waits, joined_line, joined_others, joined_orderly}
use Rattle.yard_theory.proofs.PassedRows.{RequestPassed, request_passed}
use Rattle.model.specs.RequestTrack.{Holds, RequestAnswer, Waits}
use Rattle.model.specs.Refusals.{Refused, status_of}
use Rattle.model.specs.Refusals.{values_by}
use Rattle.std.specs.Prelude.{Err}
use Rattle.model.specs.RequestTrack.{request_value}
use Rattle.model.specs.declared.Refusal.{Refusal}

-- the value of an answer tells a tram that holds from one that waits
abbrev value : RequestAnswer → ℕ
value answer = get_or (request_values answer) 0 0

zero_is_not_one : ◌≡◌ {A = ℕ} 0 1 → ⊥
zero_is_not_one is = omega (arith, is)

module _ (yard : Yard) (tram track : ℕ) where
  request_refused : (refusal : Refusal) → (refusal.number ≡ 0 → ⊥) → RequestPromises yard tram track (record { answer = Err refusal; yard = yard })
  unfolding status_of
  request_refused refusal some =
      record {
        unchanged = λ _. refl;
        holds = λ is. absurd (some (ap status_of is));
        waits = λ is. absurd (some (ap status_of is));
        joins = λ none. absurd (some none);
        others = λ none. absurd (some none);
        sound = λ none. absurd (some none);
      }

  module _ (orderly : Orderly yard) (passed : RequestPassed yard tram track) where
    new : times tram (trams_of yard) ≡ 0
    new = among_times tram (trams_of yard) passed.new

    request_holds : is_held yard track ≡ false → RequestPromises yard tram track (record { answer = Holds; yard = holding tram track yard })
    unfolding status_of values_by request_value
    request_holds free =
        record {
          unchanged = λ refused. absurd (refused refl);
          holds = λ _. holding_holds yard orderly tram track passed.on_yard new free;
          waits = λ is. absurd (zero_is_not_one (ap value is));
          joins = λ _. holding_line yard orderly tram track passed.on_yard new free;
          others = λ _. holding_others yard orderly tram track passed.on_yard new free;
          sound = λ _. orderly_sound (holding tram track yard) (holding_orderly yard orderly tram track passed.on_yard new free);
        }

    request_waits : is_held yard track ≡ true → RequestPromises yard tram track (record { answer = Waits; yard = joined tram track yard })
    unfolding status_of values_by request_value
    request_waits held =
        let room = passed.room held in
        record {
          unchanged = λ refused. absurd (refused refl);
          holds = λ is. absurd (zero_is_not_one (sym (ap value is)));
          waits = λ _. joined_waits yard orderly tram track passed.on_yard new held room;
          joins = λ _. joined_line yard orderly tram track passed.on_yard new held room;
          others = λ _. joined_others yard orderly tram track passed.on_yard new held room;
          sound = λ _. orderly_sound (joined tram track yard) (joined_orderly yard orderly tram track passed.on_yard new held room);
        }

    request_served_lem : RequestPromises yard tram track (request_served yard tram track)
    unfolding request_served
    request_served_lem =
        ⊎_elim (λ (held : is_held yard track ≡ true). rw held (request_waits held))
        (λ (free : is_held yard track ≡ false). rw free (request_holds free)) (true_or_false (is_held yard track))

  pub request_promises : Sized yard → RequestPromises yard tram track (request_answer yard tram track)
  unfolding request_answer
  request_promises sized =
      ⊎_elim
      (λ (none : request_refusal yard tram track ≡ 0).
      let passed = request_passed yard tram track none in
      rw (served_if_none (request_refusal yard tram track) (λ number. record { answer = Refused number; yard = yard }) (request_served yard tram track) none)
      (request_served_lem (sound_orderly yard sized passed.sound) passed))
      (λ (some : request_refusal yard tram track ≡ 0 → ⊥).
      rw (refused_if_some (request_refusal yard tram track) (λ number. record { answer = Refused number; yard = yard }) (request_served yard tram track) some)
      (request_refused (record { number = request_refusal yard tram track }) some))
      (eq_or_ne (request_refusal yard tram track) 0)
