-- Every call leaves a yard of 16 tracks and 32 places. Assumes nothing.
use mathlib.Core.Path.{◌≡◌, ◌∙◌}
use mathlib.Core.List.{List, [], ◌∷◌}
use Prim.Native.Nat.{ℕ}
use lib.Dec.{eqb}
use lib.ListN.{length, set, length-set}
use Rattle.bits.proofs.Numbers.{by_test}
use Rattle.model.specs.Refusals.{unless_refused}
use Rattle.model.specs.Card.{Code, code_of, track_of}
use Rattle.model.specs.ReadWord.{read_answer}
use Rattle.model.specs.Yard.{track_count, free_slot, is_held, queue, holding, joined, freed, handed_to}
use Rattle.model.specs.RequestTrack.{request_refusal, request_served, request_answer}
use Rattle.model.specs.ReleaseTrack.{refusal_ahead_of_word, is_clear, handed_on, released_at, released_by, release_answer}
use Rattle.model.specs.declared.Slot.{Slot}
use Rattle.model.specs.declared.Yard.{Yard}
use Rattle.model.specs.declared.Requested.{Requested}
use Rattle.model.specs.declared.Released.{Released}
use Rattle.yard_theory.specs.Runs.{Call, request, release, yard_after}
use Rattle.yard_theory.proofs.Queues.{length_without}
use Rattle.yard_theory.proofs.OrderlyYards.{Sized}
use Rattle.model.specs.ReadWord.{ReadAnswer}
use Rattle.std.specs.Prelude.{Ok, Err}

module _ (yard : Yard) (sized : Sized yard) where
  tracks_stay : (track : ℕ) (s : Slot) → length (set yard.slots track s) ≡ track_count
  tracks_stay track s = length-set yard.slots track s ∙ sized.tracks

  after_request : (tram track : ℕ) → Sized (request_answer yard tram track).yard
  unfolding request_answer unless_refused request_served holding joined
  after_request tram track =
      by_test (λ (r : Requested). Sized r.yard) (eqb (request_refusal yard tram track) 0)
      (λ _.
      by_test (λ (r : Requested). Sized r.yard) (is_held yard track)
      (λ _. record { tracks = sized.tracks; places = length-set yard.waiting yard.count _ ∙ sized.places })
      (λ _. record { tracks = tracks_stay track _; places = sized.places }))
      (λ _. sized)

  after_handing_on : (track : ℕ) (waiting : List ℕ) → Sized (handed_on track yard waiting).yard
  unfolding handed_on freed handed_to
  after_handing_on track [] = record { tracks = tracks_stay track free_slot; places = sized.places }
  after_handing_on track (first ∷ others) =
      record { tracks = tracks_stay track _; places = length_without track yard.waiting ∙ sized.places }

  after_reading : (C : Code) (track : ℕ) (answer : ReadAnswer) (mark : ℕ) → Sized (released_by C track yard answer mark).yard
  unfolding released_by released_at
  after_reading C track (Ok reading) mark =
      by_test (λ (r : Released). Sized r.yard) (is_clear C reading.position mark)
      (λ _. after_handing_on track (queue yard track)) (λ _. sized)
  after_reading C track (Err refusal) mark = sized

  after_release : (tram : ℕ) (word : List ℕ) (mark : ℕ) (card : List ℕ) → Sized (release_answer yard tram word mark card).yard
  unfolding release_answer unless_refused
  after_release tram word mark card =
      by_test (λ (r : Released). Sized r.yard) (eqb (refusal_ahead_of_word yard tram card) 0)
      (λ _. after_reading (code_of card) (track_of card) (read_answer card word) mark) (λ _. sized)

  pub sized_after : (call : Call) → Sized (yard_after call yard)
  unfolding yard_after
  sized_after (request tram track) = after_request tram track
  sized_after (release tram word mark card) = after_release tram word mark card
