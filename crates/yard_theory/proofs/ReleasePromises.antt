-- The promises of a release, by what it comes to: refused, a tram that is not clear, or one that leaves its track free or to the first of its
-- queue. What it means on the track is the margin's law: the position read is at most 10t from the true one. Assumes nothing.
use mathlib.Core.Path.{◌≡◌, refl, sym, ap, ◌∙◌}
use mathlib.Core.Bool.{true, false, false≢true}
use mathlib.Core.List.{List, [], ◌∷◌}
use mathlib.Core.Logic.{⊎_elim}
use Prim.Native.Nat.{ℕ, suc, ◌+◌, ◌≤◌}
use native.Mathlib.Omega.{arith}
use borrow.Author.Tests.{ltb-true, lt-ltb}
use Rattle.bits.proofs.Numbers.{eq_or_ne, true_or_false}
use Rattle.model.specs.Card.{card_refusal, code_of, track_of}
use Rattle.model.specs.Order.{last_position}
use Rattle.model.specs.Trams.{margin}
use Rattle.model.specs.ReadWord.{read_answer}
use Rattle.model.specs.Yard.{queue, freed, handed_to}
use Rattle.model.specs.ReleaseTrack.{rows_of_release, refusal_ahead_of_word, is_clear, handed_on, released_at, released_by, release_answer, accepted}
use Rattle.model.specs.declared.Yard.{Yard}
use Rattle.model.specs.declared.Released.{Released}
use Rattle.code_theory.proofs.RefusalRows.{served_if_none, refused_if_some, none_past_card}
use Rattle.position_theory.specs.Damage.{WithinRadius, Near}
use Rattle.position_theory.proofs.Margin.{near_margin}
use Rattle.yard_theory.specs.YardPromises.{ReleasePromises, OnlyClearGivenAway, ClearNeverKept}
use Rattle.yard_theory.proofs.OrderlyYards.{Sized, Orderly, sound_orderly, orderly_sound}
use Rattle.yard_theory.proofs.Changes.{freed_free, freed_line, freed_others, freed_orderly}
use Rattle.yard_theory.proofs.Changes.{handed_holds, handed_line, handed_others, handed_orderly}
use Rattle.yard_theory.proofs.PassedRows.{ReleasePassed, release_passed}
use Rattle.model.specs.ReadWord.{ReadAnswer}
use Rattle.std.specs.Prelude.{Ok, Err}
use Rattle.model.specs.Refusals.{Refused}
use Rattle.model.specs.ReleaseTrack.{Freed, HandedTo, NotClear, ReleaseAnswer}
use Rattle.model.specs.ReleaseTrack.{accepted_release}

-- one above the tram that an answer hands the track to, or 0: so that answers are told apart
unfoldable taker : ReleaseAnswer → ℕ
taker NotClear = 0
taker Freed = 0
taker (HandedTo tram) = suc tram
taker (Err refusal) = 0

zero_is_not_suc : {n : ℕ} → 0 ≡ suc n → ⊥
zero_is_not_suc {n} is = omega (arith, is)

module _ (yard : Yard) (tram : ℕ) (word : List ℕ) (mark : ℕ) (card : List ℕ) where
  -- ---- not accepted: the yard stays, and a tram that is clear is not among these

  not_accepted : (r : Released) → accepted r.answer ≡ false → r.yard ≡ yard → ClearNeverKept yard tram word mark card r
      → ReleasePromises yard tram word mark card r
  unfolding accepted accepted_release OnlyClearGivenAway
  not_accepted r kept stays never =
      record {
        unchanged = λ _. stays;
        freed = λ is. absurd (false≢true (sym kept ∙ ap accepted is));
        handed = λ first is. absurd (false≢true (sym kept ∙ ap accepted is));
        leaves = λ is-accepted. absurd (false≢true (sym kept ∙ is-accepted));
        others = λ is-accepted. absurd (false≢true (sym kept ∙ is-accepted));
        sound = λ is-accepted. absurd (false≢true (sym kept ∙ is-accepted));
        only_clear = λ position on_track within is-accepted. absurd (false≢true (sym kept ∙ is-accepted));
        never_kept = never;
      }

  -- ---- accepted

  module _ (orderly : Orderly yard) (passed : ReleasePassed yard tram (track_of card)) where
    handed_on_lem : (waiting : List ℕ) → queue yard (track_of card) ≡ waiting
        → OnlyClearGivenAway word mark card (handed_on (track_of card) yard waiting)
        → ReleasePromises yard tram word mark card (handed_on (track_of card) yard waiting)
    unfolding handed_on accepted accepted_release ClearNeverKept taker
    handed_on_lem [] none clear =
        record {
          unchanged = λ kept. absurd (false≢true (sym kept));
          freed = λ _. freed_free yard orderly tram (track_of card) passed.on_yard passed.holds none;
          handed = λ first is. absurd (zero_is_not_suc (ap taker is));
          leaves = λ _. freed_line yard orderly tram (track_of card) passed.on_yard passed.holds none;
          others = λ _. freed_others yard orderly tram (track_of card) passed.on_yard passed.holds none;
          sound = λ _.
              orderly_sound (freed (track_of card) yard) (freed_orderly yard orderly tram (track_of card) passed.on_yard passed.holds none);
          only_clear = clear;
          never_kept = λ position on_track within above ahead. refl;
        }
    handed_on_lem (first ∷ rest) waits clear =
        record {
          unchanged = λ kept. absurd (false≢true (sym kept));
          freed = λ is. absurd (zero_is_not_suc (sym (ap taker is)));
          handed = λ other is.
              let same : first ≡ other = let takers = ap taker is in omega (arith, takers) in
              rw (← same) (handed_holds yard orderly tram (track_of card) passed.on_yard passed.holds first rest waits);
          leaves = λ _. handed_line yard orderly tram (track_of card) passed.on_yard passed.holds first rest waits;
          others = λ _. handed_others yard orderly tram (track_of card) passed.on_yard passed.holds first rest waits;
          sound = λ _.
              orderly_sound (handed_to first (track_of card) yard)
              (handed_orderly yard orderly tram (track_of card) passed.on_yard passed.holds first rest waits);
          only_clear = clear;
          never_kept = λ position on_track within above ahead. refl;
        }

    -- ---- by the position that is read, at most 10t from the true one

    module _ (read : ℕ)
        (near : (position : ℕ) → position ≤ last_position (code_of card) → WithinRadius (code_of card) position word
        → (read ≤ position + margin (code_of card)) × (position ≤ read + margin (code_of card))) where
      clear : is_clear (code_of card) read mark ≡ true
          → ReleasePromises yard tram word mark card (handed_on (track_of card) yard (queue yard (track_of card)))
      unfolding is_clear OnlyClearGivenAway
      clear is =
          handed_on_lem (queue yard (track_of card)) refl
          (λ position on_track within _.
          let (below, _) = near position on_track within in
          let above = ltb-true (mark + margin (code_of card)) read is in
          omega (arith, below, above))

      not_clear : is_clear (code_of card) read mark ≡ false
          → ReleasePromises yard tram word mark card (record { answer = NotClear; yard = yard })
      unfolding is_clear accepted accepted_release ClearNeverKept
      not_clear is =
          not_accepted (record { answer = NotClear; yard = yard }) refl refl
          (λ position on_track within far ahead.
          let (_, above) = near position on_track within in
          absurd (false≢true (sym is ∙ lt-ltb (mark + margin (code_of card)) read (omega (arith, above, far)))))

      released_at_lem : ReleasePromises yard tram word mark card (released_at (code_of card) (track_of card) yard read mark)
      unfolding released_at
      released_at_lem =
          ⊎_elim (λ (is : is_clear (code_of card) read mark ≡ true). rw is (clear is))
          (λ (is : is_clear (code_of card) read mark ≡ false). rw is (not_clear is)) (true_or_false (is_clear (code_of card) read mark))

    released_by_lem : (answer : ReadAnswer)
        → ((position : ℕ) → position ≤ last_position (code_of card) → WithinRadius (code_of card) position word
        → Near answer position (margin (code_of card)))
        → ReleasePromises yard tram word mark card (released_by (code_of card) (track_of card) yard answer mark)
    unfolding released_by Near accepted accepted_release ClearNeverKept
    released_by_lem (Ok reading) near = released_at_lem reading.position near
    released_by_lem (Err refusal) near =
        not_accepted (record { answer = Err refusal; yard = yard }) refl refl
        (λ position on_track within far ahead. absurd (near position on_track within))

  pub release_promises : Sized yard → ReleasePromises yard tram word mark card (release_answer yard tram word mark card)
  unfolding release_answer refusal_ahead_of_word accepted accepted_release ClearNeverKept
  release_promises sized =
      ⊎_elim
      (λ (none : refusal_ahead_of_word yard tram card ≡ 0).
      let (sound_card, rows) = none_past_card (card_refusal card) (rows_of_release yard tram (track_of card)) none in
      let passed = release_passed yard tram (track_of card) rows in
      rw (served_if_none (refusal_ahead_of_word yard tram card) refused_as read none)
      (released_by_lem (sound_orderly yard sized passed.sound) passed (read_answer card word)
      (λ position on_track within. near_margin card word position sound_card on_track within)))
      (λ (some : refusal_ahead_of_word yard tram card ≡ 0 → ⊥).
      rw (refused_if_some (refusal_ahead_of_word yard tram card) refused_as read some)
      (not_accepted (refused_as (refusal_ahead_of_word yard tram card)) refl refl (λ position on_track within far ahead. absurd (some ahead))))
      (eq_or_ne (refusal_ahead_of_word yard tram card) 0)
    where
      refused_as : ℕ → Released
      refused_as number = record { answer = Refused number; yard = yard }

      read : Released
      read = released_by (code_of card) (track_of card) yard (read_answer card word) mark
