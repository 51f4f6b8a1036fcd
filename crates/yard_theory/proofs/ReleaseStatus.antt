-- A release is refused by the table's number, or served by the position of the word: what is refused ahead of the word, and the word's own
-- refusal, are one list of rows. Assumes nothing.
use mathlib.Core.Path.{◌≡◌, refl, sym}
use mathlib.Core.Bool.{cond, not}
use mathlib.Core.List.{List, [], ◌∷◌}
use mathlib.Core.Logic.{⊎_elim}
use Prim.Native.Nat.{ℕ}
use borrow.Author.Tests.{eq-eqb, ne_eqb}
use lib.Dec.{eqb}
use Rattle.bits.proofs.Numbers.{eq_or_ne, by_test}
use Rattle.model.specs.Refusals.{first_refusal, unless_refused}
use Rattle.model.specs.Card.{Code, card_refusal, code_of, track_of, SoundCard}
use Rattle.model.specs.ReadWord.{reading_of, read_answer, read_refusal}
use Rattle.model.specs.Yard.{is_held, queue}
use Rattle.model.specs.RequestTrack.{request_served}
use Rattle.model.specs.ReleaseTrack.{refusal_ahead_of_word, release_refusal, is_clear, handed_on, released_at, released_by}
use Rattle.model.specs.ReleaseTrack.{release_on, release_answer}
use Rattle.model.specs.declared.Yard.{Yard}
use Rattle.model.specs.declared.Requested.{Requested}
use Rattle.model.specs.declared.Released.{Released}
use Rattle.position_theory.proofs.SoundCards.{read_sound}
use Rattle.model.specs.Refusals.{Refused, status_of}

-- a request that is served has no refusal
pub request_served_status : (yard : Yard) (tram track : ℕ) → status_of (request_served yard tram track).answer ≡ 0
unfolding request_served status_of
request_served_status yard tram track =
    by_test (λ (r : Requested). status_of r.answer ≡ 0) (is_held yard track) (λ _. refl) (λ _. refl)

-- nor has a release whose word is read
handed_on_status : (track : ℕ) (yard : Yard) (waiting : List ℕ) → status_of (handed_on track yard waiting).answer ≡ 0
unfolding handed_on status_of
handed_on_status track yard [] = refl
handed_on_status track yard (first ∷ others) = refl

pub released_status : (C : Code) (track : ℕ) (yard : Yard) (position mark : ℕ)
    → status_of (released_at C track yard position mark).answer ≡ 0
unfolding released_at status_of
released_status C track yard position mark =
    by_test (λ (r : Released). status_of r.answer ≡ 0) (is_clear C position mark)
    (λ _. handed_on_status track yard (queue yard track)) (λ _. refl)

-- a refusal that is the only row is the answer
only_row : (refusal : ℕ) → cond (not (eqb refusal 0)) refusal 0 ≡ refusal
only_row refusal =
    ⊎_elim (λ (none : refusal ≡ 0). rw (eq-eqb refusal 0 none) (sym none)) (λ (some : refusal ≡ 0 → ⊥). rw (ne_eqb refusal 0 some))
    (eq_or_ne refusal 0)

module _ (yard : Yard) (tram : ℕ) (word : List ℕ) (mark : ℕ) (card : List ℕ) where
  abbrev refused_as : ℕ → Released
  refused_as number = record { answer = Refused number; yard = yard }

  -- the release of the tram where its word reads it
  abbrev pub released_by_word : Released
  released_by_word = released_at (code_of card) (track_of card) yard (reading_of (code_of card) word).position mark

  by_the_word : released_by (code_of card) (track_of card) yard (read_answer card word) mark
      ≡ unless_refused (read_refusal card word) refused_as released_by_word
  unfolding read_answer unless_refused released_by
  by_the_word =
      ⊎_elim (λ (read : read_refusal card word ≡ 0). rw (eq-eqb (read_refusal card word) 0 read))
      (λ (unread : read_refusal card word ≡ 0 → ⊥). rw (ne_eqb (read_refusal card word) 0 unread)) (eq_or_ne (read_refusal card word) 0)

  pub by_one_refusal : release_answer yard tram word mark card ≡ unless_refused (release_refusal yard tram word card) refused_as released_by_word
  unfolding release_answer release_refusal first_refusal unless_refused
  by_one_refusal =
      ⊎_elim
      (λ (none : refusal_ahead_of_word yard tram card ≡ 0).
      rw (eq-eqb (refusal_ahead_of_word yard tram card) 0 none, only_row (read_refusal card word)) by_the_word)
      (λ (some : refusal_ahead_of_word yard tram card ≡ 0 → ⊥).
      rw (ne_eqb (refusal_ahead_of_word yard tram card) 0 some, ne_eqb (refusal_ahead_of_word yard tram card) 0 some))
      (eq_or_ne (refusal_ahead_of_word yard tram card) 0)

  -- past the card's test: what the code of a sound card answers
  pub release_sound : SoundCard card → release_answer yard tram word mark card ≡ release_on (code_of card) (track_of card) yard tram word mark
  unfolding release_answer refusal_ahead_of_word first_refusal release_on
  release_sound sound = rw (eq-eqb (card_refusal card) 0 sound, read_sound card word sound)

  pub release_by_card : (card_refusal card ≡ 0 → ⊥) → release_answer yard tram word mark card ≡ refused_as (card_refusal card)
  unfolding release_answer refusal_ahead_of_word first_refusal unless_refused
  release_by_card refused = rw (ne_eqb (card_refusal card) 0 refused, ne_eqb (card_refusal card) 0 refused)
