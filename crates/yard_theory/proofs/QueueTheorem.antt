-- The queue's theorem. An accepted release of a track takes the head off its line, and any other call leaves the line or adds a tram at its
-- end. So a tram in the line has one fewer ahead of it after each accepted release of the track, and as many as before after any other
-- call; the line's first is the holder, the others are the queue. Assumes nothing.
use mathlib.Core.Path.{◌≡◌, refl, sym, ap, ◌∙◌}
use mathlib.Core.Bool.{true, false, false≢true}
use mathlib.Core.List.{List, [], ◌∷◌, ◌++◌, append-nil}
use mathlib.Core.Logic.{⊎_elim}
use Prim.Native.Nat.{ℕ, suc, ◌+◌}
use native.Mathlib.Omega.{arith}
use borrow.Author.Tests.{eqb-true, eq-eqb}
use lib.Dec.{eqb}
use lib.ListN.{length, get_or, length-append}
use Rattle.bits.proofs.Numbers.{eq_or_ne, true_or_false, and_true_left, and_true_right}
use Rattle.model.specs.Card.{track_of}
use Rattle.model.specs.Yard.{empty_yard, taken, number_in, slot_at, is_held, entries, queue_in, queue}
use Rattle.model.specs.Yard.{holders, trams_of}
use Rattle.model.specs.RequestTrack.{request_answer}
use Rattle.model.specs.ReleaseTrack.{release_answer, accepted}
use Rattle.model.specs.declared.Slot.{Slot}
use Rattle.model.specs.declared.Slot.TheVariants.{Free, Held}
use Rattle.model.specs.declared.Yard.{Yard}
use Rattle.yard_theory.specs.Lines.{HasAhead, WaitsBehind, HoldsTrack, HoldsNone, line}
use Rattle.yard_theory.specs.YardPromises.{OtherLinesStay}
use Rattle.yard_theory.specs.Runs.{Call, request, release, yard_after, run, releases, accepted_releases, NeverUnsound, ServedInTurn}
use Rattle.yard_theory.proofs.TramCounts.{times, times_append, itself, holds_once}
use Rattle.yard_theory.proofs.Queues.{queue_times, still_ahead, one_less_ahead}
use Rattle.yard_theory.proofs.OrderlyYards.{Orderly, sound_orderly, orderly_sound}
use Rattle.yard_theory.proofs.SizedYards.{sized_after}
use Rattle.yard_theory.proofs.Changes.{line_free, in_all}
use Rattle.yard_theory.proofs.RequestPromises.{request_promises}
use Rattle.yard_theory.proofs.ReleasePromises.{release_promises}
use Rattle.model.specs.Refusals.{status_of}

-- ---- the empty yard

empty_orderly : Orderly empty_yard
unfolding empty_yard holders trams_of queue_in times
empty_orderly =
    record {
      sized = record { tracks = refl; places = refl };
      few = omega arith;
      at_most_once = λ x. omega arith;
      none_for_free = λ track free. refl;
    }

-- ---- one call

-- what a call does to the line of a track: its head leaves, or it may grow at its end
pub record Stepped (track : ℕ) (call : Call) (yard : Yard) : Type 0 where
  pub head_leaves : releases track call yard ≡ true → (head : ℕ) × (line yard track ≡ head ∷ line (yard_after call yard) track)
  pub may_grow : releases track call yard ≡ false → (more : List ℕ) × (line (yard_after call yard) track ≡ line yard track ++ more)

-- a line that is as it was has grown by nothing
unchanged : (track : ℕ) (before after : Yard) → line after track ≡ line before track
    → (more : List ℕ) × (line after track ≡ line before track ++ more)
unchanged track before after is = ([], is ∙ sym (append-nil (line before track)))

module _ (yard : Yard) (orderly : Orderly yard) where
  -- ---- a request

  request_step : (track tram requested : ℕ) → Stepped track (request tram requested) yard
  unfolding yard_after releases OtherLinesStay
  request_step track tram requested =
      let promised = request_promises yard tram requested orderly.sized in
      let left = request_answer yard tram requested in
      record {
        head_leaves = λ is. absurd (false≢true is);
        may_grow = λ _.
            ⊎_elim
            (λ (served : status_of left.answer ≡ 0).
            ⊎_elim
            (λ (here : track ≡ requested). rw here (tram ∷ [], promised.joins served))
            (λ (other : track ≡ requested → ⊥). unchanged track yard left.yard (promised.others served track other))
            (eq_or_ne track requested))
            (λ (refused : status_of left.answer ≡ 0 → ⊥).
            unchanged track yard left.yard (ap (λ (y : Yard). line y track) (promised.unchanged refused)))
            (eq_or_ne (status_of left.answer) 0);
      }

  request_orderly : (tram requested : ℕ) → Orderly (yard_after (request tram requested) yard)
  unfolding yard_after
  request_orderly tram requested =
      let promised = request_promises yard tram requested orderly.sized in
      let left = request_answer yard tram requested in
      ⊎_elim
      (λ (served : status_of left.answer ≡ 0).
      sound_orderly left.yard (sized_after yard orderly.sized (request tram requested)) (promised.sound served))
      (λ (refused : status_of left.answer ≡ 0 → ⊥). rw (promised.unchanged refused) orderly)
      (eq_or_ne (status_of left.answer) 0)

  -- ---- a release

  module _ (tram : ℕ) (word : List ℕ) (mark : ℕ) (card : List ℕ) where
    release_step : (track : ℕ) → Stepped track (release tram word mark card) yard
    unfolding yard_after releases OtherLinesStay
    release_step track =
        let promised = release_promises yard tram word mark card orderly.sized in
        let left = release_answer yard tram word mark card in
        record {
          head_leaves = λ is.
              let here = eqb-true (track_of card) track (and_true_left (eqb (track_of card) track) (accepted left.answer) is) in
              (tram, rw here at (promised.leaves (and_true_right (eqb (track_of card) track) (accepted left.answer) is)));
          may_grow = λ is.
              ⊎_elim
              (λ (yes_is : accepted left.answer ≡ true).
              unchanged track yard left.yard
              (promised.others yes_is track
              (λ (here : track ≡ track_of card). false≢true (sym (rw (eq-eqb (track_of card) track (sym here), yes_is) at is)))))
              (λ (kept : accepted left.answer ≡ false).
              unchanged track yard left.yard (ap (λ (y : Yard). line y track) (promised.unchanged kept)))
              (true_or_false (accepted left.answer));
        }

    release_orderly : Orderly (yard_after (release tram word mark card) yard)
    unfolding yard_after
    release_orderly =
        let promised = release_promises yard tram word mark card orderly.sized in
        let left = release_answer yard tram word mark card in
        ⊎_elim
        (λ (yes_is : accepted left.answer ≡ true).
        sound_orderly left.yard (sized_after yard orderly.sized (release tram word mark card)) (promised.sound yes_is))
        (λ (kept : accepted left.answer ≡ false). rw (promised.unchanged kept) orderly)
        (true_or_false (accepted left.answer))

-- ---- any call, and runs of them

step : (yard : Yard) → Orderly yard → (track : ℕ) (call : Call) → Stepped track call yard
step yard orderly track (request tram requested) = request_step yard orderly track tram requested
step yard orderly track (release tram word mark card) = release_step yard orderly tram word mark card track

orderly_after : (yard : Yard) → Orderly yard → (call : Call) → Orderly (yard_after call yard)
orderly_after yard orderly (request tram requested) = request_orderly yard orderly tram requested
orderly_after yard orderly (release tram word mark card) = release_orderly yard orderly tram word mark card

orderly_run : (calls : List Call) (yard : Yard) → Orderly yard → Orderly (run calls yard)
unfolding run
orderly_run [] yard orderly = orderly
orderly_run (call ∷ calls) yard orderly = orderly_run calls (yard_after call yard) (orderly_after yard orderly call)

pub never_unsound : NeverUnsound
unfolding NeverUnsound
never_unsound calls = orderly_sound (run calls empty_yard) (orderly_run calls empty_yard empty_orderly)

-- in a line, one fewer is ahead after each accepted release
ahead_in_line : (calls : List Call) (yard : Yard) → Orderly yard → (tram track many left : ℕ) → HasAhead (line yard track) tram many
    → accepted_releases track calls yard + left ≡ many → HasAhead (line (run calls yard) track) tram left
unfolding run accepted_releases
ahead_in_line [] yard orderly tram track many left has count =
    let same : many ≡ left = omega (arith, count) in rw same at has
ahead_in_line (call ∷ calls) yard orderly tram track many left has count =
    ⊎_elim
    (λ (is : releases track call yard ≡ true).
    let (head, leaves) = (step yard orderly track call).head_leaves is in
    let counted = rw is at count in
    ahead_in_line calls (yard_after call yard) (orderly_after yard orderly call) tram track
    (accepted_releases track calls (yard_after call yard) + left) left
    (one_less_ahead head (line (yard_after call yard) track) tram _
    (let more : many ≡ suc (accepted_releases track calls (yard_after call yard) + left) = omega (arith, counted) in rw (leaves, more) at has)) refl)
    (λ (is : releases track call yard ≡ false).
    let (more, grown) = (step yard orderly track call).may_grow is in
    let counted = rw is at count in
    ahead_in_line calls (yard_after call yard) (orderly_after yard orderly call) tram track many left
    (rw grown (still_ahead (line yard track) more tram many has)) (omega (arith, counted)))
    (true_or_false (releases track call yard))

-- ---- the line as holder and queue

none_in_empty : (tram many : ℕ) → HasAhead [] tram many → ⊥
none_in_empty tram many has =
    let sizes : 0 ≡ length has.ahead + suc (length has.behind) =
    ap length has.in_list ∙ length-append has.ahead (tram ∷ has.behind) in
    omega (arith, sizes)

first_is : (head : ℕ) (rest : List ℕ) {tram : ℕ} → HasAhead (head ∷ rest) tram 0 → head ≡ tram
first_is head rest {tram} has = by_front has.ahead has.in_list has.as_many
  where
    by_front : (ahead : List ℕ) → head ∷ rest ≡ ahead ++ (tram ∷ has.behind) → length ahead ≡ 0 → head ≡ tram
    by_front [] is none = ap (λ (l : List ℕ). get_or l 0 0) is
    by_front (a ∷ ahead) is none = absurd (omega (arith, none))

held_slot : (s : Slot) → taken s ≡ true → s ≡ Held (number_in s)
held_slot (Free number) is = absurd (false≢true is)
held_slot (Held tram) is = refl

module _ (yard : Yard) (orderly : Orderly yard) (tram track : ℕ) where
  -- of a track whose line is not empty, the line is the holder and then the queue
  held_by_some : (many : ℕ) → HasAhead (line yard track) tram many → is_held yard track ≡ true
  held_by_some many has =
      ⊎_elim (λ held. held)
      (λ (free : is_held yard track ≡ false). absurd (none_in_empty tram many (rw (line_free yard track orderly free) at has)))
      (true_or_false (is_held yard track))

  in_two : is_held yard track ≡ true → line yard track ≡ number_in (slot_at yard track) ∷ queue yard track
  unfolding line
  in_two held = rw held

  -- a tram that waits has its q trams and the holder ahead of it in the line; and the other way
  waits_in_line : (q : ℕ) → WaitsBehind yard track tram q → HasAhead (line yard track) tram (suc q)
  waits_in_line q waits =
      ⊎_elim
      (λ (held : is_held yard track ≡ true).
      rw (in_two held)
      record {
        ahead = number_in (slot_at yard track) ∷ waits.ahead;
        behind = waits.behind;
        in_list = ap (λ (r : List ℕ). number_in (slot_at yard track) ∷ r) waits.in_list;
        as_many = ap suc waits.as_many;
      })
      (λ (free : is_held yard track ≡ false). absurd (none_in_empty tram q (rw (orderly.none_for_free track free) at waits)))
      (true_or_false (is_held yard track))

  line_waits : (left : ℕ) → HasAhead (line yard track) tram (suc left) → WaitsBehind yard track tram left
  line_waits left has =
      one_less_ahead (number_in (slot_at yard track)) (queue yard track) tram left (rw (in_two (held_by_some (suc left) has)) at has)

  -- the first of the line holds the track
  line_holds : HasAhead (line yard track) tram 0 → HoldsTrack yard track tram
  line_holds has =
      let held = held_by_some 0 has in
      held_slot (slot_at yard track) held
      ∙ ap (λ (x : ℕ). Held x) (first_is (number_in (slot_at yard track)) (queue yard track) (rw (in_two held) at has))

  -- a tram is in the yard at most once, so that one that waits holds no track
  waits_holds_none : (q : ℕ) → WaitsBehind yard track tram q → HoldsNone yard tram
  unfolding HoldsNone times
  waits_holds_none q waits other holds =
      let holding = holds_once tram yard.slots other holds in
      let waiting = queue_times tram track (entries yard) in
      let own = itself tram in
      let queued : times tram (queue yard track) ≡ times tram waits.ahead + times tram (tram ∷ waits.behind) =
      ap (times tram) waits.in_list ∙ times_append tram waits.ahead (tram ∷ waits.behind) in
      let all = in_all tram yard in
      let at_most = orderly.at_most_once tram in
      omega (arith, holding, waiting, own, queued, all, at_most)

-- ---- the theorem

pub served_in_turn : ServedInTurn
unfolding ServedInTurn
served_in_turn earlier later tram track q waits =
    let start = run earlier empty_yard in
    let orderly = orderly_run earlier empty_yard empty_orderly in
    let end = run later start in
    let orderly_end = orderly_run later start orderly in
    let in_line = waits_in_line start orderly tram track q waits in
    let m = accepted_releases track later start in (
      λ left counted.
          let still =
          line_waits end orderly_end tram track left
          (ahead_in_line later start orderly tram track (suc q) (suc left) in_line (omega (arith, counted))) in
          (still, waits_holds_none end orderly_end tram track left still),
      λ counted.
          line_holds end orderly_end tram track
          (ahead_in_line later start orderly tram track (suc q) 0 in_line (omega (arith, counted))),
    )
