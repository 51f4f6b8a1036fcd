-- The queues among entries: what an entry at the end adds to them, and what is left of them without the first entry for a track. Places in a
-- list: how many are ahead, when the list grows at its end and when its head leaves. Assumes nothing.
use mathlib.Core.Path.{◌≡◌, refl, sym, ap, ◌∙◌}
use mathlib.Core.Bool.{true, false, cond}
use mathlib.Core.List.{List, [], ◌∷◌, ◌++◌, map, append_assoc}
use mathlib.Core.Logic.{⊎_elim}
use Prim.Native.Nat.{ℕ, zero, suc, ◌+◌, ◌-◌, ◌≤◌}
use native.Mathlib.Numerals.{add-one}
use native.Mathlib.Omega.{arith}
use borrow.Author.Tests.{eq-eqb, ne_eqb}
use lib.Dec.{eqb}
use lib.ListN.{length, get_or, take, drop, length-append}
use lib.Seq.{take-append-le}
use Rattle.bits.proofs.Numbers.{eq_or_ne, true_or_false}
use Rattle.model.specs.Yard.{no_entry, queue_in, without_first}
use Rattle.model.specs.declared.Waiting.{Waiting}
use Rattle.yard_theory.specs.Lines.{HasAhead}
use Rattle.yard_theory.proofs.TramCounts.{is_tram, times}

-- the trams of entries
abbrev pub trams_in : List Waiting → List ℕ
trams_in ws = map (λ w. w.tram) ws

-- ---- an entry at the end

pub queue_append : (track : ℕ) (ws vs : List Waiting) → queue_in track (ws ++ vs) ≡ queue_in track ws ++ queue_in track vs
unfolding queue_in
queue_append track [] vs = refl
queue_append track (w ∷ ws) vs =
    ⊎_elim
    (λ (here : eqb w.track track ≡ true). rw (here, queue_append track ws vs))
    (λ (other : eqb w.track track ≡ false). rw other (queue_append track ws vs))
    (true_or_false (eqb w.track track))

pub queue_of_one : (w : Waiting) (track : ℕ) → w.track ≡ track → queue_in track (w ∷ []) ≡ w.tram ∷ []
unfolding queue_in
queue_of_one w track here = rw (eq-eqb w.track track here)

pub queue_of_other : (w : Waiting) (track : ℕ) → (w.track ≡ track → ⊥) → queue_in track (w ∷ []) ≡ []
unfolding queue_in
queue_of_other w track other = rw (ne_eqb w.track track other)

pub trams_append : (ws vs : List Waiting) → trams_in (ws ++ vs) ≡ trams_in ws ++ trams_in vs
trams_append [] vs = refl
trams_append (w ∷ ws) vs = ap (λ (r : List ℕ). w.tram ∷ r) (trams_append ws vs)

-- ---- without the first entry for a track

-- the entries without it; the places after it are no longer filled up
unfoldable pub removed : (track : ℕ) → List Waiting → List Waiting
removed track [] = []
removed track (w ∷ ws) = cond (eqb w.track track) ws (w ∷ removed track ws)

module _ (track first : ℕ) (others : List ℕ) where
  some_wait : [] ≡ first ∷ others → ⊥
  some_wait none = let sizes : 0 ≡ suc (length others) = ap length none in omega arith

  entries_removed : (count : ℕ) (ws : List Waiting) → suc count ≤ length ws → queue_in track (take (suc count) ws) ≡ first ∷ others
      → take count (without_first track ws) ≡ removed track (take (suc count) ws)
  unfolding queue_in without_first removed
  entries_removed count [] room some = absurd (omega (arith, room))
  entries_removed zero (w ∷ ws) room some =
      ⊎_elim
      (λ (here : eqb w.track track ≡ true). rw here)
      (λ (other : eqb w.track track ≡ false). absurd (some_wait (rw other at some)))
      (true_or_false (eqb w.track track))
  entries_removed (suc count) (w ∷ ws) room some =
      ⊎_elim
      (λ (here : eqb w.track track ≡ true). rw here (take-append-le (suc count) ws (no_entry ∷ []) (omega (arith, room))))
      (λ (other : eqb w.track track ≡ false).
      rw other
      (ap (λ (r : List Waiting). w ∷ r) (entries_removed count ws (omega (arith, room)) (rw other at some))))
      (true_or_false (eqb w.track track))

  pub removed_entries : (count : ℕ) (ws : List Waiting) → count ≤ length ws → queue_in track (take count ws) ≡ first ∷ others
      → take (count - 1) (without_first track ws) ≡ removed track (take count ws)
  unfolding queue_in
  removed_entries zero ws room some = absurd (some_wait some)
  removed_entries (suc count) ws room some =
      let one_less : suc count - 1 ≡ count = omega arith in rw one_less (entries_removed count ws room some)

  pub removed_queue : (ws : List Waiting) → queue_in track ws ≡ first ∷ others → queue_in track (removed track ws) ≡ others
  unfolding queue_in removed
  removed_queue [] some = ap (drop 1) some
  removed_queue (w ∷ ws) some =
      ⊎_elim
      (λ (here : eqb w.track track ≡ true). rw here (ap (drop 1) (rw here at some)))
      (λ (other : eqb w.track track ≡ false). rw (other, other) (removed_queue ws (rw other at some)))
      (true_or_false (eqb w.track track))

  pub removed_times : (x : ℕ) (ws : List Waiting) → queue_in track ws ≡ first ∷ others
      → times x (trams_in (removed track ws)) + is_tram x first ≡ times x (trams_in ws)
  unfolding queue_in removed times
  removed_times x [] some = absurd (some_wait some)
  removed_times x (w ∷ ws) some =
      ⊎_elim
      (λ (here : eqb w.track track ≡ true).
      let same : w.tram ≡ first = ap (λ (l : List ℕ). get_or l 0 0) (rw here at some) in rw (here, same) (omega arith))
      (λ (other : eqb w.track track ≡ false).
      let rest = removed_times x ws (rw other at some) in rw other (omega (arith, rest)))
      (true_or_false (eqb w.track track))

-- the places stay as many
pub length_without : (track : ℕ) (ws : List Waiting) → length (without_first track ws) ≡ length ws
unfolding without_first
length_without track [] = refl
length_without track (w ∷ ws) =
    ⊎_elim
    (λ (here : eqb w.track track ≡ true). rw here (length-append ws (no_entry ∷ []) ∙ add-one (length ws)))
    (λ (other : eqb w.track track ≡ false). rw other (ap suc (length_without track ws)))
    (true_or_false (eqb w.track track))

pub removed_other : (track other : ℕ) (ws : List Waiting) → (other ≡ track → ⊥) → queue_in other (removed track ws) ≡ queue_in other ws
unfolding queue_in removed
removed_other track other [] ne = refl
removed_other track other (w ∷ ws) ne =
    ⊎_elim
    (λ (here : w.track ≡ track). rw (eq-eqb w.track track here, ne_eqb w.track other (λ is. ne (sym is ∙ here))))
    (λ (elsewhere : w.track ≡ track → ⊥). rw (ne_eqb w.track track elsewhere, removed_other track other ws ne))
    (eq_or_ne w.track track)

-- a tram of a queue is among those that wait
pub queue_times : (x track : ℕ) (ws : List Waiting) → times x (queue_in track ws) ≤ times x (trams_in ws)
unfolding queue_in times
queue_times x track [] = omega arith
queue_times x track (w ∷ ws) =
    let rest = queue_times x track ws in
    ⊎_elim (λ (here : eqb w.track track ≡ true). rw here (omega (arith, rest)))
    (λ (other : eqb w.track track ≡ false). rw other (omega (arith, rest))) (true_or_false (eqb w.track track))

-- ---- how many are ahead

pub still_ahead : (trams more : List ℕ) (tram many : ℕ) → HasAhead trams tram many → HasAhead (trams ++ more) tram many
still_ahead trams more tram many has =
    record {
      ahead = has.ahead;
      behind = has.behind ++ more;
      in_list = ap (λ (r : List ℕ). r ++ more) has.in_list ∙ append_assoc has.ahead (tram ∷ has.behind) more;
      as_many = has.as_many;
    }

pub one_less_ahead : (head : ℕ) (trams : List ℕ) (tram many : ℕ) → HasAhead (head ∷ trams) tram (suc many) → HasAhead trams tram many
one_less_ahead head trams tram many has = by_front has.ahead has.in_list has.as_many
  where
    by_front : (ahead : List ℕ) → head ∷ trams ≡ ahead ++ (tram ∷ has.behind) → length ahead ≡ suc many → HasAhead trams tram many
    by_front [] is size = absurd (omega (arith, size))
    by_front (a ∷ ahead) is size = record { ahead = ahead; behind = has.behind; in_list = ap (drop 1) is; as_many = omega (arith, size) }
