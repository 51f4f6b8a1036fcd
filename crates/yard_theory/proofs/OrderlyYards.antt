-- A yard that is not refused by 26, as facts: each tram is in it at most once, nobody waits for a free track, and at most 32 wait. Assumes
-- nothing.
use mathlib.Core.Path.{◌≡◌, refl, sym, ap, ◌∙◌}
use mathlib.Core.Bool.{Bool, true, false, cond, not, ◌||◌, false≢true}
use mathlib.Core.List.{List, [], ◌∷◌, map}
use mathlib.Core.Logic.{⊎_elim}
use Prim.Native.Nat.{ℕ, suc, ◌≤◌}
use native.Mathlib.Omega.{arith}
use borrow.Author.Tests.{eq-eqb, ne_eqb, le-ltb, ltb-false}
use lib.Dec.{ltb, eqb}
use lib.ListN.{length, length-map}
use Rattle.bits.proofs.Numbers.{eq_or_ne, true_or_false, or_false_left, or_false_right}
use Rattle.model.specs.Yard.{track_count, most_waiting, is_held, entries, queue_in, queue, trams_of, any_twice, any_for_free, unsound}
use Rattle.model.specs.declared.Slot.{Slot}
use Rattle.model.specs.declared.Waiting.{Waiting}
use Rattle.model.specs.declared.Yard.{Yard}
use Rattle.yard_theory.proofs.TramCounts.{times, once, none_twice}

-- a yard as the type has it, as every yard of the code is: 16 tracks and 32 places for entries
pub record Sized (yard : Yard) : Type 0 where
  pub tracks : length yard.slots ≡ track_count
  pub places : length yard.waiting ≡ most_waiting

-- which may be known of the values that the structs are made of
pub sized_by_type : {A B : Type 0} (yard : Yard) (slot : Slot → A) (entry : Waiting → B) → length (map slot yard.slots) ≡ track_count
    → length (map entry yard.waiting) ≡ most_waiting → Sized yard
sized_by_type yard slot entry tracks places =
    record { tracks = sym (length-map yard.slots slot) ∙ tracks; places = sym (length-map yard.waiting entry) ∙ places }

pub record Orderly (yard : Yard) : Type 0 where
  pub sized : Sized yard
  pub few : yard.count ≤ most_waiting
  pub at_most_once : (x : ℕ) → times x (trams_of yard) ≤ 1
  pub none_for_free : (track : ℕ) → is_held yard track ≡ false → queue yard track ≡ []

-- ---- orderly exactly if not refused by 26

module _ (yard : Yard) where
  for_free_none : (ws : List Waiting) → any_for_free yard ws ≡ false → (track : ℕ) → is_held yard track ≡ false → queue_in track ws ≡ []
  unfolding any_for_free queue_in
  for_free_none [] none track free = refl
  for_free_none (w ∷ ws) none track free =
      ⊎_elim
      (λ (here : w.track ≡ track).
      let held = or_false_left (not (is_held yard w.track)) (any_for_free yard ws) none in
      absurd (false≢true (sym (rw (here, free) at held))))
      (λ (other : w.track ≡ track → ⊥).
      rw (ne_eqb w.track track other)
      (for_free_none ws (or_false_right (not (is_held yard w.track)) (any_for_free yard ws) none) track free))
      (eq_or_ne w.track track)

  none_for_free_any : (ws : List Waiting) → ((track : ℕ) → is_held yard track ≡ false → queue_in track ws ≡ []) → any_for_free yard ws ≡ false
  unfolding any_for_free queue_in
  none_for_free_any [] none = refl
  none_for_free_any (w ∷ ws) none =
      ⊎_elim
      (λ (held : is_held yard w.track ≡ true).
      rw held (none_for_free_any ws (λ track free. later track (eqb w.track track) (none track free))))
      (λ (free : is_held yard w.track ≡ false).
      absurd (waits (rw (eq-eqb w.track w.track refl) at (none w.track free))))
      (true_or_false (is_held yard w.track))
    where
      waits : {x : ℕ} {xs : List ℕ} → x ∷ xs ≡ [] → ⊥
      waits {x} {xs} is = let sizes : suc (length xs) ≡ 0 = ap length is in omega arith

      later : (track : ℕ) (here : Bool) → cond here (w.tram ∷ queue_in track ws) (queue_in track ws) ≡ [] → queue_in track ws ≡ []
      later track true is = absurd (waits is)
      later track false is = is

  pub sound_few : unsound yard ≡ false → yard.count ≤ most_waiting
  unfolding unsound
  sound_few sound =
      ltb-false most_waiting yard.count
      (or_false_right (any_twice (trams_of yard) || any_for_free yard (entries yard)) (ltb most_waiting yard.count) sound)

  pub sound_orderly : Sized yard → unsound yard ≡ false → Orderly yard
  unfolding unsound
  sound_orderly sized sound =
      let first = or_false_left (any_twice (trams_of yard) || any_for_free yard (entries yard)) (ltb most_waiting yard.count) sound in
      record {
        sized = sized;
        few = sound_few sound;
        at_most_once = once (trams_of yard) (or_false_left (any_twice (trams_of yard)) (any_for_free yard (entries yard)) first);
        none_for_free = for_free_none (entries yard) (or_false_right (any_twice (trams_of yard)) (any_for_free yard (entries yard)) first);
      }

  pub orderly_sound : Orderly yard → unsound yard ≡ false
  unfolding unsound
  orderly_sound orderly =
      rw (none_twice (trams_of yard) orderly.at_most_once, none_for_free_any (entries yard) orderly.none_for_free)
      (le-ltb most_waiting yard.count orderly.few)
