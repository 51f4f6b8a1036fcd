-- Decoding loses nothing, for every call: a status is that of the answer which it decodes to, and a list of so many entries is the list of
-- its entries, from which the values of the answer were taken. Assumes nothing.
use mathlib.Core.Path.{◌≡◌, refl, sym, ap, ◌∙◌}
use mathlib.Core.Bool.{Bool, false, cond}
use mathlib.Core.List.{List, [], ◌∷◌}
use mathlib.Core.Logic.{⊎_elim}
use Prim.Native.Nat.{ℕ, zero, suc, ◌≤◌, ◌<◌}
use native.Mathlib.Omega.{arith}
use borrow.Author.Tests.{eq-eqb, ne_eqb}
use lib.Dec.{eqb}
use lib.IntN.{pos}
use lib.ListN.{length, get_or}
use Rattle.bits.specs.Places.{list_of}
use Rattle.bits.proofs.Numbers.{eq_or_ne, zero_or_one, by_test}
use Rattle.bits.proofs.Places.{get_or_list_of}
use Rattle.bits.proofs.FilledLists.{is_list_of}
use Rattle.model.specs.Refusals.{unless_refused}
use Rattle.model.specs.Reading.{not_read, bits_value}
use Rattle.model.specs.Trams.{most_trams, yes_values}
use Rattle.model.specs.NearestTram.{no_tram, nearest_values}
use Rattle.model.specs.Yard.{slot_at, number_in}
use Rattle.model.specs.RequestTrack.{request_values}
use Rattle.model.specs.ReleaseTrack.{release_values}
use Rattle.code_theory.proofs.RefusalRows.{served_if_none, refused_if_some}
use Rattle.std.specs.Prelude.{Result}
use Rattle.model.specs.declared.Refusal.{Refusal}
use Rattle.model.specs.NearestTram.{place_value}
use Rattle.dunnavish.specs.Decoding.{card_left, write_left, bits_left, read_left, millimetres_left, vote_left, each_tram_left}
use Rattle.dunnavish.specs.Decoding.{place_left, nearest_left}
use Rattle.dunnavish.specs.Crossing.{number_count}
use Rattle.dunnavish.specs.YardNumbers.{yard_lent, requested_left, released_left}
use Rattle.dunnavish.specs.LosslessDecoding.{Kept, LosslessDecoding, LosslessYards}
use Rattle.dunnavish.proofs.YardNumbers.{numbers_back}
use Rattle.model.specs.Refusals.{Refused, status_of}
use Rattle.model.specs.WriteWord.{Written}
use Rattle.model.specs.RequestTrack.{Holds, RequestAnswer, Waits, request_value}
use Rattle.model.specs.ReleaseTrack.{Freed, HandedTo, NotClear, ReleaseAnswer, release_value}
use Rattle.model.specs.Refusals.{values_by}

-- a status is that of the answer which it decodes to: 0 of what is served, and any other of the refusal with that number
number_kept : {A : Type 0} (s : ℕ) (served : Result A Refusal) → status_of served ≡ 0 → status_of (unless_refused s Refused served) ≡ s
unfolding status_of
number_kept s served at_0 =
    ⊎_elim (λ (is : s ≡ 0). rw (served_if_none s Refused served is) (at_0 ∙ sym is))
    (λ (some : s ≡ 0 → ⊥). rw (refused_if_some s Refused served some)) (eq_or_ne s 0)

-- decoding keeps status and numbers where it keeps those of what is served
kept : {A B : Type 0} {values : Result A Refusal → List B} (served : List B → Result A Refusal) (count : ℕ)
    → ((left : List B) → status_of (served left) ≡ 0) → ((left : List B) → length left ≡ count → values (served left) ≡ left)
    → Kept status_of values (λ s left. unless_refused s Refused (served left)) count
kept {values} served count at_0 whole =
    record {
      status_kept = λ s left. number_kept s (served left) (at_0 left);
      values_kept = λ left is. ap values (served_if_none 0 Refused (served left) refl) ∙ whole left is;
    }

-- the `many` entries of a list from place i on
abbrev entries_from : {A : Type 0} (d : A) (l : List A) (i many : ℕ) → List A
entries_from d l i zero = []
entries_from d l i (suc many) = get_or l i d ∷ entries_from d l (suc i) many

entries_after : {A : Type 0} (d x : A) (l : List A) (i many : ℕ) → entries_from d (x ∷ l) (suc i) many ≡ entries_from d l i many
entries_after d x l i zero = refl
entries_after d x l i (suc many) = rw (entries_after d x l (suc i) many)

all_entries : {A : Type 0} (d : A) (many : ℕ) (l : List A) → length l ≡ many → entries_from d l 0 many ≡ l
all_entries d zero [] is = refl
all_entries d (suc many) [] is = absurd (omega arith)
all_entries d zero (x ∷ l) is = absurd (omega arith)
all_entries d (suc many) (x ∷ l) is = rw (entries_after d x l 0 many, all_entries d many l (omega arith))

bits_kept : (left : ℕ) → bits_value (bits_left left) ≡ left
unfolding bits_value bits_left
bits_kept left =
    ⊎_elim (λ (is : left ≡ not_read). rw (eq-eqb left not_read is) (cc)) (λ (other : left ≡ not_read → ⊥). rw (ne_eqb left not_read other))
    (eq_or_ne left not_read)

place_kept : (left : ℕ) → nearest_values (place_left left) ≡ left ∷ []
unfolding values_by place_value place_left
place_kept left =
    ⊎_elim (λ (is : left ≡ no_tram). rw (eq-eqb left no_tram is) (rw is refl)) (λ (other : left ≡ no_tram → ⊥). rw (ne_eqb left no_tram other))
    (eq_or_ne left no_tram)

place_status : (left : ℕ) → status_of (place_left left) ≡ 0
unfolding status_of place_left
place_status left =
    ⊎_elim (λ (is : left ≡ no_tram). rw (eq-eqb left no_tram is)) (λ (other : left ≡ no_tram → ⊥). rw (ne_eqb left no_tram other))
    (eq_or_ne left no_tram)

-- a number that is 0 or 1, from the answer that it stands for
flag_kept : (flag : ℕ) → flag < 2 → cond (eqb flag 1) 1 0 ≡ flag
flag_kept flag bit =
    ⊎_elim (λ (is : flag ≡ 0). rw is) (λ (is : flag ≡ 1). rw is) (zero_or_one flag bit)

flags_kept : (left : List ℕ) → length left ≤ most_trams → ((i : ℕ) → get_or left i 0 < 2) → yes_values (length left) (each_tram_left 0 left) ≡ left
unfolding values_by each_tram_left unless_refused
flags_kept left few flags =
    let told : ℕ → Bool = λ i. eqb (get_or left i 0) 1 in
    sym
    (is_list_of 0 (length left) (λ i. cond (get_or (list_of most_trams told) i false) 1 0) left refl
    (λ i below. rw (get_or_list_of most_trams told false i (omega arith)) (sym (flag_kept (get_or left i 0) (flags i)))))

each_status_kept : (s : ℕ) (left : List ℕ) → status_of (each_tram_left s left) ≡ s
unfolding each_tram_left status_of
each_status_kept s left = number_kept s _ refl

-- ---- the calls on the yard

request_status_kept : (s : ℕ) (left yard : List ℕ) → status_of (requested_left s left yard).answer ≡ s
unfolding status_of requested_left values_by
request_status_kept s left yard =
    number_kept s (cond (eqb (get_or left 0 0) 0) Holds Waits)
    (by_test (λ (a : RequestAnswer). status_of a ≡ 0) (eqb (get_or left 0 0) 0) (λ _. refl) (λ _. refl))

request_value_kept : (left yard : List ℕ) → length left ≡ number_count → get_or left 0 0 < 2
    → request_values (requested_left 0 left yard).answer ≡ left
unfolding values_by request_value requested_left unless_refused
request_value_kept left yard size bit =
    ⊎_elim (λ (is : get_or left 0 0 ≡ 0). rw is (rw is at (all_entries 0 1 left size)))
    (λ (is : get_or left 0 0 ≡ 1). rw is (rw is at (all_entries 0 1 left size))) (zero_or_one (get_or left 0 0) bit)

-- the answer of a release of this track by its value, where this tram holds the track in the yard that is left
abbrev by_value : (value holder : ℕ) → ReleaseAnswer
by_value value holder = cond (eqb value 0) NotClear (cond (eqb value 1) Freed (HandedTo holder))

by_value_status : (value holder : ℕ) → status_of (by_value value holder) ≡ 0
unfolding status_of
by_value_status value holder =
    by_test (λ (a : ReleaseAnswer). status_of a ≡ 0) (eqb value 0) (λ _. refl)
    (λ _. by_test (λ (a : ReleaseAnswer). status_of a ≡ 0) (eqb value 1) (λ _. refl) (λ _. refl))

by_value_values : (value holder : ℕ) → value < 3 → release_values (by_value value holder) ≡ value ∷ []
unfolding values_by release_value
by_value_values value holder few =
    ⊎_elim (λ (is : value ≡ 0). rw is)
    (λ (some : value ≡ 0 → ⊥).
    ⊎_elim (λ (is : value ≡ 1). rw is)
    (λ (more : value ≡ 1 → ⊥). let two : value ≡ 2 = omega (arith, few, some, more) in rw two) (eq_or_ne value 1))
    (eq_or_ne value 0)

release_status_kept : (track s : ℕ) (left yard : List ℕ) → status_of (released_left track s left yard).answer ≡ s
unfolding status_of released_left values_by
release_status_kept track s left yard =
    number_kept s (by_value (get_or left 0 0) (number_in (slot_at (yard_lent yard) track)))
    (by_value_status (get_or left 0 0) (number_in (slot_at (yard_lent yard) track)))

release_value_kept : (track : ℕ) (left yard : List ℕ) → length left ≡ number_count → get_or left 0 0 < 3
    → release_values (released_left track 0 left yard).answer ≡ left
unfolding released_left unless_refused
release_value_kept track left yard size few =
    by_value_values (get_or left 0 0) (number_in (slot_at (yard_lent yard) track)) few ∙ all_entries 0 1 left size

pub lossless_decoding : LosslessDecoding
unfolding card_left status_of values_by write_left read_left bits_left millimetres_left vote_left nearest_left place_left unless_refused
lossless_decoding =
    record {
      check = kept _ _ (λ left. refl) (all_entries 0 7);
      read = kept _ _ (λ left. refl)
          (λ left is. rw (bits_kept (get_or left 3 0), bits_kept (get_or left 4 0)) (all_entries 0 5 left is));
      distance = kept _ _ (λ left. refl) (all_entries (pos 0) 1);
      vote = kept _ _ (λ left. refl) (all_entries 0 2);
      nearest = kept (λ left. place_left (get_or left 0 0)) _ (λ left. place_status (get_or left 0 0))
          (λ left is. place_kept (get_or left 0 0) ∙ all_entries 0 1 left is);
      each_status = each_status_kept;
      each_tram = flags_kept;
      write = λ s. number_kept s Written refl;
      written = refl;
      by_rule_1 = refl;
      by_rule_2 = refl;
      last_place = refl;
      no_place = refl;
    }

pub lossless_yards : LosslessYards
lossless_yards =
    record {
      requested = request_status_kept;
      request_value = request_value_kept;
      released = release_status_kept;
      release_value = release_value_kept;
      numbers = numbers_back;
    }
