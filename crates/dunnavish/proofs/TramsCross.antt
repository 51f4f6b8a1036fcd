-- The contracts of the searches among trams: of more trams than a track has, those that the library is shown are answered as all; either
-- count may be wrong; and what is left decodes to the answer, so that what is promised of it holds of what is decoded. The two that say
-- yes or no of each tram have one law, whatever their test. Assumes nothing.
use mathlib.Core.Path.{◌≡◌, refl, sym, ap, subst, ◌∙◌}
use mathlib.Core.Bool.{Bool, true, false, cond}
use mathlib.Core.List.{List, [], ◌∷◌}
use mathlib.Core.Logic.{⊎_elim}
use Prim.Native.Nat.{ℕ, ◌≤◌, ◌<◌}
use native.Mathlib.Omega.{arith}
use lib.Dec.{eqb, ltb}
use lib.ListN.{length, get_or, set, take, get_or-eq_default, length-take}
use borrow.Author.Tests.{ne_eqb, le-ltb}
use Rattle.std.specs.Prelude.{Option, Some, None, unwrap_or, Result, Ok, Err, MatchResult}
use Rattle.std.proofs.lemmas.List.{take_all}
use Rattle.bits.specs.Places.{list_of}
use Rattle.bits.proofs.Numbers.{lt_or_le, eq_or_ne}
use Rattle.bits.proofs.Places.{length_list_of, get_or_list_of}
use Rattle.bits.proofs.FilledLists.{is_list_of}
use Rattle.model.specs.Refusals.{Refused, status_of, values_by, if_served, unless_refused}
use Rattle.model.specs.Card.{code_of}
use Rattle.model.specs.Trams.{Trams, TramsAnswer, most_trams, widened_at, trams_refusal, answers_by, each_tram_unless, each_tram_answer}
use Rattle.model.specs.Trams.{yes_values}
use Rattle.model.specs.NearestTram.{NearestAnswer, no_tram, place_value, nearest_among, nearest_refusal, nearest_answer, nearest_values}
use Rattle.model.specs.NearestTram.{nearest_expected}
use Rattle.model.specs.declared.Refusal.{Refusal}
use Rattle.model.specs.declared.Stretch.{Stretch}
use Rattle.code_theory.proofs.RefusalRows.{served_if_none, refused_if_some, status_and_values_alone}
use Rattle.tram_theory.specs.TramPromises.{NearestPromises}
use Rattle.tram_theory.proofs.ServedTrams.{too_many, too_many_refused}
use Rattle.tram_theory.proofs.TramPromises.{served, nearest_promises}
use Rattle.dunnavish.specs.Crossing.{number_count, wrong_count, trams_lent, most_handed, status_for, left_by, EachCrosses}
use Rattle.dunnavish.specs.Crossing.{UnchangedUnlessZero}
use Rattle.dunnavish.specs.Decoding.{each_tram_left, place_left, nearest_left}
use Rattle.dunnavish.proofs.Inherited.{Contract, wrong_count_lem, refused, stored}
use Rattle.dunnavish.proofs.Lent.{wrong_count_crosses, status_lent, unchanged_by}

-- ---- the trams that are handed on

module _ (card : List ℕ) (trams : Trams) (first second : ℕ) where
  handed_alike : {A : Type 0} (served : Trams → A)
      → let shown : Trams = take most_handed trams in
      ◌≡◌ {A = Result A Refusal} (unless_refused (trams_refusal card shown first second) Refused (Ok (served shown)))
      (unless_refused (trams_refusal card trams first second) Refused (Ok (served trams)))
  handed_alike served =
      ⊎_elim
      (λ (many : most_handed < length trams).
      let shown : Trams = take most_handed trams in
      let many_shown : most_trams < length shown = omega (arith, length-take most_handed trams) in
      let many_lent : most_trams < length trams = omega arith in
      refused_if_some (trams_refusal card shown first second) Refused (Ok (served shown)) (too_many_refused card shown first second many_shown)
      ∙ rw (too_many card shown first second many_shown, ← (too_many card trams first second many_lent))
      (sym (refused_if_some (trams_refusal card trams first second) Refused (Ok (served trams))
      (too_many_refused card trams first second many_lent))))
      (λ (few : length trams ≤ most_handed). rw (take_all most_handed trams few))
      (lt_or_le most_handed (length trams))

  pub each_handed : (test : Stretch → Bool)
      → each_tram_answer test card (take most_handed trams) first second ≡ each_tram_answer test card trams first second
  unfolding each_tram_answer each_tram_unless
  each_handed test = handed_alike (λ trams. answers_by test (widened_at (code_of card) trams) (length trams))

pub nearest_handed : (card : List ℕ) (trams : Trams) (mark : ℕ) → nearest_answer card (take most_handed trams) mark ≡ nearest_answer card trams mark
unfolding nearest_answer
nearest_handed card trams mark = handed_alike card trams mark mark (λ trams. nearest_among (code_of card) trams mark)

-- ---- answers as bytes, and back

-- a byte that is 1 for yes and 0 for no
flag_told : (told : Bool) → eqb (cond told 1 0) 1 ≡ told
flag_told true = refl
flag_told false = refl

-- so many answers as bytes
abbrev bytes_of : (answers : List Bool) (count : ℕ) → List ℕ
bytes_of answers count = list_of count (λ i. cond (get_or answers i false) 1 0)

-- the answers of so many trams, no past them, are those that their bytes decode to
answers_decode : (test : Stretch → Bool) (stretch : ℕ → Stretch) (count : ℕ)
    → let answers = answers_by test stretch count in answers ≡ list_of most_trams (λ i. eqb (get_or (bytes_of answers count) i 0) 1)
unfolding answers_by
answers_decode test stretch count =
    let answers = answers_by test stretch count in
    let bytes = bytes_of answers count in
    let flag : ℕ → ℕ = λ i. cond (get_or answers i false) 1 0 in
    is_list_of false most_trams (λ i. eqb (get_or bytes i 0) 1) answers (length_list_of most_trams _)
    (λ i below.
    ⊎_elim
    (λ (inside : i < count). rw (get_or_list_of count flag 0 i inside) (sym (flag_told (get_or answers i false))))
    (λ (past : count ≤ i).
    rw (get_or-eq_default bytes 0 {n = i} (rw (length_list_of count flag) past))
    (get_or_list_of most_trams (λ i. cond (ltb i count) (test (stretch i)) false) false i below ∙ rw (le-ltb i count past)))
    (lt_or_le i count))

-- ---- yes or no for each tram

module _ (lows highs lent : List ℕ) (answer : TramsAnswer) where
  pub highs_miscounted : (length highs ≡ length lows → ⊥) → EachCrosses lows highs lent answer wrong_count lent
  unfolding left_by
  highs_miscounted other_length = ((wrong_count_crosses (length lows) highs other_length _ []).0, refl)

  module _ (alike : length highs ≡ length lows) where
    pub lent_miscounted : (length lent ≡ length lows → ⊥) → EachCrosses lows highs lent answer wrong_count lent
    unfolding left_by
    lent_miscounted other_length =
        ((wrong_count_crosses (length lows) lent other_length _ []).0 ∙ sym (status_lent (length lows) highs alike _), refl)

    pub all_counted : length lent ≡ length lows → {status : ℕ} {left : List ℕ} → status ≡ status_of answer
        → left ≡ left_by status (yes_values (length lent) answer) lent → EachCrosses lows highs lent answer status left
    all_counted as_many is-status is-left = (
      is-status ∙ sym (status_lent (length lows) lent as_many _) ∙ sym (status_lent (length lows) highs alike _),
      rw as_many at is-left,
    )

module _ (test : Stretch → Bool) (card lows highs lent : List ℕ) (first second : ℕ) where
  abbrev trams : Trams
  trams = trams_lent lows highs

  abbrev defined : TramsAnswer
  defined = each_tram_answer test card trams first second

  abbrev refusal : ℕ
  refusal = trams_refusal card trams first second

  is_served : refusal ≡ 0 → defined ≡ Ok (answers_by test (widened_at (code_of card) trams) (length trams))
  unfolding each_tram_answer each_tram_unless
  is_served none = served_if_none refusal Refused _ none

  is_refused : (refusal ≡ 0 → ⊥) → defined ≡ Refused refusal
  unfolding each_tram_answer each_tram_unless
  is_refused some = refused_if_some refusal Refused _ some

  -- an answer has no refusal by 0, and is served of at most 64 trams
  pub each_placed : (answer : TramsAnswer) → answer ≡ each_tram_answer test card (take most_handed trams) first second
      → MatchResult answer (λ _. length lows ≤ most_trams) (λ refusal. ¬ (refusal.number ≡ 0))
  unfolding trams_lent
  each_placed answer is =
      ⊎_elim
      (λ (none : refusal ≡ 0).
      let (_, placed) = served card trams first second none in
      rw (is ∙ each_handed card trams first second test ∙ is_served none)
      (omega (arith, placed.few, length_list_of {A = Stretch} (length lows) (λ i. record { low = get_or lows i 0; high = get_or highs i 0 }))))
      (λ (some : refusal ≡ 0 → ⊥). rw (is ∙ each_handed card trams first second test ∙ is_refused some) some)
      (eq_or_ne refusal 0)

  -- what is left decodes to the answer
  left_decodes : (status : ℕ) (left : List ℕ) → status ≡ status_of defined → left ≡ left_by status (yes_values (length lows) defined) lent
      → each_tram_left status left ≡ defined
  unfolding each_tram_left left_by status_of values_by trams_lent
  left_decodes status left is-status is-left =
      ⊎_elim
      (λ (none : refusal ≡ 0).
      let stretch = widened_at (code_of card) trams in
      let count : length trams ≡ length lows = length_list_of (length lows) _ in
      let zero : status ≡ 0 = rw (is_served none) at is-status in
      let bytes : left ≡ bytes_of (answers_by test stretch (length lows)) (length lows) = rw (is_served none, zero, count) at is-left in
      rw (zero, bytes) (served_if_none 0 Refused _ refl ∙ rw (is_served none, count) (ap Ok (sym (answers_decode test stretch (length lows))))))
      (λ (some : refusal ≡ 0 → ⊥).
      let number : status ≡ refusal = rw (is_refused some) at is-status in
      rw (number, is_refused some) (refused_if_some refusal Refused _ some))
      (eq_or_ne refusal 0)

  -- the contract of a call
  module _ (Promise : TramsAnswer → Type 0) (promised : Promise defined) where
    abbrev EachContract : (status : ℕ) (left : List ℕ) → Type 0
    EachContract s after =
        record {
          status : s ≡ status_for (length lows) highs (status_for (length lows) lent (status_of defined));
          left : after ≡ left_by s (yes_values (length lows) defined) lent;
          unchanged : UnchangedUnlessZero lent s after;
          promises : length highs ≡ length lows → length lent ≡ length lows → Promise (each_tram_left s after);
        }

    pub answered_search : {status : ℕ} {left : List ℕ} → EachCrosses lows highs lent defined status left → EachContract status left
    answered_search {status} {left} (is-status, is-left) =
        record {
          status = is-status;
          left = is-left;
          unchanged = unchanged_by status _ lent left is-left;
          promises = λ alike as_many.
              let its_status : status ≡ status_of defined =
              is-status ∙ status_lent (length lows) highs alike _ ∙ status_lent (length lows) lent as_many _ in
              subst Promise (sym (left_decodes status left its_status is-left)) promised;
        }

-- ---- the nearest tram

module _ (card lows highs lent : List ℕ) (mark : ℕ) where
  abbrev nearest : NearestAnswer
  nearest = nearest_answer card (trams_lent lows highs) mark

  abbrev PromisedOfNearest : NearestAnswer → Type 0
  PromisedOfNearest = NearestPromises card (trams_lent lows highs) mark

  abbrev NearestContract : (status : ℕ) (left : List ℕ) → Type 0
  NearestContract s after =
      record {
        status : s ≡ status_for (length lows) highs (status_for number_count lent (status_of nearest));
        left : after ≡ left_by s (nearest_values nearest) lent;
        unchanged : UnchangedUnlessZero lent s after;
        promises : length highs ≡ length lows → length lent ≡ number_count → PromisedOfNearest (nearest_left s after);
      }

  pub nearest_highs_miscounted : (length highs ≡ length lows → ⊥) → NearestContract wrong_count lent
  unfolding left_by
  nearest_highs_miscounted other_length =
      record {
        status = (wrong_count_crosses (length lows) highs other_length _ []).0;
        left = refl;
        unchanged = unchanged_by wrong_count [] lent lent refl;
        promises = λ alike _. absurd (other_length alike);
      }

  -- as many highs as lows are lent: as every call that answers one number
  module _ (alike : length highs ≡ length lows) where
    pub nearest_crosses : {status : ℕ} {left : List ℕ}
        → Contract status_of nearest_values Refused nearest_left PromisedOfNearest number_count lent nearest status left
        → NearestContract status left
    nearest_crosses (is-status, (is-left, (unchanged, promised))) =
        record {
          status = is-status ∙ sym (status_lent (length lows) highs alike _);
          left = is-left;
          unchanged = unchanged;
          promises = λ _ counted. promised counted;
        }

    pub nearest_miscounted : (length lent ≡ number_count → ⊥) → NearestContract wrong_count lent
    nearest_miscounted other_length =
        nearest_crosses (wrong_count_lem status_of nearest_values Refused nearest_left PromisedOfNearest lent nearest other_length)

    -- what is said of the definition's answer
    abbrev Served : Type 0
    Served =
        (nearest ≡ nearest)
        × ((status_of nearest ≡ nearest_refusal card (trams_lent lows highs) mark)
        × ((nearest_values nearest ≡ if_served (status_of nearest) (nearest_expected card (trams_lent lows highs) mark)) × PromisedOfNearest nearest))

    definition_served : Served
    unfolding nearest_answer nearest_expected
    definition_served =
        let (status, values) =
        status_and_values_alone (λ (place : Option ℕ). place_value place ∷ []) (nearest_refusal card (trams_lent lows highs) mark)
        (nearest_among (code_of card) (trams_lent lows highs) mark) in
        (refl, (status, (values, nearest_promises card (trams_lent lows highs) mark)))

    module _ (counted : length lent ≡ number_count) where
      pub nearest_refused : (refusal : Refusal) → nearest ≡ Err refusal → NearestContract refusal.number lent
      unfolding nearest_left nearest_expected values_by status_of
      nearest_refused refusal is =
          nearest_crosses
          (refused status_of nearest_values Refused nearest_left PromisedOfNearest lent nearest counted
          (nearest_expected card (trams_lent lows highs) mark) definition_served refl refusal.number is refl refl
          (place_left (get_or lent 0 0)) refl)

      -- a place in a list is never the number that stands for no tram
      place_decodes : (place : Option ℕ) → nearest ≡ Ok place → place_left (place_value place) ≡ Ok place
      unfolding place_left place_value status_of
      place_decodes None is = refl
      place_decodes (Some place) is =
          let (_, (status, (_, promised))) = definition_served in
          let (_, placed) = served card (trams_lent lows highs) mark mark (sym (rw is at status)) in
          let in_list = (promised.of_all.nearest place is).in_list in
          rw (ne_eqb place no_tram (λ e. omega (arith, placed.few)))

      its_value : (place : Option ℕ) → unwrap_or place no_tram ≡ place_value place
      unfolding place_value
      its_value None = refl
      its_value (Some place) = refl

      pub nearest_stored : (place : Option ℕ) → nearest ≡ Ok place → NearestContract 0 (set lent 0 (unwrap_or place no_tram))
      unfolding nearest_left values_by status_of
      nearest_stored place is =
          rw (its_value place)
          (nearest_crosses
          (stored status_of nearest_values Refused nearest_left PromisedOfNearest lent nearest counted
          (nearest_expected card (trams_lent lows highs) mark) definition_served (Ok place) is refl refl
          (ap (unless_refused 0 Refused) (place_decodes place is))))
