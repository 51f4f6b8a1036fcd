-- The nearest of a list of stretches. What is kept on the way through the list goes before every earlier one and no later one goes before
-- it; so in the end none is nearer, of those as near none has a smaller low end, and of those with the same none stands earlier. A
-- stretch is no farther from a mark than any position that lies in it. Assumes nothing.
use mathlib.Core.Path.{◌≡◌, refl, sym, ◌∙◌}
use mathlib.Core.Bool.{Bool, true, false, ◌&&◌, ◌||◌}
use mathlib.Core.Logic.{◌⊎◌, inl, inr, ⊎_elim}
use Prim.Native.Nat.{ℕ, zero, suc, ◌-◌, ◌≤◌, ◌<◌, min}
use native.Mathlib.Nat.{eq-or-lt_of_le, le_of_suc-le-suc}
use native.Mathlib.Omega.{arith}
use lib.Dec.{ltb, eqb}
use borrow.Author.Tests.{ltb-true, ltb-false, eqb-true, eq-eqb}
use Rattle.std.specs.Prelude.{Some, None}
use Rattle.bits.proofs.Numbers.{not-true, lt_or_le, by_test, or_false_left, or_false_right, and_true_left, and_true_right}
use Rattle.model.specs.TramsCrossing.{crosses}
use Rattle.model.specs.NearestTram.{apart, distance_to, goes_before, nearest_up_to, nearest_of}
use Rattle.model.specs.declared.Stretch.{Stretch}
use Rattle.tram_theory.specs.Stretches.{Holds}
use Rattle.tram_theory.proofs.Stretches.{crosses_if, crosses_only_if}

-- ---- distances

module _ (mark : ℕ) (s : Stretch) where
  pub crossing_at_0 : Holds s mark → distance_to mark s ≡ 0
  unfolding distance_to
  crossing_at_0 holds = rw (crosses_if mark s holds)

  pub apart_if_not_crossing : crosses mark s ≡ false → distance_to mark s ≡ min (apart mark s.low) (apart mark s.high)
  unfolding distance_to
  apart_if_not_crossing e = rw e

  -- the mark lies before the stretch, in it, or after it
  where_mark : (mark < s.low) ⊎ (Holds s mark ⊎ (s.high < mark))
  where_mark =
      ⊎_elim inl (λ (low : s.low ≤ mark). inr (⊎_elim inr (λ (high : mark ≤ s.high). inl (low, high)) (lt_or_le s.high mark)))
      (lt_or_le mark s.low)

  not_crossing : (Holds s mark → ⊥) → distance_to mark s ≡ min (apart mark s.low) (apart mark s.high)
  not_crossing outside = apart_if_not_crossing (not-true (crosses mark s) (λ e. outside (crosses_only_if mark s e)))

  -- a stretch before the mark ends at its high end, one after the mark begins at its low end
  pub distance_before : s.low ≤ s.high → mark < s.low → distance_to mark s ≡ s.low - mark
  distance_before in_order before = not_crossing (λ holds. omega arith) ∙ omega arith

  pub distance_after : s.low ≤ s.high → s.high < mark → distance_to mark s ≡ mark - s.high
  distance_after in_order after = not_crossing (λ holds. omega arith) ∙ omega arith

  pub at_0_crossing : s.low ≤ s.high → distance_to mark s ≡ 0 → Holds s mark
  at_0_crossing in_order zero_is =
      ⊎_elim (λ (before : mark < s.low). absurd (omega (arith, distance_before in_order before)))
      (⊎_elim (λ holds. holds) (λ (after : s.high < mark). absurd (omega (arith, distance_after in_order after))))
      where_mark

  pub no_farther : (position : ℕ) → Holds s position → distance_to mark s ≤ apart mark position
  no_farther position (low, high) =
      ⊎_elim (λ (before : mark < s.low). omega (arith, distance_before (omega arith) before))
      (⊎_elim (λ (holds : Holds s mark). omega (arith, crossing_at_0 holds))
      (λ (after : s.high < mark). omega (arith, distance_after (omega arith) after)))
      where_mark

-- ---- the order of stretches

module _ (mark : ℕ) (s other : Stretch) where
  before_only_if : goes_before mark s other ≡ true
      → (distance_to mark s < distance_to mark other) ⊎ ((distance_to mark s ≡ distance_to mark other) × (s.low < other.low))
  unfolding goes_before
  before_only_if = go (ltb (distance_to mark s) (distance_to mark other)) refl
    where
      go : (nearer : Bool) → ltb (distance_to mark s) (distance_to mark other) ≡ nearer
          → (nearer || eqb (distance_to mark s) (distance_to mark other) && ltb s.low other.low) ≡ true
          → (distance_to mark s < distance_to mark other) ⊎ ((distance_to mark s ≡ distance_to mark other) × (s.low < other.low))
      go true is e = inl (ltb-true _ _ is)
      go false is e =
          inr (
            eqb-true _ _ (and_true_left (eqb (distance_to mark s) (distance_to mark other)) _ e),
            ltb-true _ _ (and_true_right (eqb (distance_to mark s) (distance_to mark other)) _ e),
          )

  not_before : goes_before mark s other ≡ false
      → (distance_to mark other ≤ distance_to mark s) × (distance_to mark s ≡ distance_to mark other → other.low ≤ s.low)
  unfolding goes_before
  not_before e = (
    ltb-false _ _ (or_false_left (ltb (distance_to mark s) (distance_to mark other)) _ e),
    λ same. ltb-false _ _
        (rw (eq-eqb _ _ same) at (or_false_right (ltb (distance_to mark s) (distance_to mark other)) _ e)),
  )

-- ---- the nearest

-- what holds of the place that is kept, against place i
pub record Kept (mark : ℕ) (stretch : ℕ → Stretch) (place i : ℕ) : Type 0 where
  pub no_farther_off : distance_to mark (stretch place) ≤ distance_to mark (stretch i)
  pub no_higher : distance_to mark (stretch place) ≡ distance_to mark (stretch i) → (stretch place).low ≤ (stretch i).low
  pub lower_than_earlier : i < place → distance_to mark (stretch place) ≡ distance_to mark (stretch i) → (stretch place).low < (stretch i).low

module _ (mark : ℕ) (stretch : ℕ → Stretch) where
  in_list : (m : ℕ) → nearest_up_to mark stretch m ≤ m
  unfolding nearest_up_to
  in_list zero = omega arith
  in_list (suc m) =
      by_test (λ (place : ℕ). place ≤ suc m) (goes_before mark (stretch (suc m)) (stretch (nearest_up_to mark stretch m)))
      (λ _. omega arith) (λ _. omega (arith, in_list m))

  kept_own : (m : ℕ) → Kept mark stretch m m
  kept_own m = record { no_farther_off = omega arith; no_higher = λ _. omega arith; lower_than_earlier = λ l. absurd (omega arith) }

  -- a later stretch that goes before the one kept goes before all that it went before
  kept_later : (place later i : ℕ) → goes_before mark (stretch later) (stretch place) ≡ true → Kept mark stretch place i
      → Kept mark stretch later i
  kept_later place later i before kept =
      ⊎_elim
      (λ (nearer : distance_to mark (stretch later) < distance_to mark (stretch place)).
      record {
        no_farther_off = omega (arith, kept.no_farther_off);
        no_higher = λ same. absurd (omega (arith, kept.no_farther_off));
        lower_than_earlier = λ _ same. absurd (omega (arith, kept.no_farther_off));
      })
      (λ (lower : (distance_to mark (stretch later) ≡ distance_to mark (stretch place)) × ((stretch later).low < (stretch place).low)).
      record {
        no_farther_off = omega (arith, kept.no_farther_off, lower.0);
        no_higher = λ same. omega (arith, kept.no_higher (sym lower.0 ∙ same), lower.1);
        lower_than_earlier = λ _ same. omega (arith, kept.no_higher (sym lower.0 ∙ same), lower.1);
      })
      (before_only_if mark (stretch later) (stretch place) before)

  kept_still : (place later : ℕ) → place < later → goes_before mark (stretch later) (stretch place) ≡ false → Kept mark stretch place later
  kept_still place later earlier not =
      let (farther, higher) = not_before mark (stretch later) (stretch place) not in
      record { no_farther_off = farther; no_higher = λ same. higher (sym same); lower_than_earlier = λ l. absurd (omega arith) }

  kept : (m i : ℕ) → i ≤ m → Kept mark stretch (nearest_up_to mark stretch m) i
  unfolding nearest_up_to
  kept zero i l = let e : i ≡ 0 = omega arith in rw e (kept_own 0)
  kept (suc m) i l =
      let place = nearest_up_to mark stretch m in
      by_test (λ (place : ℕ). Kept mark stretch place i) (goes_before mark (stretch (suc m)) (stretch place))
      (λ before. ⊎_elim (λ e. rw e (kept_own (suc m))) (λ below. kept_later place (suc m) i before (kept m i (le_of_suc-le-suc below)))
      (eq-or-lt_of_le l))
      (λ not. ⊎_elim (λ e. rw e (kept_still place (suc m) (omega (arith, in_list m)) not)) (λ below. kept m i (le_of_suc-le-suc below))
      (eq-or-lt_of_le l))

  -- a place that is answered is in the list, and what is kept there holds against every place
  pub found : (count place : ℕ) → nearest_of mark stretch count ≡ Some place
      → (place < count) × ((i : ℕ) → i < count → Kept mark stretch place i)
  unfolding nearest_of
  found zero place e = let z : ◌≡◌ {A = ℕ} 0 1 = cc in absurd (omega arith)
  found (suc m) place e =
      let same : nearest_up_to mark stretch m ≡ place = cc in
      rw (← same) (omega (arith, in_list m), λ i l. kept m i (le_of_suc-le-suc l))

  -- some place is answered of some trams; none of no trams, and only of none
  pub some_found : (count : ℕ) → 0 < count → (place : ℕ) × (nearest_of mark stretch count ≡ Some place)
  unfolding nearest_of
  some_found zero inhabited = absurd (omega arith)
  some_found (suc m) inhabited = (nearest_up_to mark stretch m, refl)

  pub of_no_trams : (count : ℕ) → count ≡ 0 → nearest_of mark stretch count ≡ None
  unfolding nearest_of
  of_no_trams zero e = refl
  of_no_trams (suc m) e = absurd (omega arith)

  pub none_found : (count : ℕ) → nearest_of mark stretch count ≡ None → count ≡ 0
  unfolding nearest_of
  none_found zero e = refl
  none_found (suc m) e = let z : ◌≡◌ {A = ℕ} 0 1 = cc in absurd (omega arith)
