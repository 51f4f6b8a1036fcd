-- The trams that a caller in C hands over as lows and highs, stretch by stretch, and those of them that the library is shown. Assumes
-- nothing.
use mathlib.Core.Path.{◌≡◌, sym, ◌∙◌}
use mathlib.Core.List.{List}
use Prim.Native.Nat.{ℕ, ◌+◌, ◌<◌, min}
use native.Mathlib.Omega.{arith}
use lib.ListN.{get_or, set, replicate, length, take, length-take}
use lib.Seq.{ext_get_or}
use borrow.Author.Tests.{lt-ltb}
use Rattle.std.proofs.lemmas.List.{get_or-take}
use Rattle.bits.proofs.Places.{length_list_of, get_or_list_of}
use Rattle.bits.proofs.FilledLists.{filled, filled_none, filled_more}
use Rattle.model.specs.declared.Stretch.{Stretch}
use Rattle.dunnavish.specs.Crossing.{trams_lent, most_handed}

abbrev pub no_stretch : Stretch
no_stretch = record { low = 0; high = 0 }

module _ (lows highs : List ℕ) where
  -- the stretch at place j, and a buffer in which those below i are put down
  abbrev lent_stretch : (j : ℕ) → Stretch
  lent_stretch j = record { low = get_or lows j 0; high = get_or highs j 0 }

  abbrev pub put_down : (i : ℕ) → List Stretch
  put_down i = filled most_handed lent_stretch no_stretch i

  pub none_put_down : replicate most_handed no_stretch ≡ put_down 0
  none_put_down = filled_none most_handed lent_stretch no_stretch

  pub one_put_down : (i : ℕ) → i < most_handed → set (put_down i) i (lent_stretch i) ≡ put_down (i + 1)
  one_put_down = filled_more most_handed lent_stretch no_stretch

  -- all that there are, or as many as are handed on
  pub all_put_down : let held = min (length lows) most_handed in take held (put_down held) ≡ take most_handed (trams_lent lows highs)
  unfolding trams_lent
  all_put_down =
      let held : ℕ = min (length lows) most_handed in
      let long : length (put_down held) ≡ most_handed = length_list_of most_handed _ in
      let count : length (trams_lent lows highs) ≡ length lows = length_list_of (length lows) _ in
      ext_get_or no_stretch (take held (put_down held)) (take most_handed (trams_lent lows highs))
      (length-take held (put_down held) ∙ rw long (sym (length-take most_handed (trams_lent lows highs) ∙ rw count (omega arith))))
      (λ i below.
      let inside : i < held = omega (arith, length-take held (put_down held)) in
      get_or-take held (put_down held) i no_stretch inside
      ∙ (get_or_list_of most_handed _ no_stretch i (omega arith) ∙ rw (lt-ltb i held inside))
      ∙ sym (get_or-take most_handed (trams_lent lows highs) i no_stretch (omega arith) ∙ get_or_list_of (length lows) _ no_stretch i (omega arith)))
