-- A level is outside if its magnitude is above the limit, or is not a number: an infinite one is above every number, like any other.
-- Assumes nothing.
use mathlib.Core.Path.{◌≡◌, refl, sym, ◌∙◌}
use mathlib.Core.Bool.{true, false, true≢false}
use lib.IntN.{pos}
use lib.Ieee.{Float, nan, inf, fin, binary32, lt, neg, is_nan, of_int}
use Rattle.bits.proofs.Numbers.{by_test}
use Rattle.model.specs.Levels.{zero_level, magnitude, infinite, outside}

above_a_million : (x : Float) → lt (of_int binary32 (pos 1000000)) (magnitude x) ≡ true → outside x ≡ true
unfolding outside is_nan infinite
above_a_million nan above = refl
above_a_million (inf s) above = refl
above_a_million (fin s m e) above = above

not_above_a_million : (x : Float) → lt (of_int binary32 (pos 1000000)) (magnitude x) ≡ false → outside x ≡ is_nan (magnitude x)
unfolding outside is_nan infinite magnitude lt neg of_int
not_above_a_million nan below = refl
not_above_a_million (inf true) below = absurd (true≢false below)
not_above_a_million (inf false) below = absurd (true≢false below)
not_above_a_million (fin s m e) below =
    below ∙ sym (by_test (λ y. is_nan y ≡ false) (lt (fin s m e) zero_level) (λ _. refl) (λ _. refl))

-- the same of the code's own limit, which must be a million, and of the magnitude m that it computes
module _ (x : Float) {limit m : Float} (million : limit ≡ of_int binary32 (pos 1000000)) (is : m ≡ magnitude x) where
  pub above_is_outside : lt limit m ≡ true → outside x ≡ true
  above_is_outside above = above_a_million x (rw (million, is) at above)

  pub not_above : lt limit m ≡ false → outside x ≡ is_nan m
  not_above below = rw is (not_above_a_million x (rw (million, is) at below))
