-- A tram among those that hold a track and those that wait, as the library tests slots and entries for it. Assumes nothing.
use Rattle.std.proofs.Common.{◌≡◌, ap, refl, sym, ◌∙◌, ℕ, List, ◌∷◌, ◌++◌, [], eqb, Bool}
use mathlib.Core.Bool.{◌||◌, ◌&&◌}
use Rattle.std.proofs.Math.Bool.{or_assoc}
use Rattle.std.specs.List.{list_any}
use Rattle.model.specs.Yard.{holders, among, taken, number_in}
use Rattle.model.specs.declared.Slot.{Slot}
use Rattle.model.specs.declared.Slot.TheVariants.{Free, Held}
use Rattle.model.specs.contracts.SlotPartialEq.TheImpl as slot

-- the derived equality: a slot is held by this tram
pub eq_held : (s : Slot) (tram : ℕ) → slot.ghosts.eq s (Held tram) ≡ (taken s && eqb (number_in s) tram)
eq_held (Free number) tram = refl
eq_held (Held holder) tram = refl

pub among_holders : (tram : ℕ) (slots : List Slot) → list_any (λ s. slot.ghosts.eq s (Held tram)) slots ≡ among tram (holders slots)
unfolding among holders
among_holders tram [] = refl
among_holders tram (Free number ∷ slots) = among_holders tram slots
among_holders tram (Held holder ∷ slots) = ap (λ (b : Bool). eqb holder tram || b) (among_holders tram slots)

pub among_append : (tram : ℕ) (xs ys : List ℕ) → among tram (xs ++ ys) ≡ (among tram xs || among tram ys)
unfolding among
among_append tram [] ys = refl
among_append tram (x ∷ xs) ys =
    ap (λ (b : Bool). eqb x tram || b) (among_append tram xs ys) ∙ sym (or_assoc (eqb x tram) (among tram xs) (among tram ys))
