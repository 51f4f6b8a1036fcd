-- How often a tram is in a list: a tram is not among these exactly if it is so 0 times, and none is twice exactly if each is so at most once.
-- Counts add up and change by one a call, where order would not stay. Assumes nothing.
use mathlib.Core.Path.{◌≡◌, refl, sym, ap, subst, ◌∙◌}
use mathlib.Core.Bool.{true, false, cond, false≢true}
use mathlib.Core.List.{List, [], ◌∷◌, ◌++◌}
use mathlib.Core.Logic.{⊎_elim}
use Prim.Native.Nat.{ℕ, zero, suc, ◌+◌, ◌≤◌, ◌<◌}
use native.Mathlib.Nat.{zero-add}
use native.Mathlib.Omega.{arith}
use borrow.Author.Tests.{eq-eqb, ne_eqb}
use lib.Dec.{eqb}
use lib.ListN.{length, get_or, set}
use Rattle.bits.proofs.Numbers.{eq_or_ne, true_or_false, or_false_left, or_false_right}
use Rattle.model.specs.Yard.{free_slot, taken, holders, among, any_twice}
use Rattle.model.specs.declared.Slot.{Slot}
use Rattle.model.specs.declared.Slot.TheVariants.{Free, Held}

-- 1 for the tram itself, and 0 for any other
abbrev pub is_tram : (x y : ℕ) → ℕ
is_tram x y = cond (eqb y x) 1 0

unfoldable pub times : (x : ℕ) → List ℕ → ℕ
times x [] = 0
times x (y ∷ ys) = is_tram x y + times x ys

pub times_append : (x : ℕ) (ys zs : List ℕ) → times x (ys ++ zs) ≡ times x ys + times x zs
unfolding times
times_append x [] zs = sym (zero-add (times x zs))
times_append x (y ∷ ys) zs = let rest = times_append x ys zs in omega (arith, rest)

pub itself : (x : ℕ) → is_tram x x ≡ 1
itself x = rw (eq-eqb x x refl)

-- ---- among these, or not

pub among_times : (x : ℕ) (ys : List ℕ) → among x ys ≡ false → times x ys ≡ 0
unfolding among times
among_times x [] none = refl
among_times x (y ∷ ys) none =
    let here = or_false_left (eqb y x) (among x ys) none in
    rw here (zero-add (times x ys) ∙ among_times x ys (or_false_right (eqb y x) (among x ys) none))

pub times_among : (x : ℕ) (ys : List ℕ) → times x ys ≡ 0 → among x ys ≡ false
unfolding among times
times_among x [] none = refl
times_among x (y ∷ ys) none =
    ⊎_elim
    (λ (here : eqb y x ≡ true). absurd (let some = rw here at none in omega arith))
    (λ (other : eqb y x ≡ false). rw other (times_among x ys (let rest = rw other at none in omega arith)))
    (true_or_false (eqb y x))

-- ---- twice, or not

pub once : (ys : List ℕ) → any_twice ys ≡ false → (x : ℕ) → times x ys ≤ 1
unfolding any_twice times
once [] none x = omega arith
once (y ∷ ys) none x =
    let rest = once ys (or_false_right (among y ys) (any_twice ys) none) x in
    ⊎_elim
    (λ (here : y ≡ x).
    let no_more = subst (λ z. times z ys ≡ 0) here (among_times y ys (or_false_left (among y ys) (any_twice ys) none)) in
    rw (eq-eqb y x here) (omega (arith, no_more)))
    (λ (other : y ≡ x → ⊥). rw (ne_eqb y x other) (omega (arith, rest)))
    (eq_or_ne y x)

pub none_twice : (ys : List ℕ) → ((x : ℕ) → times x ys ≤ 1) → any_twice ys ≡ false
unfolding any_twice times
none_twice [] at_most = refl
none_twice (y ∷ ys) at_most =
    let own = itself y in
    rw (times_among y ys (let all = at_most y in omega arith)) (none_twice ys (λ x. let all = at_most x in omega arith))

-- ---- the trams that hold a track, when a slot changes

abbrev pub in_slot : (x : ℕ) → Slot → ℕ
in_slot x (Free number) = 0
in_slot x (Held tram) = is_tram x tram

pub in_free : (x : ℕ) (s : Slot) → taken s ≡ false → in_slot x s ≡ 0
in_free x (Free number) is = refl
in_free x (Held tram) is = absurd (false≢true (sym is))

times_slot : (x : ℕ) (s : Slot) (slots : List Slot) → times x (holders (s ∷ slots)) ≡ in_slot x s + times x (holders slots)
unfolding times holders
times_slot x (Free number) slots = sym (zero-add (times x (holders slots)))
times_slot x (Held tram) slots = refl

pub times_set : (x : ℕ) (slots : List Slot) (track : ℕ) (s : Slot) → track < length slots
    → times x (holders (set slots track s)) + in_slot x (get_or slots track free_slot) ≡ times x (holders slots) + in_slot x s
times_set x [] track s inside = absurd (omega (arith, inside))
times_set x (s₀ ∷ slots) zero s inside =
    let before = times_slot x s₀ slots in let after = times_slot x s slots in omega (arith, before, after)
times_set x (s₀ ∷ slots) (suc track) s inside =
    let before = times_slot x s₀ slots in
    let after = times_slot x s₀ (set slots track s) in
    let rest = times_set x slots track s (omega (arith, inside)) in
    omega (arith, before, after, rest)

-- a tram that holds a track is among the holders
pub holds_once : (x : ℕ) (slots : List Slot) (track : ℕ) → get_or slots track free_slot ≡ Held x → 1 ≤ times x (holders slots)
holds_once x [] track is = absurd (false≢true (ap taken is))
holds_once x (s ∷ slots) zero is =
    let own : in_slot x s ≡ 1 = ap (in_slot x) is ∙ itself x in let all = times_slot x s slots in omega (arith, own, all)
holds_once x (s ∷ slots) (suc track) is =
    let rest = holds_once x slots track is in let all = times_slot x s slots in omega (arith, rest, all)
