-- The entries after a place moved up by one, and the last place emptied, are the entries without the one at the place. Assumes nothing.
use Rattle.std.proofs.Common.{◌≡◌, sym, ap, ◌∙◌, List, [], ◌∷◌, ℕ, zero, suc, ◌+◌, length, get_or, drop, set, arith, drop-cons}
use Rattle.std.proofs.lemmas.List.{take_all, drop_all, set_at}
use lib.Seq.{paste}
use native.Mathlib.Nat.{zero-add, suc-add, suc-ne-zero}
use Rattle.model.specs.Yard.{no_entry}
use Rattle.model.specs.declared.Waiting.{Waiting}
use Rattle.yard.specs.Entries.{without_place}

pub last_emptied : (waiting : List Waiting) (place more : ℕ) → length waiting ≡ suc (place + more)
    → set (paste waiting place (drop (suc place) waiting) more) (place + more) no_entry ≡ without_place place waiting
unfolding without_place
last_emptied [] place more size = absurd (suc-ne-zero _ (sym size))
last_emptied (w ∷ ws) zero more size =
    let as_many : length ws ≡ more = omega (arith, size) in
    let seam : drop more (w ∷ ws) ≡ get_or (w ∷ ws) more no_entry ∷ [] =
    drop-cons (w ∷ ws) more no_entry (omega (arith, as_many))
    ∙ ap (λ (r : List Waiting). get_or (w ∷ ws) more no_entry ∷ r) (drop_all more ws (omega (arith, as_many))) in
    rw (zero-add more, take_all more ws (omega (arith, as_many)), seam) (set_at ws (get_or (w ∷ ws) more no_entry) [] no_entry more as_many)
last_emptied (w ∷ ws) (suc place) more size =
    rw (suc-add place more) (ap (λ (r : List Waiting). w ∷ r) (last_emptied ws place more (omega (arith, size))))
