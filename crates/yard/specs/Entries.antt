-- The entries of waiting trams without one of them, as the code removes it by its place. Assumes nothing.
use Rattle.std.specs.Prelude.{List, [], ◌∷◌, ◌++◌, ℕ, zero, suc}
use Rattle.model.specs.Yard.{no_entry}
use Rattle.model.specs.declared.Waiting.{Waiting}

-- the entries without the one at a place: those after it move up, and the last place is empty
unfoldable pub without_place : (place : ℕ) → List Waiting → List Waiting
without_place place [] = []
without_place zero (w ∷ ws) = ws ++ (no_entry ∷ [])
without_place (suc place) (w ∷ ws) = w ∷ without_place place ws
