-- What a search among trams asks of each stretch. Assumes nothing.
use Rattle.std.specs.Prelude.{◌≡◌, Bool}
use Rattle.model.specs.declared.Stretch.{Stretch}

-- whatever is answered of a stretch is what this test is of it
abbrev pub Computes : (answers : Stretch → Bool → Type 0) (test : Stretch → Bool) → Type 0
Computes answers test = (s : Stretch) (answer : Bool) → answers s answer → answer ≡ test s
