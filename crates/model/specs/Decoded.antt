-- The code that a decoded card means. Assumes nothing.
use Rattle.std.specs.Prelude.{get_or}
use Rattle.model.specs.Card.{Code}
use Rattle.model.specs.declared.DecodedCode.{DecodedCode}

-- the code of a decoded card: its n, k and D, and row z of its rows
abbrev pub meaning : DecodedCode → Code
meaning c = record { n = c.n; k = c.k; row = λ z. get_or c.rows z 0; D = c.distance }
