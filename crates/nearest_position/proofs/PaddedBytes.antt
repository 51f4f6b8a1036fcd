-- A received word's bytes with zeros behind them: every place keeps its bit, and past the bytes there are zeros in either list. Assumes
-- nothing.
use mathlib.Core.Path.{◌≡◌, refl, sym, ◌∙◌}
use mathlib.Core.List.{List, ◌++◌}
use mathlib.Core.Logic.{⊎_elim}
use Prim.Native.Nat.{ℕ, ◌+◌, ◌-◌, ◌/◌, ◌≤◌, ◌<◌}
use lib.ListN.{length, drop, replicate, get_or-append, get_or-eq_default}
use Rattle.std.proofs.lemmas.List.{get_or-append_right, get_or-drop}
use Rattle.bits.specs.Places.{place}
use Rattle.bits.proofs.ByteLists.{zero_byte}
use Rattle.bits.proofs.Numbers.{lt_or_le}

pub padded : (bytes : List ℕ) (n p : ℕ) → place (bytes ++ drop (length bytes) (replicate n 0)) p ≡ place bytes p
unfolding place
padded bytes n p =
    rw
    (⊎_elim
    (λ (h : p / 8 < length bytes). get_or-append bytes (drop (length bytes) (replicate n 0)) 0 (p / 8) h)
    (λ (h : length bytes ≤ p / 8).
    get_or-append_right bytes (drop (length bytes) (replicate n 0)) (length bytes) (p / 8) 0 refl h
    ∙ get_or-drop (length bytes) (replicate n 0) (p / 8 - length bytes) 0
    ∙ zero_byte n (length bytes + (p / 8 - length bytes))
    ∙ sym (get_or-eq_default bytes 0 h))
    (lt_or_le (p / 8) (length bytes)))
