-- Document 02, P8: all trams wholly within two marks. Assumes nothing.
use Rattle.std.specs.Prelude.{Bool, ◌&&◌, List, ℕ, leb}
use Rattle.model.specs.Trams.{Trams, TramsAnswer, trams_refusal, each_tram_answer}
use Rattle.model.specs.declared.Stretch.{Stretch}

-- a stretch lies wholly within two marks: low at least the first, high at most the second
unfoldable pub lies_within : (first second : ℕ) → Stretch → Bool
lies_within first second s = leb first s.low && leb s.high second

-- the refusal's number, or 0
abbrev pub within_refusal : (card : List ℕ) → Trams → (first second : ℕ) → ℕ
within_refusal card trams first second = trams_refusal card trams first second

-- the answer
abbrev pub within_answer : (card : List ℕ) → Trams → (first second : ℕ) → TramsAnswer
within_answer card trams first second = each_tram_answer (lies_within first second) card trams first second
