-- Document 02, P8: all trams crossing a mark. Assumes nothing.
use Rattle.std.specs.Prelude.{Bool, ◌&&◌, List, ℕ, leb}
use Rattle.model.specs.Trams.{Trams, TramsAnswer, trams_refusal, each_tram_answer}
use Rattle.model.specs.declared.Stretch.{Stretch}

-- a stretch crosses the mark: low at most the mark, high at least the mark
unfoldable pub crosses : (mark : ℕ) → Stretch → Bool
crosses mark s = leb s.low mark && leb mark s.high

-- the refusal's number, or 0
abbrev pub crossing_refusal : (card : List ℕ) → Trams → (mark : ℕ) → ℕ
crossing_refusal card trams mark = trams_refusal card trams mark mark

-- the answer
abbrev pub crossing_answer : (card : List ℕ) → Trams → (mark : ℕ) → TramsAnswer
crossing_answer card trams mark = each_tram_answer (crosses mark) card trams mark mark
