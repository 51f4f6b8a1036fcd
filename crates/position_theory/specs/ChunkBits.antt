-- Document 02, P3 and P5: how many bits a chunk needed, as the contracts of the reading calls state it of the received word and the
-- codeword, over the unerased places, and of the bits that were damaged. Assumes nothing.
use Rattle.std.specs.Prelude.{◌≡◌, Bool, true, false, List, ℕ, ◌+◌, ◌*◌, ◌≤◌, ◌<◌}
use Rattle.bits.specs.Sums.{erased_below}
use Rattle.bits.specs.Places.{place}
use Rattle.model.specs.Card.{Code, radius}
use Rattle.model.specs.Order.{last_codeword}
use Rattle.model.specs.Words.{chunk₁, chunk₂, word_bytes}
use Rattle.model.specs.Reading.{chunk_distance, Seen, seen, rule_seen, names_first, names_second, Rules, two_ends}
use Rattle.model.specs.Levels.{chunk_wrong}
use Rattle.position_theory.specs.Damage.{damaged_in}
use Rattle.position_theory.specs.Nearest.{allowed_by}
use Rattle.std.specs.Prelude.{None, Option, Some}

-- a number is the count of places in which a code chunk and c(p) differ, and it is at most t
abbrev pub CountsDiffering : Code → (chunk : ℕ → ℕ) (p count : ℕ) → Type 0
CountsDiffering C chunk p count = (count ≡ chunk_distance C chunk p) × (count ≤ radius C)

-- what is answered of a code chunk: this count where the rule names the chunk, and where it does not, that the chunk was not read
unfoldable pub CountsBits : Code → (named : Bool) (chunk : ℕ → ℕ) (p : ℕ) → (Option ℕ) → Type 0
CountsBits C true chunk p answered = (count : ℕ) × (answered ≡ Some count) × CountsDiffering C chunk p count
CountsBits C false chunk p answered = answered ≡ None

-- the same of a chunk of which only some places are unerased: the count is that of the wrong ones, and 2 × wrong + erased is below D
unfoldable pub CountsWrong : Code → (named : Bool) (unerased : ℕ → Bool) (chunk : ℕ → ℕ) (p : ℕ) → (Option ℕ) → Type 0
CountsWrong C true unerased chunk p answered =
    (count : ℕ) × (answered ≡ Some count) × (count ≡ chunk_wrong C unerased chunk p) × (2 * count + erased_below unerased C.n < C.D)
CountsWrong C false unerased chunk p answered = answered ≡ None

-- What is counted of both code chunks of a word of which s is seen: the rule is the one that the separators name; the chunks that it
-- names read as one codeword c(p), by which it allows positions; and what is counted of either chunk is its bits against that codeword.
pub record BitsSeen (C : Code) (R : Rules) (s : Seen) (Counts₁ Counts₂ : (named : Bool) (p : ℕ) → (Option ℕ) → Type 0)
    (rule : ℕ) (bits₁ bits₂ : (Option ℕ)) : Type 0 where
  pub by_rule : rule ≡ rule_seen s
  pub p : ℕ
  pub in_code : p ≤ last_codeword C
  pub allows : allowed_by R s ≡ R.range rule p
  pub first : Counts₁ (names_first rule) p bits₁
  pub second : Counts₂ (names_second rule) p bits₂

-- of the received word x, with nothing erased
abbrev pub BitsOfChunks : Code → (x : ℕ → ℕ) (rule : ℕ) (bits₁ bits₂ : (Option ℕ)) → Type 0
BitsOfChunks C x =
    BitsSeen C (two_ends C) (seen C x) (λ named. CountsBits C named (chunk₁ C x)) (λ named. CountsBits C named (chunk₂ C x))

-- of a word x of which these places are unerased
abbrev pub WrongOfChunks : Code → (unerased : ℕ → Bool) (x : ℕ → ℕ) → Seen → (rule : ℕ) (bits₁ bits₂ : (Option ℕ)) → Type 0
WrongOfChunks C unerased x s =
    BitsSeen C (two_ends C) s
    (λ named. CountsWrong C named (chunk₁ C unerased) (chunk₁ C x))
    (λ named. CountsWrong C named (chunk₂ C unerased) (chunk₂ C x))

-- as numbers: a code chunk that the rule names needed as many bits as are damaged in that chunk of the position's word (of the five chunks,
-- 0 to 4, the code chunks are 1 and 3)
abbrev pub AreDamaged : Code → (position : ℕ) (received : List ℕ) (rule bits₁ bits₂ : ℕ) → Type 0
AreDamaged C position received rule bits₁ bits₂ =
    (names_first rule ≡ true → bits₁ ≡ damaged_in C 1 (place (word_bytes C position)) (place received))
    × (names_second rule ≡ true → bits₂ ≡ damaged_in C 3 (place (word_bytes C position)) (place received))
