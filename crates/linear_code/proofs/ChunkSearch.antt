-- The search for the first codeword near to x: what holds as it stands at codeword i, that a codeword that is too far is passed, and
-- what the two ways out of the search have found. The places in which codeword and chunk differ are the ones of their
-- exclusive-or, and these are met one after the other. Assumes nothing.
use mathlib.Core.Path.{◌≡◌, sym, ap, ◌∙◌}
use mathlib.Core.Bool.{Bool, true, false}
use mathlib.Core.Logic.{⊎_elim}
use Prim.Native.Nat.{ℕ, ◌+◌, ◌-◌, ◌^◌, ◌≤◌, ◌<◌}
use native.Mathlib.Omega.{arith}
use lib.Bits.{bit_and, bit_xor, xor_comm, xor_zero_l}
use lib.Count.{count_trailing_zeros, ones}
use Rattle.bits.proofs.Binary.{xor_assoc}
use Rattle.bits.proofs.LowestOne.{one_fewer}
use Rattle.bits.proofs.Numbers.{eq_or_ne}
use Rattle.model.specs.Reading.{read_first}
use Rattle.code_theory.proofs.ChunkReading.{reading_first, reading_passed}
use Rattle.linear_code.specs.FirstWithin.{rows_distance}
use Rattle.code_theory.proofs.GrayStep.{AtSet, set_start, set_next}
use Rattle.model.specs.Reading.{Codeword, Unreadable}

-- ---- the bits of one codeword

-- one bit more is met: those counted and those left are still all the ones of d
pub one_counted : (d count rest : ℕ) → count + ones rest ≡ ones d → (rest ≡ 0 → ⊥)
    → count + 1 + ones (bit_and rest (rest - 1)) ≡ ones d
one_counted d count rest all more = omega (arith, one_fewer rest (omega arith))

-- what the count shows at its end: it is the whole count, or it is past t and so is the whole
pub record Counted (t d count : ℕ) : Type 0 where
  pub whole : count ≤ t → count ≡ ones d
  pub past : t < count → t < ones d

pub counted_all : (t d count rest : ℕ) → count + ones rest ≡ ones d → rest ≡ 0 → Counted t d count
unfolding ones
counted_all t d count rest all none =
    let same : count ≡ ones d = omega (arith, ap ones none) in record { whole = λ l. same; past = λ l. omega arith }

pub counted_past : (t d count rest : ℕ) → count + ones rest ≡ ones d → (rest ≡ 0 → ⊥) → t < count + 1 → Counted t d (count + 1)
counted_past t d count rest all more far =
    record { whole = λ l. absurd (omega arith); past = λ l. omega (arith, one_fewer rest (omega arith)) }

-- ---- the codewords, by any test of which are near to the chunk

-- the search stands at codeword i of last, `apart` is where it and the chunk x differ, and the codewords before it are not near
pub record AtCandidate (k : ℕ) (row : ℕ → ℕ) (x : ℕ) (near : ℕ → Bool) (last apart i : ℕ) : Type 0 where
  pub word : ℕ
  pub at : AtSet k row last word i
  pub differ : apart ≡ bit_xor word x
  pub passed : (j : ℕ) → j < i → near j ≡ false

-- a row added to the codeword is added to the places in which it and x differ
differ_next : (word x row : ℕ) → bit_xor (bit_xor word x) row ≡ bit_xor (bit_xor word row) x
differ_next word x row = rw (xor_assoc word x row, xor_comm x row, ← xor_assoc word row x)

module _ (k : ℕ) (row : ℕ → ℕ) (x : ℕ) (near : ℕ → Bool) where
  pub search_starts : (two : ℕ) → two ≡ 2 ^ k → AtCandidate k row x near (two - 1) x 0
  search_starts two e = record { word = 0; at = set_start e; differ = sym (xor_zero_l x); passed = λ j b. absurd (omega arith) }

  module _ (last apart i : ℕ) (stand : AtCandidate k row x near last apart i) where
    -- this codeword is not near either
    passed_too : near i ≡ false → (j : ℕ) → j < i + 1 → near j ≡ false
    passed_too here j b = ⊎_elim (λ (e : j ≡ i). rw e here) (λ (ne : j ≡ i → ⊥). stand.passed j (omega arith)) (eq_or_ne j i)

    pub search_goes_on : k ≤ 12 → i < last → near i ≡ false
        → AtCandidate k row x near last (bit_xor apart (row (count_trailing_zeros 32 (i + 1)))) (i + 1)
    search_goes_on twelve more here =
        record {
          word = bit_xor stand.word (row (count_trailing_zeros 32 (i + 1)));
          at = set_next twelve stand.at more;
          differ = rw stand.differ (differ_next stand.word x _);
          passed = passed_too here;
        }

    pub search_found : (count : ℕ → ℕ) (differing : ℕ) → differing ≡ count i → near i ≡ true
        → Codeword i differing ≡ read_first near count (2 ^ k)
    search_found count differing e here =
        ap (Codeword i) e
        ∙ sym (reading_first near count (2 ^ k) i (omega (arith, stand.at.end, stand.at.within)) stand.passed here)

    pub search_failed : (count : ℕ → ℕ) → i ≡ last → near i ≡ false → Unreadable ≡ read_first near count (2 ^ k)
    search_failed count done here =
        sym (reading_passed near count (2 ^ k) (λ j b. passed_too here j (omega (arith, stand.at.end))))

-- the ones of `apart` are the count of this search
pub bits_apart : {k x last apart i : ℕ} {row : ℕ → ℕ} {near : ℕ → Bool} → AtCandidate k row x near last apart i
    → ones apart ≡ rows_distance k row x i
bits_apart stand = rw (stand.differ, stand.at.current)
