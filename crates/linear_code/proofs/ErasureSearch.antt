-- The search over the unerased places: rows and chunk are cut to these places, so the sums of rows are codewords cut to them, and the
-- ones counted are the wrong places. That these are at most (D - 1 - erased) / 2 is the same as 2 × wrong + erased below D. A chunk with
-- nothing erased is a plain one. Assumes nothing.
use mathlib.Core.Path.{◌≡◌, refl, sym, ap, ap₂, fun_ext, ◌∙◌}
use mathlib.Core.Bool.{Bool}
use mathlib.Core.List.{List}
use mathlib.Core.Logic.{⊎_elim}
use Prim.Native.Nat.{ℕ, zero, suc, ◌+◌, ◌-◌, ◌*◌, ◌/◌, ◌^◌, ◌≤◌, ◌<◌}
use native.Mathlib.Nat.{zero-mul, one-mul}
use native.Mathlib.Omega.{arith}
use borrow.Author.Tests.{eq-eqb, lt-ltb, le-ltb, le-leb, lt-leb}
use lib.Bits.{bit_and, bit_xor, and_zero_l}
use lib.Count.{ones}
use lib.Dec.{leb, ltb}
use lib.ListN.{get_or}
use Rattle.bits.specs.Sums.{erased_below, marked, everywhere}
use Rattle.bits.specs.Places.{bit}
use Rattle.bits.proofs.Numbers.{lt_or_le}
use Rattle.bits.proofs.Binary.{bit_bit}
use Rattle.bits.proofs.Masks.{and_xor, cut_distance}
use Rattle.bits.proofs.Shifts.{bit_all_ones}
use Rattle.model.specs.Card.{Code, sum_of_rows}
use Rattle.model.specs.Order.{gray, codeword}
use Rattle.model.specs.Reading.{read_first, chunk_reading, chunk_refusal, chunk_expected, chunk_status, chunk_values}
use Rattle.model.specs.Refusals.{if_served}
use Rattle.model.specs.Levels.{chunk_wrong, within_erasures, erasure_reading}
use Rattle.code_theory.specs.Promise.{Sound}
use Rattle.code_theory.proofs.LeastDistance.{codeword_narrow}
use Rattle.code_theory.proofs.ChunkReading.{reading_passed, erasure_reading_ext, chunk_answered}
use Rattle.code_theory.proofs.Promise.{promise, plain_reading}
use Rattle.linear_code.specs.FirstWithin.{rows_distance, rows_within, first_within}
use Rattle.model.specs.Reading.{Chunk, Unreadable}

-- ---- rows cut to the unerased places

-- rows cut to the places of h have sums cut to them
rows_cut : (row cut_row : ℕ → ℕ) (h k g : ℕ) → ((z : ℕ) → z < k → cut_row z ≡ bit_and (row z) h)
    → sum_of_rows cut_row k g ≡ bit_and (sum_of_rows row k g) h
unfolding sum_of_rows
rows_cut row cut_row h zero g cut = sym (and_zero_l h)
rows_cut row cut_row h (suc k) g cut =
    rw (rows_cut row cut_row h k g (λ z l. cut z (omega arith)), cut k (omega arith), and_xor (sum_of_rows row k g) (bit g k * row k) h)
    (ap (bit_xor (bit_and (sum_of_rows row k g) h)) (by_bit (bit g k) (bit_bit g k)))
  where
    by_bit : (b : ℕ) → b < 2 → b * bit_and (row k) h ≡ bit_and (b * row k) h
    by_bit zero l = rw (zero-mul (bit_and (row k) h), zero-mul (row k)) (sym (and_zero_l h))
    by_bit (suc zero) l = rw (one-mul (bit_and (row k) h), one-mul (row k))
    by_bit (suc (suc b)) l = absurd (omega arith)

-- ---- what the search over them reads

module _ (C : Code) (sound : Sound C) (x h : ℕ) (fits : x < 2 ^ C.n) (mask : h < 2 ^ C.n) where
  abbrev unerased : ℕ → Bool
  unerased = marked (bit h)

  -- where D places or more are erased, no codeword is near
  pub too_many_erased : C.D ≤ erased_below unerased C.n → Unreadable ≡ erasure_reading C unerased (bit x)
  unfolding erasure_reading within_erasures
  too_many_erased all =
      sym (reading_passed _ _ (2 ^ C.k)
      (λ j l. le-ltb (2 * chunk_wrong C unerased (bit x) j + erased_below unerased C.n) C.D (omega arith)))

  -- otherwise the search by cut rows within the limit reads the chunk
  pub search_reads : (rows : List ℕ) → ((z : ℕ) → z < C.k → get_or rows z 0 ≡ bit_and (C.row z) h) → (limit : ℕ)
      → erased_below unerased C.n < C.D → limit ≡ (C.D - 1 - erased_below unerased C.n) / 2
      → first_within C.k rows (bit_and x h) limit ≡ erasure_reading C unerased (bit x)
  unfolding first_within erasure_reading within_erasures chunk_wrong codeword
  search_reads rows cut limit some is-limit =
      ap₂ (λ (near : ℕ → Bool) (count : ℕ → ℕ). read_first near count (2 ^ C.k)) (fun_ext near) (fun_ext counted)
    where
      counted : (j : ℕ) → rows_distance C.k (λ z. get_or rows z 0) (bit_and x h) j ≡ chunk_wrong C unerased (bit x) j
      counted j =
          ap (λ (sum : ℕ). ones (bit_xor sum (bit_and x h))) (rows_cut C.row (λ z. get_or rows z 0) h C.k (gray j) cut)
          ∙ cut_distance C.n (codeword C j) x h (codeword_narrow C sound j) fits mask

      within : (wrong erased D : ℕ) → erased < D → leb wrong ((D - 1 - erased) / 2) ≡ ltb (2 * wrong + erased) D
      within wrong erased D few =
          ⊎_elim
          (λ (l : 2 * wrong + erased < D). le-leb wrong ((D - 1 - erased) / 2) (omega arith) ∙ sym (lt-ltb (2 * wrong + erased) D l))
          (λ (l : D ≤ 2 * wrong + erased). lt-leb wrong ((D - 1 - erased) / 2) (omega arith) ∙ sym (le-ltb (2 * wrong + erased) D l))
          (lt_or_le (2 * wrong + erased) D)

      near : (j : ℕ)
          → rows_within C.k (λ z. get_or rows z 0) (bit_and x h) limit j
          ≡ ltb (2 * chunk_wrong C unerased (bit x) j + erased_below unerased C.n) C.D
      near j = rw (counted j, is-limit) (within (chunk_wrong C unerased (bit x) j) (erased_below unerased C.n) C.D some)

  -- what is said of a plain chunk
  abbrev PlainAnswered : Chunk → Type 0
  PlainAnswered read =
      (h ≡ 2 ^ C.n - 1 → read ≡ chunk_reading C (bit x))
      × ((h ≡ 2 ^ C.n - 1 → chunk_status read ≡ chunk_refusal C (bit x))
      × (h ≡ 2 ^ C.n - 1 → chunk_values read ≡ if_served (chunk_status read) (chunk_expected C (bit x))))

  -- what is read meets the contract
  pub meets : (read : Chunk) → read ≡ erasure_reading C unerased (bit x) → (read ≡ erasure_reading C unerased (bit x)) × PlainAnswered read
  meets read e = (
    e,
    (
      λ all. e ∙ plain all,
      (
        λ all. rw (e ∙ plain all) (chunk_answered C (bit x)).0,
        λ all. rw (e ∙ plain all) (chunk_answered C (bit x)).1,
      ),
    ),
  )
    where
      plain : h ≡ 2 ^ C.n - 1 → erasure_reading C unerased (bit x) ≡ chunk_reading C (bit x)
      plain all =
          erasure_reading_ext C {unerased = unerased} {unerased' = everywhere}
          (λ p b. eq-eqb (bit h p) 1 (ap (λ (m : ℕ). bit m p) all ∙ bit_all_ones C.n p b)) (λ p b. refl)
          ∙ sym (plain_reading C (promise C sound) (bit x))
