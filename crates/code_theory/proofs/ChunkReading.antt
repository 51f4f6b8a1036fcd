-- What a chunk reads as by a search: the first of so many codewords that is near enough, by any test and any count. A search that has
-- passed over the codewords before p and finds p near has read the chunk. The reading of a chunk depends on its n places alone, and
-- its status and values are those that the definitions expect. Assumes nothing.
use mathlib.Core.Path.{◌≡◌, refl, sym, ap, ap₂, fun_ext, ◌∙◌}
use mathlib.Core.Bool.{Bool, true, false, cond, not, false≢true}
use mathlib.Core.Logic.{⊎_elim}
use Prim.Native.Nat.{ℕ, ◌+◌, ◌-◌, ◌*◌, ◌/◌, ◌^◌, ◌<◌, ◌≤◌}
use native.Mathlib.Omega.{arith}
use lib.Dec.{leb, ltb}
use borrow.Author.Tests.{lt-ltb, le-ltb, le-leb, lt-leb}
use Rattle.bits.specs.Sums.{everywhere}
use Rattle.bits.specs.Places.{bit}
use Rattle.bits.specs.Searches.{first}
use Rattle.bits.proofs.Numbers.{lt_or_le}
use Rattle.bits.proofs.Erasures.{all_unerased, none_erased, unerased_ext, erased_ext}
use Rattle.bits.proofs.Searches.{first_is, first_holds, first_none}
use Rattle.model.specs.Refusals.{first_refusal, if_served}
use Rattle.model.specs.Card.{Code, radius}
use Rattle.model.specs.Reading.{chunk_distance, within_radius, read_first, chunk_reading, chunk_refusal, chunk_expected, chunk_status, chunk_values}
use Rattle.model.specs.Order.{codeword}
use Rattle.model.specs.Levels.{chunk_wrong, within_erasures, erasure_reading}
use Rattle.model.specs.Reading.{Chunk, Codeword, Unreadable, number_read, differing_read, unreadable}

module _ (near : ℕ → Bool) (count : ℕ → ℕ) (many : ℕ) where
  abbrev found : ℕ
  found = first near many

  -- what a chunk reads as, by whether a near codeword was found
  reading_found : found < many → read_first near count many ≡ Codeword found (count found)
  unfolding read_first
  reading_found l = rw (lt-ltb found many l)

  reading_none : many ≤ found → read_first near count many ≡ Unreadable
  unfolding read_first
  reading_none l = rw (le-ltb found many l)

  -- a search that passed over the codewords before p and found p near reads p
  pub reading_first : (p : ℕ) → p < many → ((j : ℕ) → j < p → near j ≡ false) → near p ≡ true
      → read_first near count many ≡ Codeword p (count p)
  reading_first p l before here =
      let is_p : found ≡ p = first_is near many p l here before in
      reading_found (omega arith) ∙ ap (λ (i : ℕ). Codeword i (count i)) is_p

  -- a search that passed over all codewords reads nothing
  pub reading_passed : ((j : ℕ) → j < many → near j ≡ false) → read_first near count many ≡ Unreadable
  reading_passed before = reading_none (omega (arith, first_none near many before))

  -- what is read is near
  pub reading_near : (p e : ℕ) → read_first near count many ≡ Codeword p e → (p < many) × (near p ≡ true) × (e ≡ count p)
  unfolding number_read differing_read unreadable
  reading_near p e r =
      ⊎_elim
      (λ (l : found < many).
      let same : Codeword p e ≡ Codeword found (count found) = sym r ∙ reading_found l in
      let is_p : p ≡ found = ap number_read same in
      let is_e : e ≡ count found = ap differing_read same in
      (rw is_p l, rw is_p (first_holds near many l), rw is_p is_e))
      (λ (l : many ≤ found).
      let clash : Codeword p e ≡ Unreadable = sym r ∙ reading_none l in
      let no : ◌≡◌ {A = Bool} false true = ap unreadable clash in absurd (false≢true no))
      (lt_or_le found many)

-- chunks that below n have the same unerased places and the same bits read alike
pub erasure_reading_ext : (C : Code) {unerased unerased' : ℕ → Bool} {x y : ℕ → ℕ} → ((p : ℕ) → p < C.n → unerased p ≡ unerased' p)
    → ((p : ℕ) → p < C.n → x p ≡ y p) → erasure_reading C unerased x ≡ erasure_reading C unerased' y
unfolding erasure_reading within_erasures chunk_wrong
erasure_reading_ext C {unerased} same-unerased same =
    ap₂ (λ (wrong : ℕ → ℕ) (erased : ℕ). read_first (λ i. ltb (2 * wrong i + erased) C.D) wrong (2 ^ C.k))
    (fun_ext (λ i. unerased_ext C.n same-unerased (λ p b. refl) same)) (erased_ext C.n same-unerased)

-- where nothing is erased, 2 × wrong + erased is below D within the radius, and only there
module _ (C : Code) where
  pub plain_count : (x : ℕ → ℕ) → chunk_distance C x ≡ chunk_wrong C everywhere x
  unfolding chunk_distance chunk_wrong
  plain_count x = fun_ext (λ p. sym (all_unerased C.n (bit (codeword C p)) x))

  half : (D wrong erased : ℕ) → 1 ≤ D → erased ≡ 0 → leb wrong ((D - 1) / 2) ≡ ltb (2 * wrong + erased) D
  half D wrong erased pos none =
      ⊎_elim (λ (l : 2 * wrong < D). le-leb wrong ((D - 1) / 2) (omega arith) ∙ sym (lt-ltb (2 * wrong + erased) D (omega arith)))
      (λ (l : D ≤ 2 * wrong). lt-leb wrong ((D - 1) / 2) (omega arith) ∙ sym (le-ltb (2 * wrong + erased) D (omega arith)))
      (lt_or_le (2 * wrong) D)

  pub plain_near : 1 ≤ C.D → (x : ℕ → ℕ) → within_radius C x ≡ within_erasures C everywhere x
  unfolding within_radius within_erasures
  plain_near D-pos x =
      fun_ext (λ p.
      ap (λ (count : ℕ → ℕ). leb (count p) (radius C)) (plain_count x)
      ∙ half C.D (chunk_wrong C everywhere x p) _ D-pos (none_erased everywhere C.n (λ q b. refl)))

-- the status and the values of a chunk's reading
abbrev pub ChunkAnswered : (refusal : ℕ) → Code → (x : ℕ → ℕ) → Chunk → Type 0
ChunkAnswered refusal C x read = (chunk_status read ≡ refusal) × (chunk_values read ≡ if_served (chunk_status read) (chunk_expected C x))

pub chunk_answered : (C : Code) (x : ℕ → ℕ) → ChunkAnswered (chunk_refusal C x) C x (chunk_reading C x)
unfolding chunk_reading read_first chunk_refusal first_refusal chunk_expected chunk_status chunk_values if_served
chunk_answered C x = by_found (ltb p (2 ^ C.k))
  where
    p : ℕ
    p = first (within_radius C x) (2 ^ C.k)

    by_found : (t : Bool) → ChunkAnswered (cond (not t) 10 0) C x (cond t (Codeword p (chunk_distance C x p)) Unreadable)
    by_found true = (refl, refl)
    by_found false = (refl, refl)
