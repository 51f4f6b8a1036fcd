-- D is the least distance of two different codewords. The exclusive-or of two codewords is a codeword, whose weight is their distance, and
-- a nonzero one has weight D at least. So of a chunk at most one codeword has 2 × wrong + erased below D; where nothing is erased, it lies
-- within the radius, less than half of D. Assumes nothing.
use mathlib.Core.Path.{◌≡◌, refl, sym, ap, ◌∙◌}
use mathlib.Core.Bool.{Bool}
use mathlib.Core.Logic.{◌⊎◌, inl, inr, ⊎_elim}
use Prim.Native.Nat.{ℕ, ◌+◌, ◌*◌, ◌^◌, ◌≤◌, ◌<◌}
use native.Mathlib.Nat.{eq-zero-or-pos}
use native.Mathlib.Omega.{arith}
use lib.Bits.{bit_xor, xor_lt}
use lib.Pow.{pow_mono, lt_of_le_ones, le_ones}
use Rattle.bits.specs.Sums.{distance, erased_below, everywhere}
use Rattle.bits.specs.Places.{bit, weight}
use Rattle.bits.proofs.Numbers.{eq_or_ne}
use Rattle.bits.proofs.Distance.{distance_self}
use Rattle.bits.proofs.Erasures.{all_unerased, none_erased, unerased_triangle}
use Rattle.bits.proofs.Binary.{weight_le, weight_xor, eq_of_xor_zero}
use Rattle.model.specs.Card.{Code, sum_of_rows, least_weight, radius}
use Rattle.model.specs.Order.{gray, codeword, last_codeword}
use Rattle.model.specs.Reading.{chunk_distance}
use Rattle.model.specs.Levels.{chunk_wrong}
use Rattle.code_theory.specs.LeastDistance.{LeastDistance, codeword_distance}
use Rattle.code_theory.specs.Promise.{Sound}
use Rattle.code_theory.proofs.Gray.{gray_below, gray_positive, gray_injective, gray_onto}
use Rattle.code_theory.proofs.Codewords.{rows_linear, rows_below, codeword_zero}
use Rattle.code_theory.proofs.LeastWeight.{Attained, least_high, least_le, least_some, least_positive}

module _ (C : Code) (S : Sound C) where
  -- the sum of the rows that g names
  abbrev rows : ℕ → ℕ
  rows = sum_of_rows C.row C.k

  rows_narrow : (g : ℕ) → rows g < 2 ^ C.n
  rows_narrow g = rows_below C.n C.row C.k g (λ z l. S.narrow z (omega (arith, S.k_high)))

  below : (i : ℕ) → i ≤ last_codeword C → i < 2 ^ C.k
  unfolding last_codeword
  below i l = lt_of_le_ones C.k l

  pub codeword_narrow : (i : ℕ) → codeword C i < 2 ^ C.n
  unfolding codeword
  codeword_narrow i = rows_narrow (gray i)

  -- ---- weights

  pub D-low : 1 ≤ C.D
  D-low = rw S.least (least_positive C.n rows S.n_low rows_narrow (2 ^ C.k))

  pub D-high : C.D ≤ C.n
  D-high = rw S.least (least_high C.n rows (2 ^ C.k))

  -- every sum of a nonempty set of rows has weight D at least
  rows_heavy : (g : ℕ) → 0 < g → g < 2 ^ C.k → C.D ≤ weight C.n (rows g)
  rows_heavy g pos l = rw S.least (least_le C.n rows (2 ^ C.k) g l (S.independent g pos l))

  -- every nonzero codeword has weight D at least ...
  codeword_heavy : (i : ℕ) → 0 < i → i ≤ last_codeword C → C.D ≤ weight C.n (codeword C i)
  unfolding codeword
  codeword_heavy i pos l = rows_heavy (gray i) (gray_positive i pos) (gray_below C.k i (below i l))

  -- ... and one has weight D
  abbrev Lightest : Type 0
  Lightest = (i : ℕ) × (0 < i) × (i ≤ last_codeword C) × (weight C.n (codeword C i) ≡ C.D)

  codeword_lightest : Lightest
  unfolding codeword last_codeword
  codeword_lightest = by_least (least_some C.n rows (2 ^ C.k))
    where
      met : (g : ℕ) → (rows g ≡ 0 → ⊥) → weight C.n (rows g) ≡ C.D → (i : ℕ) × (i < 2 ^ C.k) × (gray i ≡ g) → Lightest
      met g ne light (i, l, is-g) =
          let same : codeword C i ≡ rows g = ap rows is-g in
          ⊎_elim (λ (z : i ≡ 0). absurd (ne (sym same ∙ ap (codeword C) z ∙ codeword_zero C)))
          (λ (pos : 0 < i). (i, pos, le_ones C.k l, ap (weight C.n) same ∙ light))
          (eq-zero-or-pos i)

      by_least : (least_weight C.n rows (2 ^ C.k) ≡ C.n) ⊎ Attained C.n rows (2 ^ C.k) → Lightest
      by_least (inl e) =
          let two : 2 ^ 1 ≤ 2 ^ C.k = pow_mono S.k_low in
          let one : 1 ≤ last_codeword C = omega arith in
          (1, omega arith, one, omega (arith, codeword_heavy 1 (omega arith) one, weight_le C.n (codeword C 1), S.least, e))
      by_least (inr (g, l, ne, e)) = met g ne (sym e ∙ sym S.least) (gray_onto C.k g l)

  -- ---- distances

  -- the exclusive-or of two codewords is a sum of rows, and their distance is its weight
  distance_of_codewords : (i j : ℕ) → codeword_distance C i j ≡ weight C.n (rows (bit_xor (gray i) (gray j)))
  unfolding codeword
  distance_of_codewords i j =
      sym (weight_xor C.n (codeword C i) (codeword C j))
      ∙ ap (weight C.n) (sym (rows_linear C.row C.k (gray i) (gray j)))

  -- so codewords of different numbers differ in at least D places
  codewords_apart : (i j : ℕ) → i ≤ last_codeword C → j ≤ last_codeword C → (i ≡ j → ⊥) → C.D ≤ codeword_distance C i j
  codewords_apart i j li lj ne =
      let g : ℕ = bit_xor (gray i) (gray j) in
      rw (distance_of_codewords i j)
      (⊎_elim (λ (z : g ≡ 0). absurd (ne (gray_injective i j (eq_of_xor_zero (gray i) (gray j) z))))
      (λ (pos : 0 < g).
      rows_heavy g pos
      (xor_lt C.k (gray i) (gray j) (gray_below C.k i (below i li)) (gray_below C.k j (below j lj))))
      (eq-zero-or-pos g))

  -- so codewords that differ in fewer than D places are one
  same_if_nearer : (i j : ℕ) → i ≤ last_codeword C → j ≤ last_codeword C → codeword_distance C i j < C.D → i ≡ j
  same_if_nearer i j li lj near =
      ⊎_elim (λ (e : i ≡ j). e) (λ (ne : i ≡ j → ⊥). omega (arith, codewords_apart i j li lj ne)) (eq_or_ne i j)

  pub least_distance : LeastDistance C
  least_distance = record { different = different; apart = codewords_apart; attained = attained codeword_lightest }
    where
      different : (i j : ℕ) → i ≤ last_codeword C → j ≤ last_codeword C → codeword C i ≡ codeword C j → i ≡ j
      different i j li lj e =
          let none : codeword_distance C i j ≡ 0 =
          ap (λ (c : ℕ). distance C.n (bit c) (bit (codeword C j))) e ∙ distance_self C.n (bit (codeword C j)) in
          same_if_nearer i j li lj (omega (arith, D-low))

      attained : Lightest
          → (i : ℕ) × (j : ℕ) × (i ≤ last_codeword C) × (j ≤ last_codeword C) × (i ≡ j → ⊥) × (codeword_distance C i j ≡ C.D)
      attained (i, pos, l, light) = (
        0,
        i,
        omega arith,
        l,
        (λ e. omega arith),
        sym (weight_xor C.n (codeword C 0) (codeword C i))
            ∙ ap (λ (c : ℕ). weight C.n (bit_xor c (codeword C i))) (codeword_zero C)
            ∙ light,
      )

  -- of one chunk, two codewords never both have 2 × wrong + erased below D
  pub one_within_erasures : (unerased : ℕ → Bool) (x : ℕ → ℕ) (i j : ℕ) → i ≤ last_codeword C → j ≤ last_codeword C
      → 2 * chunk_wrong C unerased x i + erased_below unerased C.n < C.D
      → 2 * chunk_wrong C unerased x j + erased_below unerased C.n < C.D → i ≡ j
  unfolding chunk_wrong
  one_within_erasures unerased x i j li lj hi hj =
      same_if_nearer i j li lj (omega (arith, unerased_triangle unerased C.n (bit (codeword C i)) (bit (codeword C j)) x))

  -- so, where nothing is erased, they never both lie within the radius
  pub one_within_radius : (x : ℕ → ℕ) (i j : ℕ) → i ≤ last_codeword C → j ≤ last_codeword C
      → chunk_distance C x i ≤ radius C → chunk_distance C x j ≤ radius C → i ≡ j
  unfolding chunk_distance chunk_wrong
  one_within_radius x i j li lj hi hj =
      let none = none_erased everywhere C.n (λ p b. refl) in
      one_within_erasures everywhere x i j li lj
      (omega (arith, D-low, none, all_unerased C.n (bit (codeword C i)) x))
      (omega (arith, D-low, none, all_unerased C.n (bit (codeword C j)) x))
