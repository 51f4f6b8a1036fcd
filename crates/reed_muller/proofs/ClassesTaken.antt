-- The classes of a set, and all sums over them by shifts: what holds as the variables of the set are taken one by one, lowest first.
-- Assumes nothing.
use mathlib.Core.Path.{◌≡◌, sym, ap, ap₂, ◌∙◌}
use mathlib.Core.List.{List}
use mathlib.Core.Logic.{◌⊎◌, inl, inr, ⊎_elim}
use Prim.Native.Nat.{ℕ, ◌+◌, ◌-◌, ◌*◌, ◌%◌, ◌^◌, ◌≤◌, ◌<◌, min}
use native.Mathlib.Nat.{add_comm, le_trans, mod-eq_of_lt}
use native.Mathlib.Omega.{arith}
use lib.Bits.{bit_and, bit_xor, and_le_l}
use lib.Count.{count_trailing_zeros}
use lib.ListN.{get_or}
use lib.Pow.{pow_mono, pow_pos}
use Rattle.bits.specs.Sums.{difference}
use Rattle.bits.specs.Places.{bit}
use Rattle.bits.proofs.Numbers.{lt_or_le, eq_or_ne}
use Rattle.bits.proofs.Binary.{bit_bit, bit_zero, bit_ext, bit_ext_below, bit_and_lem, bit_xor_lem, bit_set_here, bit_set_other, bit_cleared}
use Rattle.bits.proofs.LowestOne.{LowestOne, lowest_one}
use Rattle.bits.proofs.Shifts.{moved_above, remainder_kept, bit_all_ones}
use Rattle.model.specs.ReedMuller.{product, product_row, class_sum}
use Rattle.reed_muller_theory.proofs.Polynomials.{product_bit, product_row_bit, product_row_narrow}
use Rattle.reed_muller_theory.proofs.ClassSums.{has_every_bit, has_if_every, product_more, class_sum_joined, class_sum_alone}
use Rattle.code_theory.proofs.TrailingZeros.{trailing_zeros_is}
use Rattle.reed_muller.specs.Table.{variable_rows}
use Rattle.reed_muller.proofs.Tables.{variable_is}

-- sums and row are those of the part of the set that is done, and the rest is to come
pub record Taken (y set positions sums row rest : ℕ) : Type 0 where
  pub done : ℕ
  pub parts : (v : ℕ) → bit set v ≡ bit done v + bit rest v
  pub summed : (c : ℕ) → c < 64 → product done c ≡ 1 → bit sums c ≡ class_sum 6 done (bit y) c
  pub named : (p : ℕ) → p < 64 → bit row p ≡ min (bit positions p) (product done p)
  pub inside : row ≤ positions

pub none_taken : (y set positions : ℕ) → Taken y set positions y positions set
none_taken y set positions =
    record {
      done = 0;
      parts = λ v. omega (arith, bit_zero v);
      summed = λ c l has. sym (class_sum_alone 6 (bit y) c l ∙ mod-eq_of_lt (bit_bit y c));
      named = λ p l. omega (arith, bit_bit positions p, has_if_every 0 p (λ v. omega (arith, bit_zero v)));
      inside = omega arith;
    }

-- one variable: 2^v, the lowest one of the rest
module _ (y set positions sums row rest others v : ℕ) (is : rest ≡ others + 2 ^ v) (clear : bit others v ≡ 0)
    (before : Taken y set positions sums row rest) where
  here : bit rest v ≡ 1
  here = rw is (bit_set_here others v clear)

  elsewhere : (w : ℕ) → (w ≡ v → ⊥) → bit rest w ≡ bit others w
  elsewhere w ne = rw is (bit_set_other others v clear w ne)

  new : bit before.done v ≡ 0
  new = omega (arith, before.parts v, here, bit_bit set v)

  -- the word added to itself, shifted by 2^v
  shifted : (d : ℕ) → d + 2 ^ v < 64
      → bit (bit_xor sums (sums * 2 ^ 2 ^ v % 2 ^ 64)) (d + 2 ^ v) ≡ difference (bit sums (d + 2 ^ v)) (bit sums d)
  shifted d l =
      bit_xor_lem sums (sums * 2 ^ 2 ^ v % 2 ^ 64) (d + 2 ^ v)
      ∙ ap (difference (bit sums (d + 2 ^ v)))
      (remainder_kept 64 (sums * 2 ^ 2 ^ v) (d + 2 ^ v) l
      ∙ ap (bit (sums * 2 ^ 2 ^ v)) (add_comm d (2 ^ v))
      ∙ moved_above (2 ^ v) sums d)

  sum_more : (d : ℕ) → d + 2 ^ v < 64 → bit d v ≡ 0 → product (before.done + 2 ^ v) (d + 2 ^ v) ≡ 1
      → bit (bit_xor sums (sums * 2 ^ 2 ^ v % 2 ^ 64)) (d + 2 ^ v) ≡ class_sum 6 (before.done + 2 ^ v) (bit y) (d + 2 ^ v)
  sum_more d l none has =
      shifted d l
      ∙ ap₂ difference (before.summed (d + 2 ^ v) l (has_if_every before.done (d + 2 ^ v) (λ w. with_v w (eq_or_ne w v))))
      (before.summed d (omega arith) (has_if_every before.done d (λ w. without_v w (eq_or_ne w v))))
      ∙ sym (class_sum_joined before.done v d new none 6 (bit y))
    where
      every : (w : ℕ) → bit (before.done + 2 ^ v) w ≤ bit (d + 2 ^ v) w
      every w = has_every_bit (before.done + 2 ^ v) (d + 2 ^ v) has w

      without_v : (w : ℕ) → (w ≡ v) ⊎ (w ≡ v → ⊥) → bit before.done w ≤ bit d w
      without_v w (inl e) = rw (e, new) (omega arith)
      without_v w (inr ne) = omega (arith, every w, bit_set_other before.done v new w ne, bit_set_other d v none w ne)

      with_v : (w : ℕ) → (w ≡ v) ⊎ (w ≡ v → ⊥) → bit before.done w ≤ bit (d + 2 ^ v) w
      with_v w (inl e) = rw (e, new) (omega arith)
      with_v w (inr ne) = omega (arith, every w, bit_set_other before.done v new w ne)

  row_more : (variable : ℕ) → variable ≡ product_row 6 (2 ^ v) → (p : ℕ) → p < 64
      → bit (bit_and row variable) p ≡ min (bit positions p) (product (before.done + 2 ^ v) p)
  row_more variable is_row p l =
      bit_and_lem row variable p
      ∙ rw (before.named p l, is_row, product_row_bit 6 (2 ^ v) p l, product_more before.done v p new) (omega arith)

  one_taken : (variable : ℕ) → variable ≡ product_row 6 (2 ^ v)
      → Taken y set positions (bit_xor sums (sums * 2 ^ 2 ^ v % 2 ^ 64)) (bit_and row variable) others
  one_taken variable is_row =
      record {
        done = before.done + 2 ^ v;
        parts = λ w. still w (eq_or_ne w v);
        summed = λ c l has. cleared c l has (bit_cleared c v (one c has));
        named = row_more variable is_row;
        inside = le_trans (and_le_l row variable) before.inside;
      }
    where
      still : (w : ℕ) → (w ≡ v) ⊎ (w ≡ v → ⊥) → bit set w ≡ bit (before.done + 2 ^ v) w + bit others w
      still w (inl e) = rw e (omega (arith, before.parts v, here, new, clear, bit_set_here before.done v new))
      still w (inr ne) = omega (arith, before.parts w, elsewhere w ne, bit_set_other before.done v new w ne)

      one : (c : ℕ) → product (before.done + 2 ^ v) c ≡ 1 → bit c v ≡ 1
      one c has = omega (arith, has_every_bit (before.done + 2 ^ v) c has v, bit_set_here before.done v new, bit_bit c v)

      cleared : (c : ℕ) → c < 64 → product (before.done + 2 ^ v) c ≡ 1 → (d : ℕ) × (c ≡ d + 2 ^ v) × (bit d v ≡ 0)
          → bit (bit_xor sums (sums * 2 ^ 2 ^ v % 2 ^ 64)) c ≡ class_sum 6 (before.done + 2 ^ v) (bit y) c
      cleared c l has (d, is_c, none) = rw is_c (sum_more d (rw is_c at l) none (rw is_c at has))

-- as the loop takes it: the variable is the lowest of the rest, what is left is the rest without it, and the shift is their difference
module _ (rest : ℕ) (some : rest ≡ 0 → ⊥) where
  abbrev others : ℕ
  others = bit_and rest (rest - 1)

  low : LowestOne rest
  low = lowest_one rest (omega arith)

  pub others_less : others < rest
  others_less = omega (arith, low.parts, pow_pos low.v)

  module _ (narrow : rest < 64) where
    low_below : low.v < 6
    low_below =
        ⊎_elim (λ (l : low.v < 6). l) (λ (l : 6 ≤ low.v). omega (arith, low.parts, pow_mono {i = 6} {j = low.v} l)) (lt_or_le low.v 6)

    low_is : count_trailing_zeros 32 rest ≡ low.v
    low_is =
        trailing_zeros_is 32 rest low.v (omega (arith, low_below))
        (ap (λ (x : ℕ). bit x low.v) low.parts ∙ bit_set_here others low.v low.clear) low.none_below

    pub lowest_below : count_trailing_zeros 32 rest < 6
    lowest_below = rw low_is low_below

    pub next_taken : (variables : List ℕ) → variables ≡ variable_rows → (y set positions sums row : ℕ) → Taken y set positions sums row rest
        → Taken y set positions (bit_xor sums (sums * 2 ^ (rest - others) % 2 ^ 64))
        (bit_and row (get_or variables (count_trailing_zeros 32 rest) 0)) others
    next_taken variables are y set positions sums row before =
        let shift : rest - others ≡ 2 ^ low.v = omega (arith, low.parts) in
        rw (shift, low_is)
        (one_taken y set positions sums row rest others low.v low.parts low.clear before _
        (variable_is variables are low.v low_below))

-- all of them
module _ (y set positions sums row rest : ℕ) (taken : Taken y set positions sums row rest) (none : rest ≡ 0) where
  all : set ≡ taken.done
  all = bit_ext set taken.done (λ v. omega (arith, taken.parts v, ap (λ (x : ℕ). bit x v) none, bit_zero v))

  pub all_summed : (c : ℕ) → c < 64 → product set c ≡ 1 → bit sums c ≡ class_sum 6 set (bit y) c
  all_summed c l has = rw all (taken.summed c l (rw all at has))

  pub product_taken : (m : ℕ) → m ≤ 6 → positions ≡ 2 ^ 2 ^ m - 1 → row ≡ product_row m set
  product_taken m six are =
      bit_ext_below (2 ^ m) row (product_row m set) (omega (arith, taken.inside, pow_pos (2 ^ m))) (product_row_narrow m set)
      (λ p l.
      let one : bit positions p ≡ 1 = rw are (bit_all_ones (2 ^ m) p l) in
      taken.named p (omega (arith, pow_mono {i = m} {j = 6} six))
      ∙ rw (one, ← all) (omega (arith, product_bit set p))
      ∙ sym (product_row_bit m set p l))
