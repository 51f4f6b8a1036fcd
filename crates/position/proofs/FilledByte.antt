-- A chunk put down byte by byte: each byte takes what the chunk has at its places, and no other place changes. Where the places from the
-- chunk's first on are 0, they have the chunk's bits in the end. Assumes nothing.
use mathlib.Core.Path.{◌≡◌, sym, ◌∙◌}
use mathlib.Core.Bool.{cond}
use mathlib.Core.List.{List}
use mathlib.Core.Logic.{⊎_elim}
use Prim.Native.Nat.{ℕ, ◌+◌, ◌*◌, ◌/◌, ◌%◌, ◌^◌, ◌≤◌, ◌<◌}
use native.Mathlib.Nat.{le_dest}
use native.Mathlib.Omega.{arith}
use borrow.Author.Tests.{lt-ltb, le-ltb}
use lib.Bits.{bit_xor}
use lib.Dec.{ltb}
use lib.ListN.{length, get_or, set}
use Rattle.bits.specs.Sums.{difference, join_at}
use Rattle.bits.specs.Places.{bit, place, cut}
use Rattle.bits.proofs.Binary.{bit_bit, bit_xor_lem, bit_high, bit_zero}
use Rattle.bits.proofs.Joins.{join_left, join_right}
use Rattle.bits.proofs.Numbers.{eq_or_ne, lt_or_le}
use Rattle.bits.proofs.Places.{cut_below, cut_above, place_bit, places_of_byte, place_set_here, place_set_elsewhere}
use Rattle.bits.proofs.Shifts.{moved_below, moved_above, moved_down, remainder_kept, remainder_above}

-- a value that stands from place `at` on, with zeros before it
abbrev pub chunk : (at value : ℕ) → ℕ → ℕ
chunk at value = join_at at (λ p. 0) (bit value)

-- `rest` is what is left of the chunk from byte j on
abbrev pub LeftFrom : (at value j rest : ℕ) → Type 0
LeftFrom at value j rest = (k : ℕ) → bit rest k ≡ chunk at value (8 * j + k)

-- the places of `word` before byte j are those of `before` with the chunk's added, and the others are as they were
abbrev pub FilledTo : (before : List ℕ) (at value j : ℕ) (word : List ℕ) → Type 0
FilledTo before at value j word =
    (p : ℕ) → place word p ≡ cond (ltb p (8 * j)) (difference (place before p) (chunk at value p)) (place before p)

module _ (at value : ℕ) where
  -- ---- what is left of the chunk

  -- moved up in its first byte, in 128 bits: all of it, since it has 64
  pub left_whole : value < 2 ^ 64 → LeftFrom at value (at / 8) (value * 2 ^ (at % 8) % 2 ^ 128)
  left_whole narrow k =
      ⊎_elim
      (λ (l : k < at % 8).
      remainder_kept 128 (value * 2 ^ (at % 8)) k (omega arith) ∙ moved_below (at % 8) value k l
      ∙ sym (join_left at (λ p. 0) (bit value) (8 * (at / 8) + k) (omega arith)))
      (λ (l : at % 8 ≤ k).
      let s = le_dest l in
      let here : 8 * (at / 8) + (at % 8 + s.0) ≡ at + s.0 = omega arith in
      rw (← s.1, here) (kept s.0 ∙ sym (join_right at (λ p. 0) (bit value) s.0)))
      (lt_or_le k (at % 8))
    where
      kept : (s : ℕ) → bit (value * 2 ^ (at % 8) % 2 ^ 128) (at % 8 + s) ≡ bit value s
      kept s =
          ⊎_elim
          (λ (l : at % 8 + s < 128). remainder_kept 128 (value * 2 ^ (at % 8)) (at % 8 + s) l ∙ moved_above (at % 8) value s)
          (λ (l : 128 ≤ at % 8 + s).
          remainder_above 128 (value * 2 ^ (at % 8)) (at % 8 + s) l ∙ sym (bit_high value 64 s narrow (omega arith)))
          (lt_or_le (at % 8 + s) 128)

  pub left_behind : (j rest : ℕ) → LeftFrom at value j rest → LeftFrom at value (j + 1) (rest / 2 ^ 8)
  left_behind j rest left k =
      let next : 8 * j + (8 + k) ≡ 8 * (j + 1) + k = omega arith in moved_down 8 rest k ∙ rw next at (left (8 + k))

  -- nothing is left where the rest is 0
  pub nothing_left : (j : ℕ) → LeftFrom at value j 0 → (p : ℕ) → 8 * j ≤ p → chunk at value p ≡ 0
  nothing_left j left p h = let k = le_dest h in rw (← k.1) (sym (left k.0) ∙ bit_zero k.0)

  -- ---- the word

  pub none_filled : (before : List ℕ) → FilledTo before at value (at / 8) before
  none_filled before p =
      ⊎_elim
      (λ (l : p < 8 * (at / 8)).
      rw (lt-ltb p (8 * (at / 8)) l, join_left at (λ p. 0) (bit value) p (omega arith)) (omega (arith, place_bit before p)))
      (λ (l : 8 * (at / 8) ≤ p). rw (le-ltb p (8 * (at / 8)) l))
      (lt_or_le p (8 * (at / 8)))

  pub byte_filled : (before word : List ℕ) (j rest : ℕ) → j < length word
      → LeftFrom at value j rest → FilledTo before at value j word
      → FilledTo before at value (j + 1) (set word j (bit_xor (get_or word j 0) (rest % 2 ^ 8)))
  byte_filled before word j rest inside left so_far p = ⊎_elim here elsewhere (eq_or_ne (p / 8) j)
    where
      byte : ℕ
      byte = bit_xor (get_or word j 0) (rest % 2 ^ 8)

      more : ℕ
      more = cond (ltb p (8 * (j + 1))) (difference (place before p) (chunk at value p)) (place before p)

      here : p / 8 ≡ j → place (set word j byte) p ≡ more
      here e =
          let q : ℕ = p % 8 in
          let at_p : 8 * j + q ≡ p = omega arith in
          let held : bit (get_or word j 0) q ≡ place before p =
          sym (places_of_byte word j q (omega arith)) ∙ rw at_p (so_far p ∙ rw (le-ltb p (8 * j) (omega arith))) in
          let taken : bit (rest % 2 ^ 8) q ≡ chunk at value p =
          remainder_kept 8 rest q (omega arith) ∙ rw at_p at (left q) in
          place_set_here word j byte p inside e
          ∙ rw (bit_xor_lem (get_or word j 0) (rest % 2 ^ 8) q, held, taken, lt-ltb p (8 * (j + 1)) (omega arith))

      elsewhere : (p / 8 ≡ j → ⊥) → place (set word j byte) p ≡ more
      elsewhere ne =
          place_set_elsewhere word j byte p ne ∙ so_far p
          ∙ ⊎_elim
          (λ (l : p < 8 * j). rw (lt-ltb p (8 * j) l, lt-ltb p (8 * (j + 1)) (omega arith)))
          (λ (l : 8 * j ≤ p). rw (le-ltb p (8 * j) l, le-ltb p (8 * (j + 1)) (omega arith)))
          (lt_or_le p (8 * j))

  -- where nothing is left of the chunk, and the places from `at` on were 0, they are the value's, which has `len` bits
  pub all_filled : (before word : List ℕ) (j len : ℕ) → ((p : ℕ) → 8 * j ≤ p → p < at + len → chunk at value p ≡ 0)
      → value < 2 ^ len → ((p : ℕ) → at ≤ p → place before p ≡ 0)
      → FilledTo before at value j word → (p : ℕ) → place word p ≡ join_at at (place before) (cut len (bit value)) p
  all_filled before word j len none narrow free all p =
      added ∙ ⊎_elim before_at (λ (l : at ≤ p). let k = le_dest l in rw (← k.1) (from_at k.0)) (lt_or_le p at)
    where
      past : (k : ℕ) → len ≤ k → chunk at value (at + k) ≡ 0
      past k l = join_right at (λ p. 0) (bit value) k ∙ bit_high value len k narrow l

      zero : 8 * j ≤ p → chunk at value p ≡ 0
      zero h =
          ⊎_elim (none p h)
          (λ (l : at + len ≤ p). let k = le_dest l in
          let here : at + len + k.0 ≡ at + (len + k.0) = omega arith in rw (← k.1, here) (past (len + k.0) (omega arith)))
          (lt_or_le p (at + len))

      added : place word p ≡ difference (place before p) (chunk at value p)
      added =
          all p
          ∙ ⊎_elim (λ (l : p < 8 * j). rw (lt-ltb p (8 * j) l))
          (λ (l : 8 * j ≤ p). rw (le-ltb p (8 * j) l, zero l) (omega (arith, place_bit before p)))
          (lt_or_le p (8 * j))

      before_at : p < at → difference (place before p) (chunk at value p) ≡ join_at at (place before) (cut len (bit value)) p
      before_at l =
          rw (join_left at (λ p. 0) (bit value) p l, join_left at (place before) (cut len (bit value)) p l)
          (omega (arith, place_bit before p))

      from_at : (k : ℕ)
          → difference (place before (at + k)) (chunk at value (at + k)) ≡ join_at at (place before) (cut len (bit value)) (at + k)
      from_at k =
          rw (free (at + k) (omega arith), join_right at (place before) (cut len (bit value)) k)
          (⊎_elim
          (λ (l : k < len). rw (join_right at (λ p. 0) (bit value) k, cut_below len (bit value) k l) (omega (arith, bit_bit value k)))
          (λ (l : len ≤ k). rw (past k l, cut_above len (bit value) k l))
          (lt_or_le k len))
