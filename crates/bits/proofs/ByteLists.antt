-- Lists of bytes: filled entry by entry, and of zeros or of ones alone. In how many bits two of them differ, byte by byte, and as words
-- that are packed into bytes. Assumes nothing.
use mathlib.Core.Path.{◌≡◌, sym, ap, ◌∙◌}
use mathlib.Core.List.{List}
use mathlib.Core.Logic.{⊎_elim}
use Prim.Native.Nat.{ℕ, ◌+◌, ◌*◌, ◌/◌, ◌%◌, ◌≤◌, ◌<◌}
use native.Mathlib.Omega.{arith}
use borrow.Author.Count.{below_more}
use lib.Dec.{eqb}
use lib.ListN.{length, get_or, set, replicate, length-replicate, get_or-replicate, get_or-eq_default}
use lib.Seq.{get_or-set_same, get_or-set_other}
use Rattle.bits.specs.Sums.{distance, distance_unerased, marked}
use Rattle.bits.specs.Places.{bit, bytes_for, place, pack, differing_bits}
use Rattle.bits.proofs.Numbers.{lt_or_le}
use Rattle.bits.proofs.Binary.{bit_zero}
use Rattle.bits.proofs.Shifts.{bit_all_ones}
use Rattle.bits.proofs.Distance.{distance_ext, distance_split, distance_alike_after}
use Rattle.bits.proofs.Erasures.{unerased_ext, unerased_split}
use Rattle.bits.proofs.Places.{places_of_byte, length_pack, place_packed, place_spare}

-- ---- filled entry by entry

-- where the entries below j are those of f, and entry j becomes f's too, those below j + 1 are
pub one_entry_more : (f : ℕ → ℕ) (l : List ℕ) (j b : ℕ) → j < length l → ((i : ℕ) → i < j → get_or l i 0 ≡ f i) → b ≡ f j
    → (i : ℕ) → i < j + 1 → get_or (set l j b) i 0 ≡ f i
one_entry_more f l j b inside so_far is =
    below_more _ j (λ i h. get_or-set_other l j i b 0 (λ e. omega arith) ∙ so_far i h) (get_or-set_same l j b 0 inside ∙ is)

-- ---- zeros: each byte is 0, past the end too, and so is each place

abbrev zeros : ℕ → List ℕ
zeros n = replicate n 0

pub zero_byte : (n i : ℕ) → get_or (zeros n) i 0 ≡ 0
zero_byte n i =
    ⊎_elim (λ (h : i < n). get_or-replicate n i 0 0 h)
    (λ (h : n ≤ i). get_or-eq_default (zeros n) 0 (rw (length-replicate n) h))
    (lt_or_le i n)

pub zero_place : (n p : ℕ) → place (zeros n) p ≡ 0
unfolding place
zero_place n p = rw (zero_byte n (p / 8)) (bit_zero (p % 8))

-- ---- bytes of ones: each place before the end is 1

pub ones_place : (n p : ℕ) → p < 8 * n → place (replicate n 255) p ≡ 1
unfolding place
ones_place n p h = rw (get_or-replicate {A = ℕ} n (p / 8) 255 0 (omega arith)) (bit_all_ones 8 (p % 8) (omega arith))

-- ---- in how many bits two differ

-- one byte more
pub distance_byte : (a b : List ℕ) (j : ℕ)
    → distance (8 * (j + 1)) (place a) (place b)
    ≡ distance (8 * j) (place a) (place b) + distance 8 (bit (get_or a j 0)) (bit (get_or b j 0))
distance_byte a b j =
    let more : 8 * (j + 1) ≡ 8 * j + 8 = omega arith in
    rw (
      more,
      distance_split (8 * j) 8 (place a) (place b),
      distance_ext 8 (places_of_byte a j) (places_of_byte b j),
    )

-- over the places that a third one marks as unerased
pub unerased_byte : (a b h : List ℕ) (j : ℕ)
    → distance_unerased (marked (place h)) (8 * (j + 1)) (place a) (place b)
    ≡ distance_unerased (marked (place h)) (8 * j) (place a) (place b)
    + distance_unerased (marked (bit (get_or h j 0))) 8 (bit (get_or a j 0)) (bit (get_or b j 0))
unerased_byte a b h j =
    let more : 8 * (j + 1) ≡ 8 * j + 8 = omega arith in
    rw (
      more,
      unerased_split (marked (place h)) (8 * j) 8 (place a) (place b),
      unerased_ext 8 (λ q l. ap (λ (c : ℕ). eqb c 1) (places_of_byte h j q l)) (places_of_byte a j) (places_of_byte b j),
    )

-- where their spare bits are alike, in as many as their first d places
pub differing_below : (d : ℕ) (a b : List ℕ) → length a ≡ bytes_for d
    → ((p : ℕ) → d ≤ p → p < 8 * bytes_for d → place a p ≡ place b p) → differing_bits a b ≡ distance d (place a) (place b)
unfolding differing_bits
differing_below d a b len alike =
    rw len (distance_alike_after d (8 * bytes_for d) (place a) (place b) (omega arith) alike)

-- so words that are packed into bytes are as far apart as they were, since the spare bits are zero in both
pub packed_distance : (d : ℕ) {u v : ℕ → ℕ} → ((p : ℕ) → u p < 2) → ((p : ℕ) → v p < 2)
    → differing_bits (pack d u) (pack d v) ≡ distance d u v
packed_distance d {u} {v} hu hv =
    differing_below d (pack d u) (pack d v) (length_pack d u)
    (λ p h l. place_spare d u hu p h ∙ sym (place_spare d v hv p h))
    ∙ distance_ext d (place_packed d u hu) (place_packed d v hv)
