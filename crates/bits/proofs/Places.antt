-- The places of byte lists. Any m bits are the bits of one number below 2^m, the sum of the bits, each times its power of two; so
-- packing d places into bytes and reading the places back gives the same places, and 0 past them. Assumes nothing.
use mathlib.Core.Path.{◌≡◌, refl, sym, ap, ◌∙◌}
use mathlib.Core.List.{List, [], ◌∷◌}
use mathlib.Core.Logic.{⊎_elim}
use Prim.Native.Nat.{ℕ, zero, suc, ◌+◌, ◌*◌, ◌/◌, ◌%◌, ◌^◌, ◌≤◌, ◌<◌}
use native.Mathlib.Nat.{eq-or-lt_of_le, le_of_suc-le-suc, le_dest, zero-add, mul-le-mul_right, pow-succ', zero-div, div-eq_of_lt}
use native.Mathlib.Nat.{add-mul-div_right, mod-eq_of_lt, add-mul-mod_self_right}
use native.Mathlib.Omega.{arith}
use lib.ListN.{length, get_or, set, length-append, get_or-append, get_or-eq_default}
use lib.Pow.{pow_pos, pow-add}
use lib.Seq.{ext_get_or, get_or_at, get_or-set_same, get_or-set_other}
use borrow.Author.Tests.{lt-ltb, le-ltb}
use Rattle.bits.specs.Sums.{sum_below}
use Rattle.bits.specs.Places.{bit, place, cut, bytes_for, byte_of, list_of, pack}
use Rattle.bits.proofs.Numbers.{lt_or_le}
use Rattle.bits.proofs.Binary.{bit_ext_below}

-- ---- lists by index

pub length_list_of : {A : Type 0} (m : ℕ) (f : ℕ → A) → length (list_of m f) ≡ m
unfolding list_of
length_list_of zero f = refl
length_list_of (suc m) f = rw (length-append, length_list_of m f) (omega arith)

pub get_or_list_of : {A : Type 0} (m : ℕ) (f : ℕ → A) (past : A) (i : ℕ) → i < m → get_or (list_of m f) i past ≡ f i
unfolding list_of
get_or_list_of zero f past i h = absurd (omega arith)
get_or_list_of (suc m) f past i h =
    let before = list_of m f in
    let len = length_list_of m f in
    ⊎_elim (λ e. rw e (get_or_at before (f m) [] past m len))
    (λ l. get_or-append before (f m ∷ []) past i (omega arith) ∙ get_or_list_of m f past i l)
    (eq-or-lt_of_le (le_of_suc-le-suc h))

-- ---- binary numbers

-- the number whose bits are w(0), …, w(m - 1)
abbrev pub number : (ℕ → ℕ) → ℕ → ℕ
number w m = sum_below (λ q. w q * 2 ^ q) m

pub number_below : (w : ℕ → ℕ) → ((q : ℕ) → w q < 2) → (m : ℕ) → number w m < 2 ^ m
unfolding sum_below
number_below w bits zero = omega arith
number_below w bits (suc m) =
    omega (arith, number_below w bits m, mul-le-mul_right (2 ^ m) (le_of_suc-le-suc (bits m)))

higher_power : (x q k : ℕ) → x * 2 ^ (suc q + k) ≡ x * 2 ^ k * 2 * 2 ^ q
higher_power x q k = rw (pow-add 2 (suc q) k, pow-succ' 2 q) (omega arith)

pub bit_of_number : (w : ℕ → ℕ) → ((q : ℕ) → w q < 2) → (m q : ℕ) → q < m → bit (number w m) q ≡ w q
unfolding sum_below
bit_of_number w bits zero q l = absurd (omega arith)
bit_of_number w bits (suc m) q l =
    let top : bit (number w (suc m)) m ≡ w m =
    rw (add-mul-div_right (number w m) (w m) (pow_pos m), div-eq_of_lt (number_below w bits m), zero-add (w m)) (mod-eq_of_lt (bits m)) in
    let below : (k : ℕ) → suc q + k ≡ m → bit (number w (suc m)) q ≡ bit (number w m) q =
    λ k e.
    rw (← e, higher_power (w (suc q + k)) q k, add-mul-div_right (number w (suc q + k)) (w (suc q + k) * 2 ^ k * 2) (pow_pos q))
    (add-mul-mod_self_right (number w (suc q + k) / 2 ^ q) (w (suc q + k) * 2 ^ k) 2) in
    ⊎_elim (λ e. rw e top)
    (λ k. below (le_dest k).0 (le_dest k).1 ∙ bit_of_number w bits m q k)
    (eq-or-lt_of_le (le_of_suc-le-suc l))

-- ---- places

pub place_bit : (b : List ℕ) (p : ℕ) → place b p < 2
unfolding place
place_bit b p = omega arith

pub cut_below : (d : ℕ) (u : ℕ → ℕ) (p : ℕ) → p < d → cut d u p ≡ u p
unfolding cut
cut_below d u p h = rw (lt-ltb p d h)

pub cut_above : (d : ℕ) (u : ℕ → ℕ) (p : ℕ) → d ≤ p → cut d u p ≡ 0
unfolding cut
cut_above d u p h = rw (le-ltb p d h)

cut_bit : (d : ℕ) (u : ℕ → ℕ) → ((p : ℕ) → u p < 2) → (p : ℕ) → cut d u p < 2
cut_bit d u bits p =
    ⊎_elim (λ h. rw (cut_below d u p h) (bits p)) (λ h. rw (cut_above d u p h) (omega arith)) (lt_or_le p d)

-- ---- packing

pub length_pack : (d : ℕ) (u : ℕ → ℕ) → length (pack d u) ≡ bytes_for d
unfolding pack
length_pack d u = length_list_of (bytes_for d) (byte_of (cut d u))

past_pack : (d : ℕ) (u : ℕ → ℕ) (i : ℕ) → bytes_for d ≤ i → get_or (pack d u) i 0 ≡ 0
past_pack d u i h = let past : length (pack d u) ≤ i = rw (length_pack d u) h in get_or-eq_default (pack d u) 0 past

-- each byte is below 256
pub byte_of_places : (d : ℕ) (u : ℕ → ℕ) → ((p : ℕ) → u p < 2) → (i : ℕ) → get_or (pack d u) i 0 < 256
unfolding pack byte_of
byte_of_places d u bits i =
    ⊎_elim
    (λ h.
    rw (get_or_list_of (bytes_for d) (byte_of (cut d u)) 0 i h)
    (number_below (λ q. cut d u (8 * i + q)) (λ q. cut_bit d u bits (8 * i + q)) 8))
    (λ h. rw (past_pack d u i h) (omega arith))
    (lt_or_le i (bytes_for d))

-- the places that are read back are those that were packed, and 0 past them
pub place_pack : (d : ℕ) (u : ℕ → ℕ) → ((p : ℕ) → u p < 2) → (p : ℕ) → place (pack d u) p ≡ cut d u p
unfolding pack byte_of place
place_pack d u bits p =
    let split : 8 * (p / 8) + p % 8 ≡ p = omega arith in
    ⊎_elim
    (λ h.
    rw (get_or_list_of (bytes_for d) (byte_of (cut d u)) 0 (p / 8) h)
    (bit_of_number (λ q. cut d u (8 * (p / 8) + q)) (λ q. cut_bit d u bits (8 * (p / 8) + q)) 8 (p % 8) (omega arith)
    ∙ ap (cut d u) split))
    (λ h. rw (past_pack d u (p / 8) h, cut_above d u p (omega arith), zero-div))
    (lt_or_le (p / 8) (bytes_for d))

-- the first d places, and the spare ones
pub place_packed : (d : ℕ) (u : ℕ → ℕ) → ((p : ℕ) → u p < 2) → (p : ℕ) → p < d → place (pack d u) p ≡ u p
place_packed d u bits p h = place_pack d u bits p ∙ cut_below d u p h

pub place_spare : (d : ℕ) (u : ℕ → ℕ) → ((p : ℕ) → u p < 2) → (p : ℕ) → d ≤ p → place (pack d u) p ≡ 0
place_spare d u bits p h = place_pack d u bits p ∙ cut_above d u p h

-- the places of byte i
pub places_of_byte : (l : List ℕ) (i q : ℕ) → q < 8 → place l (8 * i + q) ≡ bit (get_or l i 0) q
unfolding place
places_of_byte l i q h =
    let which : (8 * i + q) / 8 ≡ i = omega arith in let at : (8 * i + q) % 8 ≡ q = omega arith in rw (which, at)

-- a list with byte j set: its places there are the bits of that byte, and elsewhere what they were
pub place_set_here : (l : List ℕ) (j b p : ℕ) → j < length l → p / 8 ≡ j → place (set l j b) p ≡ bit b (p % 8)
unfolding place
place_set_here l j b p inside e = rw (e, get_or-set_same l j b 0 inside)

pub place_set_elsewhere : (l : List ℕ) (j b p : ℕ) → (p / 8 ≡ j → ⊥) → place (set l j b) p ≡ place l p
unfolding place
place_set_elsewhere l j b p ne = rw (get_or-set_other l j (p / 8) b 0 ne)

-- bytes with the same places are the same
pub same_places : (l m : List ℕ) → length l ≡ length m → ((i : ℕ) → get_or l i 0 < 256) → ((i : ℕ) → get_or m i 0 < 256)
    → ((p : ℕ) → p < 8 * length l → place l p ≡ place m p) → l ≡ m
same_places l m len bytes-l bytes-m same =
    ext_get_or 0 l m len
    (λ i h. bit_ext_below 8 (get_or l i 0) (get_or m i 0) (bytes-l i) (bytes-m i)
    (λ q k. sym (places_of_byte l i q k) ∙ same (8 * i + q) (omega arith) ∙ places_of_byte m i q k))
