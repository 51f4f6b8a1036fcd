-- A card's 512 bytes, read back: a number that stands in m bytes reads as that number, so each field of a written card reads as what was
-- written, and the check as what the bytes before it make. So the card of a sound code is sound, and its code is that code.
-- Assumes nothing.
use mathlib.Core.Path.{◌≡◌, refl, ◌∙◌, fun_ext}
use mathlib.Core.Bool.{false}
use mathlib.Core.List.{List, [], ◌∷◌, ◌++◌, append_assoc, append-nil}
use mathlib.Core.Logic.{⊎_elim}
use Prim.Native.Nat.{ℕ, zero, suc, ◌+◌, ◌*◌, ◌/◌, ◌%◌, ◌^◌, ◌≤◌, ◌<◌}
use native.Mathlib.Nat.{pow-suc, eq-or-lt_of_le, le_of_suc-le-suc, lt_of_lt_of_le}
use native.Mathlib.Omega.{arith}
use borrow.Author.Tests.{lt-ltb, le-ltb}
use lib.IntN.{pos}
use lib.ListN.{length, replicate, length-append, length-replicate, get_or-append}
use lib.Pow.{pow_mono}
use lib.Seq.{get_or_at, get_or-append-add}
use Rattle.bits.proofs.Numbers.{lt_or_le}
use Rattle.bits.proofs.Searches.{any_none}
use Rattle.bits.proofs.Sums.{sum_ext}
use Rattle.bits.proofs.ByteLists.{zero_byte}
use Rattle.model.specs.Card.{byte, high_first, length_of, row_count_of, track_of, row_of, offset_of, stored_check, check_share, computed_check}
use Rattle.model.specs.Card.{Code, code_of, unused_byte_set, offset_outside, SoundCard}
use Rattle.model.specs.CardBytes.{bytes_of, row_bytes, sealed, card_of}
use Rattle.code_theory.specs.Offsets.{OldCard}
use Rattle.code_theory.specs.Promise.{Sound}
use Rattle.code_theory.proofs.Offsets.{old_offset}
use Rattle.code_theory.proofs.SoundCard.{sound_of_tests, test_of_limits, test_of_narrow, test_of_unused, test_of_independent}

-- ---- a number in m bytes

pub length_bytes : (m x : ℕ) → length (bytes_of m x) ≡ m
unfolding bytes_of
length_bytes zero x = refl
length_bytes (suc m) x = rw (length-append, length_bytes m (x / 256)) (omega arith)

-- the last byte, taken to what follows
pub last_byte : (m x : ℕ) (after : List ℕ) → bytes_of (suc m) x ++ after ≡ bytes_of m (x / 256) ++ (x % 256 ∷ after)
unfolding bytes_of
last_byte m x after = append_assoc (bytes_of m (x / 256)) (x % 256 ∷ []) after

-- a number with one byte more
high_first_suc : (b : List ℕ) (i m : ℕ) → high_first b i (suc m) ≡ high_first b i m * 256 + byte b (i + m)
unfolding high_first
high_first_suc b i m = refl

-- it reads as that number where it stands
read_back : (before : List ℕ) (m x : ℕ) (after : List ℕ) (at : ℕ) → length before ≡ at → x < 256 ^ m
    → high_first (before ++ (bytes_of m x ++ after)) at m ≡ x
unfolding high_first
read_back before zero x after at here h = omega arith
read_back before (suc m) x after at here h =
    let high = bytes_of m (x / 256) in
    let fits : x / 256 < 256 ^ m = omega (arith, pow-suc 256 m) in
    let there : length (before ++ high) ≡ at + m = rw (length-append, length_bytes m (x / 256), here) in
    let last : byte (before ++ (high ++ (x % 256 ∷ after))) (at + m) ≡ x % 256 =
    rw (← append_assoc before high (x % 256 ∷ after)) (get_or_at (before ++ high) (x % 256) after 0 (at + m) there) in
    high_first_suc (before ++ (bytes_of (suc m) x ++ after)) at m
    ∙ rw (last_byte m x after, read_back before m (x / 256) (x % 256 ∷ after) at here fits, last) (omega arith)

-- ---- rows

length_rows : (row : ℕ → ℕ) (z : ℕ) → length (row_bytes row z) ≡ 8 * z
unfolding row_bytes
length_rows row zero = refl
length_rows row (suc z) = rw (length-append, length_rows row z, length_bytes 8 (row z)) (omega arith)

-- row z of m rows reads as that row
row_back : (before : List ℕ) (row : ℕ → ℕ) (m : ℕ) (after : List ℕ) (at z : ℕ) → length before ≡ at → z < m → row z < 2 ^ 64
    → high_first (before ++ (row_bytes row m ++ after)) (at + 8 * z) 8 ≡ row z
unfolding row_bytes
row_back before row zero after at z here h fits = absurd (omega arith)
row_back before row (suc m) after at z here h fits =
    let last : z ≡ m → high_first (before ++ (row_bytes row m ++ (bytes_of 8 (row m) ++ after))) (at + 8 * z) 8 ≡ row z =
    λ e.
    let there : length (before ++ row_bytes row m) ≡ at + 8 * m = rw (length-append, length_rows row m, here) in
    rw (e, ← append_assoc before (row_bytes row m) (bytes_of 8 (row m) ++ after))
    (read_back (before ++ row_bytes row m) 8 (row m) after (at + 8 * m) there (rw e at fits)) in
    rw (append_assoc (row_bytes row m) (bytes_of 8 (row m)) after)
    (⊎_elim last (λ l. row_back before row m (bytes_of 8 (row m) ++ after) at z here l fits) (eq-or-lt_of_le (le_of_suc-le-suc h)))

-- ---- bytes with zeros behind them, and 510 bytes with their check

pub length_padded : (l : List ℕ) (a spare : ℕ) → length l ≡ a → length (l ++ replicate spare 0) ≡ a + spare
length_padded l a spare e = rw (length-append, e, length-replicate)

padded_zero : (l : List ℕ) (a spare i : ℕ) → length l ≡ a → byte (l ++ replicate spare 0) (a + i) ≡ 0
padded_zero l a spare i e = rw (← e) (get_or-append-add l (replicate spare 0) i 0 ∙ zero_byte spare i)

-- where bytes 100 to 509 are zero, no unused byte is set
none_unused : (b : List ℕ) → ((i : ℕ) → i < 410 → byte b (100 + i) ≡ 0) → unused_byte_set b ≡ false
unfolding unused_byte_set
none_unused b zeros =
    any_none _ 406 (λ i l. let here : 104 + i ≡ 100 + (4 + i) = omega arith in rw (here, zeros (4 + i) (omega arith)))

-- so it is where the 100 bytes of the fields have zeros behind them
pub unused_padded : (l : List ℕ) (spare : ℕ) → length l ≡ 100 → unused_byte_set (l ++ replicate spare 0) ≡ false
unused_padded l spare e = none_unused (l ++ replicate spare 0) (λ i h. padded_zero l 100 spare i e)

-- what stands behind the 510 bytes is no part of their check
pub check_of_front : (body after : List ℕ) → length body ≡ 510 → computed_check (body ++ after) ≡ computed_check body
unfolding computed_check
check_of_front body after e =
    let same : (p : ℕ) → p < 510 → check_share (body ++ after) p ≡ check_share body p =
    λ p l. rw (get_or-append body after 0 p (omega arith)) in
    rw (sum_ext {f = check_share (body ++ after)} 510 same)

check_fits : (b : List ℕ) → computed_check b < 65536
unfolding computed_check
check_fits b = omega arith

module _ (body : List ℕ) (whole : length body ≡ 510) where
  length_sealed : length (sealed body) ≡ 512
  unfolding sealed
  length_sealed = rw (length-append, whole, length_bytes 2 (computed_check body))

  byte_sealed : (p : ℕ) → p < 510 → byte (sealed body) p ≡ byte body p
  unfolding sealed
  byte_sealed p l = get_or-append body (bytes_of 2 (computed_check body)) 0 p (omega arith)

  check_sealed : stored_check (sealed body) ≡ computed_check (sealed body)
  unfolding sealed stored_check
  check_sealed =
      let check = computed_check body in
      rw (check_of_front body (bytes_of 2 check) whole, ← append-nil (bytes_of 2 check))
      (read_back body 2 check [] 510 whole (check_fits body))

-- ---- a card

-- n, k, the track number and rows 0 to z - 1
abbrev pub field_bytes : (n k track : ℕ) (row : ℕ → ℕ) (z : ℕ) → List ℕ
field_bytes n k track row z = n ∷ k ∷ (bytes_of 2 track ++ row_bytes row z)

pub length_fields : (n k track : ℕ) (row : ℕ → ℕ) (z : ℕ) → length (field_bytes n k track row z) ≡ 4 + 8 * z
length_fields n k track row z = rw (length-append, length_bytes 2 track, length_rows row z) (omega arith)

module _ (n k track : ℕ) (row : ℕ → ℕ) where
  -- the fields, zeros up to byte 509, and the check
  pub card_in_parts : card_of n k track row ≡ sealed (field_bytes n k track row 12 ++ replicate 410 0)
  unfolding card_of
  card_in_parts = rw (append_assoc (bytes_of 2 track) (row_bytes row 12) (replicate 410 0))

  length_body : length (field_bytes n k track row 12 ++ replicate 410 0) ≡ 510
  length_body = length_padded (field_bytes n k track row 12) 100 410 (length_fields n k track row 12)

  pub length_of_written : length (card_of n k track row) ≡ 512
  length_of_written = rw card_in_parts (length_sealed _ length_body)

  pub check_of_written : stored_check (card_of n k track row) ≡ computed_check (card_of n k track row)
  check_of_written = rw card_in_parts (check_sealed _ length_body)

  zero_past_rows : (i : ℕ) → i < 410 → byte (card_of n k track row) (100 + i) ≡ 0
  zero_past_rows i l =
      let fields = field_bytes n k track row 12 in
      rw card_in_parts
      (byte_sealed _ length_body (100 + i) (omega arith) ∙ padded_zero fields 100 410 i (length_fields n k track row 12))

  pub unused_of_written : unused_byte_set (card_of n k track row) ≡ false
  unused_of_written = none_unused (card_of n k track row) zero_past_rows

  pub offset_of_written : offset_of (card_of n k track row) ≡ pos 0
  unfolding OldCard
  offset_of_written = old_offset _ (λ i l. zero_past_rows i (omega arith))

  -- what stands behind the fields
  behind : List ℕ
  behind = replicate 410 0 ++ bytes_of 2 (computed_check (field_bytes n k track row 12 ++ replicate 410 0))

  fields_first : card_of n k track row ≡ n ∷ k ∷ (bytes_of 2 track ++ (row_bytes row 12 ++ behind))
  unfolding sealed behind
  fields_first = card_in_parts ∙ simp append_assoc

  pub n_of_written : length_of (card_of n k track row) ≡ n
  n_of_written = rw fields_first

  pub k_of_written : row_count_of (card_of n k track row) ≡ k
  k_of_written = rw fields_first

  pub track_of_written : track < 65536 → track_of (card_of n k track row) ≡ track
  unfolding track_of
  track_of_written fits = rw fields_first (read_back (n ∷ k ∷ []) 2 track (row_bytes row 12 ++ behind) 2 refl fits)

  pub row_of_written : (z : ℕ) → z < 12 → row z < 2 ^ 64 → row_of (card_of n k track row) z ≡ row z
  unfolding row_of
  row_of_written z l fits =
      let here : length (n ∷ k ∷ bytes_of 2 track) ≡ 4 = rw (length_bytes 2 track) in
      rw (lt-ltb z 12 l, fields_first) (row_back (n ∷ k ∷ bytes_of 2 track) row 12 behind 4 z here l fits)

  -- all rows at once, where there are none past the twelfth
  pub rows_of_written : ((z : ℕ) → z < 12 → row z < 2 ^ 64) → ((z : ℕ) → 12 ≤ z → row z ≡ 0) → row_of (card_of n k track row) ≡ row
  unfolding row_of
  rows_of_written fits none =
      fun_ext
      (λ z. ⊎_elim (λ l. row_of_written z l (fits z l)) (λ h. rw (le-ltb z 12 h, none z h)) (lt_or_le z 12))

-- ---- a sound code's card: it is sound, and its code is that code

module _ (C : Code) (sound : Sound C) (track : ℕ) (none_past : (z : ℕ) → 12 ≤ z → C.row z ≡ 0) where
  rows_fit : (z : ℕ) → z < 12 → C.row z < 2 ^ 64
  rows_fit z l = lt_of_lt_of_le (sound.narrow z l) (pow_mono {i = C.n} {j = 64} sound.n_high)

  same_rows : row_of (card_of C.n C.k track C.row) ≡ C.row
  same_rows = rows_of_written C.n C.k track C.row rows_fit none_past

  same_n : length_of (card_of C.n C.k track C.row) ≡ C.n
  same_n = n_of_written C.n C.k track C.row

  same_k : row_count_of (card_of C.n C.k track C.row) ≡ C.k
  same_k = k_of_written C.n C.k track C.row

  pub written_card_sound : SoundCard (card_of C.n C.k track C.row)
  unfolding offset_outside
  written_card_sound =
      sound_of_tests _
      record {
        size = length_of_written C.n C.k track C.row;
        check = check_of_written C.n C.k track C.row;
        limits = rw (same_n, same_k) (test_of_limits _ _ sound.n_low sound.n_high sound.k_low sound.k_high sound.k_n);
        rows_within_lem = rw (same_n, same_rows) (test_of_narrow _ _ sound.narrow);
        unused_rows_zero = rw (same_k, same_rows) (test_of_unused _ _ sound.unused);
        unused_bytes_zero = unused_of_written C.n C.k track C.row;
        offset_within = rw (offset_of_written C.n C.k track C.row) refl;
        rows_independent = rw (same_k, same_rows) (test_of_independent _ _ sound.independent);
      }

  pub code_of_written : code_of (card_of C.n C.k track C.row) ≡ C
  unfolding code_of
  code_of_written = rw (same_n, same_k, same_rows, ← sound.least)
