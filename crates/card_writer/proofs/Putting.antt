-- A number put into bytes: its lowest m bytes are the last m of the eight that the library writes it in; and where zeros stand behind
-- used bytes, a number put there is one used field more. Assumes nothing.
use mathlib.Core.Path.{◌≡◌, refl, sym, ◌∙◌}
use mathlib.Core.List.{List, [], ◌++◌, ◌∷◌, append_assoc}
use Prim.Native.Nat.{ℕ, zero, suc, ◌+◌, ◌/◌, ◌%◌, ◌^◌, ◌≤◌}
use native.Mathlib.Nat.{zero-add, suc-add, mul_comm, pow-suc, div-div-eq-div-mul}
use lib.ListN.{length, take, drop, replicate, replicate-append-replicate}
use lib.Seq.{take_at, drop_at}
use Rattle.std.specs.Int.{w64, byte_at, bytes_high_first, to_be_bytes}
use Rattle.std.proofs.lemmas.List.{take_all}
use Rattle.model.specs.CardBytes.{bytes_of}
use Rattle.code_theory.proofs.CardFields.{length_bytes, length_padded}
use Rattle.card_writer.specs.WithNumber.{with_number}

-- ---- the last m of eight bytes

-- a byte of a number is the one before it of the number's 256th part
byte_before : (m x : ℕ) → byte_at (suc m) x ≡ byte_at m (x / 256)
byte_before zero x = refl
byte_before (suc m) x =
    rw (div-div-eq-div-mul x 256 (256 ^ suc m), mul_comm 256 (256 ^ suc m), ← pow-suc 256 (suc m))

lowest_last : (m x : ℕ) → bytes_high_first (suc m) x ≡ bytes_high_first m (x / 256) ++ (x % 256 ∷ [])
lowest_last zero x = refl
lowest_last (suc m) x = rw (byte_before m x, lowest_last m x)

lowest_bytes : (m x : ℕ) → bytes_high_first m x ≡ bytes_of m x
unfolding bytes_of
lowest_bytes zero x = refl
lowest_bytes (suc m) x = lowest_last m x ∙ rw (lowest_bytes m (x / 256))

behind_first : (k m x : ℕ) → drop k (bytes_high_first (k + m) x) ≡ bytes_high_first m x
behind_first zero m x = rw (zero-add m)
behind_first (suc k) m x = rw (suc-add k m) (behind_first k m x)

pub last_bytes : (k m n x : ℕ) → k + m ≡ 8 → m ≤ n → take n (drop k (to_be_bytes w64 x)) ≡ bytes_of m x
last_bytes k m n x eight enough =
    let last : drop k (to_be_bytes w64 x) ≡ bytes_of m x = (rw eight at (behind_first k m x)) ∙ lowest_bytes m x in
    rw last (take_all n (bytes_of m x) (rw (length_bytes m x) enough))

-- ---- field by field

pub one_field_more : (used : List ℕ) (at m x spare : ℕ) → length used ≡ at
    → with_number (used ++ replicate (m + spare) 0) at m x ≡ (used ++ bytes_of m x) ++ replicate spare 0
unfolding with_number
one_field_more used at m x spare here =
    let behind : drop (at + m) (used ++ replicate (m + spare) 0) ≡ replicate spare 0 =
    rw (← replicate-append-replicate {A = ℕ} m spare 0, ← append_assoc used (replicate m 0) (replicate spare 0))
    (drop_at (used ++ replicate m 0) (replicate spare 0) (at + m) (length_padded used at m here)) in
    rw (take_at used (replicate (m + spare) 0) at here, behind) (sym (append_assoc used (bytes_of m x) (replicate spare 0)))
