-- The card as it is written: n, k and the track number stand before zeros, then one row more each turn, and last the check, which is that
-- of the 510 bytes before it. Assumes nothing.
use mathlib.Core.Path.{◌≡◌, refl, sym, ◌∙◌}
use mathlib.Core.Bool.{false}
use mathlib.Core.List.{List, [], ◌∷◌, ◌++◌, append_assoc, append-nil}
use Prim.Native.Nat.{ℕ, ◌+◌, ◌-◌, ◌*◌, ◌≤◌, ◌<◌}
use native.Mathlib.Numerals.{add-one}
use native.Mathlib.Omega.{arith}
use lib.ListN.{length, set, replicate, replicate-append-replicate}
use Rattle.model.specs.Card.{computed_check, unused_byte_set}
use Rattle.model.specs.CardBytes.{bytes_of, row_bytes, sealed, card_of}
use Rattle.code_theory.proofs.CardFields.{field_bytes, length_fields, length_padded, check_of_front, unused_padded, card_in_parts}
use Rattle.card_writer.specs.WithNumber.{with_number}
use Rattle.card_writer.proofs.Putting.{one_field_more}

-- the fields up to row z - 1, and zeros
unfoldable pub so_far : (n k track : ℕ) (row : ℕ → ℕ) (z : ℕ) → List ℕ
so_far n k track row z = field_bytes n k track row z ++ replicate (508 - 8 * z) 0

module _ (n k track : ℕ) (row : ℕ → ℕ) where
  pub length_so_far : (z : ℕ) → z ≤ 12 → length (so_far n k track row z) ≡ 512
  unfolding so_far
  length_so_far z h =
      length_padded (field_bytes n k track row z) (4 + 8 * z) (508 - 8 * z) (length_fields n k track row z) ∙ omega arith

  pub no_rows_yet : with_number (set (set (replicate 512 0) 0 n) 1 k) 2 2 track ≡ so_far n k track row 0
  unfolding so_far row_bytes
  no_rows_yet = one_field_more (n ∷ k ∷ []) 2 2 track 508 refl ∙ rw (append-nil (bytes_of 2 track))

  pub one_row_more : (z : ℕ) → z < 12 → with_number (so_far n k track row z) (4 + 8 * z) 8 (row z) ≡ so_far n k track row (z + 1)
  unfolding so_far row_bytes
  one_row_more z h =
      let zeros : 508 - 8 * z ≡ 8 + (508 - 8 * (z + 1)) = omega arith in
      let put =
      one_field_more (field_bytes n k track row z) (4 + 8 * z) 8 (row z) (508 - 8 * (z + 1)) (length_fields n k track row z) in
      rw (zeros, put, add-one z, append_assoc (bytes_of 2 track) (row_bytes row z) (bytes_of 8 (row z)))

  pub unused_zero : unused_byte_set (so_far n k track row 12) ≡ false
  unfolding so_far
  unused_zero = unused_padded (field_bytes n k track row 12) 412 (length_fields n k track row 12)

  -- the zeros behind the rows are those that a card has, and two more, which make room for the check
  pub with_check : with_number (so_far n k track row 12) 510 2 (computed_check (so_far n k track row 12)) ≡ card_of n k track row
  unfolding so_far sealed
  with_check =
      let fields = field_bytes n k track row 12 in
      let body = fields ++ replicate 410 0 in
      let whole = length_padded fields 100 410 (length_fields n k track row 12) in
      let room : fields ++ replicate 412 0 ≡ body ++ replicate 2 0 =
      rw (append_assoc fields (replicate 410 0) (replicate 2 0), replicate-append-replicate {A = ℕ} 410 2 0) in
      rw (room, check_of_front body (replicate 2 0) whole)
      (one_field_more body 510 2 (computed_check body) 0 whole ∙ append-nil _ ∙ sym (card_in_parts n k track row))
