-- What the offset leaves as it was. Zero bytes are the offset 0, which is within its range and adds nothing; and the tests for unused
-- bytes from 100 on and from 104 on agree where the four between are zero. A card's code goes by its first 100 bytes. Its refusals, but for
-- the check and 14, go by these, its size and its unused bytes. Assumes nothing.
use mathlib.Core.Path.{◌≡◌, refl, fun_ext}
use mathlib.Core.Bool.{Bool, false, not}
use mathlib.Core.List.{List}
use mathlib.Core.Logic.{⊎_elim}
use Prim.Native.Nat.{ℕ, zero, suc, ◌+◌, ◌*◌, ◌≤◌}
use native.Mathlib.Nat.{zero-add}
use native.Mathlib.Omega.{arith}
use borrow.Author.Tests.{eq-eqb, ne_eqb, lt-ltb, le-ltb}
use lib.Dec.{eqb}
use lib.IntN.{pos}
use Rattle.bits.specs.Searches.{any_below}
use Rattle.bits.proofs.Numbers.{lt_or_le, eq_or_ne}
use Rattle.bits.proofs.Searches.{any_none, any_split, any_ext}
use Rattle.model.specs.Refusals.{first_refusal, unless_refused}
use Rattle.model.specs.Card.{byte, high_first, length_of, row_count_of, track_of, row_of, twos_complement, offset_of, unused_byte_set}
use Rattle.model.specs.Card.{misplaced, offset_outside, card_refusal, code_of}
use Rattle.model.specs.Words.{millimetres_of}
use Rattle.model.specs.CheckCard.{summary_of, card_answer}
use Rattle.model.specs.WriteWord.{write_refusal, write_answer, lent_after_write}
use Rattle.model.specs.ReadWord.{read_refusal, read_answer}
use Rattle.model.specs.ReadLevels.{levels_refusal, levels_answer}
use Rattle.model.specs.BlockStart.{start_refusal, start_answer}
use Rattle.model.specs.Trams.{trams_refusal, each_tram_answer}
use Rattle.model.specs.NearestTram.{nearest_answer}
use Rattle.model.specs.ReleaseTrack.{refusal_ahead_of_word, release_answer}
use Rattle.model.specs.Millimetres.{millimetres_refusal, millimetres_answer}
use Rattle.code_theory.specs.Offsets.{OldCard, old_misplaced, old_card_refusal, old_card_answer, old_millimetres_answer, as_signed}
use Rattle.code_theory.specs.Offsets.{CheckedAsBefore, DistanceAsBefore, CheckPromises, MillimetresPromises}
use Rattle.code_theory.specs.Offsets.{SameButOffset, AnsweredAlike, ReleasesAlike}
use Rattle.std.specs.Prelude.{Ok}
use Rattle.model.specs.Refusals.{Refused}

-- ---- old cards

pub old_offset : (b : List ℕ) → OldCard b → offset_of b ≡ pos 0
unfolding OldCard offset_of twos_complement high_first
old_offset b old = rw (old 0 (omega arith), old 1 (omega arith), old 2 (omega arith), old 3 (omega arith))

old_misplaced_lem : (b : List ℕ) → OldCard b → misplaced b ≡ old_misplaced b
unfolding OldCard misplaced old_misplaced unused_byte_set
old_misplaced_lem b old =
    let set : ℕ → Bool = λ i. not (eqb (byte b (100 + i)) 0) in
    let none : any_below set 4 ≡ false = any_none set 4 (λ i l. rw (old i l)) in
    let place : (i : ℕ) → 100 + (4 + i) ≡ 104 + i = λ i. omega arith in
    rw (any_split set 4 406, none) (simp place)

pub old_refusal : (b : List ℕ) → OldCard b → card_refusal b ≡ old_card_refusal b
unfolding card_refusal old_card_refusal first_refusal offset_outside
old_refusal b old = rw (old_misplaced_lem b old, old_offset b old)

pub checked_as_before : (card : List ℕ) → CheckedAsBefore card (card_answer card)
unfolding CheckedAsBefore card_answer old_card_answer
checked_as_before card old = rw (old_refusal card old)

-- an answer with a number, made signed, is the answer with the signed number
signed_unless_refused : (refusal distance : ℕ)
    → unless_refused refusal Refused (Ok (pos distance)) ≡ as_signed (unless_refused refusal Refused (Ok distance))
unfolding unless_refused as_signed
signed_unless_refused refusal distance =
    ⊎_elim (λ e. rw (eq-eqb refusal 0 e)) (λ ne. rw (ne_eqb refusal 0 ne)) (eq_or_ne refusal 0)

pub distance_as_before : (card : List ℕ) (position : ℕ) → DistanceAsBefore card position (millimetres_answer card position)
unfolding DistanceAsBefore millimetres_answer millimetres_refusal millimetres_of old_millimetres_answer
distance_as_before card position old =
    rw (old_refusal card old, old_offset card old, zero-add (50 * position)) (signed_unless_refused _ (50 * position))

-- so all that is promised of a check and of a distance holds of what the definitions answer
pub check_promises : (card : List ℕ) → CheckPromises card (card_answer card)
check_promises card = record { old_card = checked_as_before card }

pub millimetres_promises : (card : List ℕ) (position : ℕ) → MillimetresPromises card position (millimetres_answer card position)
millimetres_promises card position = record { old_card = distance_as_before card position }

-- ---- two cards with different offsets

module _ (b b' : List ℕ) (same : SameButOffset b b') where
  same_number : (i m : ℕ) → i + m ≤ 100 → high_first b i m ≡ high_first b' i m
  unfolding high_first
  same_number i zero h = refl
  same_number i (suc m) h = rw (same_number i m (omega arith), same.fields (i + m) (omega arith))

  same_rows : row_of b ≡ row_of b'
  unfolding row_of
  same_rows =
      fun_ext
      (λ z. ⊎_elim (λ l. rw (lt-ltb z 12 l, same_number (4 + 8 * z) 8 (omega arith))) (λ h. rw (le-ltb z 12 h)) (lt_or_le z 12))

  same_n : length_of b ≡ length_of b'
  same_n = same.fields 0 (omega arith)

  same_k : row_count_of b ≡ row_count_of b'
  same_k = same.fields 1 (omega arith)

  same_code : code_of b ≡ code_of b'
  unfolding code_of
  same_code = rw (same_n, same_k, same_rows)

  same_misplaced : misplaced b ≡ misplaced b'
  unfolding misplaced unused_byte_set
  same_misplaced =
      let bytes : any_below (λ i. not (eqb (byte b (104 + i)) 0)) 406 ≡ any_below (λ i. not (eqb (byte b' (104 + i)) 0)) 406 =
      any_ext _ _ 406 (λ i l. rw (same.unused i l)) in
      rw (same_n, same_k, same_rows, bytes)

  same_refusal : card_refusal b ≡ card_refusal b'
  unfolding card_refusal first_refusal
  same_refusal =
      rw (
        same.size,
        eq-eqb _ _ same.check,
        eq-eqb _ _ same.check',
        same_n,
        same_k,
        same_rows,
        same_misplaced,
        same.within,
        same.within',
      )

  pub alike_but_distances : AnsweredAlike b b'
  unfolding card_answer summary_of track_of write_refusal write_answer lent_after_write read_refusal read_answer
      levels_refusal levels_answer start_refusal start_answer trams_refusal each_tram_answer nearest_answer
  alike_but_distances =
      record {
        refused = same_refusal;
        code = same_code;
        checked = rw (same_refusal, same_code, same_number 2 2 (omega arith));
        written = λ position lent. rw (same_refusal, same_code);
        left = λ position lent. rw (same_refusal, same_code);
        read = λ received. rw (same_refusal, same_code);
        read_levels = λ levels. rw (same_refusal, same_code);
        started = λ block. rw (same_refusal, same_code);
        crossing = λ trams mark. rw (same_refusal, same_code);
        within = λ trams first second. rw (same_refusal, same_code);
        nearest = λ trams mark. rw (same_refusal, same_code);
      }

  pub releases_alike : ReleasesAlike b b'
  unfolding track_of read_refusal read_answer refusal_ahead_of_word release_answer
  releases_alike =
      record { released = λ yard tram word mark. rw (same_refusal, same_code, same_number 2 2 (omega arith)) }
