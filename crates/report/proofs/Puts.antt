-- Texts put one after the other are one text put, and a text copied behind what a buffer is filled with is put there. Assumes nothing.
use Rattle.std.proofs.Common.{ℕ, ◌+◌, ◌-◌, ◌≤◌, ◌≡◌, refl, ◌∙◌, List, [], ◌++◌, length, take, drop, arith, append_assoc, append-nil, length-append, length-drop}
use Rattle.std.proofs.lemmas.Slice.{take-put_mid, drop-put_mid}
use borrow.Rule.Slice.PartMut.{put_mid}
use lib.Seq.{drop-drop}
use Rattle.std.specs.Borrow.{GName}
use Rattle.report.specs.Filled.{Filled}
use Rattle.report.specs.Puts.{Puts}

module _ {a b : Filled} {text : List ℕ} {most : ℕ} (p : Puts a text most b) where
  pub puts_then : {c : Filled} {next : List ℕ} {more : ℕ} → Puts b next more c → Puts a (text ++ next) (most + more) c
  puts_then q =
      record {
        bytes = q.bytes ∙ rw (p.bytes, append_assoc) refl;
        beyond = q.beyond ∙ rw (p.beyond, drop-drop, length-append) refl;
        short = omega arith;
        same_capacity = omega arith;
        same_buffer = q.same_buffer ∙ p.same_buffer;
      }

  pub puts_within : {limit : ℕ} → most ≤ limit → Puts a text limit b
  puts_within within =
      record { bytes = p.bytes; beyond = p.beyond; short = omega arith; same_capacity = p.same_capacity; same_buffer = p.same_buffer }

pub puts_nothing : (a : Filled) (most : ℕ) → Puts a [] most a
puts_nothing a most = record { bytes = rw append-nil; beyond = refl; short = omega arith; same_capacity = refl; same_buffer = refl }

-- one text put, or none
pub ruleset puts_once = (puts_within, puts_nothing)

pub puts_copied : (buffer text : List ℕ) (filled : ℕ) (lent : GName) → filled + length text ≤ length buffer
    → let end : ℕ = filled + length text in
    let copied : List ℕ = put_mid filled (end - filled) buffer text in
    Puts (record { text = take filled buffer; rest = drop filled buffer; lent = lent }) text (length text)
    (record { text = take end copied; rest = drop end copied; lent = lent })
puts_copied buffer text filled lent room =
    let end : ℕ = filled + length text in
    let copied : List ℕ = put_mid filled (end - filled) buffer text in
    let bytes : take end copied ≡ take filled buffer ++ text = take-put_mid filled (end - filled) buffer text end refl (omega arith) in
    let beyond : drop end copied ≡ drop (length text) (drop filled buffer) =
    drop-put_mid filled (end - filled) buffer text end (omega arith) (omega arith) (omega arith) ∙ rw drop-drop refl in
    record {
      bytes = bytes;
      beyond = beyond;
      short = rw bytes (simp length-append (omega arith));
      same_capacity = rw (bytes, beyond) (simp (length-append, length-drop) (omega arith));
      same_buffer = refl;
    }
