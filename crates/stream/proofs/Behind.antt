-- A buffer from one of its places on: what stands there of a front part of the buffer, and what stands there after a part that was lent
-- from there on is put back. Assumes nothing.
use Prim.Native.Nat.{ℕ, ◌+◌, ◌≤◌}
use mathlib.Core.Path.{◌≡◌, ap, ◌∙◌}
use mathlib.Core.List.{List}
use borrow.Rule.Slice.PartMut.{put_mid}
use lib.ListN.{length, take, drop}
use lib.Seq.{length-take-le, take-append-le, take-add, drop_at}

module _ (a : ℕ) (bytes : List ℕ) (inside : a ≤ length bytes) where
  pub behind_of_front : (n : ℕ) → drop a (take (a + n) bytes) ≡ take n (drop a bytes)
  behind_of_front n = rw take-add (drop_at (take a bytes) (take n (drop a bytes)) a (length-take-le a bytes inside))

  pub part_put_back : (k n : ℕ) (part : List ℕ) → n ≤ length part → take n (drop a (put_mid a k bytes part)) ≡ take n part
  part_put_back k n part within =
      ap (take n) (drop_at (take a bytes) _ a (length-take-le a bytes inside)) ∙ take-append-le n part _ within
