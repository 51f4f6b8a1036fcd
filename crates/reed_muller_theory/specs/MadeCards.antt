-- Document 02, P1, "Reed-Muller cards made for us": what a card is that was made for a track, an order r and a number of variables m.
-- Assumes nothing.
use Rattle.std.specs.Prelude.{◌≡◌, List, ℕ, ◌-◌, ◌^◌, pos}
use Rattle.model.specs.Card.{length_of, row_count_of, track_of, offset_of, code_of, SoundCard}
use Rattle.model.specs.ReedMuller.{count_of_sets, reed_muller}

pub record IsReedMullerCard (track r m : ℕ) (card : List ℕ) : Type 0 where
  -- it is sound: none of the refusals 1 to 5 and 14 holds of it
  pub sound : SoundCard card
  -- n is 2^m, one place for each position p of the m variables
  pub n_is : length_of card ≡ 2 ^ m
  -- k is the count of the sets of at most r variables
  pub k_is : row_count_of card ≡ count_of_sets r m
  -- D, the least distance of its code, is 2^(m-r)
  pub D-is : (code_of card).D ≡ 2 ^ (m - r)
  -- its track number is the one that was given
  pub track_is : track_of card ≡ track
  -- its offset is 0
  pub offset_is : offset_of card ≡ pos 0
  -- its rows are the products of at most r variables, by size of S and then by S: its code is the Reed-Muller code
  pub code_is : code_of card ≡ reed_muller r m
