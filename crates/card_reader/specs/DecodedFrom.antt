-- What decoding a card's bytes gives. Assumes nothing.
use Rattle.std.specs.Prelude.{◌≡◌, List, ℕ, Result, MatchResult}
use Rattle.model.specs.Card.{code_of, track_of, offset_of, SoundCard}
use Rattle.model.specs.Decoded.{meaning}
use Rattle.model.specs.declared.DecodedCard.{DecodedCard}
use Rattle.model.specs.declared.Refusal.{Refusal}
use Rattle.code_theory.specs.Promise.{RefusalOf, Sound}

-- of a sound card its track, its offset and its code, which is sound
pub record DecodedCardOf (b : List ℕ) (decoded : DecodedCard) : Type 0 where
  pub sound_card : SoundCard b
  pub track : decoded.track ≡ track_of b
  pub offset : decoded.offset ≡ offset_of b
  pub code : meaning decoded.code ≡ code_of b
  pub sound : Sound (meaning decoded.code)

-- of any other its refusal
abbrev pub DecodedFrom : (b : List ℕ) → Result DecodedCard Refusal → Type 0
DecodedFrom b answer = MatchResult answer (DecodedCardOf b) (RefusalOf b)
