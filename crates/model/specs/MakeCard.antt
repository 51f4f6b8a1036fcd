-- Document 02, P1: a card that is made for a Reed-Muller code. Assumes nothing.
use Rattle.std.specs.Prelude.{not, List, [], ◌∷◌, ℕ, Result, Ok}
use Rattle.model.specs.Refusals.{refuses, first_refusal, Refused, values_by, unless_refused}
use Rattle.model.specs.ReedMuller.{reed_muller_card, order_within_limits}
use Rattle.model.specs.declared.Refusal.{Refusal}

-- the answer to a call that makes a card: its bytes
abbrev pub MadeCard : Type 0
MadeCard = Result (List ℕ) Refusal

-- the refusal's number, or 0 where the card is made
unfoldable pub make_refusal : (r m : ℕ) → ℕ
make_refusal r m = first_refusal (refuses 13 (not (order_within_limits r m)) ∷ [])

-- the answer: the bytes of the Reed-Muller code's card
unfoldable pub make_answer : (track r m : ℕ) → MadeCard
make_answer track r m = unless_refused (make_refusal r m) Refused (Ok (reed_muller_card track r m))

-- its bytes, none of a refusal
abbrev pub made_bytes : MadeCard → List ℕ
made_bytes answer = values_by (λ card. card) answer
