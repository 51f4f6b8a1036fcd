-- What a request for a card means, three texts in decimal as they are typed: the number in a text, the answer, and what an answer stands
-- for, a status and values. A text is a list of bytes. Assumes nothing.
use Rattle.std.specs.Prelude.{Bool, true, not, codes, ◌&&◌, if◌then◌else◌, Option, Some, None, Result, Ok, Err, List, [], ◌∷◌, ℕ, ◌+◌, ◌-◌, ◌*◌, leb, eqb, length}
use Rattle.model.specs.Refusals.{refuses, first_refusal}
use Rattle.model.specs.ReedMuller.{reed_muller_card, order_within_limits}
use Rattle.card_request.specs.declared.RequestRefusal.{RequestRefusal}
use Rattle.card_request.specs.declared.RequestRefusal.TheVariants.{NotATrack, NotAnOrder, NotVariables, OutsideLimits}

-- ---- a number

-- the byte of a digit: those of `0` to `9` are 48 to 57
unfoldable pub is_digit : ℕ → Bool
is_digit b = leb 48 b && leb b 57

-- no byte but digits
unfoldable pub all_digits : List ℕ → Bool
all_digits [] = true
all_digits (b ∷ text) = is_digit b && all_digits text

-- the number in decimal that digits make, where those before them have made `before`
unfoldable pub number_after : (before : ℕ) → List ℕ → ℕ
number_after before [] = before
number_after before (b ∷ text) = number_after (10 * before + (b - 48)) text

-- the number that a text makes. A number written in decimal reads as itself: law `decimal_read` of proofs/DecimalRead.antt
abbrev pub number_in : List ℕ → ℕ
number_in text = number_after 0 text

-- whether a text is a number that fits: it is not empty, has no byte but digits, and its number is at most `most`
unfoldable pub is_number : (most : ℕ) → List ℕ → Bool
is_number most text = not (eqb (length text) 0) && all_digits text && leb (number_in text) most

unfoldable pub number_text : (most : ℕ) → List ℕ → Option ℕ
number_text most text = if is_number most text then Some (number_in text) else None

-- ---- a request

-- the greatest track number, that of two bytes; and the greatest r and m, numbers of 32 bits
abbrev pub greatest_track : ℕ
greatest_track = 65535

abbrev pub greatest_number : ℕ
greatest_number = 4294967295

-- the refusals of a text that is no number that fits, for the track number, for r and for m; the documents' table has no numbers for them
abbrev pub no_track : ℕ
no_track = 101

abbrev pub no_order : ℕ
no_order = 102

abbrev pub no_variables : ℕ
no_variables = 103

-- the refusal of a request: the first text that is no number, and then 13, a code outside the limits
unfoldable pub request_refusal : (track r m : List ℕ) → ℕ
request_refusal track r m =
    first_refusal
    (refuses no_track (not (is_number greatest_track track))
    ∷ refuses no_order (not (is_number greatest_number r))
    ∷ refuses no_variables (not (is_number greatest_number m))
    ∷ refuses 13 (not (order_within_limits (number_in r) (number_in m)))
    ∷ [])

-- the card for the numbers in these texts
abbrev pub request_card : (track r m : List ℕ) → List ℕ
request_card track r m = reed_muller_card (number_in track) (number_in r) (number_in m)

-- the answer: the first of these tests that fails, or the card
unfoldable pub request_answer : (track r m : List ℕ) → Result (List ℕ) RequestRefusal
request_answer track r m =
    if not (is_number greatest_track track) then Err NotATrack
    else if not (is_number greatest_number r) then Err NotAnOrder
    else if not (is_number greatest_number m) then Err NotVariables
    else if not (order_within_limits (number_in r) (number_in m)) then Err OutsideLimits
    else Ok (request_card track r m)

-- ---- what an answer stands for, for every outcome

-- the number of each refusal
unfoldable pub refusal_number : RequestRefusal → ℕ
refusal_number NotATrack = no_track
refusal_number NotAnOrder = no_order
refusal_number NotVariables = no_variables
refusal_number OutsideLimits = 13

-- the text of each refusal: what is wrong
abbrev pub refusal_text : RequestRefusal → List ℕ
refusal_text NotATrack = codes "TRACK is not a number from 0 to 65535"
refusal_text NotAnOrder = codes "R is not a number from 0 to 4294967295"
refusal_text NotVariables = codes "M is not a number from 0 to 4294967295"
refusal_text OutsideLimits = codes "refused 13: M is not 1 to 6, R is above M, or k is above 12"

-- an answer's status: 0 where the card is made, and the refusal's number otherwise
unfoldable pub request_status : Result (List ℕ) RequestRefusal → ℕ
request_status (Ok card) = 0
request_status (Err refusal) = refusal_number refusal

-- and its values: the card's bytes, and none of a refusal
unfoldable pub request_values : Result (List ℕ) RequestRefusal → List ℕ
request_values (Ok card) = card
request_values (Err refusal) = []
