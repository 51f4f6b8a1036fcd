-- How an answer of the library crosses to a caller in C: its status, and its values in numbers that the caller lends, signed ones for a
-- distance, floats for a strength. The status and the values of an answer stand in the model, beside its definition; of a made card they
-- are its refusal and its bytes. Assumes nothing.
use Rattle.std.specs.Prelude.{ℕ, ◌≡◌, cond, List, eqb, length, get_or}
use Rattle.bits.specs.Places.{list_of}
use Rattle.model.specs.Refusals.{status_of}
use Rattle.model.specs.Trams.{Trams, TramsAnswer, yes_values}

-- How many values a call answers where it is served: a check of a card; a read; a block's start, a distance or the nearest tram; and a
-- vote. A search that says yes or no of each tram answers as many as there are trams.
abbrev pub card_count : ℕ
card_count = 7

abbrev pub read_count : ℕ
read_count = 5

abbrev pub number_count : ℕ
number_count = 1

abbrev pub vote_count : ℕ
vote_count = 2

-- how many floats the strength of a read of levels is
abbrev pub strength_count : ℕ
strength_count = 2

-- how many bytes a card has: those that are lent for one to be made
abbrev pub card_bytes : ℕ
card_bytes = 512

-- The trams that a caller hands over as lows and highs: as many as there are lows. (A list has 0 past its end.)
unfoldable pub trams_lent : (lows highs : List ℕ) → Trams
trams_lent lows highs = list_of (length lows) (λ i. record { low = get_or lows i 0; high = get_or highs i 0 })

-- so many of them the library is shown at most: one more than a track has, so that it tells that there are too many
abbrev pub most_handed : ℕ
most_handed = 65

-- The status of a call whose lent numbers, or bytes, are not exactly as many as its answer has values, or whose lows and highs are not
-- equally many. It is above every refusal.
abbrev pub wrong_count : ℕ
wrong_count = 100

-- the status of a call that answers `count` values, or takes a list of `count` highs: that of its answer, or `wrong_count`
unfoldable pub status_for : {A : Type 0} (count : ℕ) (lent : List A) (answered : ℕ) → ℕ
status_for count lent answered = cond (eqb (length lent) count) answered wrong_count

-- the lent numbers, or bytes, after a call with this status: the values of its answer where the status is 0, or as they were
unfoldable pub left_by : {A : Type 0} (status : ℕ) (values lent : List A) → List A
left_by status values lent = cond (eqb status 0) values lent

-- a status other than 0: nothing that was lent has changed
unfoldable pub UnchangedUnlessZero : {A : Type 0} (lent : List A) (status : ℕ) (left : List A) → Type 0
UnchangedUnlessZero lent status left = (status ≡ 0 → ⊥) → left ≡ lent

-- how an answer for each tram crosses: the lows, the highs and the lent bytes are equally many, or the status is `wrong_count`
abbrev pub EachCrosses : (lows highs lent : List ℕ) → TramsAnswer → (status : ℕ) (left : List ℕ) → Type 0
EachCrosses lows highs lent answer status left =
    (status ≡ status_for (length lows) highs (status_for (length lows) lent (status_of answer)))
    × (left ≡ left_by status (yes_values (length lows) answer) lent)
