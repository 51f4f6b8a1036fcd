-- Document 01, "Reading a word": the separators, the code chunks, the three rules, refusals 9 to 12, and the nearest allowed
-- position; with them, by document 02's P6, refusal 17, and by its P3 how many bits the chunks that the rule names needed. A received
-- word is a bit function here; ReadWord.antt takes it from bytes. Assumes nothing.
use Rattle.std.specs.Prelude.{Bool, true, false, cond, not, ◌&&◌, ◌||◌, List, [], ◌∷◌, ◌++◌, ℕ, ◌+◌, ◌-◌, ◌*◌, ◌%◌, ◌^◌, min, leb, ltb, eqb, Option, Some, None}
use Rattle.bits.specs.Sums.{sum_below, distance}
use Rattle.bits.specs.Places.{bit}
use Rattle.bits.specs.Searches.{first, least_at}
use Rattle.model.specs.Refusals.{Row, refuses, first_refusal}
use Rattle.model.specs.Card.{Code, radius}
use Rattle.model.specs.Order.{codeword, last_codeword, changed_weight, start, last_position}
use Rattle.model.specs.Words.{word_bits, word_at, separator₁, chunk₁, separator₂, chunk₂, separator₃}
use Rattle.model.specs.declared.ReadChunk.{ReadChunk}
use Rattle.model.specs.declared.Reading.{Reading}

-- what a chunk reads as: a codeword with the count of differing places, or none, where it is unreadable
abbrev pub Chunk : Type 0
Chunk = Option ReadChunk

abbrev pub Codeword : (p e : ℕ) → Chunk
Codeword p e = Some (record { number = p; differing = e })

abbrev pub Unreadable : Chunk
Unreadable = None

-- a separator of D bits reads 1 if more than half its bits are 1, else 0; a tie reads 0
unfoldable pub majority : (D : ℕ) (x : ℕ → ℕ) → ℕ
majority D x = cond (ltb D (2 * sum_below x D)) 1 0

-- in how many places a chunk and c(p) differ
unfoldable pub chunk_distance : Code → (x : ℕ → ℕ) (p : ℕ) → ℕ
chunk_distance C x p = distance C.n (bit (codeword C p)) x

-- whether c(p) lies within t bits of it
unfoldable pub within_radius : Code → (x : ℕ → ℕ) (p : ℕ) → Bool
within_radius C x p = leb (chunk_distance C x p) (radius C)

-- what a chunk reads as by a search: the first of so many codewords that is near enough, with its count of differing places; where none
-- is, it is unreadable
unfoldable pub read_first : (near : ℕ → Bool) (count : ℕ → ℕ) (many : ℕ) → Chunk
read_first near count many = let p : ℕ = first near many in cond (ltb p many) (Codeword p (count p)) Unreadable

-- a code chunk reads as p if c(p) lies within t bits of it (the first such p; there is one at most, by the law
-- `one_within_radius`)
unfoldable pub chunk_reading : Code → (x : ℕ → ℕ) → Chunk
chunk_reading C x = read_first (within_radius C x) (chunk_distance C x) (2 ^ C.k)

-- a chunk: the refusal's number, or 0 where some codeword lies within the radius
unfoldable pub chunk_refusal : Code → (x : ℕ → ℕ) → ℕ
chunk_refusal C x = first_refusal (refuses 10 (not (ltb (first (within_radius C x) (2 ^ C.k)) (2 ^ C.k))) ∷ [])

-- the values expected of a chunk that is read, by the definitions: the codeword's number, and in how many bits the two differ
unfoldable pub chunk_expected : Code → (x : ℕ → ℕ) → List ℕ
chunk_expected C x = let p : ℕ = first (within_radius C x) (2 ^ C.k) in p ∷ chunk_distance C x p ∷ []

-- the status of what a chunk reads as, 10 where no codeword is near enough; and its values
unfoldable pub chunk_status : Chunk → ℕ
chunk_status (Some read) = 0
chunk_status None = 10

unfoldable pub chunk_values : Chunk → List ℕ
chunk_values (Some read) = read.number ∷ read.differing ∷ []
chunk_values None = []

-- whether a chunk reads as no codeword, and the number of the codeword that any other reads as (0 of an unreadable one, which means
-- nothing: row 10 comes first)
unfoldable pub unreadable : Chunk → Bool
unreadable (Some read) = false
unreadable None = true

unfoldable pub number_read : Chunk → ℕ
number_read (Some read) = read.number
number_read None = 0

-- in how many places a chunk differs from the codeword that it reads as (0 of an unreadable one likewise)
unfoldable pub differing_read : Chunk → ℕ
differing_read (Some read) = read.differing
differing_read None = 0

-- What is seen of a word: what its three separators read, 0 or 1 each, and what either code chunk reads as. The rule, the positions
-- that it allows, and the bits that its chunks needed go by this alone.
pub record Seen : Type 0 where
  pub s₁ : ℕ
  pub s₂ : ℕ
  pub s₃ : ℕ
  pub read₁ : Chunk
  pub read₂ : Chunk

-- what is seen of a received word's bits
unfoldable pub seen : Code → (x : ℕ → ℕ) → Seen
seen C x =
    record {
      s₁ = majority C.D (separator₁ C x);
      s₂ = majority C.D (separator₂ C x);
      s₃ = majority C.D (separator₃ C x);
      read₁ = chunk_reading C (chunk₁ C x);
      read₂ = chunk_reading C (chunk₂ C x);
    }

-- the rule that three separators name: 1 for b b c, 2 for b c c, 3 for b b b, and 0 for b c b
unfoldable pub rule_of : (s₁ s₂ s₃ : ℕ) → ℕ
rule_of s₁ s₂ s₃ = cond (eqb s₁ s₂) (cond (eqb s₂ s₃) 3 1) (cond (eqb s₂ s₃) 2 0)

abbrev pub rule_seen : Seen → ℕ
rule_seen s = rule_of s.s₁ s.s₂ s.s₃

-- which code chunks a rule names, and p, the number that they read: rule 2's is chunk 2's, any other's chunk 1's
abbrev pub names_first : (rule : ℕ) → Bool
names_first rule = eqb rule 1 || eqb rule 3

abbrev pub names_second : (rule : ℕ) → Bool
names_second rule = eqb rule 2 || eqb rule 3

unfoldable pub number_by : Seen → (rule : ℕ) → ℕ
number_by s rule = cond (eqb rule 2) (number_read s.read₂) (number_read s.read₁)

-- document 02, P6: the rule's separator is the one that must read the parity of p: separator 1 by rules 1 and 3, separator 3 by rule 2.
-- What it reads, given what separators 1 and 3 read:
unfoldable pub separator_of : (rule s₁ s₃ : ℕ) → ℕ
separator_of rule s₁ s₃ = cond (eqb rule 2) s₃ s₁

abbrev pub separator_by : Seen → (rule : ℕ) → ℕ
separator_by s rule = separator_of rule s.s₁ s.s₃

-- whether what a separator reads differs from the parity of p
unfoldable pub parity_differs : (separator p : ℕ) → Bool
parity_differs separator p = not (eqb separator (p % 2))

-- the positions that a rule allows: from low to high, ends included
pub record Range : Type 0 where
  pub low : ℕ
  pub high : ℕ

-- rule 1: chunk 1 reads p; block p - 1; allowed are r(p-1) + D + A(p-1) to r(p)
abbrev pub range₁ : Code → (p : ℕ) → Range
range₁ C p = record { low = start C (p - 1) + C.D + changed_weight C (p - 1); high = start C p }

-- rule 2: chunk 2 reads p; allowed are r(p) to r(p) + 2D + A(p)
abbrev pub range₂ : Code → (p : ℕ) → Range
range₂ C p = record { low = start C p; high = start C p + 2 * C.D + changed_weight C p }

-- rule 3: both chunks read the same p; allowed are r(p) - D to r(p) + D, cut to 0 and the last position
abbrev pub range₃ : Code → (p : ℕ) → Range
range₃ C p = record { low = start C p - C.D; high = min (start C p + C.D) (last_position C) }

-- What a kind of track says of a rule whose chunks read p: whether the block that the rule goes by does not exist, and the
-- positions that the rule allows where it does.
pub record Rules : Type 0 where
  pub no_block : (rule p : ℕ) → Bool
  pub range : (rule p : ℕ) → Range

-- a track with two ends: there is no block before the first codeword, and none after the last
unfoldable pub two_ends : Code → Rules
two_ends C =
    record {
      no_block = λ rule p. eqb rule 1 && eqb p 0 || eqb rule 2 && eqb p (last_codeword C);
      range = λ rule p. cond (eqb rule 1) (range₁ C p) (cond (eqb rule 2) (range₂ C p) (range₃ C p));
    }

-- rows 9 to 12 of the table, for what is seen of a word whose separators name this rule, 0 for none
unfoldable pub rows_9_to_12 : Rules → Seen → (rule : ℕ) → List Row
rows_9_to_12 R s rule =
    refuses 9 (eqb rule 0)
    ∷ refuses 10 (names_first rule && unreadable s.read₁ || names_second rule && unreadable s.read₂)
    ∷ refuses 11 (eqb rule 3 && not (eqb (number_read s.read₁) (number_read s.read₂)))
    ∷ refuses 12 (R.no_block rule (number_by s rule))
    ∷ []

-- and straight after 12, by document 02's P6, 17: what the rule's separator reads differs from the parity of p
unfoldable pub rows_seen : Rules → Seen → (rule : ℕ) → List Row
rows_seen R s rule = rows_9_to_12 R s rule ++ (refuses 17 (parity_differs (separator_by s rule) (number_by s rule)) ∷ [])

-- the positions that a rule allows of what is seen, where none of these rows holds
abbrev pub range_seen : Rules → Seen → (rule : ℕ) → Range
range_seen R s rule = R.range rule (number_by s rule)

-- the same of a received word's bits, on a track with two ends: the rule named, the rows, and the positions allowed (which mean
-- nothing where a row holds)
unfoldable pub rule_named : Code → (x : ℕ → ℕ) → ℕ
rule_named C x = rule_seen (seen C x)

unfoldable pub rows_of : Code → (x : ℕ → ℕ) → List Row
rows_of C x = rows_seen (two_ends C) (seen C x) (rule_named C x)

unfoldable pub allowed : Code → (x : ℕ → ℕ) → Range
allowed C x = range_seen (two_ends C) (seen C x) (rule_named C x)

-- the residual of a position: in how many of all d bits its word differs from the received word
unfoldable pub residual : Code → (x : ℕ → ℕ) (position : ℕ) → ℕ
residual C x position = distance (word_bits C) (word_at C position) x

-- the position of a range at which the residual is least, the smallest on a tie
unfoldable pub nearest_in : (residual : ℕ → ℕ) → Range → ℕ
nearest_in residual range = least_at residual range.low (range.high - range.low)

-- document 02, P3: how many bits a code chunk that the rule names needed, those in which it and its codeword differ; any other chunk was
-- not read (what is said of an unreadable one that is named means nothing: row 10 comes first)
unfoldable pub bits_needed : (named : Bool) → Chunk → Option ℕ
bits_needed true (Some read) = Some read.differing
bits_needed true None = None
bits_needed false read = None

-- the allowed position whose word differs from the received word in the fewest bits, the smallest on a tie; that count; the rule; and how
-- many bits each chunk that the rule names needed, by what is seen of the word
unfoldable pub nearest_reading : (residual : ℕ → ℕ) → Seen → (rule : ℕ) → Range → Reading
nearest_reading residual s rule range =
    let position : ℕ = nearest_in residual range in
    record {
      position = position;
      residual = residual position;
      rule = rule;
      chunk1 = bits_needed (names_first rule) s.read₁;
      chunk2 = bits_needed (names_second rule) s.read₂;
    }

-- how many bits a code chunk needed, as a number: its count, which is at most t, so below 32; or, for a chunk that was not read, 2^32 - 1,
-- which is no count (the documents leave that number open)
abbrev pub not_read : ℕ
not_read = 4294967295

unfoldable pub bits_value : Option ℕ → ℕ
bits_value (Some count) = count
bits_value None = not_read

-- the values of a reading: position, residual, rule, and the bits that chunks 1 and 2 needed
abbrev pub reading_values : Reading → List ℕ
reading_values r = r.position ∷ r.residual ∷ r.rule ∷ bits_value r.chunk1 ∷ bits_value r.chunk2 ∷ []
