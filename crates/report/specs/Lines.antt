-- Document 01, "The program tramread", with document 02's P3: the lines that it prints. Assumes nothing.
use Rattle.std.specs.Prelude.{ℕ, cond, List, [], ◌++◌, eqb, Option, Some, None, Ok, Err}
use Prim.Native.String.{String}
use Rattle.model.specs.CheckCard.{CardAnswer}
use Rattle.model.specs.ReadWord.{ReadAnswer}
use Rattle.model.specs.declared.Reading.{Reading}
use Rattle.report.specs.Text.{ascii, decimal}

-- a label and a number
abbrev pub text_field : (label : String) (value : ℕ) → List ℕ
text_field label value = ascii label ++ decimal value

-- the end of a line: a line feed
abbrev pub line_end : List ℕ
line_end = ascii "\n"

-- the last label and number of a line, and the line's end
abbrev pub last_field : (label : String) (value : ℕ) → List ℕ
last_field label value = text_field label value ++ line_end

-- the line of the card: track, last position and radius, or the refusal
unfoldable pub card_line : CardAnswer → List ℕ
card_line (Ok s) = text_field "track " s.track ++ text_field " last " s.last ++ last_field " radius " s.radius
card_line (Err refusal) = last_field "card refused " refusal.number

-- document 02, P3: how many bits a code chunk needed, after a space; nothing where the chunk was not read
unfoldable pub bits_text : Option ℕ → List ℕ
bits_text (Some count) = text_field " " count
bits_text None = []

-- the last part of the line of a word that is read: the rule, the bits that its chunks needed, chunk 1 first, and the line's end
unfoldable pub rule_and_bits : Reading → List ℕ
rule_and_bits r = text_field " rule " r.rule ++ bits_text r.chunk1 ++ bits_text r.chunk2 ++ line_end

-- the line of a word: its number, then position, residual, rule and bits, or the refusal
unfoldable pub word_line : (number : ℕ) → ReadAnswer → List ℕ
word_line number (Ok r) = decimal number ++ text_field " at " r.position ++ text_field " residual " r.residual ++ rule_and_bits r
word_line number (Err refusal) = decimal number ++ last_field " refused " refusal.number

-- the line of the bytes short of a word at the end; no line where there are none
unfoldable pub short_line : (bytes : ℕ) → List ℕ
short_line bytes = cond (eqb bytes 0) [] (last_field "short " bytes)

-- the last line: whole words met, words read
unfoldable pub last_line : (words read : ℕ) → List ℕ
last_line words read = text_field "words " words ++ last_field " read " read

-- the bytes that a line may take in a buffer; no line is longer
abbrev pub line_room : ℕ
line_room = 144
