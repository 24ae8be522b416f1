-- Inputs whose bytes are there, and a line of one as it is told.
use Rattle.std.specs.Prelude.{ℕ, nat_le, not, ◌==◌, ◌&&◌, ◌||◌, if◌then◌else◌, Bool, List, [], ◌∷◌, ◌++◌, length, map, take, find, codes, Option, Some, None, slice_get}
use Rattle.std.specs.List.{list_all, list_any, slice_split}
use Rattle.std.specs.Char.{is_ascii_digit}
use Rattle.lucid_value.specs.Plain.{same_bytes, is_word, is_text, is_light}
use Rattle.lucid_explain_places.specs.Shown.{shown_byte}
use Rattle.lucid_explain_source.specs.Characters.{begins}
use Rattle.lucid_explain_errors.specs.declared.inputs.Input.{Input}

-- the input of a name
abbrev pub is_of : Input → (name : List ℕ) → Bool
is_of i n = same_bytes i.name n

abbrev pub input_of : List Input → (name : List ℕ) → Option Input
input_of inputs n = find (λ i. is_of i n) inputs

-- the line of a number, from 0; 10 ends a line
abbrev pub line_at : (bytes : List ℕ) → (number : ℕ) → Option (List ℕ)
line_at bytes k = slice_get (slice_split (λ b. b == 10) bytes) k

abbrev pub line_in : Option Input → (number : ℕ) → Option (List ℕ)
line_in None k = None
line_in (Some i) k = line_at i.bytes.items k

abbrev pub line_of : List Input → (name : List ℕ) → (number : ℕ) → Option (List ℕ)
line_of inputs n k = line_in (input_of inputs n) k

-- bytes as they are shown, at most 40 of them
abbrev pub short_shown : List ℕ → List ℕ
short_shown bytes = if nat_le (length bytes) 40 then map shown_byte bytes else map shown_byte (take 40 bytes) ++ codes ".."

-- the line is short, and can be a string
abbrev pub is_quotable : (line : List ℕ) → Bool
is_quotable line = nat_le (length line) 40 && (is_text line && is_light line)

-- the line as a string; nothing, where it can't be one
abbrev pub string_text : (line : List ℕ) → List ℕ
string_text line = codes "As a string it is written `" ++ (line ++ codes "'.\n")

abbrev pub string_if : (line : List ℕ) → List ℕ
string_if line = if is_quotable line then string_text line else []

-- a short word, or digits
abbrev pub is_short_word : (inner : List ℕ) → Bool
is_short_word inner = nat_le (length inner) 40 && (is_word inner && is_light inner)

abbrev pub is_short_number : (inner : List ℕ) → Bool
is_short_number inner = nat_le (length inner) 38 && not (length inner == 0) && list_all is_ascii_digit inner

-- how they are written
abbrev pub bare_text : (inner : List ℕ) → List ℕ
bare_text inner = codes "It is written without quotes: " ++ (inner ++ codes "\n")

-- what stands between quotation marks (34): as a word or an integer, or else as a string
abbrev pub inner_text : (inner : List ℕ) → List ℕ
inner_text inner = if is_short_word inner || is_short_number inner then bare_text inner else string_if inner

abbrev pub inner_text_if : Option (List ℕ) → List ℕ
inner_text_if None = []
inner_text_if (Some inner) = inner_text inner

-- what stands behind the first of them, up to the second or to the end
abbrev pub inner_of : (line : List ℕ) → Option (List ℕ)
inner_of line = slice_get (slice_split (λ b. b == 34) line) 1

-- how a line is written that is no value: without quotation marks, where it begins with one; else as a string
abbrev pub quoted_text : (line : List ℕ) → List ℕ
quoted_text line = if begins line (34 ∷ []) then inner_text_if (inner_of line) else string_if line

-- a comma (44) or a semicolon (59)
abbrev pub has_comma : (line : List ℕ) → Bool
has_comma line = list_any (λ b. b == 44 || b == 59) line

-- of such a mark: the line may have more values than one
abbrev pub comma_text : (line : List ℕ) → List ℕ
comma_text line = if has_comma line then codes "A line is one value: 1200 has no comma, there are no real numbers, and two columns stand in two files, or as lists, `[% 1 2 %]`.\n" else []

-- a byte order mark in front (239, 187, 191), or else a comma
abbrev pub mark_text : (line : List ℕ) → List ℕ
mark_text line = if begins line (239 ∷ 187 ∷ 191 ∷ []) then codes "A byte order mark stands in front of it: save the file without it.\n" else comma_text line

-- the line
abbrev pub shown_line : (line : List ℕ) → List ℕ
shown_line line = codes "The line is: " ++ (short_shown line ++ (codes "\n" ++ (quoted_text line ++ mark_text line)))

abbrev pub line_seen : (line : List ℕ) → List ℕ
line_seen line = if length line == 0 then codes "The line is empty.\n" else shown_line line

abbrev pub line_seen_if : Option (List ℕ) → List ℕ
line_seen_if None = []
line_seen_if (Some line) = line_seen line
