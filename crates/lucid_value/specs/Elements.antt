-- The elements of an input, computed: a line is read here as the reader reads it, byte by byte. What an element is, `IsElement`
-- in Lines.antt says; that `element` gives it, and that no other value is that element, are laws.
use Rattle.std.specs.Prelude.{ℕ, List, [], ◌∷◌, length, reverse, nat_eq, nat_le, if◌then◌else◌, Option, Some, None, slice_get}
use Rattle.lucid_value.specs.Plain.{PlainValue, list, eod, fault, within_limits}
use Rattle.lucid_value.specs.Texts.{value_or_fault}
use Rattle.lucid_value.specs.Lines.{lines_of, without_end, most_line_bytes}
use Rattle.lucid_value.specs.ListScan.{State, state, start, runs, opened, atom_value, text_value}
use Rattle.lucid_value.specs.Trimming.{after_blanks}
use Rattle.lucid_value.specs.declared.list_scan.Focus.TheVariants.{Done}

-- the bytes between two quotes, the last one in front
abbrev pub last_quote_off : List ℕ → Option (List ℕ)
last_quote_off [] = None
last_quote_off (b ∷ bs) = if nat_eq b 39 then Some (reverse bs) else None

-- the bytes between two quotes
abbrev pub quotes_off : List ℕ → Option (List ℕ)
quotes_off [] = None
quotes_off (b ∷ bs) = if nat_eq b 96 then last_quote_off (reverse bs) else None

-- the list that the scan made
abbrev pub whole_list : Option State → Option PlainValue
whole_list (Some (state Done bs vs outer)) = Some (list vs)
whole_list _ = None

-- a string where the bytes stand between quotes, a list where they begin with `[%`, and else a value without marks
abbrev pub value_by_kind : Option (List ℕ) → Option (List ℕ) → List ℕ → Option PlainValue
value_by_kind (Some inner) tail bytes = text_value inner
value_by_kind None (Some tail) bytes = whole_list (runs (Some start) tail)
value_by_kind None None bytes = atom_value bytes

abbrev pub if_within_limits : Option PlainValue → Option PlainValue
if_within_limits None = None
if_within_limits (Some v) = if within_limits v then Some v else None

-- The value that bytes read as.
unfoldable pub value_read : List ℕ → Option PlainValue
value_read bytes = if_within_limits (value_by_kind (quotes_off bytes) (opened bytes) bytes)

-- a line without the blanks at both ends
abbrev pub trimmed : List ℕ → List ℕ
trimmed line = reverse (after_blanks (reverse (after_blanks line)))

-- The value of a line: what it reads as without the blanks at both ends; `error` where it reads as nothing or is too long.
unfoldable pub line_value_of : List ℕ → PlainValue
line_value_of line = if nat_le (length line) most_line_bytes then value_or_fault (value_read (trimmed line)) else fault

abbrev pub element_of_line : Option (List ℕ) → PlainValue
element_of_line None = eod
element_of_line (Some line) = line_value_of (without_end line)

-- Element j of an input with these bytes, counted from 0.
unfoldable pub element : List ℕ → ℕ → PlainValue
element bytes j = element_of_line (slice_get (lines_of bytes) j)
