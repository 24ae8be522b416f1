-- A place as it is shown: the file, the line and the column; the bytes of the line about it; and a caret under it.
use Rattle.std.specs.Prelude.{ℕ, ◌-◌, List, ◌++◌, map, replicate, take, drop, min, ◌&&◌, codes, decimal, nat_le, if◌then◌else◌}
use Rattle.std.specs.List.{prefix_len}
use Rattle.lucid_value.specs.Reading.{is_blank}
use Rattle.lucid_explain_places.specs.Positions.{stands_in_line, line_of, column_of}

-- the most bytes of a line that are shown, and of these the most before the place
abbrev pub most_shown : ℕ
most_shown = 160

abbrev pub most_before : ℕ
most_before = 80

-- how many bytes of its line are shown before a place
abbrev pub shown_before : List ℕ → (at : ℕ) → ℕ
shown_before source at = min (column_of source at - 1) most_before

-- the first bytes of a line, of which the rest of the source is given: up to its end, or to the most that are shown
abbrev pub line_front : List ℕ → List ℕ
line_front rest = take (min (prefix_len stands_in_line rest) most_shown) rest

-- the bytes of the line that are shown
abbrev pub shown_line : List ℕ → (at : ℕ) → List ℕ
shown_line source at = line_front (drop (at - shown_before source at) source)

-- A blank is shown as a blank (32), and what is no printable ASCII as `?` (63): so each byte has one column.
abbrev pub shown_byte : ℕ → ℕ
shown_byte b = if is_blank b then 32 else (if nat_le 32 b && nat_le b 126 then b else 63)

-- the three lines
abbrev pub place_text : (file source : List ℕ) → (at : ℕ) → List ℕ
place_text file source at =
    file ++ (codes ":" ++ (decimal (line_of source at) ++ (codes ":" ++ (decimal (column_of source at) ++ (codes ":\n"
    ++ (map shown_byte (shown_line source at) ++ (codes "\n" ++ (replicate (shown_before source at) 32 ++ codes "^\n"))))))))
