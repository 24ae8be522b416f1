-- Lines and columns. A line ends at a byte 10; a byte 13 before that is part of the line. Both are counted from 1, and columns in bytes.
use Rattle.std.specs.Prelude.{◌≡◌, ℕ, ◌+◌, ◌-◌, ◌≤◌, List, ◌++◌, length, take, drop, codes, decimal, Bool, not, ◌==◌}
use Rattle.std.specs.List.{count_by, suffix_len}

abbrev pub ends_line : ℕ → Bool
ends_line b = b == 10

-- a byte that stands in a line
abbrev pub stands_in_line : ℕ → Bool
stands_in_line b = not (ends_line b)

-- The line of a place: one more than the line ends before it.
abbrev pub line_of : List ℕ → (at : ℕ) → ℕ
line_of source at = count_by ends_line (take at source) + 1

-- The column of a place: one more than the bytes before it that come after the last of these.
abbrev pub column_of : List ℕ → (at : ℕ) → ℕ
column_of source at = suffix_len stands_in_line (take at source) + 1

-- the bytes of a line that stand at the end
abbrev pub last_line : (before : List ℕ) → List ℕ
last_line before = drop (length before - suffix_len stands_in_line before) before

-- No two places of a source, its end with them, have one line and one column.
abbrev pub PositionsTellPlaces : Type 0
PositionsTellPlaces =
    (source : List ℕ) (at other : ℕ) → at ≤ length source → other ≤ length source → line_of source at ≡ line_of source other
    → column_of source at ≡ column_of source other → at ≡ other

-- a text, and the line and the column of a place
abbrev pub where_text : (before source : List ℕ) → (at : ℕ) → List ℕ
where_text before source at = before ++ (decimal (line_of source at) ++ (codes ", column " ++ (decimal (column_of source at) ++ codes ".\n")))
