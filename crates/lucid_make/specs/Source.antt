-- The text of a made program: a chain of names in which each name adds up the one before it. The form of the text is
-- this project's own.
use Rattle.std.specs.Prelude.{ℕ, ◌-◌, List, [], ◌∷◌, ◌++◌, codes, map}
use Rattle.std.specs.Fmt.{decimal}
use Rattle.std.specs.List.{flat_map, range_with_len}

-- The name with a number: `v`, then the number in decimal.
abbrev pub name_of : ℕ → List ℕ
name_of number = codes "v" ++ decimal number

-- The line that begins the block, whose subject is the last name.
abbrev pub subject_line : ℕ → List ℕ
subject_line last = name_of last ++ codes " where"

-- The line of name 0, which is 1 at time 0 and counts up modulo 1000.
abbrev pub first_definition : List ℕ
first_definition = codes "v0 = 1 fby (v0 + 1) mod 1000;"

-- The line that defines a name: the name before it at time 0, and then the sum of the two, modulo 1000.
abbrev pub definition_line : List ℕ → List ℕ → List ℕ
definition_line name before =
    name ++ codes " = " ++ before ++ codes " fby (" ++ name ++ codes " + " ++ before ++ codes ") mod 1000;"

-- The line of the name with a number, from 1 on.
abbrev pub definition_of : ℕ → List ℕ
definition_of number = definition_line (name_of number) (name_of (number - 1))

-- The lines: the subject, the name 0, the names from 1 to the last, and `end`.
abbrev pub source_lines : ℕ → List (List ℕ)
source_lines last =
    subject_line last ∷ first_definition ∷ (map definition_of (range_with_len 1 last) ++ codes "end" ∷ [])

-- A line with its end, the byte 10.
abbrev pub ended_line : List ℕ → List ℕ
ended_line line = line ++ 10 ∷ []

-- The text of the made program whose last name has this number.
unfoldable pub made_source : ℕ → List ℕ
made_source last = flat_map ended_line (source_lines last)
