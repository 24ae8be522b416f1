-- What the words ask for, from the rows that `clap` makes of them: of each option that was used its values.
use Rattle.std.specs.Prelude.{ℕ, ◌^◌, Bool, false, ◌&&◌, ◌||◌, List, [], ◌∷◌, Option, Some, None, is_some, option_and_then, if◌then◌else◌, codes, nat_lt, count_by}
use Rattle.std.specs.Option.{option_map_or}
use Rattle.std.specs.Str.{bytes_eq}
use Rattle.std.specs.Str.Parse.{digits_value, without_leading_plus}
use Rattle.clap.specs.Words.{Row, Text, first_of, one_of}
use Rattle.clap.specs.ValueTests.{is_numeral}

-- A flag that is used has the value `true`.
abbrev pub is_set : Text → List Row → Bool
is_set name rows = option_map_or (λ value. bytes_eq value (codes "true")) (first_of name rows) false

-- The number that a text is at an unsigned type of so many bits: digits, where a plus may stand first.
abbrev pub number_in : ℕ → Text → Option ℕ
number_in bits text =
    let digits = without_leading_plus text in
    if is_numeral digits && nat_lt (digits_value 10 digits) (2 ^ bits) then Some (digits_value 10 digits) else None

-- The number of an option.
abbrev pub number_given : ℕ → Text → List Row → Option ℕ
number_given bits name rows = option_and_then (number_in bits) (one_of name rows)

-- The options that ask for something else than a run of one stream, or for another source: whether each is used.
abbrev pub modes_given : List Row → List Bool
modes_given rows =
    is_set (codes "print") rows ∷ is_some (first_of (codes "columns") rows) ∷ is_set (codes "cycles") rows
    ∷ is_some (first_of (codes "why") rows) ∷ is_some (first_of (codes "check") rows) ∷ is_set (codes "flat") rows
    ∷ is_set (codes "from-flat") rows ∷ []

-- Two of them, or a made program that is read in the flat form, are refused.
abbrev pub has_conflict : List Row → Bool
has_conflict rows =
    nat_lt 1 (count_by (λ given. given) (modes_given rows))
    || (is_some (first_of (codes "make") rows) && is_set (codes "from-flat") rows)
