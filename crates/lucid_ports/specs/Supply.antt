-- What is shown of a reader, and what is still to come of it with that.
use Rattle.std.specs.Prelude.{◌≡◌, ℕ, ◌-◌, List, [], ◌++◌, length, take, drop, Option, None, Some, IfSome, option_map, codes}
use Rattle.lucid_ports.specs.World.{Contents}

-- nothing is left, where that is told
abbrev pub IsEnd : Option Contents → Type 0
IsEnd told = IfSome told (λ c. c.left ≡ [])

-- the same bytes with the last n that were consumed back before those that are left
abbrev pub put_back : ℕ → Contents → Contents
put_back n c = record { consumed = take (length c.consumed - n) c.consumed; left = drop (length c.consumed - n) c.consumed ++ c.left }

-- as many bytes as these, the last that were consumed; these where nothing is told
abbrev pub shown_taken : List ℕ → Option Contents → List ℕ
shown_taken bytes None = bytes
shown_taken bytes (Some c) = drop (length c.consumed - length bytes) c.consumed

-- as many bytes as these, the first that are left; these where nothing is told
abbrev pub shown_kept : List ℕ → Option Contents → List ℕ
shown_kept bytes None = bytes
shown_kept bytes (Some c) = take (length bytes) c.left

-- what a place tells that shows these bytes, taken of a reader that tells that
abbrev pub with_taken : List ℕ → Option Contents → Option Contents
with_taken bytes told = option_map (put_back (length bytes)) told

-- the name of standard input
abbrev pub standard_input : List ℕ
standard_input = codes "-"
