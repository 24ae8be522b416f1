-- The lines of an input and the elements that they are. It is this language's own rule.
use Rattle.std.specs.Prelude.{◌≡◌, ℕ, ◌+◌, ◌<◌, ◌≤◌, List, [], ◌∷◌, length, take, if◌then◌else◌, ◌==◌, Option, Some, None, slice_get}
use Rattle.std.specs.List.{concat, count_by}
use Rattle.lucid_value.specs.Plain.{PlainValue, eod, fault}
use Rattle.lucid_value.specs.Reading.{ReadsLine, ReadsAsNone}

-- a byte in front of the first line, or as a line of its own where there is none
abbrev onto_first : ℕ → List (List ℕ) → List (List ℕ)
onto_first b [] = (b ∷ []) ∷ []
onto_first b (line ∷ more) = (b ∷ line) ∷ more

-- The lines of the bytes, each with the byte 10 that ends it; the last may lack it.
abbrev pub lines_of : List ℕ → List (List ℕ)
lines_of [] = []
lines_of (b ∷ bs) = if b == 10 then ((b ∷ []) ∷ lines_of bs) else onto_first b (lines_of bs)

-- a line without the byte 10 that ends it
abbrev pub without_end : List ℕ → List ℕ
without_end [] = []
without_end (b ∷ bs) = if b == 10 then [] else b ∷ without_end bs

-- the most bytes of a line that is read
abbrev pub most_line_bytes : ℕ
most_line_bytes = 4194304

-- What a line is: the value that it reads as, `error` where it reads as none, and `error` where it is too long.
pub data IsLineValue : List ℕ → PlainValue → Type 0 where
  line_value : {line : List ℕ} {v : PlainValue} → length line ≤ most_line_bytes → ReadsLine line v → IsLineValue line v
  line_unread : {line : List ℕ} → length line ≤ most_line_bytes → ReadsAsNone line → IsLineValue line fault
  line_long : {line : List ℕ} → most_line_bytes < length line → IsLineValue line fault

-- The element of a line, or the end of data past the last line.
abbrev pub IsElementOf : Option (List ℕ) → PlainValue → Type 0
IsElementOf None v = v ≡ eod
IsElementOf (Some line) v = IsLineValue (without_end line) v

-- The value is element j of an input with these bytes, counted from 0.
abbrev pub IsElement : List ℕ → ℕ → PlainValue → Type 0
IsElement bytes j v = IsElementOf (slice_get (lines_of bytes) j) v

-- The number of bytes through the end of line j; past the last line, the number of all bytes.
abbrev pub end_of_line : List ℕ → ℕ → ℕ
end_of_line bytes j = length (concat (take (j + 1) (lines_of bytes)))

-- There are at least `most` bytes, and the first `most` of them hold fewer than j + 1 line ends.
abbrev pub IsOverlong : List ℕ → ℕ → ℕ → Type 0
IsOverlong bytes j most = (most ≤ length bytes) × (count_by (λ b. b == 10) (take most bytes) < j + 1)
