-- Streams that are read on demand, and how a stream fits the place that it is read from. It is this language's own rule.
use Rattle.std.specs.Prelude.{◌≡◌, ℕ, Bool, false, List, [], ◌++◌, length, map, take, drop, ◌==◌, if◌then◌else◌, IsTrue, IfSome}
use Rattle.std.specs.List.{concat, count_by}
use Rattle.lucid_value.specs.Plain.{PlainValue}
use Rattle.lucid_value.specs.Lines.{lines_of, without_end}
use Rattle.lucid_value.specs.Elements.{line_value_of}
use Rattle.lucid_ports.specs.World.{Contents, Place}

-- A stream: the number of its place, the elements read, whether its end was met, the line that is partly read, and how many
-- bytes are consumed.
pub record Stream : Type 0 where
  pub place : ℕ
  pub elements : List PlainValue
  pub ended : Bool
  pub partial : List ℕ
  pub consumed : ℕ

-- a stream of which nothing is read
abbrev pub fresh_stream : ℕ → Stream
fresh_stream place = record { place = place; elements = []; ended = false; partial = []; consumed = 0 }

-- how many line ends, bytes 10, stand in the bytes
abbrev pub line_ends : List ℕ → ℕ
line_ends bytes = count_by (λ b. b == 10) bytes

-- the element of a line, which may have its line end
abbrev pub line_element : List ℕ → PlainValue
line_element line = line_value_of (without_end line)

-- all bytes of a place: those that were consumed, and those that are left
abbrev pub all_bytes : Contents → List ℕ
all_bytes c = c.consumed ++ c.left

-- how many lines of the bytes are whole: those with a line end and, where the end was met, a last one without
abbrev pub whole_lines : Bool → List ℕ → ℕ
whole_lines ended bytes = if ended then length (lines_of bytes) else line_ends bytes

-- The stream has read what the place has consumed: its elements are those of the whole lines, its partly read line is what
-- was consumed after them, or the first 4,194,305 bytes of that, and where its end was met nothing is left.
pub record Fits (s : Stream) (c : Contents) : Type 0 where
  pub elements : s.elements ≡ map line_element (take (whole_lines s.ended c.consumed) (lines_of c.consumed))
  pub partial : s.partial ≡ take 4194305 (concat (drop (whole_lines s.ended c.consumed) (lines_of c.consumed)))
  pub consumed : s.consumed ≡ length c.consumed
  pub ended : IsTrue s.ended → c.left ≡ []

-- it fits the place, where that tells its bytes
abbrev pub FitsPlace : Stream → Place → Type 0
FitsPlace s p = IfSome p.contents (λ c. Fits s c)
