-- What inputs that are read on demand show: their streams, and how many bytes of each may be read.
use Rattle.std.specs.Prelude.{ℕ, map, IsTrue, MatchOption}
use Rattle.std.specs.List.{slice_get}
use Rattle.lucid_value.specs.Plain.{PlainValue}
use Rattle.lucid_value.specs.View.{plain}
use Rattle.lucid_value.specs.Elements.{line_value_of}
use Rattle.lucid_inputs.specs.declared.lines.Element.{Element}
use Rattle.lucid_inputs.specs.declared.lines.Element.TheVariants.{Read, Unread}
use Rattle.lucid_inputs.specs.declared.stream.InputStream.{InputStream}
use Rattle.lucid_inputs.specs.Streams.{Stream}

-- the element that is kept, or that the line kept in its place reads as
abbrev pub element_of : Element → PlainValue
element_of (Read v) = plain v
element_of (Unread line) = line_value_of line.bytes.items

-- the stream as contracts see it
abbrev pub stream_of : InputStream → Stream
stream_of s = record { place = s.place; elements = map element_of s.elements.items; ended = s.ended; partial = s.partial.bytes.items; consumed = s.consumed }

-- the number of the place that it is read from
abbrev pub place_of : InputStream → ℕ
place_of s = s.place

-- its value is read
abbrev pub IsRead : Element → Type 0
IsRead (Read v) = Unit {0}
IsRead (Unread line) = ⊥

-- the value of the element of that index is read, or the end was met and it lies past the last
abbrev pub IsReady : InputStream → ℕ → Type 0
IsReady s index = MatchOption (slice_get s.elements.items index) (IsTrue s.ended) IsRead
