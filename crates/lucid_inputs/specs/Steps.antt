-- The steps in which a stream is read: a part of a line, the rest of a line with its line end, and the end.
use Rattle.std.specs.Prelude.{◌≡◌, ℕ, ◌+◌, ◌<◌, true, List, [], ◌∷◌, ◌++◌, length, take, IfSome, Option, option_map}
use Rattle.std.specs.Io.{StartsWith}
use Rattle.lucid_value.specs.Plain.{PlainValue}
use Rattle.lucid_value.specs.Elements.{line_value_of}
use Rattle.lucid_ports.specs.World.{Contents, advanced}
use Rattle.lucid_inputs.specs.Streams.{Stream, line_ends}

-- a partly read line with more bytes, of which the first 4,194,305 are kept
abbrev pub line_with : List ℕ → List ℕ → List ℕ
line_with partial xs = take 4194305 (partial ++ xs)

-- the stream after a part of a line
abbrev pub with_part : List ℕ → Stream → Stream
with_part xs s = record s { partial = line_with s.partial xs; consumed = s.consumed + length xs }

-- the stream after the last bytes of a line, without its line end
abbrev pub with_element : List ℕ → Stream → Stream
with_element xs s = record s { elements = s.elements ++ line_value_of (line_with s.partial xs) ∷ []; partial = [] }

-- the stream after the last bytes of a line and its line end
abbrev pub with_line : List ℕ → Stream → Stream
with_line xs s = record (with_element xs s) { consumed = s.consumed + length xs + 1 }

-- the element of a last line without line end, if there is one
abbrev pub last_element : List ℕ → List PlainValue
last_element [] = []
last_element (b ∷ bs) = line_value_of (line_with (b ∷ bs) []) ∷ []

-- the stream once its end is met
abbrev pub with_end : Stream → Stream
with_end s = record s { elements = s.elements ++ last_element s.partial; ended = true; partial = [] }

-- The stream has taken these bytes, which end a line at most with the last of them.
pub data Takes (bytes : List ℕ) (old new : Stream) : Type 0 where
  takes_part : line_ends bytes ≡ 0 → new ≡ with_part bytes old → Takes bytes old new
  takes_line : (xs : List ℕ) → bytes ≡ xs ++ 10 ∷ [] → line_ends xs ≡ 0 → new ≡ with_line xs old → Takes bytes old new

-- What a piece does to a stream and to the contents of its place, where these are told.
pub data Step (old new : Stream) (before after : Option Contents) : Type 0 where
  step_end : IfSome before (λ c. c.left ≡ []) → after ≡ before → new ≡ with_end old → Step old new before after
  step_bytes : (bytes : List ℕ) → 0 < length bytes → IfSome before (λ c. StartsWith c.left bytes)
      → after ≡ option_map (advanced (length bytes)) before → Takes bytes old new → Step old new before after
