-- What reading on does to a stream, whatever the answer.
use Rattle.std.specs.Prelude.{◌≡◌, ℕ, ◌+◌, ◌<◌, ◌≤◌, max, List, ◌++◌, IsTrue, IfSome, Option, MatchOption, option_map}
use Rattle.std.specs.List.{slice_get}
use Rattle.lucid_value.specs.Plain.{PlainValue, eod}
use Rattle.lucid_value.specs.Lines.{IsOverlong, end_of_line}
use Rattle.lucid_ports.specs.World.{Contents, World, advanced, KeepsOthers}
use Rattle.lucid_inputs.specs.Streams.{Stream, FitsPlace, all_bytes}

-- A stream before and after it is read on for the element of that index, with what it is read from.
pub record ReadsOn (index : ℕ) (old new : Stream) (before after : World) : Type 0 where
  pub place : new.place ≡ old.place
  -- each element read before stays at its index
  pub more : List PlainValue
  pub elements : new.elements ≡ old.elements ++ more
  -- where the end was met before, nothing is read
  pub ended : IsTrue old.ended → new ≡ old
  -- the bytes that the stream counts are consumed at its place, and nothing else changes
  pub taken : ℕ
  pub consumed : new.consumed ≡ old.consumed + taken
  pub contents : (after.place old.place).contents ≡ option_map (advanced taken) (before.place old.place).contents
  pub reached : after.reached ≡ before.reached
  pub others : KeepsOthers old.place before after
  -- no byte past the line end that is wanted is consumed
  pub bound : IfSome (before.place old.place).contents (λ c. new.consumed ≤ max old.consumed (end_of_line (all_bytes c) index))
  pub fits : FitsPlace new (after.place old.place)

-- no more than `most` bytes are consumed, and fewer where the end was met
pub record IsWithin (s : Stream) (most : ℕ) : Type 0 where
  pub consumed : s.consumed ≤ most
  pub ended : IsTrue s.ended → s.consumed < most

-- The element of that index that a stream gives: the one read, or the end of data past the last where the end was met.
abbrev pub GivesElement : Stream → ℕ → PlainValue → Type 0
GivesElement s index v = MatchOption (slice_get s.elements index) (IsTrue s.ended × (v ≡ eod)) (λ e. v ≡ e)

-- As many bytes of that stream are consumed as may be, and the element lies past them.
pub record IsTooLarge (number index most : ℕ) (new : Stream) (named : ℕ) (before : Option Contents) : Type 0 where
  pub stream : named ≡ number
  pub consumed : new.consumed ≡ most
  pub overlong : IfSome before (λ c. IsOverlong (all_bytes c) index most)
