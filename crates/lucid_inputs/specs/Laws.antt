-- Laws of streams. Each is proved as the contract of a function of the same name.
use Rattle.std.specs.Prelude.{◌≡◌, ◌<◌, ◌≤◌, ℕ, List, length, Option, IsTrue, MatchOption}
use Rattle.std.specs.List.{slice_get}
use Rattle.lucid_value.specs.Plain.{eod}
use Rattle.lucid_value.specs.Elements.{element}
use Rattle.lucid_ports.specs.World.{Contents, IsFresh, Place, World}
use Rattle.lucid_inputs.specs.declared.on_demand.Inputs.{Inputs}
use Rattle.lucid_inputs.specs.Inputs.{AreAskable, ReadsStream, most_bytes, stream_at, streams}
use Rattle.lucid_inputs.specs.Streams.{Stream, Fits, FitsPlace, all_bytes, fresh_stream}

-- Each element that a stream has read is that of all bytes of a place that it fits, and where its end was met there is none past the last.
abbrev pub ElementsFit : Type 0
ElementsFit = (s : Stream) (c : Contents) → Fits s c → (j : ℕ)
    → MatchOption (slice_get s.elements j) (IsTrue s.ended → element (all_bytes c) j ≡ eod) (λ v. v ≡ element (all_bytes c) j)

-- A stream of which nothing is read fits a place just reached.
abbrev pub FreshFits : Type 0
FreshFits = (number : ℕ) (bytes : Option (List ℕ)) (place : Place) → IsFresh bytes place → FitsPlace (fresh_stream number) place

-- Whatever the places tell: of each stream no more bytes are consumed than may be read, and fewer where its end was met; and of its partly
-- read line no more than the first 4,194,305 bytes are kept.
abbrev pub KeepsWithin : Type 0
KeepsWithin = (inputs : Inputs) (number : ℕ)
    → ((stream_at inputs number).consumed ≤ most_bytes inputs) × (length (stream_at inputs number).partial ≤ 4194305)
    × (IsTrue (stream_at inputs number).ended → (stream_at inputs number).consumed < most_bytes inputs)

-- No two streams are read from one place.
abbrev pub PlacesDiffer : Type 0
PlacesDiffer = (inputs : Inputs) (i k : ℕ) → i < length (streams inputs) → k < length (streams inputs)
    → (stream_at inputs i).place ≡ (stream_at inputs k).place → i ≡ k

-- Where each stream may be asked, each may be asked again after one of them is read on.
abbrev pub AskedAgain : Type 0
AskedAgain = (old new : Inputs) (number index : ℕ) (before after : World) → ReadsStream old number index new before after
    → AreAskable old before → AreAskable new after
