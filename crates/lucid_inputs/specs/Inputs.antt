-- What inputs show, and what a call for an element does to them.
use Rattle.std.specs.Prelude.{◌≡◌, ◌≢◌, ◌<◌, ℕ, List, map, length, unwrap_or, ⊤, Result, IfOk, OnOk, IfErr, IsSomeAnd, option_map}
use Rattle.std.specs.List.{slice_get}
use Rattle.std.specs.Borrow.{follows_so, MutBor, Bor, Fml}
use mathlib.Core.Option.{none}
use Rattle.lucid_value.specs.declared.Value.{Value}
use Rattle.lucid_value.specs.View.{plain}
use Rattle.lucid_ports.specs.World.{World}
use Rattle.lucid_inputs.specs.declared.fault.InputFault.{InputFault}
use Rattle.lucid_inputs.specs.declared.on_demand.Inputs.{Inputs}
use Rattle.lucid_inputs.specs.contracts.on_demand.Inputs.{the_row}
use Rattle.lucid_inputs.specs.Faults.{OnTooLarge}
use Rattle.lucid_inputs.specs.Reading.{GivesElement, ReadsOn}
use Rattle.lucid_inputs.specs.Streams.{FitsPlace, Stream, all_bytes, fresh_stream}
use Rattle.lucid_inputs.specs.View.{stream_of, IsReady}

-- the streams
abbrev pub streams : Inputs → List Stream
streams inputs = map stream_of inputs.streams.items

-- the stream of that number
abbrev pub stream_at : Inputs → ℕ → Stream
stream_at inputs number = unwrap_or (slice_get (streams inputs) number) (fresh_stream 0)

-- the numbers of the streams' places, in order
abbrev pub place_numbers : Inputs → List ℕ
place_numbers inputs = map (λ s. s.place) (streams inputs)

-- how many bytes of each stream may be read
abbrev pub most_bytes : Inputs → ℕ
most_bytes inputs = inputs.most

-- the stream of that number fits its place, where that tells its bytes
abbrev pub FitsAt : Inputs → ℕ → World → Type 0
FitsAt inputs number w = FitsPlace (stream_at inputs number) (w.place (stream_at inputs number).place)

-- The stream of that number is read on, and nothing else changes.
pub record ReadsStream (old : Inputs) (number index : ℕ) (new : Inputs) (before after : World) : Type 0 where
  pub asked : ReadsOn index (stream_at old number) (stream_at new number) before after
  pub others : (k : ℕ) → k ≢ number → stream_at new k ≡ stream_at old k
  pub count : length (streams new) ≡ length (streams old)
  pub most : most_bytes new ≡ most_bytes old
  -- each stream is read from the place that it was read from, and fits it if it did before
  pub places : place_numbers new ≡ place_numbers old
  pub fits : (k : ℕ) → k < length (streams old) → FitsAt old k before → FitsAt new k after
  -- no place has other bytes than it had, whether they are consumed or left
  pub bytes : (k : ℕ) → option_map all_bytes (after.place k).contents ≡ option_map all_bytes (before.place k).contents

-- the element of that index of the stream is read, or its end was met and the element lies past the last
abbrev pub HasReady : Inputs → ℕ → ℕ → Type 0
HasReady inputs number index = IsSomeAnd (slice_get inputs.streams.items number) (λ s. IsReady s index)

-- What stands once the borrow of an element is over, whatever the answer was.
pub record Answers (old : Inputs) (number index : ℕ) (result : Result (Bor Value) InputFault) (new : Inputs) (before after : World) : Type 0 where
  pub reads : ReadsStream old number index new before after
  -- the element is the one read at that index, or the end of data past the last
  pub element : IfOk result (λ v. GivesElement (stream_at new number) index (plain v.now))
  -- and it is there to be looked up
  pub ready : OnOk result (HasReady new number index)
  -- exactly as many bytes are consumed as may be
  pub too_large : IfErr result (λ e. OnTooLarge e (λ _. (stream_at new number).consumed ≡ most_bytes old))

abbrev pub EndsAnswered : MutBor Inputs → ℕ → ℕ → Result (Bor Value) InputFault → World → World → Fml
EndsAnswered inputs number index result before after =
    follows_so the_row the_row inputs.ghost_name none (λ _ _. ⊤) (λ new. Answers inputs.now number index result new before after)

-- The stream may be asked for an element: it is there, its place is reached, and where that tells its bytes the stream fits it.
pub record IsAskable (inputs : Inputs) (number : ℕ) (w : World) : Type 0 where
  pub there : number < length (streams inputs)
  pub reached : (stream_at inputs number).place < w.reached
  pub fits : FitsAt inputs number w

-- each stream may be asked
abbrev pub AreAskable : Inputs → World → Type 0
AreAskable inputs w = (k : ℕ) → k < length (streams inputs) → IsAskable inputs k w
