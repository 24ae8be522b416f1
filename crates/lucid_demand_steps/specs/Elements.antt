-- The elements that streams have read, and those that their places tell.
use Rattle.std.specs.Prelude.{ℕ, List, ◌∷◌, Option, Some, None, if◌then◌else◌, slice_get}
use Rattle.lucid_value.specs.Plain.{PlainValue, eod}
use Rattle.lucid_tree.specs.Levels.{Elements}
use Rattle.lucid_tree.specs.Env.{same_name}
use Rattle.lucid_value.specs.Elements.{element}
use Rattle.lucid_ports.specs.World.{World, Contents}
use Rattle.lucid_inputs.specs.Streams.{Stream, all_bytes}

-- the value, or the end of data where the end was met
abbrev pub or_end : Option PlainValue → Stream → Option PlainValue
or_end (Some v) s = Some v
or_end None s = if s.ended then Some eod else None

-- The element of an index that a stream has read: the end of data past the last where the end was met.
abbrev pub read_in : Stream → ℕ → Option PlainValue
read_in s j = or_end (slice_get s.elements j) s

-- The elements that streams of these names have read. The names of a program's inputs differ.
abbrev pub elements_read : List (List ℕ) → List Stream → Elements
elements_read (m ∷ names) (s ∷ streams) n j = if same_name m n then read_in s j else elements_read names streams n j
elements_read _ _ n j = None

-- the element of an index where the place tells its bytes, and else what is read of it
abbrev pub told_in : Stream → Option Contents → ℕ → Option PlainValue
told_in s None j = read_in s j
told_in s (Some c) j = Some (element (all_bytes c) j)

-- The elements that the places of streams tell: those of all their bytes.
abbrev pub elements_told : List (List ℕ) → List Stream → World → Elements
elements_told (m ∷ names) (s ∷ streams) w n j = if same_name m n then told_in s (w.place s.place).contents j else elements_told names streams w n j
elements_told _ _ w n j = None
