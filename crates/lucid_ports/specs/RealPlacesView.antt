-- What real places tell: what names hold, which were asked for, how many places are reached, the contents of each and how much it shows, and how often they failed.
use Rattle.std.specs.Prelude.{◌≡◌, ◌<◌, ℕ, List, length, map, Option, None, Some, option_map, Result, Ok, Err, IsOk, vec_len}
use Rattle.std.specs.List.{slice_get}
use Rattle.std.specs.String.{string_bytes}
use denote.Ref.{Bor}
use Rattle.lucid_ports.specs.declared.fault.PortFault.{PortFault}
use Rattle.lucid_ports.specs.declared.real_place.RealPlace.{RealPlace}
use Rattle.lucid_ports.specs.declared.real_places.RealPlaces.{RealPlaces}
use Rattle.lucid_ports.specs.Source.{source_contents, SourceAsks}
use Rattle.lucid_ports.specs.declared.source.Source.{Source}
use Rattle.lucid_ports.specs.World.{Contents, Place, World}

-- what such a place tells, if it is reached
abbrev pub real_place : {F I : Type 0} {g : _} {h : _} {k : _} → (F → Option Contents) → (I → Option Contents) → Option (RealPlace F I g h k) → Place
real_place of_file of_input None = record { contents = None; shown = 0; used = 0 }
real_place of_file of_input (Some p) = record {
  contents = source_contents of_file of_input p.source p.window.bytes;
  shown = length p.window.bytes;
  used = p.window.used;
}

abbrev pub real_world : {O F I : Type 0} {g : _} {h : _} {k : _} → (O → List ℕ → Option (List ℕ)) → (F → Option Contents) → (I → Option Contents)
    → RealPlaces O F I g h k → World
real_world holds of_file of_input r = record {
  holds = holds r.outside;
  asked = map string_bytes r.names.items;
  reached = vec_len r.places;
  place = λ k. real_place of_file of_input (slice_get r.places.items k);
  faults = r.faults;
  late = r.late;
}

-- what opens files and standard input
abbrev pub real_outside : {O F I : Type 0} {g : _} {h : _} {k : _} → RealPlaces O F I g h k → O
real_outside r = r.outside

-- the names that were asked for
abbrev pub real_names : {O F I : Type 0} {g : _} {h : _} {k : _} → RealPlaces O F I g h k → List (List ℕ)
real_names r = map string_bytes r.names.items

-- how many places are reached
abbrev pub real_reached : {O F I : Type 0} {g : _} {h : _} {k : _} → RealPlaces O F I g h k → ℕ
real_reached r = vec_len r.places

-- the count of faults, and that of late calls
abbrev pub real_faults : {O F I : Type 0} {g : _} {h : _} {k : _} → RealPlaces O F I g h k → ℕ
real_faults r = r.faults

abbrev pub real_late : {O F I : Type 0} {g : _} {h : _} {k : _} → RealPlaces O F I g h k → ℕ
real_late r = r.late

-- the place of that number, if it is reached, and what it reads from
abbrev pub place_at : {O F I : Type 0} {g : _} {h : _} {k : _} → RealPlaces O F I g h k → ℕ → Option (RealPlace F I g h k)
place_at r number = slice_get r.places.items number

abbrev pub source_of : {F I : Type 0} {g : _} {h : _} {k : _} → Option (RealPlace F I g h k) → Option (Source F I)
source_of place = option_map (λ p. p.source) place

-- one call of the reader of a place, which gave that answer
abbrev pub PlaceAsks : {F I : Type 0} {g : _} {h : _} {k : _} → (F → Option ℕ → F → Type 0) → (I → Option ℕ → I → Type 0) → (I → Option ℕ → I → Type 0)
    → Option (RealPlace F I g h k) → Option ℕ → Option (RealPlace F I g h k) → Type 0
PlaceAsks of_file read show None answer new = ⊥
PlaceAsks of_file read show (Some p) answer None = ⊥
PlaceAsks of_file read show (Some p) answer (Some q) = SourceAsks of_file read show p.source answer q.source

-- how many bytes are shown; none where the call failed
abbrev pub bytes_shown : Result (Bor (List ℕ)) PortFault → Option ℕ
bytes_shown (Ok piece) = Some (length piece.now)
bytes_shown (Err fault) = None

-- Where nothing is shown, the reader is asked once, and gives what the call answers; else the call succeeds, and the reader stays.
pub record AsksWhereNone (shown : ℕ) (Asks : Option ℕ → Type 0) (Stays : Type 0) (result : Result (Bor (List ℕ)) PortFault) : Type 0 where
  pub asked : shown ≡ 0 → Asks (bytes_shown result)
  pub unasked : 0 < shown → IsOk result × Stays
