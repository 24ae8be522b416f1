-- What places without end tell, and where they stand.
use Rattle.std.specs.Prelude.{◌≡◌, ℕ, List, map, length, Option, None, Some, Result, IfOk, IfSome, IsOkAnd, option_map, vec_len}
use Rattle.std.specs.List.{slice_get}
use Rattle.std.specs.String.{string_bytes}
use denote.Ref.{Bor}
use Rattle.lucid_ports.specs.declared.fault.PortFault.{PortFault}
use Rattle.lucid_ports.specs.declared.files.MemoryFile.{MemoryFile}
use Rattle.lucid_ports.specs.declared.endless.EndlessPlace.{EndlessPlace}
use Rattle.lucid_ports.specs.declared.endless.Endless.{Endless}
use Rattle.lucid_ports.specs.Endless.{Spot, position_in, next_bytes, moved, OthersStay}
use Rattle.lucid_ports.specs.Files.{bytes_named, bytes_at}
use Rattle.lucid_ports.specs.World.{Place, World}

-- the piece that comes again and again
abbrev pub endless_piece : Endless → List ℕ
endless_piece e = e.sources.piece.items

-- the files that have an end
abbrev pub endless_files : Endless → List MemoryFile
endless_files e = e.sources.files.items

-- where such a place stands
abbrev pub spot_of : List MemoryFile → List ℕ → EndlessPlace → Spot
spot_of files piece p = record { source = option_map (bytes_at files) p.file; position = position_in (length piece) p.file p.mark.position }

-- where a place stands, if it is reached
abbrev pub endless_spot : Endless → ℕ → Option Spot
endless_spot e k = option_map (spot_of e.sources.files.items e.sources.piece.items) (slice_get e.places.items k)

-- what such a place tells, if it is reached: how much it shows
abbrev pub endless_place : Option EndlessPlace → Place
endless_place None = record { contents = None; shown = 0; used = 0 }
endless_place (Some p) = record { contents = None; shown = p.mark.shown; used = p.mark.used }

-- the names that were asked for, nothing of contents, and no fault
abbrev pub endless_world : Endless → World
endless_world e = record {
  holds = λ name. None;
  asked = map string_bytes e.names.items;
  reached = vec_len e.places;
  place = λ k. endless_place (slice_get e.places.items k);
  faults = 0;
  late = 0;
}

-- the same files and the same piece
pub record KeepsSources (old new : Endless) : Type 0 where
  pub files : endless_files new ≡ endless_files old
  pub piece : endless_piece new ≡ endless_piece old

-- The new place stands at the beginning of the file of that name or, with none, of the piece.
pub record ReachesEndless (old : Endless) (name : List ℕ) (result : Result ℕ PortFault) (new : Endless) : Type 0 where
  pub begins : IfOk result (λ number. endless_spot new number ≡ Some (record { source = bytes_named (endless_files old) name; position = 0 }))
  pub others : OthersStay (endless_world old).reached (endless_spot old) (endless_spot new)
  pub sources : KeepsSources old new

-- All that comes next is shown, without fail, and no place moves.
pub record ShowsEndless (old : Endless) (number : ℕ) (result : Result (Bor (List ℕ)) PortFault) (new : Endless) : Type 0 where
  pub piece : IfSome (endless_spot old number) (λ spot. IsOkAnd result (λ piece. piece.now ≡ next_bytes (endless_piece old) spot))
  pub stays : (k : ℕ) → endless_spot new k ≡ endless_spot old k
  pub sources : KeepsSources old new

-- The place moves by n bytes.
pub record ConsumesEndless (old : Endless) (number n : ℕ) (new : Endless) : Type 0 where
  pub moves : endless_spot new number ≡ option_map (moved (endless_piece old) n) (endless_spot old number)
  pub others : OthersStay number (endless_spot old) (endless_spot new)
  pub sources : KeepsSources old new
