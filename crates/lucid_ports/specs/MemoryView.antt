-- What places in memory tell.
use Rattle.std.specs.Prelude.{◌≡◌, ℕ, List, map, take, drop, Option, None, Some, Result, IsErr, IsErrOf, IsSomeAnd, vec_len}
use Rattle.std.specs.List.{slice_get}
use Rattle.std.specs.String.{string_bytes}
use denote.Ref.{Bor}
use Rattle.lucid_ports.specs.declared.fault.PortFault.{PortFault}
use Rattle.lucid_ports.specs.declared.fault.PortFault.TheVariants.{Failed}
use Rattle.lucid_ports.specs.declared.files.MemoryFile.{MemoryFile}
use Rattle.lucid_ports.specs.declared.memory_places.FailAt.{FailAt}
use Rattle.lucid_ports.specs.declared.memory_places.MemoryPlace.{MemoryPlace}
use Rattle.lucid_ports.specs.declared.memory_places.MemoryPlaces.{MemoryPlaces}
use Rattle.lucid_ports.specs.Faults.{faults_after}
use Rattle.lucid_ports.specs.Files.{bytes_named, bytes_at}
use Rattle.lucid_ports.specs.Memory.{ShowsUpToFailure}
use Rattle.lucid_ports.specs.World.{Contents, Place, World}

-- these bytes, of which those before the position are consumed
abbrev pub read_to : ℕ → List ℕ → Contents
read_to position bytes = record { consumed = take position bytes; left = drop position bytes }

-- what such a place tells, if it is reached: the bytes of its file, and how much of them it shows
abbrev pub memory_place : List MemoryFile → Option MemoryPlace → Place
memory_place files None = record { contents = None; shown = 0; used = 0 }
memory_place files (Some p) = record { contents = Some (read_to p.mark.position (bytes_at files p.file)); shown = p.mark.shown; used = p.mark.used }

-- the files' names, those that were asked for, the places reached and the counts
abbrev pub memory_world : MemoryPlaces → World
memory_world m = record {
  holds = bytes_named m.files.items;
  asked = map string_bytes m.names.items;
  reached = vec_len m.places;
  place = λ k. memory_place m.files.items (slice_get m.places.items k);
  faults = m.faults;
  late = m.late;
}

-- the failures to come
abbrev pub memory_failures : MemoryPlaces → List FailAt
memory_failures m = m.failures.items

-- A name is reached unless no file has it, or there is no memory; it is a fault only where no file has it.
pub record ReachesMemory (old : MemoryPlaces) (name : List ℕ) (result : Result ℕ PortFault) (new : MemoryPlaces) : Type 0 where
  pub missing : (memory_world old).holds name ≡ None → IsErr result
  pub failed : IsErrOf result Failed → (memory_world old).holds name ≡ None
  pub failures : memory_failures new ≡ memory_failures old
  pub faults : (memory_world new).faults ≡ faults_after (memory_world old).faults result

-- All that is left is shown, or what stands before the next failure.
pub record ShowsMemory (old : MemoryPlaces) (number : ℕ) (result : Result (Bor (List ℕ)) PortFault) (new : MemoryPlaces) : Type 0 where
  pub piece : IsSomeAnd ((memory_world old).place number).contents (λ c. ShowsUpToFailure c number (memory_failures old) result (memory_failures new))
  pub faults : (memory_world new).faults ≡ faults_after (memory_world old).faults result

-- No failure is spent or counted.
pub record ConsumesMemory (old : MemoryPlaces) (number n : ℕ) (new : MemoryPlaces) : Type 0 where
  pub failures : memory_failures new ≡ memory_failures old
  pub faults : (memory_world new).faults ≡ (memory_world old).faults
