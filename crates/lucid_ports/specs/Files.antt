-- Files in memory.
use Rattle.std.specs.Prelude.{ℕ, List, [], ◌∷◌, Option, None, Some, bytes_eq, if◌then◌else◌}
use Rattle.std.specs.String.{string_bytes}
use Rattle.std.specs.List.{slice_get}
use Rattle.lucid_ports.specs.declared.files.MemoryFile.{MemoryFile}

-- what a name holds: the bytes of the first file of that name
abbrev pub bytes_named : List MemoryFile → List ℕ → Option (List ℕ)
bytes_named [] name = None
bytes_named (file ∷ files) name = if bytes_eq (string_bytes file.name) name then Some file.bytes.items else bytes_named files name

-- the bytes of a file, or none
abbrev pub bytes_of : Option MemoryFile → List ℕ
bytes_of None = []
bytes_of (Some file) = file.bytes.items

-- the bytes of the file of that number
abbrev pub bytes_at : List MemoryFile → ℕ → List ℕ
bytes_at files k = bytes_of (slice_get files k)
