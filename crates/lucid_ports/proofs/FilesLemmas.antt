-- Finding a file by its name.
use Rattle.lucid_ports.proofs.Common.{◌≡◌, ℕ, ◌<◌, true, List, length, drop, get_or, Some, refl, sym, ap, ◌∙◌, bytes_eq, slice_get_read, string_bytes, MemoryFile, bytes_named, bytes_at, suc, ◌∷◌, cond, drop-cons}
use Rattle.lucid_ports.specs.Files.{bytes_of}

-- no file before k has the name, and file k has it
pub bytes_named-found : (files : List MemoryFile) (name : List ℕ) (k : ℕ) (file : MemoryFile) → k < length files → file ≡ get_or files k file
    → bytes_eq (string_bytes file.name) name ≡ true → bytes_named (drop k files) name ≡ bytes_named files name
    → bytes_named files name ≡ Some (bytes_at files k)
bytes_named-found files name k file within read same before =
    let first = ap (λ fs. bytes_named fs name) (drop-cons files k file within) in
    let this = ap (λ f. bytes_named (f ∷ drop (suc k) files) name) (sym read) in
    let found = ap (λ b. cond b (Some file.bytes.items) (bytes_named (drop (suc k) files) name)) same in
    let bytes = ap (λ f. Some (bytes_of f)) (slice_get_read files (length files) k file refl within read) in
    sym before ∙ first ∙ this ∙ found ∙ sym bytes
