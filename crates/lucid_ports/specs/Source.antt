-- A source behind its window: a file, of which what is shown was taken, or standard input.
use Rattle.std.specs.Prelude.{ℕ, List, Option}
use Rattle.lucid_ports.specs.StandardInput.{shown_of, contents_of, AsksOnce}
use Rattle.lucid_ports.specs.World.{Contents}
use Rattle.lucid_ports.specs.declared.standard_input.Manner.{Manner}
use Rattle.lucid_ports.specs.declared.standard_input.Manner.TheVariants.{Taken}
use Rattle.lucid_ports.specs.declared.source.Source.{Source}
use Rattle.lucid_ports.specs.declared.source.Source.TheVariants.{File, Input}

-- the manner in which it is read
abbrev pub manner_of : {F I : Type 0} → Source F I → Manner
manner_of (File file) = Taken
manner_of (Input input) = input.manner

-- what its reader tells
abbrev pub told_of : {F I : Type 0} → (F → Option Contents) → (I → Option Contents) → Source F I → Option Contents
told_of of_file of_input (File file) = of_file file
told_of of_file of_input (Input input) = of_input input.reader

-- what is shown of it
abbrev pub source_shown : {F I : Type 0} → (F → Option Contents) → (I → Option Contents) → Source F I → List ℕ → List ℕ
source_shown of_file of_input source bytes = shown_of (manner_of source) bytes (told_of of_file of_input source)

-- what the place tells
abbrev pub source_contents : {F I : Type 0} → (F → Option Contents) → (I → Option Contents) → Source F I → List ℕ → Option Contents
source_contents of_file of_input source bytes = contents_of (manner_of source) bytes (told_of of_file of_input source)

-- one call of its reader, which gave that answer
abbrev pub SourceAsks : {F I : Type 0} → (F → Option ℕ → F → Type 0) → (I → Option ℕ → I → Type 0) → (I → Option ℕ → I → Type 0)
    → Source F I → Option ℕ → Source F I → Type 0
SourceAsks of_file read show (File old) answer (File new) = of_file old answer new
SourceAsks of_file read show (Input old) answer (Input new) = AsksOnce old.manner read show old.reader answer new.reader
SourceAsks of_file read show (File old) answer (Input new) = ⊥
SourceAsks of_file read show (Input old) answer (File new) = ⊥
