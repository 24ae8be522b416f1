-- Which names a call asks for, in order.
use Rattle.std.specs.Prelude.{◌≡◌, ℕ, List, [], ◌∷◌, ◌++◌, take}
use Rattle.lucid_ports.specs.World.{World}
use Rattle.lucid_words.specs.Plain.{PlainSource, file, made}
use Rattle.lucid_words.specs.Asked.{PlainWords}
use Rattle.lucid_top.specs.declared.task.Task.{Task}
use Rattle.lucid_top.specs.declared.task.Task.TheVariants as task
use Rattle.lucid_top.specs.Tasks.{task_of}
use Rattle.lucid_top.specs.Files.{files_for}

-- the name of the source, where it is a file
abbrev pub source_names : PlainSource → List (List ℕ)
source_names (file name) = name ∷ []
source_names (made n) = []

-- the name of a certificate that is checked
abbrev pub certificate_names : Task → (check : List ℕ) → List (List ℕ)
certificate_names task.Check name = name ∷ []
certificate_names t name = []

-- All that a call by these words asks for, whose program has inputs of these names: the source, a certificate that is checked, and the file of
-- each input.
abbrev pub names_for : PlainWords → (inputs : List (List ℕ)) → List (List ℕ)
names_for w free = source_names w.source ++ (certificate_names (task_of w) w.check ++ files_for free w.given)

-- These names were asked for, in order, or a front of them; and no other.
abbrev pub AsksFront : (names : List (List ℕ)) → (old new : World) → Type 0
AsksFront names old new = (n : ℕ) × (new.asked ≡ old.asked ++ take n names)
