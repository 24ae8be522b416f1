-- The definitions that are found.
use Rattle.std.specs.Prelude.{ℕ, List, [], Option, Some, None}
use Rattle.std.specs.List.{slice_get}
use Rattle.lucid_cycles.specs.declared.line.Definition.{Definition}
use Rattle.lucid_cycles.specs.JudgmentLine.{definition_text}

-- the text of a definition, where there is one
abbrev pub text_of : Option Definition → List ℕ
text_of None = []
text_of (Some d) = definition_text d

-- the text of the definition at a place of the list
abbrev pub text_at : List Definition → ℕ → List ℕ
text_at ds k = text_of (slice_get ds k)
