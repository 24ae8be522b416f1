-- Two words of a command stand alone, and ask for a text: of help, or of the version.
use Rattle.std.specs.Prelude.{ℕ, List, [], ◌∷◌, codes, Option, None, Some, if◌then◌else◌}
use Rattle.lucid_value.specs.Plain.{same_bytes}

-- the text for which a word asks
abbrev pub text_for : (help version word : List ℕ) → Option (List ℕ)
text_for help version word =
    if same_bytes word (codes "--help") then Some help
    else if same_bytes word (codes "--version") then Some version
    else None

-- the text for which arguments ask, the command's own name among them
abbrev pub text_asked : (help version : List ℕ) → (arguments : List (List ℕ)) → Option (List ℕ)
text_asked help version (own ∷ word ∷ []) = text_for help version word
text_asked help version [] = None
text_asked help version (own ∷ []) = None
text_asked help version (own ∷ word ∷ other ∷ more) = None
