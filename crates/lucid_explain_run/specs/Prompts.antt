-- What is said before a run reads an input from a terminal.
use Rattle.std.specs.Prelude.{◌≡◌, List, ℕ, ◌+◌, [], ◌∷◌, ◌++◌, length, min, drop, Bool, ◌==◌, ◌||◌, codes, if◌then◌else◌}
use Rattle.lucid_scope.specs.declared.scoped.Scoped.{Scoped}
use Rattle.lucid_scope.specs.Scoped.{scoped_tree, scoped_inputs}
use Rattle.lucid_explain_run.specs.declared.inputs.Lacking.{Lacking}
use Rattle.lucid_value.specs.Plain.{same_bytes}
use Rattle.lucid_explain_source.specs.Accepted.{IsProgram, IsTurnedDown}
use Rattle.lucid_explain_source.specs.Definitions.{name_text}
use Rattle.lucid_explain_source.specs.Characters.{begins}
use Rattle.lucid_explain_source.specs.Names.{name_front}
use Rattle.lucid_explain_run.specs.Inputs.{AreLacking, meant_text}

-- A comment begins behind a name with which the rest of a source begins, as in `n // 2`.
abbrev pub begins_comment : (behind : List ℕ) → Bool
begins_comment behind = begins behind (codes " //") || begins behind (codes "//")

abbrev pub is_divided : (rest : List ℕ) → Bool
is_divided rest = begins_comment (drop (length (name_front rest)) rest)

-- a letter that looks like a digit
abbrev pub looks_like_digit : (name : List ℕ) → Bool
looks_like_digit name = same_bytes name (codes "O") || same_bytes name (codes "l")

-- what else may be meant by a name with which the rest of a source begins
abbrev pub other_text : (rest : List ℕ) → List ℕ
other_text rest =
    if is_divided rest then codes "Behind it begins a comment, with `//`: whole division is `div`.\n"
    else if looks_like_digit (name_front rest) then codes "If no input is meant: define the name. If 0 or 1 is meant: this is a letter.\n"
    else if same_bytes (name_front rest) (codes "nil") then codes "The empty list is written `[]`.\n"
    else codes "If no input is meant: define the name, or write a word between two \", as in \"red\".\n"

-- that an input is read, and what may be meant by its name
abbrev pub prompt_text : (source other : List ℕ) → Lacking → List ℕ
prompt_text source other l =
    codes "The input " ++ (name_text l.name.now ++ (codes " is read from here, a value on each line.\n" ++ meant_text source other l))

-- the same by what stands behind the name in the source
abbrev pub asked_text : (source : List ℕ) → Lacking → List ℕ
asked_text source l = prompt_text source (other_text (drop (min (length source) l.at) source)) l

-- what is said of an input that is read
abbrev pub read_text : (source : List ℕ) → (is_read : Bool) → Lacking → List ℕ
read_text source is_read l = if is_read then asked_text source l else []

-- what is said of the only input without a file, where it is read
abbrev pub only_text : (source : List ℕ) → (is_read : Bool) → List Lacking → List ℕ
only_text source is_read [] = []
only_text source is_read (l ∷ []) = read_text source is_read l
only_text source is_read (l ∷ other ∷ more) = []

-- As many files are given as there are other inputs than one: where one input alone has none, each file is of another input. Else the words are refused.
abbrev pub are_others : (given inputs : List (List ℕ)) → Bool
are_others given inputs = length given + 1 == length inputs

-- The text tells the only input of the source without a file, if there is one alone and no other file is given; or nothing, where the source is refused.
pub data TellsPrompt (source : List ℕ) (given : List (List ℕ)) (text : List ℕ) : Type 0 where
  nothing : IsTurnedDown source → text ≡ [] → TellsPrompt source given text
  lacking : (scoped : Scoped) (those : List Lacking) → IsProgram source (scoped_tree scoped)
      → AreLacking scoped given (length source) those → text ≡ only_text source (are_others given (scoped_inputs scoped)) those → TellsPrompt source given text
