-- What is said of inputs that have no file: the name of each, where it stands first, and what may be meant by it.
use Rattle.std.specs.Prelude.{◌≡◌, ℕ, suc, ◌+◌, ◌*◌, ◌<◌, List, [], ◌∷◌, ◌++◌, length, map, find, min, max, Bool, ◌&&◌, ◌||◌, ◌==◌, nat_le, nat_lt, Option, None, Some, Contains, codes, nat_eq, if◌then◌else◌}
use Rattle.std.specs.Borrow.{Bor}
use Rattle.std.specs.List.{slice_get, flat_map}
use Rattle.std.specs.Option.{option_or, option_copied}
use Rattle.std.specs.Char.{to_ascii_lowercase}
use Rattle.strsim.specs.Edits.{levenshtein_row}
use Rattle.lucid_value.specs.Plain.{same_bytes}
use Rattle.lucid_tree.specs.declared.tree.Def.{Def}
use Rattle.lucid_scope.specs.declared.scoped.Scoped.{Scoped}
use Rattle.lucid_scope.specs.declared.scoped.Binding.TheVariants.{Input}
use Rattle.lucid_scope.specs.Scoped.{scoped_tree, scoped_inputs, scoped_binding}
use Rattle.lucid_explain_run.specs.declared.inputs.Lacking.{Lacking}
use Rattle.lucid_explain_source.specs.Accepted.{IsProgram, IsTurnedDown}
use Rattle.lucid_explain_places.specs.Positions.{where_text}
use Rattle.lucid_explain_source.specs.Definitions.{name_text, definition_text}
use Rattle.lucid_explain_source.specs.Names.{has_parameter}
use Rattle.lucid_explain_places.specs.Hints.{is_capital}
use Rattle.lucid_explain_source.specs.Scopes.{in_scope, all_defs}

-- The name at a place belongs to the input of this number.
abbrev pub StandsAt : Scoped → (stream : ℕ) → (at : ℕ) → Type 0
StandsAt scoped stream at = scoped_binding scoped at ≡ Some (Input stream)

-- It does so at no lesser place.
pub record StandsFirst (scoped : Scoped) (stream at : ℕ) : Type 0 where
  pub stands : StandsAt scoped stream at
  pub first : (before : ℕ) → before < at → StandsAt scoped stream before → ⊥

-- how many letters have to be put in, left out or changed, to make one name of the other
abbrev pub edits : (name other : List ℕ) → ℕ
edits name other = levenshtein_row nat_eq name other (length other)

-- they differ by capital letters alone
abbrev pub is_alike : (name other : List ℕ) → Bool
is_alike name other = same_bytes (map to_ascii_lowercase name) (map to_ascii_lowercase other)

-- They differ by so many letters at most, and each has more than twice as many as they differ by.
abbrev pub is_edited : (most : ℕ) → (name other : List ℕ) → Bool
is_edited most name other = nat_le (edits name other) most && nat_lt (2 * edits name other) (min (length name) (length other))

-- They differ by little. Names of more than 40 bytes aren't compared.
abbrev pub is_near : (most : ℕ) → (name other : List ℕ) → Bool
is_near most name other = nat_le (max (length name) (length other)) 40 && (is_alike name other || is_edited most name other)

-- the first definition whose name differs by capitals or one letter at most, or else by two
abbrev pub nearest : (name : List ℕ) → List Def → Option Def
nearest name defs = option_or (find (λ d. is_near 1 name d.name) defs) (find (λ d. is_near 2 name d.name) defs)

-- it defines the name, or a function that has it as a parameter
abbrev pub gives_name : (name : List ℕ) → Def → Bool
gives_name name d = same_bytes d.name name || has_parameter name d.kind

-- the first definition that does so
abbrev pub first_named : (name : List ℕ) → List Def → Option Def
first_named name defs = find (λ d. gives_name name d) defs

-- The input of this number has no file among those given: its name, its first place, the definition in scope there whose name is nearest, the first
-- definition anywhere that gives its name, and whether it is a reserved word but for capital letters.
pub record IsLacking (scoped : Scoped) (given : List (List ℕ)) (stream : ℕ) (l : Lacking) : Type 0 where
  pub named : slice_get (scoped_inputs scoped) stream ≡ Some l.name.now
  pub free : Contains given l.name.now → ⊥
  pub first : StandsFirst scoped stream l.at
  pub near : option_copied l.near ≡ nearest l.name.now (in_scope l.at (scoped_tree scoped))
  pub elsewhere : option_copied l.elsewhere ≡ first_named l.name.now (all_defs (scoped_tree scoped))
  pub capital : l.is_capital ≡ is_capital l.name.now

-- The input of this number has this name and no file among those given, and stands at a place before the end.
pub record IsWanted (scoped : Scoped) (given : List (List ℕ)) (end stream : ℕ) (name : List ℕ) : Type 0 where
  pub named : slice_get (scoped_inputs scoped) stream ≡ Some name
  pub free : Contains given name → ⊥
  pub at : ℕ
  pub before : at < end
  pub stands : StandsAt scoped stream at

-- Of the inputs of these names, which are numbered from here on, those are the first that have no file and stand before the end, as many as there is
-- room for.
pub data AreFirst (scoped : Scoped) (given : List (List ℕ)) (end : ℕ) : (room stream : ℕ) → (names : List (List ℕ)) → (those : List Lacking) → Type 0 where
  ended : (room stream : ℕ) → AreFirst scoped given end room stream [] []
  lacks : (room stream : ℕ) (l : Lacking) (names : List (List ℕ)) (those : List Lacking) → IsLacking scoped given stream l
      → AreFirst scoped given end room (stream + 1) names those → AreFirst scoped given end (suc room) stream (l.name.now ∷ names) (l ∷ those)
  passed : (room stream : ℕ) (name : List ℕ) (names : List (List ℕ)) (those : List Lacking) → (IsWanted scoped given end stream name → ⊥)
      → AreFirst scoped given end room (stream + 1) names those → AreFirst scoped given end room stream (name ∷ names) those
  no_room : (stream : ℕ) (name : List ℕ) (names : List (List ℕ)) (those : List Lacking) → AreFirst scoped given end 0 (stream + 1) names those
      → AreFirst scoped given end 0 stream (name ∷ names) those

-- They are the first six of a program's inputs that do, or all.
abbrev pub AreLacking : Scoped → (given : List (List ℕ)) → (end : ℕ) → List Lacking → Type 0
AreLacking scoped given end those = AreFirst scoped given end 6 0 (scoped_inputs scoped) those

-- What may be meant by a name that nothing defines where it stands: a definition of it elsewhere, a reserved word, a definition whose name is near;
-- else other things. First of a definition whose name is near.
abbrev pub near_text : (source other : List ℕ) → Option (Bor Def) → List ℕ
near_text source other None = other
near_text source other (Some d) = codes "It may be misspelt: " ++ definition_text source d.now

-- of a reserved word
unfoldable pub spelled_text : (source other : List ℕ) → Lacking → List ℕ
spelled_text source other l =
    if l.is_capital then codes "It may be misspelt: reserved words have small letters, as `true`.\n" else near_text source other l.near

-- of a definition that isn't in scope
abbrev pub outside_advice : List ℕ
outside_advice = codes "A name is in scope in the block that defines it, and a parameter in the right side of its function. The right side of `is current` stands outside the block: what it names is defined there, behind a `where` of its own. "

abbrev pub outside_text : (source : List ℕ) → Def → List ℕ
outside_text source d = outside_advice ++ definition_text source d

abbrev pub elsewhere_text : (source other : List ℕ) → Lacking → Option (Bor Def) → List ℕ
elsewhere_text source other l None = spelled_text source other l
elsewhere_text source other l (Some d) = outside_text source d.now

-- of all three
unfoldable pub meant_text : (source other : List ℕ) → Lacking → List ℕ
meant_text source other l = elsewhere_text source other l l.elsewhere

-- where a name stands first, in words
abbrev pub first_text : (source : List ℕ) → (at : ℕ) → List ℕ
first_text source at = where_text (codes " stands first in line ") source at

abbrev pub lacking_text : (source : List ℕ) → Lacking → List ℕ
lacking_text source l = name_text l.name.now ++ (first_text source (min (length source) l.at) ++ meant_text source [] l)

-- a word that gives a file
abbrev pub word_text : Lacking → List ℕ
word_text l = codes " " ++ (name_text l.name.now ++ codes "=FILE")

abbrev pub lacking_advice : List ℕ
lacking_advice = codes "A name that nothing defines is an input. One of them may be read from the standard input; give each other a file:"

abbrev pub quoted_advice : List ℕ
quoted_advice = codes "If a word is meant, it stands between two \", as in \"red\".\n"

abbrev pub inputs_text : (source : List ℕ) → List Lacking → List ℕ
inputs_text source those = lacking_advice ++ (flat_map word_text those ++ (codes "\n" ++ (flat_map (lacking_text source) those ++ quoted_advice)))

-- The text tells the inputs of the source that have no file among those given, or the first six; or nothing, where the source is refused.
pub data TellsInputs (source : List ℕ) (given : List (List ℕ)) (text : List ℕ) : Type 0 where
  nothing : IsTurnedDown source → text ≡ [] → TellsInputs source given text
  lacking : (scoped : Scoped) (those : List Lacking) → IsProgram source (scoped_tree scoped)
      → AreLacking scoped given (length source) those → text ≡ inputs_text source those → TellsInputs source given text

-- the inputs of a program, where it has some
abbrev pub named_text : (source : List ℕ) → List Lacking → List ℕ
named_text source those = codes "The inputs of the program:\n" ++ flat_map (lacking_text source) those

-- the inputs of a program, where a file is given for a name that is none
abbrev pub free_text : (source : List ℕ) → List Lacking → List ℕ
free_text source those = if length those == 0 then codes "The program has no input.\n" else named_text source those

-- The text tells the inputs of the source, or the first six; or nothing, where the source is refused.
pub data TellsFree (source text : List ℕ) : Type 0 where
  nothing_free : IsTurnedDown source → text ≡ [] → TellsFree source text
  all_inputs : (scoped : Scoped) (those : List Lacking) → IsProgram source (scoped_tree scoped)
      → AreLacking scoped [] (length source) those → text ≡ free_text source those → TellsFree source text
