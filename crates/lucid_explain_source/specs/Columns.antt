-- What is said of a column that a program hasn't: the plain definitions of its outermost block.
use Rattle.std.specs.Prelude.{◌≡◌, ℕ, List, [], codes}
use Rattle.lucid_tree.specs.Tree.{PlainTree, form, name, call, block}
use Rattle.lucid_tree.specs.declared.tree.Def.{Def}
use Rattle.lucid_explain_source.specs.declared.names.Wanted.TheVariants as wanted
use Rattle.lucid_explain_source.specs.Accepted.{IsProgram, IsTurnedDown}
use Rattle.lucid_explain_source.specs.Scopes.{listed}
use Rattle.lucid_explain_source.specs.Names.{advised_text}

-- the definitions of the outermost block
abbrev pub outer_defs : PlainTree → List Def
outer_defs (block at subject defs) = listed defs
outer_defs (form at head parts) = []
outer_defs (name at n) = []
outer_defs (call at n args) = []

abbrev pub columns_advice : List ℕ
columns_advice = codes "A column is a name that the program's outermost block defines without parameters.\n"

-- what is said of columns by the definitions of the outermost block
abbrev pub outer_text : (source : List ℕ) → List Def → List ℕ
outer_text source defs = advised_text source defs 0 columns_advice wanted.Columns 6

abbrev pub columns_text : (source : List ℕ) → PlainTree → List ℕ
columns_text source e = outer_text source (outer_defs e)

-- The text tells the first of the names that may be columns; or nothing, where the source is refused.
pub data TellsColumns (source text : List ℕ) : Type 0 where
  nothing : IsTurnedDown source → text ≡ [] → TellsColumns source text
  columns : (tree : PlainTree) → IsProgram source tree → text ≡ columns_text source tree → TellsColumns source text
