-- The line that a judgment is written as. Its words are this language's own.
use Rattle.std.specs.Prelude.{ℕ, List, [], ◌∷◌, ◌++◌, codes, decimal, nat_eq}
use Rattle.std.specs.Fmt.{signed_decimal}
use Rattle.std.specs.List.{filter, flat_map, join_by}
use Rattle.lucid_tree.specs.Tree.{PlainTree, form, name, call, block, PlainTrees, no_trees, tree, PlainDefs, no_defs, defines, defines_function, defines_current}
use Rattle.lucid_cycles.specs.Judged.{plain_names}
use Rattle.lucid_cycles.specs.Graph.{number}
use Rattle.lucid_cycles.specs.Cycles.{total}
use Rattle.lucid_cycles.specs.declared.line.Definition.{Definition}
use Rattle.lucid_cycles.specs.declared.judgment.Judgment.{Judgment}
use Rattle.lucid_cycles.specs.declared.judgment.Judgment.TheVariants.{Enough, Cycle}

-- The definitions of a tree's plain names.
abbrev mutual
  pub definitions : PlainTree → List Definition
  definitions (form at f es) = definitions_in es
  definitions (name at n) = []
  definitions (call at n es) = definitions_in es
  definitions (block at e ds) = definitions e ++ definitions_in_defs ds

  pub definitions_in : PlainTrees → List Definition
  definitions_in no_trees = []
  definitions_in (tree e es) = definitions e ++ definitions_in es

  pub definitions_in_defs : PlainDefs → List Definition
  definitions_in_defs no_defs = []
  definitions_in_defs (defines at x e ds) = record { at = at; name = x } ∷ (definitions e ++ definitions_in_defs ds)
  definitions_in_defs (defines_function at x ns ats e ds) = definitions e ++ definitions_in_defs ds
  definitions_in_defs (defines_current at x e ds) = definitions e ++ definitions_in_defs ds

-- The definition of the plain name with this number; no two names have one number.
abbrev pub with_number : PlainTree → (number : ℕ) → List Definition
with_number e k = filter (λ d. nat_eq (number (plain_names e) d.at) k) (definitions e)

-- a name, and the place of its definition
abbrev pub definition_text : Definition → List ℕ
definition_text d = d.name ++ (codes " at " ++ decimal d.at)

-- the same of the name with this number
abbrev pub name_text : PlainTree → (number : ℕ) → List ℕ
name_text e k = flat_map definition_text (with_number e k)

-- The line: a depth that is enough at each time t; or the names of a cycle, parted by a comma and a blank, and the sum of its delays.
abbrev pub judgment_line : PlainTree → Judgment → List ℕ
judgment_line e (Enough factor add potentials) = codes "depth " ++ (decimal factor ++ (codes " * t + " ++ (decimal add ++ codes "\n")))
judgment_line e (Cycle names delays) =
    codes "cycle " ++ (join_by (name_text e) (codes ", ") names ++ (codes ": sum " ++ (signed_decimal (total delays) ++ codes "\n")))
