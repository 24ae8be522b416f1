-- The plain form of a block's definitions.
use Rattle.std.specs.Prelude.{ℕ, List, [], ◌∷◌}
use Rattle.lucid_tree.specs.Tree.{PlainDefs, no_defs, defines, defines_function, defines_current}
use Rattle.lucid_tree.specs.declared.tree.Def.{Def}
use Rattle.lucid_tree.specs.declared.tree.DefKind.{DefKind}
use Rattle.lucid_tree.specs.declared.tree.DefKind.TheVariants.{Plain, Function, Current}

-- a definition of a name at a place, in front of others
abbrev pub def_of : ℕ → List ℕ → DefKind → PlainDefs → PlainDefs
def_of at n (Plain e) ds = defines at n e ds
def_of at n (Function ps ats e) ds = defines_function at n ps ats e ds
def_of at n (Current e) ds = defines_current at n e ds

-- a definition in front of others
abbrev pub one_def : Def → PlainDefs → PlainDefs
one_def d ds = def_of d.at d.name d.kind ds

abbrev pub defs_of : List Def → PlainDefs
defs_of [] = no_defs
defs_of (d ∷ ds) = def_of d.at d.name d.kind (defs_of ds)
