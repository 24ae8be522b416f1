-- What callers see of a tree that was resolved.
use Rattle.std.specs.Prelude.{ℕ, List, Option, nat_eq}
use Rattle.std.specs.Map.{lookup}
use Rattle.lucid_tree.specs.Tree.{PlainTree}
use Rattle.lucid_scope.specs.declared.scoped.Binding.{Binding}
use Rattle.lucid_scope.specs.declared.scoped.Scoped.{Scoped}

-- the tree
abbrev pub scoped_tree : Scoped → PlainTree
scoped_tree s = s.tree

-- the names of the inputs
abbrev pub scoped_inputs : Scoped → List (List ℕ)
scoped_inputs s = s.inputs.items

-- the binding at a place
abbrev pub scoped_binding : Scoped → ℕ → Option Binding
scoped_binding s at = lookup (nat_eq at) s.bindings.entries
