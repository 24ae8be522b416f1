-- A tree as a list of nodes, each behind its parts.
use Rattle.std.specs.Prelude.{ℕ, List, [], ◌∷◌, ◌++◌}
use Rattle.lucid_tree.specs.Tree.{Head, const, apply, stream, PlainTree, form, name, call, block, PlainTrees, no_trees, tree, PlainDefs, no_defs, defines, defines_function, defines_current}
use Rattle.lucid_parse.specs.declared.operator.Operator.TheVariants.{Data, Stream}
use Rattle.lucid_parse.specs.declared.state.Item.TheVariants as item
use Rattle.lucid_parse.specs.declared.state.Defines.{Defines}
use Rattle.lucid_parse.specs.declared.state.Defines.TheVariants as kind
use Rattle.lucid_parse.specs.Grammar.{Defined, Plain, Function, Current, Parameter}
use Rattle.lucid_parse.specs.Machine.{PlainItem}

-- the node of a form with this head: a constant, or the operator that makes it
abbrev pub node : Head → ℕ → PlainItem
node (const value) at = item.Const at value
node (apply op n) at = item.Operator (Data op) at
node (stream f) at = item.Operator (Stream f) at

-- the kind of a definition, and the list with its parameters at its end
abbrev pub kind_of : Defined → Defines
kind_of Plain = kind.Plain
kind_of (Function parameters) = kind.Function
kind_of Current = kind.Current

abbrev pub listed : List PlainItem → (names : List (List ℕ)) → (places : List ℕ) → List PlainItem
listed out (n ∷ names) (at ∷ places) = listed (out ++ item.Param at n ∷ []) names places
listed out _ _ = out

abbrev pub with_parameters : List PlainItem → List Parameter → List PlainItem
with_parameters out [] = out
with_parameters out (one ∷ more) = with_parameters (out ++ item.Param one.at one.name ∷ []) more

abbrev pub headed : List PlainItem → Defined → List PlainItem
headed out Plain = out
headed out (Function parameters) = with_parameters (out ++ item.NoNames ∷ []) parameters
headed out Current = out

-- the list with a tree's nodes at its end
unfoldable mutual
  pub written : List PlainItem → PlainTree → List PlainItem
  written out (form at head parts) = written_parts out parts ++ node head at ∷ []
  written out (name at n) = out ++ item.Name at n ∷ []
  written out (call at n args) = written_all (out ++ item.NoTrees ∷ []) args ++ item.Call at n ∷ []
  written out (block at x all) = written_defs (written out x ++ item.NoDefs ∷ []) all ++ item.Block at ∷ []

  pub written_parts : List PlainItem → PlainTrees → List PlainItem
  written_parts out no_trees = out
  written_parts out (tree one more) = written_parts (written out one) more

  pub written_all : List PlainItem → PlainTrees → List PlainItem
  written_all out no_trees = out
  written_all out (tree one more) = written_all (written out one ++ item.More ∷ []) more

  pub written_defs : List PlainItem → PlainDefs → List PlainItem
  written_defs out no_defs = out
  written_defs out (defines at n right_side more) = written_defs (written out right_side ++ item.Def kind.Plain at n ∷ []) more
  written_defs out (defines_function at n names places right_side more) =
      written_defs (written (listed (out ++ item.NoNames ∷ []) names places) right_side ++ item.Def kind.Function at n ∷ []) more
  written_defs out (defines_current at n right_side more) = written_defs (written out right_side ++ item.Def kind.Current at n ∷ []) more
