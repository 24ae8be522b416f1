-- What holds of the table of a tree.
use Rattle.std.specs.Prelude.{ℕ, List}
use Rattle.lucid_tree.specs.Tree.{PlainTree}
use Rattle.lucid_equations.specs.Rows.{equations_of, node_at}
use Rattle.lucid_equations.specs.Sound.{IsSound}
use Rattle.lucid_compile.specs.Promise.{KeepsTree}
use Rattle.lucid_compile.specs.Settled.{table_of as tree_table}
use Rattle.lucid_compile.specs.Meant.{NodesMeanTheirPieces}

-- The table of the tree with these inputs is sound, it keeps the tree, and its nodes mean their pieces.
pub record HasSoundTable (p : PlainTree) (inputs : List (List ℕ)) : Type 0 where
  pub sound : IsSound (tree_table p inputs)
  pub keeps : KeepsTree (equations_of (tree_table p inputs)) p
  pub means : NodesMeanTheirPieces p (equations_of (tree_table p inputs)) (node_at (tree_table p inputs))
