-- The piece that is told of a node is the node's own.
use Rattle.std.specs.Prelude.{◌≡◌, ℕ, Some, slice_get}
use Rattle.lucid_tree.specs.Tree.{PlainTree}
use Rattle.lucid_tree.specs.WellMade.{IsWellMade}
use Rattle.lucid_compile.specs.Notes.{Note, noted_tree}
use Rattle.lucid_compile.specs.Settled.{pieces}
use Rattle.lucid_explain_run.specs.Pieces.{piece_of}

-- In a tree that is well made, at the place from which a node comes stands the piece that the node is in the tree's table.
abbrev pub PiecesAreOfTheirNodes : Type 0
PiecesAreOfTheirNodes = (e : PlainTree) → IsWellMade e → (node : ℕ) (n : Note) → slice_get (pieces e) node ≡ Some n → piece_of e node ≡ Some (noted_tree n.kind)
