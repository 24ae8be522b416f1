-- The piece of a source from which a node of its tree's table comes, and the word for what a piece is.
use Rattle.std.specs.Prelude.{ℕ, List, codes, Option, slice_get}
use Rattle.std.specs.Option.{option_and_then}
use Rattle.lucid_ops.specs.Rows.{operator_row}
use Rattle.lucid_tree.specs.Forms.{form_row}
use Rattle.lucid_tree.specs.Tree.{Head, const, apply, stream, PlainTree, form, name, call, block}
use Rattle.lucid_explain_run.specs.Parts.{part_at}
use Rattle.lucid_compile.specs.Origins.{origins_of}

-- The piece of a node, by its number: that at the place from which the node comes.
abbrev pub piece_of : PlainTree → (node : ℕ) → Option PlainTree
piece_of e node = option_and_then (part_at e) (slice_get (origins_of e).nodes node)

abbrev pub head_word : Head → List ℕ
head_word (const v) = codes "constant"
head_word (apply op n) = (operator_row op).spelling
head_word (stream f) = (form_row f).spelling

-- what a piece is
abbrev pub piece_word : PlainTree → List ℕ
piece_word (form at head parts) = head_word head
piece_word (name at n) = codes "name"
piece_word (call at n args) = codes "call"
piece_word (block at subject defs) = codes "where"
