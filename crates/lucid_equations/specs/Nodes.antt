-- Equation tables, as plain forms. A node is seen as a tree of nodes; a table as its root and what it has for each number of a
-- name and of a call place.
use Rattle.std.specs.Prelude.{ℕ, zero, suc, List, Option, Some, None}
use Rattle.lucid_tree.specs.Tree.{Head}

-- What a name becomes: an element of an input, or a reference of a name's row, in the context of the outermost frames.
pub data Reference : Type 0 where
  input : (stream : List ℕ) → Reference
  refer : (name level : ℕ) → Reference

mutual
  -- A node: a form with its parts, which has the row of the same form of a tree; its subject with the time frozen; a reference;
  -- a call of a name's row from a call place, in the context of the outermost frames with the call added.
  pub data PlainNode : Type 0 where
    row : Head → PlainNodes → PlainNode
    freeze : PlainNode → PlainNode
    reference : Reference → PlainNode
    invoke : (name place level : ℕ) → PlainNode

  pub data PlainNodes : Type 0 where
    no_nodes : PlainNodes
    node : PlainNode → PlainNodes → PlainNodes

-- the part of a number, from 0
abbrev pub part_of : PlainNodes → (part : ℕ) → Option PlainNode
part_of no_nodes i = None
part_of (node e es) zero = Some e
part_of (node e es) (suc i) = part_of es i

-- The row of a name: a plain name's right side, a call's body, a current name's right side, or a parameter's index.
pub data PlainEntry : Type 0 where
  plain_entry called_entry current_entry : PlainNode → PlainEntry
  parameter_entry : (index : ℕ) → PlainEntry

-- The equations of a program: the root, the row of each name, and the actuals of each call place.
pub record Equations : Type 0 where
  pub root : PlainNode
  pub entry : (name : ℕ) → Option PlainEntry
  pub actual : (place index : ℕ) → Option PlainNode
