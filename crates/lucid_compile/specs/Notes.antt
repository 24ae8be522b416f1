-- The walk over a tree: what it notes, in order. The rows of the tree's table are numbered by this order.
use Rattle.std.specs.Prelude.{ℕ, suc, List, [], ◌∷◌, ◌++◌, Bool, true, false, if◌then◌else◌}
use Rattle.lucid_value.specs.Plain.{PlainValue, fault}
use Rattle.lucid_tree.specs.Tree.{const, PlainTree, form, name, call, block, PlainTrees, no_trees, tree, PlainDefs, no_defs, defines, defines_function, defines_current}
use Rattle.lucid_compile.specs.Static.{Static, in_block, in_body, freezes}
use Rattle.lucid_compile.specs.Places.{place_of}

-- What is noted: a scope that opens; a piece that has a node; of a name's row a plain or a current definition with its right side, a call with
-- that of its function, or a parameter with its number.
pub data Kind : Type 0 where
  opening : Kind
  piece : PlainTree → Kind
  plain_right current_right called_right : PlainTree → Kind
  parameter_number : ℕ → Kind

-- It is noted at a place, with what is in scope: where a piece stands, and from a scope's, a definition's or a parameter's own on.
pub record Note : Type 0 where
  pub at : ℕ
  pub home : Static
  pub kind : Kind

abbrev pub note : (at : ℕ) → Static → Kind → Note
note at k x = record { at = at; home = k; kind = x }

-- a function's parameters, from number i on
abbrev pub parameter_notes : Static → (i : ℕ) → (places : List ℕ) → List Note
parameter_notes k i [] = []
parameter_notes k i (at ∷ ats) = note at k (parameter_number i) ∷ parameter_notes k (suc i) ats

-- a block with a current definition has a scope and a node of its own
abbrev pub block_opens : PlainDefs → (at : ℕ) → Static → List Note
block_opens ds at k = if freezes ds then note at (in_block ds k) opening ∷ [] else []

abbrev pub block_piece : PlainTree → PlainDefs → (at : ℕ) → Static → List Note
block_piece e ds at k = if freezes ds then note at k (piece (block at e ds)) ∷ [] else []

-- The walk. A piece stands behind its parts; a block with a current definition behind its subject and the right sides; a scope, with a function's
-- parameters, before all in it; a plain or current definition behind its right side.
abbrev mutual
  pub notes : Static → PlainTree → List Note
  notes k (form at f es) = notes_in k es ++ note at k (piece (form at f es)) ∷ []
  notes k (name at x) = note at k (piece (name at x)) ∷ []
  notes k (call at x es) = notes_in k es ++ note at k (piece (call at x es)) ∷ []
  notes k (block at e ds) = block_opens ds at k ++ notes (in_block ds k) e ++ notes_in_defs (in_block ds k) k ds ++ block_piece e ds at k

  pub notes_in : Static → PlainTrees → List Note
  notes_in k no_trees = []
  notes_in k (tree e es) = notes k e ++ notes_in k es

  pub notes_in_defs : (inside outside : Static) → PlainDefs → List Note
  notes_in_defs k o no_defs = []
  notes_in_defs k o (defines at x e ds) = notes k e ++ note at k (plain_right e) ∷ notes_in_defs k o ds
  notes_in_defs k o (defines_function at x ns ats e ds) =
      note at (in_body ns ats k) opening ∷ parameter_notes (in_body ns ats k) 0 ats ++ notes (in_body ns ats k) e ++ notes_in_defs k o ds
  notes_in_defs k o (defines_current at x e ds) = notes o e ++ note at k (current_right e) ∷ notes_in_defs k o ds

-- where a tree's node is noted: a block that has none of its own has its subject's
abbrev pub node_place : PlainTree → ℕ
node_place (block at e ds) = if freezes ds then at else node_place e
node_place e = place_of e

-- of which kind a note is
abbrev pub is_opening : Kind → Bool
is_opening opening = true
is_opening _ = false

abbrev pub is_piece : Kind → Bool
is_piece (piece e) = true
is_piece _ = false

abbrev pub is_constant : Kind → Bool
is_constant (piece (form at (const v) es)) = true
is_constant _ = false

abbrev pub is_call : Kind → Bool
is_call (piece (call at x es)) = true
is_call _ = false

abbrev pub is_name : Kind → Bool
is_name (plain_right e) = true
is_name (current_right e) = true
is_name (called_right e) = true
is_name (parameter_number i) = true
is_name _ = false

-- a note's tree, a constant's value, and a call's name and actuals
abbrev pub noted_tree : Kind → PlainTree
noted_tree (piece e) = e
noted_tree (plain_right e) = e
noted_tree (current_right e) = e
noted_tree (called_right e) = e
noted_tree _ = name 0 []

abbrev pub noted_value : Kind → PlainValue
noted_value (piece (form at (const v) es)) = v
noted_value _ = fault

abbrev pub noted_name : Kind → List ℕ
noted_name (piece (call at x es)) = x
noted_name _ = []

abbrev pub noted_actuals : Kind → PlainTrees
noted_actuals (piece (call at x es)) = es
noted_actuals _ = no_trees
