-- What was noted of the rows of a table while it is built: the constants, and which node is the node of which piece.
use Rattle.std.specs.Prelude.{◌≡◌, ℕ, suc, List, [], ◌∷◌, map, Some, get_or, slice_get}
use Rattle.std.specs.Option.{option_map}
use Rattle.lucid_tree.specs.Tree.{const, PlainTree, form, name, call, block, PlainTrees, no_trees, tree}
use Rattle.lucid_equations.specs.declared.rows.Node.{Node}
use Rattle.lucid_equations.specs.declared.rows.Node.TheVariants.{Const, Freeze}
use Rattle.lucid_equations.specs.declared.rows.Entry.{Entry}
use Rattle.lucid_equations.specs.declared.rows.Entry.TheVariants.{Plain, Parameter, Current, Called}
use Rattle.lucid_compile.specs.Notes.{Kind, piece, plain_right, current_right, called_right, parameter_number, Note, node_place, noted_value, noted_actuals}
use Rattle.lucid_compile.specs.Bound.{Log}
use Rattle.lucid_compile.specs.Building.{Lists}
use Rattle.lucid_compile.specs.Forms.{node_of}

-- the rows, from a number on, stand for these things, one for one
abbrev pub OneForOne : {A B : Type 0} → (ℕ → A → B → Type 0) → (first : ℕ) → List A → List B → Type 0
OneForOne P i [] [] = Unit {0}
OneForOne P i [] (s ∷ ss) = ⊥
OneForOne P i (r ∷ rs) [] = ⊥
OneForOne P i (r ∷ rs) (s ∷ ss) = P i r s × OneForOne P (suc i) rs ss

-- what has this number was noted at this place
abbrev pub IsNotedAt : List Note → (number place : ℕ) → Type 0
IsNotedAt ns i at = option_map (λ n. n.at) (slice_get ns i) ≡ Some at

-- a tree's node has this number
abbrev pub IsNumber : (nodes : List Note) → (number : ℕ) → PlainTree → Type 0
IsNumber ns i e = IsNotedAt ns i (node_place e)

abbrev pub AreNumbers : (nodes : List Note) → (numbers : List ℕ) → PlainTrees → Type 0
AreNumbers ns [] no_trees = Unit {0}
AreNumbers ns [] (tree e es) = ⊥
AreNumbers ns (i ∷ is) no_trees = ⊥
AreNumbers ns (i ∷ is) (tree e es) = IsNumber ns i e × AreNumbers ns is es

-- the row of a piece is its form, with the numbers of its parts, or of a constant its own; a block's freezes its subject
abbrev pub HasParts : (constants nodes : List Note) → Node → Kind → Type 0
HasParts cs ns r (piece (form at (const v) es)) = (i : ℕ) × (r ≡ Const i) × IsNotedAt cs i at
HasParts cs ns r (piece (form at f es)) = (is : List ℕ) × (r ≡ node_of f (get_or is 0 0) (get_or is 1 0) (get_or is 2 0)) × AreNumbers ns is es
HasParts cs ns r (piece (name at x)) = Unit {0}
HasParts cs ns r (piece (call at x es)) = Unit {0}
HasParts cs ns r (piece (block at e ds)) = (i : ℕ) × (r ≡ Freeze i) × IsNumber ns i e
HasParts cs ns r _ = ⊥

-- the entry of a name's row has the number of its right side
abbrev pub HasBody : (nodes : List Note) → Entry → Kind → Type 0
HasBody ns r (plain_right e) = (i : ℕ) × (r ≡ Plain i) × IsNumber ns i e
HasBody ns r (current_right e) = (i : ℕ) × (r ≡ Current i) × IsNumber ns i e
HasBody ns r (called_right e) = (i : ℕ) × (r ≡ Called i) × IsNumber ns i e
HasBody ns r (parameter_number i) = r ≡ Parameter i
HasBody ns r _ = r ≡ Parameter 0

-- The rows have the numbers of what was noted.
pub record HasNumbers (l : Lists) (g : Log) : Type 0 where
  pub constants : l.constants ≡ map (λ n. noted_value n.kind) g.constants
  pub parts : OneForOne (λ i r n. HasParts g.constants g.nodes r.node n.kind) 0 l.nodes g.nodes
  pub bodies : OneForOne (λ i r n. HasBody g.nodes r.kind n.kind) 0 l.names g.names
  pub actuals : OneForOne (λ i r c. AreNumbers g.nodes r.actuals (noted_actuals c.kind)) 0 l.places g.calls
  pub rights : OneForOne (λ i b f. IsNumber g.nodes b.body f.right) 0 l.bodies g.functions
