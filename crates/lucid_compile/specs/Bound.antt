-- What a tree becomes by its names' bindings and a numbering, and all that it adds to a table, in order.
use Rattle.std.specs.Prelude.{ℕ, suc, ◌+◌, List, [], ◌∷◌, ◌++◌, length, Bool, Option, Some, None, get_or, if◌then◌else◌}
use Rattle.lucid_tree.specs.Tree.{Head, const, PlainTree, form, name, call, block, PlainTrees, no_trees, tree, PlainDefs, no_defs, defines, defines_function, defines_current}
use Rattle.lucid_scope.specs.declared.scoped.Scoped.{Scoped}
use Rattle.lucid_scope.specs.Scoped.{scoped_inputs, scoped_binding}
use Rattle.lucid_scope.specs.declared.scoped.Binding.{Binding}
use Rattle.lucid_scope.specs.declared.scoped.Binding.TheVariants.{Plain, Parameter, Current, Function, Input}
use Rattle.lucid_equations.specs.Nodes.{Reference, input, refer, PlainNode, row, freeze, reference, invoke, PlainNodes, no_nodes, node, PlainEntry, plain_entry, called_entry, current_entry, parameter_entry}
use Rattle.lucid_equations.specs.declared.rows.Node.{Node}
use Rattle.lucid_equations.specs.declared.rows.Node.TheVariants.{Input as InputNode, Refer, Call}
use Rattle.lucid_compile.specs.Static.{Static, outermost, in_block, freezes, Numbers, in_body}
use Rattle.lucid_compile.specs.Notes.{Kind, piece, plain_right, current_right, called_right, parameter_number, Note, note, block_piece}
use Rattle.lucid_compile.specs.Places.{first_place}
use Rattle.lucid_compile.specs.declared.numbering.Numbering.{Numbering}
use Rattle.lucid_compile.specs.Numbered.{name_mark, function_mark, call_number}

-- a tree that was resolved, and a numbering
pub record Numbered : Type 0 where
  pub numbering : Numbering
  pub scoped : Scoped

-- the numbers that the numbering has
abbrev pub numbers_in : Numbered → Numbers
numbers_in w = record { name = λ at. (name_mark w.numbering at).number; place = λ es. call_number w.numbering (first_place es) }

-- what a name with a binding becomes; a function's name stands in no tree that was resolved
abbrev pub reference_by : Numbering → (inputs : List (List ℕ)) → Option Binding → Reference
reference_by g xs None = refer 0 0
reference_by g xs (Some (Plain d)) = refer (name_mark g d).number (name_mark g d).level
reference_by g xs (Some (Current d)) = refer (name_mark g d).number (name_mark g d).level
reference_by g xs (Some (Parameter d i)) = refer ((function_mark g d).first + i) (suc (function_mark g d).level)
reference_by g xs (Some (Function d)) = refer 0 0
reference_by g xs (Some (Input s)) = input (get_or xs s [])

-- the definition of the function that a call with a binding calls
abbrev pub callee_place : Option Binding → ℕ
callee_place None = 0
callee_place (Some (Plain d)) = 0
callee_place (Some (Current d)) = 0
callee_place (Some (Parameter d i)) = 0
callee_place (Some (Function d)) = d
callee_place (Some (Input s)) = 0

-- the row of a node that is a name with a binding
abbrev pub node_by : Numbering → Option Binding → Node
node_by g None = Refer 0 0
node_by g (Some (Plain d)) = Refer (name_mark g d).number (name_mark g d).level
node_by g (Some (Current d)) = Refer (name_mark g d).number (name_mark g d).level
node_by g (Some (Parameter d i)) = Refer ((function_mark g d).first + i) (suc (function_mark g d).level)
node_by g (Some (Function d)) = Refer 0 0
node_by g (Some (Input s)) = InputNode s

-- the rows of the nodes that are the name at a place, and the call at a place with its first actual's
abbrev pub name_node : Numbered → (at : ℕ) → Node
name_node w at = node_by w.numbering (scoped_binding w.scoped at)

abbrev pub call_node : Numbered → (at first : ℕ) → Node
call_node w at first = Call (name_mark w.numbering at).number (call_number w.numbering first) (function_mark w.numbering (callee_place (scoped_binding w.scoped at))).level

-- what a tree becomes
abbrev mutual
  pub bound_node : Numbered → PlainTree → PlainNode
  bound_node w (form at f es) = row f (bound_nodes w es)
  bound_node w (name at x) = reference (reference_by w.numbering (scoped_inputs w.scoped) (scoped_binding w.scoped at))
  bound_node w (call at x es) = invoke (name_mark w.numbering at).number (call_number w.numbering (first_place es)) (function_mark w.numbering (callee_place (scoped_binding w.scoped at))).level
  bound_node w (block at e ds) = if freezes ds then freeze (bound_node w e) else bound_node w e

  pub bound_nodes : Numbered → PlainTrees → PlainNodes
  bound_nodes w no_trees = no_nodes
  bound_nodes w (tree e es) = node (bound_node w e) (bound_nodes w es)

-- the entry of a name's row, by what was noted of it
abbrev pub bound_entry : Numbered → Kind → PlainEntry
bound_entry w (plain_right e) = plain_entry (bound_node w e)
bound_entry w (current_right e) = current_entry (bound_node w e)
bound_entry w (called_right e) = called_entry (bound_node w e)
bound_entry w (parameter_number i) = parameter_entry i
bound_entry w _ = parameter_entry 0

-- a function, with the number of its first parameter and what is in scope from its block on
pub record FunctionStand : Type 0 where
  pub at : ℕ
  pub first : ℕ
  pub names : List (List ℕ)
  pub places : List ℕ
  pub right : PlainTree
  pub home : Static

-- what a piece's node names besides its parts: nothing, what the name at a place belongs to, or the call at a place, with its first actual's
pub data Target : Type 0 where
  no_target : Target
  of_name : (at : ℕ) → Target
  of_call : (at first : ℕ) → Target

abbrev pub piece_target : Kind → Target
piece_target (piece (name at x)) = of_name at
piece_target (piece (call at x es)) = of_call at (first_place es)
piece_target _ = no_target

-- the constant of a form
abbrev pub constant_notes : Static → (at : ℕ) → Head → PlainTrees → List Note
constant_notes k at (const v) es = note at k (piece (form at (const v) es)) ∷ []
constant_notes k at _ es = []

-- a block with a current definition has a scope of its own
abbrev pub block_scopes : Bool → Static → List Static
block_scopes b k = if b then k ∷ [] else []

-- what trees added to a table, in order, as it was noted: the rows of names but for calls, the calls, the nodes and the constants; the functions; and
-- the scopes by what is in scope there. Each call has a call place.
pub record Log : Type 0 where
  pub names : List Note
  pub calls : List Note
  pub functions : List FunctionStand
  pub nodes : List Note
  pub constants : List Note
  pub scopes : List Static

-- before any tree there is the outermost scope alone
abbrev pub no_log : Log
no_log = record { names = []; calls = []; functions = []; nodes = []; constants = []; scopes = outermost ∷ [] }

abbrev pub with_nodes : List Note → Log → Log
with_nodes ns l = record l { nodes = l.nodes ++ ns }

abbrev pub with_constants : List Note → Log → Log
with_constants ns l = record l { constants = l.constants ++ ns }

abbrev pub with_scopes : List Static → Log → Log
with_scopes ks l = record l { scopes = l.scopes ++ ks }

abbrev pub with_stand : Note → Log → Log
with_stand s l = record l { names = l.names ++ s ∷ [] }

abbrev pub with_call : Note → Log → Log
with_call c l = record l { calls = l.calls ++ c ∷ [] }

abbrev pub with_function : FunctionStand → Log → Log
with_function f l = record l { functions = l.functions ++ f ∷ [] }

-- the scope of a block that freezes the time, and that of a function
abbrev pub opened_block : PlainDefs → Static → Log → Log
opened_block ds k l = with_scopes (block_scopes (freezes ds) (in_block ds k)) l

abbrev pub opened_function : (names : List (List ℕ)) → (places : List ℕ) → Static → Log → Log
opened_function ns ats k l = with_scopes (in_body ns ats k ∷ []) l

-- a function's parameters, from number i on
abbrev pub with_parameters : Static → (i : ℕ) → (places : List ℕ) → Log → Log
with_parameters k i [] l = l
with_parameters k i (at ∷ ats) l = with_parameters k (suc i) ats (with_stand (note at k (parameter_number i)) l)

-- what a tree adds
abbrev mutual
  pub added : Static → PlainTree → Log → Log
  added k (form at f es) l = with_nodes (note at k (piece (form at f es)) ∷ []) (with_constants (constant_notes k at f es) (added_all k es l))
  added k (name at x) l = with_nodes (note at k (piece (name at x)) ∷ []) l
  added k (call at x es) l =
      with_nodes (note at k (piece (call at x es)) ∷ []) (with_call (note at k (piece (call at x es))) (added_all k es l))
  added k (block at e ds) l = with_nodes (block_piece e ds at k) (added_defs (in_block ds k) k ds (added (in_block ds k) e (opened_block ds k l)))

  pub added_all : Static → PlainTrees → Log → Log
  added_all k no_trees l = l
  added_all k (tree e es) l = added_all k es (added k e l)

  pub added_defs : (inside outside : Static) → PlainDefs → Log → Log
  added_defs k o no_defs l = l
  added_defs k o (defines at x e ds) l = added_defs k o ds (with_stand (note at k (plain_right e)) (added k e l))
  added_defs k o (defines_function at x ns ats e ds) l =
      added_defs k o ds (with_function (record { at = at; first = length l.names; names = ns; places = ats; right = e; home = k }) (added (in_body ns ats k) e (with_parameters (in_body ns ats k) 0 ats (opened_function ns ats k l))))
  added_defs k o (defines_current at x e ds) l = added_defs k o ds (with_stand (note at k (current_right e)) (added o e l))
