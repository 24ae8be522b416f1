-- The node that a tree becomes, by what its names belong to, and what stands in the table for what stands on trees.
use Rattle.std.specs.Prelude.{ℕ, suc, Bool, true, false, List, Some, None, if◌then◌else◌}
use Rattle.lucid_tree.specs.Tree.{PlainTree, form, name, call, block, PlainTrees, no_trees, tree, PlainDefs, no_defs, defines, defines_function, defines_current}
use Rattle.lucid_tree.specs.Env.{Env, empty, scope, args, Referent, Position}
use Rattle.lucid_tree.specs.Levels.{Event, looked_up, referred, entered}
use Rattle.lucid_tags.specs.Contexts.{Context, root, call_frame, frozen_frame}
pub use Rattle.lucid_scope.specs.Scope.{Static, outermost, in_block, in_function}
use Rattle.lucid_scope.specs.Scope.{Meaning, free, plain_name, parameter, current_name, function, meaning}
use Rattle.lucid_equations.specs.Nodes.{Reference, input, refer, PlainNode, row, freeze, reference, invoke, PlainNodes, no_nodes, node}
use Rattle.lucid_equations.specs.Datons.{Daton, NodePosition}

-- what is in scope in a function's body; an environment doesn't tell the place of the function's definition, and 0 stands for it
abbrev pub in_body : (names : List (List ℕ)) → (places : List ℕ) → Static → Static
in_body ns ats k = in_function 0 ns ats k

-- a block with a current definition has a frame
abbrev pub freezes : PlainDefs → Bool
freezes no_defs = false
freezes (defines at x e ds) = freezes ds
freezes (defines_function at x ns ats e ds) = freezes ds
freezes (defines_current at x e ds) = true

-- the innermost entry that has a scope of its own in the table: a block that does not freeze has none
abbrev pub frame : Static → Static
frame outermost = outermost
frame (in_block ds k) = if freezes ds then in_block ds k else frame k
frame (in_function d ns ats k) = in_function d ns ats k

-- the number of frames of its contexts: a block has one where it freezes, a function's parameters always
abbrev pub level : Static → ℕ
level outermost = 0
level (in_block ds k) = if freezes ds then suc (level k) else level k
level (in_function d ns ats k) = suc (level k)

-- Where a name's row comes from: the place of the definition, parameter or call, and what is in scope from its entry on
pub record Origin : Type 0 where
  pub at : ℕ
  pub home : Static

-- Where a call place comes from: its actual trees, and what is in scope there
pub record Site : Type 0 where
  pub actuals : PlainTrees
  pub caller : Static

-- The numbers of names, by the places of their definitions, parameters and calls; and of call places, by their actual trees. Which
-- numbers these are is left open.
pub record Numbers : Type 0 where
  pub name : (at : ℕ) → ℕ
  pub place : PlainTrees → ℕ

-- The way back: from the numbers to the source, and from a place of the source to what is in scope there.
pub record Source : Type 0 where
  pub origin : (name : ℕ) → Origin
  pub site : (place : ℕ) → Site
  pub scope_at : (at : ℕ) → Static

-- the level of a call, by what its name belongs to; what is no function has a level above all frames, which leads nowhere
abbrev pub call_level : (top : ℕ) → Meaning → ℕ
call_level top free = suc top
call_level top (plain_name d e k) = suc top
call_level top (parameter d i p k) = suc top
call_level top (current_name d e k o) = suc top
call_level top (function d ns ats e k) = level k

module _ (nu : Numbers) where
  -- What a name becomes, by what it belongs to: an input, or a reference of the row of its definition or parameter, in the frames of
  -- the scope from its entry on. A function without arguments leads nowhere.
  abbrev pub reference_of : (top : ℕ) → List ℕ → Meaning → Reference
  reference_of top x free = input x
  reference_of top x (plain_name d e k) = refer (nu.name d) (level k)
  reference_of top x (parameter d i p k) = refer (nu.name p) (level k)
  reference_of top x (current_name d e k o) = refer (nu.name d) (level k)
  reference_of top x (function d ns ats e k) = refer 0 (suc top)

  -- What a tree becomes: a form the same form of its parts; a block its subject, with the time frozen where it has a current
  -- definition; a name a reference; a call a call.
  abbrev mutual
    pub node_for : Static → PlainTree → PlainNode
    node_for k (form at f es) = row f (nodes_for k es)
    node_for k (name at x) = reference (reference_of (level k) x (meaning x k))
    node_for k (call at x es) = invoke (nu.name at) (nu.place es) (call_level (level k) (meaning x k))
    node_for k (block at e ds) = if freezes ds then freeze (node_for (in_block ds k) e) else node_for (in_block ds k) e

    pub nodes_for : Static → PlainTrees → PlainNodes
    nodes_for k no_trees = no_nodes
    nodes_for k (tree e es) = node (node_for k e) (nodes_for k es)

-- what is in scope in an environment
abbrev pub static_of : Env → Static
static_of empty = outermost
static_of (scope ds z env) = in_block ds (static_of env)
static_of (args ns ats es caller env) = in_body ns ats (static_of env)

-- The context that matches an environment, entry by entry: a scope with a frozen time has a frame with that time, one without
-- has none; a call has a frame with the place of the call that has these actuals, and with the context that matches the caller's
-- environment.
abbrev pub context_for : Numbers → Env → Context
context_for nu empty = root
context_for nu (scope ds None env) = context_for nu env
context_for nu (scope ds (Some t) env) = frozen_frame t (context_for nu env)
context_for nu (args ns ats es caller env) = call_frame (nu.place es) (context_for nu caller) (context_for nu env)

-- the daton of an entry referred to
abbrev pub daton_of : Numbers → Referent → Daton
daton_of nu k = record { name = nu.name k.at; context = context_for nu k.env; time = k.time }

-- the position of a node for that of a tree
abbrev pub position_for : Numbers → Position → NodePosition
position_for nu x = record { node = node_for nu (static_of x.env) x.tree; context = context_for nu x.env }

-- what is met in the table for what is met on trees
abbrev pub event_of : Numbers → Event Referent Position Env → Event Daton NodePosition Context
event_of nu (looked_up n j) = looked_up n j
event_of nu (referred k x u s) = referred (daton_of nu k) (position_for nu x) u s
event_of nu (entered f) = entered (context_for nu f)
