-- Environments, and what a reference of a name goes on with: the innermost entry that has the name decides, and there the first
-- definition or the first parameter of it. A name that no entry has is free.
use Rattle.std.specs.Prelude.{ℕ, zero, suc, Bool, List, Option, Some, None, if◌then◌else◌, nat_eq, get_or}
use Rattle.std.specs.List.{position}
use Rattle.std.specs.Cmp.Lexicographic.{pointwise}
use Rattle.lucid_tree.specs.Levels.{Target, element_of, goes_to, nowhere}
use Rattle.lucid_tree.specs.Tree.{PlainTree, PlainTrees, no_trees, tree, PlainDefs, no_defs, defines, defines_function, defines_current}

-- Innermost first: a block's definitions, with the frozen time where it has a current definition; or a call's parameters with
-- their places, the actual trees and the caller's environment.
pub data Env : Type 0 where
  empty : Env
  scope : PlainDefs → (frozen : Option ℕ) → Env → Env
  args : (names : List (List ℕ)) → (places : List ℕ) → PlainTrees → (caller : Env) → Env → Env

-- the first definition of a name
pub data Found : Type 0 where
  absent : Found
  plain_def : (at : ℕ) → PlainTree → Found
  function_def : (at : ℕ) → (names : List (List ℕ)) → (places : List ℕ) → PlainTree → Found
  current_def : (at : ℕ) → PlainTree → Found

-- the names have the same bytes
abbrev pub same_name : List ℕ → List ℕ → Bool
same_name a b = pointwise nat_eq a b

-- the first definition of the name in a block
abbrev pub definition : List ℕ → PlainDefs → Found
definition n no_defs = absent
definition n (defines at x e ds) = if same_name n x then plain_def at e else definition n ds
definition n (defines_function at x ns ats e ds) = if same_name n x then function_def at ns ats e else definition n ds
definition n (defines_current at x e ds) = if same_name n x then current_def at e else definition n ds

-- the frozen time of a block's scope that is opened at t
abbrev pub frozen_at : PlainDefs → ℕ → Option ℕ
frozen_at no_defs t = None
frozen_at (defines at x e ds) t = frozen_at ds t
frozen_at (defines_function at x ns ats e ds) t = frozen_at ds t
frozen_at (defines_current at x e ds) t = Some t

-- What a reference refers to, apart from its space: the place of the definition, of the parameter or, for a call, of the call;
-- the environment from the entry that has the name on or, for a call, the one in which the right side is taken; and the time, 0 for a
-- current name.
pub record Referent : Type 0 where
  pub at : ℕ
  pub env : Env
  pub time : ℕ

-- Where a tree is evaluated: in an environment.
pub record Position : Type 0 where
  pub tree : PlainTree
  pub env : Env

-- what a reference goes on with
abbrev pub Aim : Type 0
Aim = Target Referent Position

-- to a tree in an environment at a time
abbrev pub to_tree : Referent → PlainTree → Env → ℕ → Aim
to_tree r e f u = goes_to r (record { tree = e; env = f }) u

-- a current name's right side, outside its block at the frozen time
abbrev pub frozen_target : ℕ → Env → PlainTree → Env → Option ℕ → Aim
frozen_target at f e rest None = nowhere
frozen_target at f e rest (Some u) = to_tree (record { at = at; env = f; time = 0 }) e rest u

-- where the first entry with the name is a block's scope: f is the environment from it on
abbrev pub in_scope : Found → (f rest : Env) → (frozen : Option ℕ) → ℕ → (outer : Aim) → Aim
in_scope absent f rest z t outer = outer
in_scope (plain_def at e) f rest z t outer = to_tree (record { at = at; env = f; time = t }) e f t
in_scope (function_def at ns ats e) f rest z t outer = nowhere
in_scope (current_def at e) f rest z t outer = frozen_target at f e rest z

-- the number of the first parameter with the name
abbrev pub param : List ℕ → List (List ℕ) → Option ℕ
param n ns = position (λ x. same_name n x) ns

-- the tree of that number, from 0
abbrev pub tree_at : PlainTrees → ℕ → Option PlainTree
tree_at no_trees i = None
tree_at (tree e es) zero = Some e
tree_at (tree e es) (suc i) = tree_at es i

-- a parameter's actual, in the caller's environment
abbrev pub to_actual : (at : ℕ) → Option PlainTree → (f caller : Env) → ℕ → Aim
to_actual at None f caller t = nowhere
to_actual at (Some e) f caller t = to_tree (record { at = at; env = f; time = t }) e caller t

-- where the entry is a call's: the parameter of that number, or further out
abbrev pub in_args : Option ℕ → (places : List ℕ) → PlainTrees → (f caller : Env) → ℕ → (outer : Aim) → Aim
in_args None ats es f caller t outer = outer
in_args (Some i) ats es f caller t outer = to_actual (get_or ats i 0) (tree_at es i) f caller t

-- What a name goes on with at a time: a plain name its right side in the environment from its entry on, a parameter its actual, a
-- current name its right side, a free name an element. A function without arguments goes on with nothing: such trees are refused.
abbrev pub name_target : List ℕ → Env → ℕ → Aim
name_target n empty t = element_of n t
name_target n (scope ds z rest) t = in_scope (definition n ds) (scope ds z rest) rest z t (name_target n rest t)
name_target n (args ns ats es caller rest) t =
    in_args (param n ns) ats es (args ns ats es caller rest) caller t (name_target n rest t)

-- a function's right side, with these arguments
abbrev pub called : Found → (at : ℕ) → PlainTrees → (caller f : Env) → ℕ → (outer : Aim) → Aim
called absent at es env f t outer = outer
called (plain_def d e) at es env f t outer = nowhere
called (function_def d ns ats e) at es env f t outer =
    to_tree (record { at = at; env = args ns ats es env f; time = t }) e (args ns ats es env f) t
called (current_def d e) at es env f t outer = nowhere

-- a parameter is no function
abbrev pub unless_param : Option ℕ → Aim → Aim
unless_param None outer = outer
unless_param (Some i) outer = nowhere

-- What a call at a place goes on with, from the environment f outwards: the function's right side, behind an entry with its
-- parameters, the arguments and the caller's environment. A call of what is no function goes on with nothing: such trees are
-- refused.
abbrev pub call_target : (at : ℕ) → List ℕ → PlainTrees → (caller f : Env) → ℕ → Aim
call_target at n es env empty t = nowhere
call_target at n es env (scope ds z rest) t = called (definition n ds) at es env (scope ds z rest) t (call_target at n es env rest t)
call_target at n es env (args ns ats bs caller rest) t = unless_param (param n ns) (call_target at n es env rest t)
