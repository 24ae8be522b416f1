-- The plain forms of the evaluator's environments and answers.
use Rattle.std.specs.Prelude.{ℕ, List, Option, Some, None}
use Rattle.std.specs.Borrow.{Bor}
use Rattle.lucid_tree.specs.declared.tree.Def.{Def}
use Rattle.lucid_tree.specs.declared.tree.DefKind.{DefKind}
use Rattle.lucid_tree.specs.Tree.{PlainTree}
use Rattle.lucid_tree.specs.Env.{definition, param, Env, empty, scope, args, Found, absent, plain_def, function_def, current_def, Aim}
use Rattle.lucid_tree.specs.Levels.{element_of, goes_to, nowhere}
use Rattle.lucid_test_programs.specs.declared.env.Env.{Env as Stacked, Empty, Scope', Args'}
use Rattle.lucid_test_programs.specs.declared.env.Found.{Found as Met}
use Rattle.lucid_test_programs.specs.declared.env.Found.TheVariants.{Absent, Plain, Function, Current}
use Rattle.lucid_test_programs.specs.declared.env.Callee.{Callee}
use Rattle.lucid_test_programs.specs.declared.env.Callee.TheVariants.{Is as IsCallee, Lost as LostCallee}
use Rattle.lucid_test_programs.specs.declared.env.Target.{Target as Next}
use Rattle.lucid_test_programs.specs.declared.env.Target.TheVariants.{Element, Goes, Lost}

abbrev pub env_of : Stacked → Env
env_of Empty = empty
env_of (Scope' ds z p rest) = scope ds.now z (env_of rest)
env_of (Args' ns ats es p caller q rest) =
    args ns.now ats.now es.now (env_of caller) (env_of rest)

-- a definition as what is found
abbrev pub found_in : ℕ → DefKind → Found
found_in at (DefKind.Plain e) = plain_def at e
found_in at (DefKind.Function ps ats e) = function_def at ps ats e
found_in at (DefKind.Current e) = current_def at e

abbrev pub first_of : Option (Bor Def) → Found
first_of None = absent
first_of (Some d) = found_in d.now.at d.now.kind

-- what is found, without places
pub data Kept : Type 0 where
  nothing : Kept
  is_plain : PlainTree → Kept
  is_function : List (List ℕ) → List ℕ → PlainTree → Kept
  is_current : PlainTree → Kept

abbrev pub kept : Found → Kept
kept absent = nothing
kept (plain_def at e) = is_plain e
kept (function_def at ns ats e) = is_function ns ats e
kept (current_def at e) = is_current e

abbrev pub found_of : Met → Kept
found_of Absent = nothing
found_of (Plain e) = is_plain e.now
found_of (Function ns ats e) = is_function ns.now ats.now e.now
found_of (Current e) = is_current e.now

-- what a reference goes_to on with, without its key
pub data Going : Type 0 where
  at_element : List ℕ → ℕ → Going
  at_tree : PlainTree → Env → ℕ → Going
  at_none : Going

abbrev pub going : Aim → Going
going (element_of n j) = at_element n j
going (goes_to k x u) = at_tree x.tree x.env u
going nowhere = at_none

abbrev pub going_of : List ℕ → Next → Going
going_of n (Element j) = at_element n j
going_of n (Goes e f u) = at_tree e.now (env_of f.now) u
going_of n Lost = at_none

-- a function that is found, with the environment from its block on
pub data Calling : Type 0 where
  calls : List (List ℕ) → List ℕ → PlainTree → Env → Calling
  no_call : Calling

abbrev pub called_in : Kept → Env → Calling → Calling
called_in nothing f outer = outer
called_in (is_plain e) f outer = no_call
called_in (is_function ns ats e) f outer = calls ns ats e f
called_in (is_current e) f outer = no_call

abbrev pub unless_named : Option ℕ → Calling → Calling
unless_named None outer = outer
unless_named (Some i) outer = no_call

abbrev pub calling : List ℕ → Env → Calling
calling n empty = no_call
calling n (scope ds z rest) = called_in (kept (definition n ds)) (scope ds z rest) (calling n rest)
calling n (args ns ats es caller rest) = unless_named (param n ns) (calling n rest)

abbrev pub calling_of : Callee → Calling
calling_of (IsCallee ns ats e f) = calls ns.now ats.now e.now (env_of f.now)
calling_of LostCallee = no_call
