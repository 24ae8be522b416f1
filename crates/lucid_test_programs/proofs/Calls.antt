-- What a call goes_to on with.
use Rattle.lucid_test_programs.proofs.Common.{◌≡◌, ℕ, List, Option, Some, None, refl, ◌<◌, ◌^◌, arith, nodes, Applies, IsUsable, PlainTrees, Env, empty, scope, args, Found, absent, plain_def, function_def, current_def, definition, param, call_target, Aim, Going, at_tree, at_none, going, calls}
use Rattle.lucid_test_programs.proofs.Goings.{found_nodes, found_small, FoundApplies, found_applies}
use Rattle.lucid_tree.specs.Env.{called, unless_param}
use Rattle.lucid_test_programs.specs.View.{Calling, no_call, calling, called_in, kept, unless_named}

abbrev pub call_going : Calling → PlainTrees → Env → ℕ → Going
call_going (calls ns ats e f) es env t = at_tree e (args ns ats es env f) t
call_going no_call es env t = at_none

in_block : (d : Found) (at : ℕ) (es : PlainTrees) (env f : Env) (t : ℕ) (a : Aim) (k : Calling) → going a ≡ call_going k es env t
    → going (called d at es env f t a) ≡ call_going (called_in (kept d) f k) es env t
in_block absent at es env f t a k h = h
in_block _ at es env f t a k h = refl

in_call : (o : Option ℕ) (es : PlainTrees) (env : Env) (t : ℕ) (a : Aim) (k : Calling) → going a ≡ call_going k es env t
    → going (unless_param o a) ≡ call_going (unless_named o k) es env t
in_call None es env t a k h = h
in_call (Some i) es env t a k h = refl

pub call_going_is : (at : ℕ) (n : List ℕ) (es : PlainTrees) (env f : Env) (t : ℕ) → going (call_target at n es env f t) ≡ call_going (calling n f) es env t
call_going_is at n es env empty t = refl
call_going_is at n es env (scope ds z rest) t =
    in_block (definition n ds) at es env (scope ds z rest) t (call_target at n es env rest t) (calling n rest) (call_going_is at n es env rest t)
call_going_is at n es env (args ns ats bs caller rest) t =
    in_call (param n ns) es env t (call_target at n es env rest t) (calling n rest) (call_going_is at n es env rest t)

abbrev pub IsCallSmall : Calling → Type 0
IsCallSmall (calls ns ats e f) = (nodes e < 2 ^ 31) × Applies e × IsUsable f
IsCallSmall no_call = Unit {0}

block_small : (d : Found) (f : Env) (k : Calling) → found_nodes d < 2 ^ 31 → FoundApplies d → IsUsable f → IsCallSmall k → IsCallSmall (called_in (kept d) f k)
block_small absent f k h a l r = r
block_small (plain_def d e) f k h a l r = tt
block_small (function_def d ns ats e) f k h a l r = (h, a, l)
block_small (current_def d e) f k h a l r = tt

param_small : (o : Option ℕ) (k : Calling) → IsCallSmall k → IsCallSmall (unless_named o k)
param_small None k r = r
param_small (Some i) k r = tt

pub calling_small : (n : List ℕ) (env : Env) → IsUsable env → IsCallSmall (calling n env)
calling_small n empty h = tt
calling_small n (scope ds z rest) h =
    block_small (definition n ds) (scope ds z rest) (calling n rest) (omega (arith, found_small n ds, h.0)) (found_applies n ds h.1) h
    (calling_small n rest h.3)
calling_small n (args ns ats es caller rest) h = param_small (param n ns) (calling n rest) (calling_small n rest h.3)
