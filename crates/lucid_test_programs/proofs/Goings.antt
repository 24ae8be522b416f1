-- What a name goes_to on with in an environment of small trees, and its value.
use Rattle.lucid_test_programs.proofs.Common.{◌≡◌, ◌≢◌, ℕ, zero, suc, ◌-◌, ◌<◌, ◌≤◌, ◌^◌, List, Option, Some, None, true, false, refl, arith, sub-one, get_or, PlainValue, Stream, PlainTrees, no_trees, tree, PlainDefs, no_defs, defines, defines_function, defines_current, nodes, nodes_in, nodes_in_defs, Env, empty, scope, args, same_name, Found, absent, plain_def, function_def, current_def, definition, param, tree_at, Aim, name_target, nothing_held, below, value, val, Going, at_tree, at_none, going, elements_of, Applies, AllApply, DefsApply, IsUsable, Bool, if◌then◌else◌}
use Rattle.lucid_tree.specs.Env.{in_scope, in_args, to_actual}
use Rattle.lucid_tree.specs.Levels.{element_of, goes_to, nowhere}
use Rattle.lucid_test_programs.specs.View.{at_element}

-- what goes_to on with an going, at one less
abbrev pub by_going : List Stream → ℕ → Going → ℕ → Option PlainValue
by_going vs m (at_element n j) s = elements_of vs n j
by_going vs m (at_tree e f u) s = val (elements_of vs) m e f u s
by_going vs m at_none s = None

at_suc : (vs : List Stream) (m : ℕ) (a : Aim) (s : ℕ) → below value (nothing_held (elements_of vs)) (suc m) a s ≡ by_going vs m (going a) s
at_suc vs m (element_of n j) s = refl
at_suc vs m (goes_to k x u) s = refl
at_suc vs m nowhere s = refl

pub below_by_going : (vs : List Stream) (m : ℕ) (a : Aim) (s : ℕ) → m ≢ 0 → below value (nothing_held (elements_of vs)) m a s ≡ by_going vs (m - 1) (going a) s
below_by_going vs zero a s h = absurd (h refl)
below_by_going vs (suc m) a s h = rw sub-one (at_suc vs m a s)

abbrev pub IsGoingSmall : Going → Type 0
IsGoingSmall (at_element n j) = j < 2 ^ 63
IsGoingSmall (at_tree e f u) = (nodes e < 2 ^ 31) × Applies e × IsUsable f × (u < 2 ^ 63)
IsGoingSmall at_none = Unit {0}

abbrev pub found_nodes : Found → ℕ
found_nodes absent = 0
found_nodes (plain_def at e) = nodes e
found_nodes (function_def at ns ats e) = nodes e
found_nodes (current_def at e) = nodes e

if-nodes : (b : Bool) (x y : Found) (n : ℕ) → found_nodes x ≤ n → found_nodes y ≤ n → found_nodes (if b then x else y) ≤ n
if-nodes true x y n h k = h
if-nodes false x y n h k = k

pub found_small : (n : List ℕ) (ds : PlainDefs) → found_nodes (definition n ds) ≤ nodes_in_defs ds
found_small n no_defs = omega arith
found_small n (defines at x e ds) = if-nodes (same_name n x) (plain_def at e) (definition n ds) _ (omega arith) (omega (arith, found_small n ds))
found_small n (defines_function at x ns ats e ds) =
    if-nodes (same_name n x) (function_def at ns ats e) (definition n ds) _ (omega arith) (omega (arith, found_small n ds))
found_small n (defines_current at x e ds) = if-nodes (same_name n x) (current_def at e) (definition n ds) _ (omega arith) (omega (arith, found_small n ds))

abbrev pub FoundApplies : Found → Type 0
FoundApplies absent = Unit {0}
FoundApplies (plain_def at e) = Applies e
FoundApplies (function_def at ns ats e) = Applies e
FoundApplies (current_def at e) = Applies e

if-applies : (b : Bool) (x y : Found) → FoundApplies x → FoundApplies y → FoundApplies (if b then x else y)
if-applies true x y h k = h
if-applies false x y h k = k

pub found_applies : (n : List ℕ) (ds : PlainDefs) → DefsApply ds → FoundApplies (definition n ds)
found_applies n no_defs h = tt
found_applies n (defines at x e ds) h = if-applies (same_name n x) (plain_def at e) (definition n ds) h.0 (found_applies n ds h.1)
found_applies n (defines_function at x ns ats e ds) h = if-applies (same_name n x) (function_def at ns ats e) (definition n ds) h.0 (found_applies n ds h.1)
found_applies n (defines_current at x e ds) h = if-applies (same_name n x) (current_def at e) (definition n ds) h.0 (found_applies n ds h.1)

scope_small : (d : Found) (ds : PlainDefs) (rest : Env) (z : Option ℕ) (t : ℕ) (a : Aim) → found_nodes d < 2 ^ 31 → FoundApplies d → IsUsable (scope ds z rest)
    → t < 2 ^ 63 → IsGoingSmall (going a) → IsGoingSmall (going (in_scope d (scope ds z rest) rest z t a))
scope_small absent ds rest z t a h f k l r = r
scope_small (plain_def at e) ds rest z t a h f k l r = (h, f, k, l)
scope_small (function_def at ns ats e) ds rest z t a h f k l r = tt
scope_small (current_def at e) ds rest None t a h f k l r = tt
scope_small (current_def at e) ds rest (Some u) t a h f k l r = (h, f, k.3, k.2)

actual_small : (at : ℕ) (es : PlainTrees) (i : ℕ) (f caller : Env) (t : ℕ) → nodes_in es < 2 ^ 31 → AllApply es → IsUsable caller → t < 2 ^ 63
    → IsGoingSmall (going (to_actual at (tree_at es i) f caller t))
actual_small at no_trees i f caller t h k l n = tt
actual_small at (tree e es) zero f caller t h k l n = (omega arith, k.0, l, n)
actual_small at (tree e es) (suc i) f caller t h k l n = actual_small at es i f caller t (omega arith) k.1 l n

args_small : (o : Option ℕ) (ats : List ℕ) (es : PlainTrees) (f caller : Env) (t : ℕ) (a : Aim) → nodes_in es < 2 ^ 31 → AllApply es → IsUsable caller
    → t < 2 ^ 63 → IsGoingSmall (going a) → IsGoingSmall (going (in_args o ats es f caller t a))
args_small None ats es f caller t a h k l n r = r
args_small (Some i) ats es f caller t a h k l n r = actual_small (get_or ats i 0) es i f caller t h k l n

pub target_small : (n : List ℕ) (env : Env) (t : ℕ) → IsUsable env → t < 2 ^ 63 → IsGoingSmall (going (name_target n env t))
target_small n empty t h l = l
target_small n (scope ds z rest) t h l =
    scope_small (definition n ds) ds rest z t (name_target n rest t) (omega (arith, found_small n ds, h.0)) (found_applies n ds h.1) h l
    (target_small n rest t h.3 l)
target_small n (args ns ats es caller rest) t h l =
    args_small (param n ns) ats es (args ns ats es caller rest) caller t (name_target n rest t) h.0 h.1 h.2 l (target_small n rest t h.3 l)
