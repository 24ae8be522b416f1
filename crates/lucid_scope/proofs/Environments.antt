-- What an environment finds for a name is what the name belongs to.
use Rattle.lucid_scope.proofs.Common.{ℕ, List, None, refl, PlainTrees, PlainDefs, Found, plain_def, function_def, current_def, definition, param, Static, in_block, in_function, Meaning, meaning, defined_in, parameter_in}
use Rattle.std.proofs.Common.{Option, Some}
use Rattle.lucid_tree.specs.Env.{Env, scope, args, Aim, absent, in_scope, in_args, called, unless_param, name_target, call_target}
use Rattle.lucid_scope.specs.Laws.{Matches, outermost_matches, block_matches, call_matches, NameAim, CalledAim}

in_a_block : (x : List ℕ) (ds : PlainDefs) (z : Option ℕ) (env : Env) (k : Static) (t : ℕ) → Matches env k → (found : Found) (m : Meaning) (a : Aim)
    → NameAim x m t a
    → NameAim x (defined_in found (in_block ds k) k m) t (in_scope found (scope ds z env) env z t a)
in_a_block x ds z env k t h absent m a b = b
in_a_block x ds z env k t h (plain_def at e) m a b = record { env = scope ds z env; matches = block_matches h; is = refl }
in_a_block x ds z env k t h (function_def at ns ats e) m a b = refl
in_a_block x ds z env k t h (current_def at e) m a b =
    record { defs = ds; frozen = z; rest = env; matches = block_matches h; outside_matches = h; is = refl }

in_a_call : (x : List ℕ) (d : ℕ) (ns : List (List ℕ)) (ats : List ℕ) (es : PlainTrees) (caller env : Env) (k : Static) (t : ℕ) → Matches env k
    → (i : Option ℕ) (m : Meaning) (a : Aim)
    → NameAim x m t a → NameAim x (parameter_in i d ats (in_function d ns ats k) m) t (in_args i ats es (args ns ats es caller env) caller t a)
in_a_call x d ns ats es caller env k t h None m a b = b
in_a_call x d ns ats es caller env k t h (Some i) m a b =
    record { names = ns; places = ats; actuals = es; caller = caller; rest = env; matches = call_matches h; is = refl }

pub name_aims : (x : List ℕ) {env : Env} {k : Static} → Matches env k → (t : ℕ) → NameAim x (meaning x k) t (name_target x env t)
name_aims x outermost_matches t = refl
name_aims x (block_matches {ds = ds} {z = z} {env = env} {k = k} h) t =
    in_a_block x ds z env k t h (definition x ds) (meaning x k) (name_target x env t) (name_aims x h t)
name_aims x (call_matches {d = d} {ns = ns} {ats = ats} {es = es} {caller = caller} {env = env} {k = k} h) t =
    in_a_call x d ns ats es caller env k t h (param x ns) (meaning x k) (name_target x env t) (name_aims x h t)

call_in_a_block : (at : ℕ) (es : PlainTrees) (caller : Env) (ds : PlainDefs) (z : Option ℕ) (env : Env) (k : Static) (t : ℕ) → Matches env k
    → (found : Found) (m : Meaning) (a : Aim)
    → CalledAim at es caller m t a → CalledAim at es caller (defined_in found (in_block ds k) k m) t (called found at es caller (scope ds z env) t a)
call_in_a_block at es caller ds z env k t h absent m a b = b
call_in_a_block at es caller ds z env k t h (plain_def p e) m a b = refl
call_in_a_block at es caller ds z env k t h (function_def p ns ats e) m a b = record { env = scope ds z env; matches = block_matches h; is = refl }
call_in_a_block at es caller ds z env k t h (current_def p e) m a b = refl

call_in_a_call : (at : ℕ) (es : PlainTrees) (caller : Env) (d : ℕ) (ats : List ℕ) (home : Static) (t : ℕ) → (i : Option ℕ) (m : Meaning) (a : Aim)
    → CalledAim at es caller m t a → CalledAim at es caller (parameter_in i d ats home m) t (unless_param i a)
call_in_a_call at es caller d ats home t None m a b = b
call_in_a_call at es caller d ats home t (Some i) m a b = refl

pub call_aims : (at : ℕ) (x : List ℕ) (es : PlainTrees) (caller : Env) {env : Env} {k : Static} → Matches env k → (t : ℕ)
    → CalledAim at es caller (meaning x k) t (call_target at x es caller env t)
call_aims at x es caller outermost_matches t = refl
call_aims at x es caller (block_matches {ds = ds} {z = z} {env = env} {k = k} h) t =
    call_in_a_block at es caller ds z env k t h (definition x ds) (meaning x k) (call_target at x es caller env t) (call_aims at x es caller h t)
call_aims at x es caller (call_matches {d = d} {ns = ns} {ats = ats} {es = bs} {caller = c} {env = env} {k = k} h) t =
    call_in_a_call at es caller d ats (in_function d ns ats k) t (param x ns) (meaning x k) (call_target at x es caller env t) (call_aims at x es caller h t)
