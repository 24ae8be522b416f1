-- What is meant is exactly what the rules derive.
use Rattle.lucid_fixed_point.proofs.RuleCommon.{◌≡◌, ℕ, List, Option, Some, None, refl, arith, PlainValue, PlainTree, form, name, call, block, PlainTrees, PlainDefs, Elements, element_of, goes_to, nowhere, Env, scope, plain_def, definition, Referent, Aim, name_target, call_target, tree_at, frozen_at, Means, AimHas, IsClosed, sym, ◌∙◌, get_or}
use Rattle.lucid_tree.specs.Env.{empty, args, Found, absent, function_def, current_def, param, called, unless_param, in_scope, in_args, to_actual}
use Rattle.lucid_tree.specs.Find.{Outwards, stays, past_block, past_call}
use Rattle.lucid_tree.proofs.References.{plain_name, called_function, parameter, current_name, free_name}
use Rattle.lucid_fixed_point.specs.Rules.{Derives, by_row, by_right_side, by_actual, by_frozen, by_element, by_call, by_block}
use Rattle.lucid_fixed_point.proofs.Fixed.{meaning-is-fixed}
use Rattle.lucid_fixed_point.proofs.Below.{means-has}
use Rattle.lucid_fixed_point.proofs.Parts.{none_read, no_part, this_part, part_there}

-- what a name goes on with, and why
data NameCase (n : List ℕ) (env : Env) (t : ℕ) : Aim → Type 0 where
  is_plain : {ds : PlainDefs} {z : Option ℕ} {rest : Env} {d : ℕ} {x : PlainTree} {k : Referent} → Outwards n env (scope ds z rest)
      → definition n ds ≡ plain_def d x → NameCase n env t (goes_to k (record { tree = x; env = scope ds z rest }) t)
  is_parameter : {ns : List (List ℕ)} {ats : List ℕ} {es : PlainTrees} {caller rest : Env} {i : ℕ} {x : PlainTree} {k : Referent}
      → Outwards n env (args ns ats es caller rest) → param n ns ≡ Some i → tree_at es i ≡ Some x
      → NameCase n env t (goes_to k (record { tree = x; env = caller }) t)
  is_current : {ds : PlainDefs} {rest : Env} {d u : ℕ} {x : PlainTree} {k : Referent} → Outwards n env (scope ds (Some u) rest)
      → definition n ds ≡ current_def d x → NameCase n env t (goes_to k (record { tree = x; env = rest }) u)
  is_free : Outwards n env empty → NameCase n env t (element_of n t)
  is_nothing : NameCase n env t nowhere

past_block_too : {n : List ℕ} {env : Env} {t : ℕ} {a : Aim} (ds : PlainDefs) (z : Option ℕ) → definition n ds ≡ absent → NameCase n env t a
    → NameCase n (scope ds z env) t a
past_block_too ds z h (is_plain o e) = is_plain (past_block h o) e
past_block_too ds z h (is_parameter o e g) = is_parameter (past_block h o) e g
past_block_too ds z h (is_current o e) = is_current (past_block h o) e
past_block_too ds z h (is_free o) = is_free (past_block h o)
past_block_too ds z h is_nothing = is_nothing

past_call_too : {n : List ℕ} {env : Env} {t : ℕ} {a : Aim} (ns : List (List ℕ)) (ats : List ℕ) (es : PlainTrees) (caller : Env) → param n ns ≡ None
    → NameCase n env t a → NameCase n (args ns ats es caller env) t a
past_call_too ns ats es caller h (is_plain o e) = is_plain (past_call h o) e
past_call_too ns ats es caller h (is_parameter o e g) = is_parameter (past_call h o) e g
past_call_too ns ats es caller h (is_current o e) = is_current (past_call h o) e
past_call_too ns ats es caller h (is_free o) = is_free (past_call h o)
past_call_too ns ats es caller h is_nothing = is_nothing

module _ (n : List ℕ) (t : ℕ) where
  found_case : (ds : PlainDefs) (z : Option ℕ) (rest : Env) (d : Found) → definition n ds ≡ d → NameCase n rest t (name_target n rest t)
      → NameCase n (scope ds z rest) t (in_scope d (scope ds z rest) rest z t (name_target n rest t))
  found_case ds z rest absent e h = past_block_too ds z e h
  found_case ds z rest (plain_def d x) e h = is_plain stays e
  found_case ds z rest (function_def d ns ats x) e h = is_nothing
  found_case ds None rest (current_def d x) e h = is_nothing
  found_case ds (Some u) rest (current_def d x) e h = is_current stays e

  actual_case : (ns : List (List ℕ)) (ats : List ℕ) (es : PlainTrees) (caller rest : Env) (i : ℕ) (o : Option PlainTree) → param n ns ≡ Some i
      → tree_at es i ≡ o → NameCase n (args ns ats es caller rest) t (to_actual (get_or ats i 0) o (args ns ats es caller rest) caller t)
  actual_case ns ats es caller rest i None e g = is_nothing
  actual_case ns ats es caller rest i (Some x) e g = is_parameter stays e g

  param_case : (ns : List (List ℕ)) (ats : List ℕ) (es : PlainTrees) (caller rest : Env) (o : Option ℕ) → param n ns ≡ o
      → NameCase n rest t (name_target n rest t) → NameCase n (args ns ats es caller rest) t
      (in_args o ats es (args ns ats es caller rest) caller t (name_target n rest t))
  param_case ns ats es caller rest None e h = past_call_too ns ats es caller e h
  param_case ns ats es caller rest (Some i) e h = actual_case ns ats es caller rest i (tree_at es i) e refl

  name_case : (env : Env) → NameCase n env t (name_target n env t)
  name_case empty = is_free stays
  name_case (scope ds z rest) = found_case ds z rest (definition n ds) refl (name_case rest)
  name_case (args ns ats es caller rest) = param_case ns ats es caller rest (param n ns) refl (name_case rest)

-- what a call goes on with, and why
data CallCase (n : List ℕ) (es : PlainTrees) (caller env : Env) (t : ℕ) : Aim → Type 0 where
  is_function : {ds : PlainDefs} {z : Option ℕ} {rest : Env} {d : ℕ} {ns : List (List ℕ)} {ats : List ℕ} {x : PlainTree} {k : Referent}
      → Outwards n env (scope ds z rest) → definition n ds ≡ function_def d ns ats x
      → CallCase n es caller env t (goes_to k (record { tree = x; env = args ns ats es caller (scope ds z rest) }) t)
  is_none : CallCase n es caller env t nowhere

module _ (at : ℕ) (n : List ℕ) (es : PlainTrees) (caller : Env) (t : ℕ) where
  found_function : (ds : PlainDefs) (z : Option ℕ) (rest : Env) (d : Found) (a : Aim) → definition n ds ≡ d → CallCase n es caller rest t a
      → CallCase n es caller (scope ds z rest) t (called d at es caller (scope ds z rest) t a)
  found_function ds z rest absent a e (is_function o g) = is_function (past_block e o) g
  found_function ds z rest absent a e is_none = is_none
  found_function ds z rest (plain_def d x) a e h = is_none
  found_function ds z rest (function_def d ns ats x) a e h = is_function stays e
  found_function ds z rest (current_def d x) a e h = is_none

  past_parameters : (ns : List (List ℕ)) (ats : List ℕ) (bs : PlainTrees) (c rest : Env) (o : Option ℕ) (a : Aim) → param n ns ≡ o
      → CallCase n es caller rest t a → CallCase n es caller (args ns ats bs c rest) t (unless_param o a)
  past_parameters ns ats bs c rest None a e (is_function o g) = is_function (past_call e o) g
  past_parameters ns ats bs c rest None a e is_none = is_none
  past_parameters ns ats bs c rest (Some i) a e h = is_none

  call_case : (env : Env) → CallCase n es caller env t (call_target at n es caller env t)
  call_case empty = is_none
  call_case (scope ds z rest) = found_function ds z rest (definition n ds) (call_target at n es caller rest t) refl (call_case rest)
  call_case (args ns ats bs c rest) = past_parameters ns ats bs c rest (param n ns) (call_target at n es caller rest t) refl (call_case rest)

module _ (b : Elements) where
  name_derives : (at : ℕ) (n : List ℕ) (env : Env) (t s : ℕ) (v : PlainValue) (a : Aim) → NameCase n env t a → AimHas b (Derives b) a s v
      → Derives b (name at n) env t s v
  name_derives at n env t s v a (is_plain o e) h = by_right_side o e h
  name_derives at n env t s v a (is_parameter o e g) h = by_actual o e g h
  name_derives at n env t s v a (is_current o e) h = by_frozen o e h
  name_derives at n env t s v a (is_free o) h = by_element o h
  name_derives at n env t s v a is_nothing h = absurd h

  call_derives : (at : ℕ) (n : List ℕ) (es : PlainTrees) (env : Env) (t s : ℕ) (v : PlainValue) (a : Aim) → CallCase n es env env t a
      → AimHas b (Derives b) a s v → Derives b (call at n es) env t s v
  call_derives at n es env t s v a (is_function o e) h = by_call o e h
  call_derives at n es env t s v a is_none h = absurd h

  rules-close : IsClosed b (Derives b)
  rules-close (form at f es) env t s v h =
      by_row h.limit h.reader (λ i u r e. none_read (h.reader i u r) (λ w k. no_part (Derives b) es env i u r w e (h.reads i u r w k)))
      (λ i u r x w e k. this_part (Derives b) es env i u r x w e (h.reads i u r w k)) h.value
  rules-close (name at n) env t s v h = name_derives at n env t s v (name_target n env t) (name_case n t env) h
  rules-close (call at n es) env t s v h = call_derives at n es env t s v (call_target at n es env env t) (call_case at n es env t env) h
  rules-close (block at e ds) env t s v h = by_block h

  pub means-derives : (e : PlainTree) (env : Env) (t s : ℕ) (v : PlainValue) → Means b e env t s v → Derives b e env t s v
  means-derives = means-has b (Derives b) rules-close

  pub derives-means : (e : PlainTree) (env : Env) (t s : ℕ) (v : PlainValue) → Derives b e env t s v → Means b e env t s v
  derives-means e env t s v (by_row {at = at} {f = f} {es = es} m reader none some value) =
      (meaning-is-fixed b (form at f es) env t s v).1 (record {
        limit = m;
        reader = reader;
        reads = λ i u r w k. part_there (Means b) es env i u r w (λ z. let off : None ≡ Some w = sym (none i u r z) ∙ k in absurd (grind arith))
            (λ x e. derives-means x env u r w (some i u r x w e k));
        value = value;
      })
  derives-means e env t s v (by_right_side {n = n} {rest = rest} {ds = ds} {z = z} {at = at} {d = d} {x = x} o h g) =
      ((plain_name b n env rest ds z at d x t o h).meaning s v).1 (derives-means x (scope ds z rest) t s v g)
  derives-means e env t s v (by_actual {n = n} {caller = c} {rest = rest} {ns = ns} {ats = ats} {es = es} {at = at} {i = i} {x = x} o h k g) =
      ((parameter b n env c rest ns ats es at i x t o h k).meaning s v).1 (derives-means x c t s v g)
  derives-means e env t s v (by_frozen {n = n} {rest = rest} {ds = ds} {at = at} {d = d} {u = u} {x = x} o h g) =
      ((current_name b n env rest ds at d u x t o h).meaning s v).1 (derives-means x rest u s v g)
  derives-means e env t s v (by_element {n = n} {at = at} o h) = (1, (free_name b 0 n env at t s o).1 ∙ h)
  derives-means e env t s v (by_call {n = n} {rest = rest} {ds = ds} {z = z} {at = at} {d = d} {ns = ns} {ats = ats} {es = es} {x = x} o h g) =
      ((called_function b n env rest ds z at d ns ats es x t o h).meaning s v).1 (derives-means x (args ns ats es env (scope ds z rest)) t s v g)
  derives-means e env t s v (by_block {at = at} {e = x} {ds = ds} d) =
      (meaning-is-fixed b (block at x ds) env t s v).1 (derives-means x (scope ds (frozen_at ds t) env) t s v d)
