-- What trees denote is closed under their equations; so what is derived is denoted, and exactly that.
use Rattle.lucid_fixed_point.proofs.Common.{ℕ, zero, suc, Bool, true, false, List, Option, Some, None, if◌then◌else◌, get_or, PlainValue, PlainTree, form, name, call, block, PlainTrees, no_trees, tree, PlainDefs, no_defs, defines, defines_function, defines_current, Elements, Env, empty, scope, args, same_name, param, tree_at, Aim, Found, plain_def, function_def, current_def, definition, name_target, call_target, in_scope, in_args, frozen_target, to_actual, called, unless_param, Relation, PartHas, AimHas, IsClosed, Stream, Streams, Map, no_map, no_stream, chosen, numbered_or, with_arguments, frozen, denotation, denotations, equations, meanings, PointsWithin}
use Rattle.lucid_tree.specs.Meaning.{Means}
use Rattle.lucid_fixed_point.proofs.Rules.{means-derives, derives-means}
use Rattle.lucid_fixed_point.proofs.Fixed.{meaning-is-fixed}
use Rattle.lucid_fixed_point.proofs.Below.{means-has}
use Rattle.lucid_fixed_point.specs.Laws.{DenotationIsDerivation, DenotationIsMeaning}
use Rattle.lucid_fixed_point.proofs.Solved.{block-solved, meanings-are-continuous}
use Rattle.lucid_fixed_point.proofs.Stands.{denoted-stands}

module _ (b : Elements) where
  -- what trees denote, as a relation
  abbrev Denotes : Relation
  Denotes e env t s v = denotation e (meanings b env) t s v

  part-denotes : (es : PlainTrees) (env : Env) (i t s : ℕ) (v : PlainValue) → PartHas Denotes es env i t s v → denotations es (meanings b env) i t s v
  part-denotes no_trees env i t s v h = h
  part-denotes (tree e es) env zero t s v h = h
  part-denotes (tree e es) env (suc i) t s v h = part-denotes es env i t s v h

  actual-denotes : (es : PlainTrees) (f caller : Env) (k i t s : ℕ) (v : PlainValue) → AimHas b Denotes (to_actual k (tree_at es i) f caller t) s v
      → denotations es (meanings b caller) i t s v
  actual-denotes no_trees f caller k i t s v h = h
  actual-denotes (tree e es) f caller k zero t s v h = h
  actual-denotes (tree e es) f caller k (suc i) t s v h = actual-denotes es f caller k i t s v h

  chosen-stream-denotes : (c : Bool) (d e : Found) (f env : Env) (z : Option ℕ) (t s : ℕ) (v : PlainValue) (outer : Aim) (x y : Stream)
      → (AimHas b Denotes (in_scope d f env z t outer) s v → x t s v) → (AimHas b Denotes (in_scope e f env z t outer) s v → y t s v)
      → AimHas b Denotes (in_scope (if c then d else e) f env z t outer) s v → chosen c x y t s v
  chosen-stream-denotes true d e f env z t s v outer x y h k = h
  chosen-stream-denotes false d e f env z t s v outer x y h k = k

  chosen-map-denotes : (c : Bool) (d e : Found) (f caller : Env) (at : ℕ) (es : PlainTrees) (t s : ℕ) (v : PlainValue) (outer : Aim) (x y : Map) (a : Streams)
      → (AimHas b Denotes (called d at es caller f t outer) s v → x a t s v) → (AimHas b Denotes (called e at es caller f t outer) s v → y a t s v)
      → AimHas b Denotes (called (if c then d else e) at es caller f t outer) s v → chosen c x y a t s v
  chosen-map-denotes true d e f caller at es t s v outer x y a h k = h
  chosen-map-denotes false d e f caller at es t s v outer x y a h k = k

  frozen-denotes : (z : Option ℕ) (d : ℕ) (f env : Env) (e : PlainTree) (t s : ℕ) (v : PlainValue) → AimHas b Denotes (frozen_target d f e env z) s v
      → frozen z (denotation e (meanings b env)) t s v
  frozen-denotes None d f env e t s v h = h
  frozen-denotes (Some u) d f env e t s v h = h

  -- one step of a block's equations has what a name goes on with in its scope, as far as these definitions go
  equations-denote : (ds : PlainDefs) (z : Option ℕ) (f env : Env) (n : List ℕ) (t s : ℕ) (v : PlainValue)
      → (AimHas b Denotes (name_target n env t) s v → (meanings b env).stream n t s v)
      → AimHas b Denotes (in_scope (definition n ds) f env z t (name_target n env t)) s v
      → (equations ds z (meanings b env) (meanings b f)).stream n t s v
  equations-denote no_defs z f env n t s v k = k
  equations-denote (defines d x e ds) z f env n t s v k =
      chosen-stream-denotes (same_name n x) (plain_def d e) (definition n ds) f env z t s v (name_target n env t) (denotation e (meanings b f))
      ((equations ds z (meanings b env) (meanings b f)).stream n) (λ h. h) (equations-denote ds z f env n t s v k)
  equations-denote (defines_function d x ns ats e ds) z f env n t s v k =
      chosen-stream-denotes (same_name n x) (function_def d ns ats e) (definition n ds) f env z t s v (name_target n env t) no_stream
      ((equations ds z (meanings b env) (meanings b f)).stream n) (λ h. h) (equations-denote ds z f env n t s v k)
  equations-denote (defines_current d x e ds) z f env n t s v k =
      chosen-stream-denotes (same_name n x) (current_def d e) (definition n ds) f env z t s v (name_target n env t) (frozen z (denotation e (meanings b env)))
      ((equations ds z (meanings b env) (meanings b f)).stream n) (frozen-denotes z d f env e t s v) (equations-denote ds z f env n t s v k)

  calls-denote : (ds : PlainDefs) (z : Option ℕ) (f env caller : Env) (n : List ℕ) (at : ℕ) (es : PlainTrees) (t s : ℕ) (v : PlainValue)
      → (AimHas b Denotes (call_target at n es caller env t) s v → (meanings b env).map n (denotations es (meanings b caller)) t s v)
      → AimHas b Denotes (called (definition n ds) at es caller f t (call_target at n es caller env t)) s v
      → (equations ds z (meanings b env) (meanings b f)).map n (denotations es (meanings b caller)) t s v
  calls-denote no_defs z f env c n at es t s v k = k
  calls-denote (defines d x e ds) z f env c n at es t s v k =
      chosen-map-denotes (same_name n x) (plain_def d e) (definition n ds) f c at es t s v (call_target at n es c env t) no_map
      ((equations ds z (meanings b env) (meanings b f)).map n) (denotations es (meanings b c)) (λ h. h) (calls-denote ds z f env c n at es t s v k)
  calls-denote (defines_function d x ns ats e ds) z f env c n at es t s v k =
      chosen-map-denotes (same_name n x) (function_def d ns ats e) (definition n ds) f c at es t s v (call_target at n es c env t)
      (λ a. denotation e (with_arguments ns a (meanings b f))) ((equations ds z (meanings b env) (meanings b f)).map n) (denotations es (meanings b c)) (λ h. h)
      (calls-denote ds z f env c n at es t s v k)
  calls-denote (defines_current d x e ds) z f env c n at es t s v k =
      chosen-map-denotes (same_name n x) (current_def d e) (definition n ds) f c at es t s v (call_target at n es c env t) no_map
      ((equations ds z (meanings b env) (meanings b f)).map n) (denotations es (meanings b c)) (λ h. h) (calls-denote ds z f env c n at es t s v k)

  argument-denotes : (o : Option ℕ) (ats : List ℕ) (es : PlainTrees) (f caller : Env) (x : Stream) (t s : ℕ) (v : PlainValue) (outer : Aim)
      → (AimHas b Denotes outer s v → x t s v) → AimHas b Denotes (in_args o ats es f caller t outer) s v
      → numbered_or o (denotations es (meanings b caller)) x t s v
  argument-denotes None ats es f caller x t s v outer k h = k h
  argument-denotes (Some i) ats es f caller x t s v outer k h = actual-denotes es f caller (get_or ats i 0) i t s v h

  no-argument-denotes : (o : Option ℕ) (g : Map) (a : Streams) (t s : ℕ) (v : PlainValue) (outer : Aim) → (AimHas b Denotes outer s v → g a t s v)
      → AimHas b Denotes (unless_param o outer) s v → numbered_or o (λ i. no_map) g a t s v
  no-argument-denotes None g a t s v outer k h = k h
  no-argument-denotes (Some i) g a t s v outer k h = h

  -- the names of a block's scope have what one step of its equations has of them
  scope-solved : (ds : PlainDefs) (z : Option ℕ) (rest : Env)
      → PointsWithin (equations ds z (meanings b rest) (meanings b (scope ds z rest))) (meanings b (scope ds z rest))
  scope-solved ds z rest = block-solved ds z (meanings b rest) (meanings-are-continuous b rest)

  names-denote : (env : Env) (n : List ℕ) (t s : ℕ) (v : PlainValue) → AimHas b Denotes (name_target n env t) s v → (meanings b env).stream n t s v
  names-denote empty n t s v h = h
  names-denote (scope ds z rest) n t s v h =
      (scope-solved ds z rest).streams n t s v (equations-denote ds z (scope ds z rest) rest n t s v (names-denote rest n t s v) h)
  names-denote (args ns ats es caller rest) n t s v h =
      argument-denotes (param n ns) ats es (args ns ats es caller rest) caller ((meanings b rest).stream n) t s v (name_target n rest t)
      (names-denote rest n t s v) h

  functions-denote : (env : Env) (n : List ℕ) (at : ℕ) (es : PlainTrees) (c : Env) (t s : ℕ) (v : PlainValue)
      → AimHas b Denotes (call_target at n es c env t) s v → (meanings b env).map n (denotations es (meanings b c)) t s v
  functions-denote empty n at es c t s v h = h
  functions-denote (scope ds z rest) n at es c t s v h =
      (scope-solved ds z rest).maps n (denotations es (meanings b c)) t s v
      (calls-denote ds z (scope ds z rest) rest c n at es t s v (functions-denote rest n at es c t s v) h)
  functions-denote (args ns ats bs caller rest) n at es c t s v h =
      no-argument-denotes (param n ns) ((meanings b rest).map n) (denotations es (meanings b c)) t s v (call_target at n es c rest t)
      (functions-denote rest n at es c t s v) h

  pub denotations-close : IsClosed b Denotes
  denotations-close (form at f es) env t s v h =
      record { limit = h.limit; reader = h.reader; reads = λ i u r w k. part-denotes es env i u r w (h.reads i u r w k); value = h.value }
  denotations-close (name at n) env t s v h = names-denote env n t s v h
  denotations-close (call at n es) env t s v h = functions-denote env n at es env t s v h
  denotations-close (block at e ds) env t s v h = h

pub denotation-is-meaning : DenotationIsMeaning
denotation-is-meaning b e env t s v = (
  means-has b (λ e env t s v. denotation e (meanings b env) t s v) (denotations-close b) e env t s v,
  denoted-stands b (Means b) (λ e env t s v g. (meaning-is-fixed b e env t s v).1 g) e env t s v,
)

pub denotation-is-derivation : DenotationIsDerivation
denotation-is-derivation b e env t s v =
    let h = denotation-is-meaning b e env t s v in ((λ d. h.0 (derives-means b e env t s v d)), (λ d. means-derives b e env t s v (h.1 d)))
