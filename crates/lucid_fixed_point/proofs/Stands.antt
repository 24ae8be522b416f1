-- What is denoted stands in each relation that is closed under the equations of trees.
use Rattle.lucid_fixed_point.proofs.Common.{ℕ, zero, suc, Bool, true, false, List, Option, Some, None, if◌then◌else◌, get_or, PlainValue, PlainTree, form, name, call, block, PlainTrees, no_trees, tree, PlainDefs, no_defs, defines, defines_function, defines_current, Elements, Env, empty, scope, args, frozen_at, same_name, param, tree_at, Aim, Found, plain_def, function_def, current_def, definition, name_target, call_target, in_scope, in_args, frozen_target, to_actual, called, unless_param, Relation, PartHas, AimHas, IsClosed, Stream, Streams, Map, Meanings, no_map, no_stream, chosen, numbered_or, with_arguments, frozen, iterate, least, denotation, denotations, equations, meanings}

module _ (b : Elements) (R : Relation) (closed : IsClosed b R) where
  -- the streams of arguments stand in the relation as that of these trees
  abbrev PartsStand : Streams → PlainTrees → Env → Type 0
  PartsStand a es env = (i t s : ℕ) (v : PlainValue) → a i t s v → PartHas R es env i t s v

  -- what names mean stands in the relation as what they go on with
  record Stands (r : Meanings) (env : Env) : Type 1 where
    streams : (n : List ℕ) (t s : ℕ) (v : PlainValue) → r.stream n t s v → AimHas b R (name_target n env t) s v
    maps : (n : List ℕ) (at : ℕ) (es : PlainTrees) (caller : Env) (a : Streams) → PartsStand a es caller → (t s : ℕ) (v : PlainValue) → r.map n a t s v
        → AimHas b R (call_target at n es caller env t) s v

  -- the same for a block's scope f, outside which the names mean r, as far as these of its definitions go
  record StandsIn (ds : PlainDefs) (z : Option ℕ) (f env : Env) (q : Meanings) : Type 1 where
    streams : (n : List ℕ) (t s : ℕ) (v : PlainValue) → q.stream n t s v
        → AimHas b R (in_scope (definition n ds) f env z t (name_target n env t)) s v
    maps : (n : List ℕ) (at : ℕ) (es : PlainTrees) (caller : Env) (a : Streams) → PartsStand a es caller → (t s : ℕ) (v : PlainValue) → q.map n a t s v
        → AimHas b R (called (definition n ds) at es caller f t (call_target at n es caller env t)) s v

  part-stands : (es : PlainTrees) (caller f : Env) (k i t s : ℕ) (v : PlainValue) → PartHas R es caller i t s v
      → AimHas b R (to_actual k (tree_at es i) f caller t) s v
  part-stands no_trees caller f k i t s v h = absurd h
  part-stands (tree e es) caller f k zero t s v h = h
  part-stands (tree e es) caller f k (suc i) t s v h = part-stands es caller f k i t s v h

  argument-stands : (o : Option ℕ) (ats : List ℕ) (es : PlainTrees) (caller f : Env) (a : Streams) (x : Stream) (t s : ℕ) (v : PlainValue) (outer : Aim)
      → PartsStand a es caller → (x t s v → AimHas b R outer s v) → numbered_or o a x t s v → AimHas b R (in_args o ats es f caller t outer) s v
  argument-stands None ats es caller f a x t s v outer h k d = k d
  argument-stands (Some i) ats es caller f a x t s v outer h k d = part-stands es caller f (get_or ats i 0) i t s v (h i t s v d)

  no-argument-stands : (o : Option ℕ) (g : Map) (a : Streams) (t s : ℕ) (v : PlainValue) (outer : Aim) → (g a t s v → AimHas b R outer s v)
      → numbered_or o (λ i. no_map) g a t s v → AimHas b R (unless_param o outer) s v
  no-argument-stands None g a t s v outer k d = k d
  no-argument-stands (Some i) g a t s v outer k d = absurd d

  arguments-stand : (ns : List (List ℕ)) (ats : List ℕ) (es : PlainTrees) (caller f : Env) (a : Streams) (q : Meanings) → PartsStand a es caller
      → Stands q f → Stands (with_arguments ns a q) (args ns ats es caller f)
  arguments-stand ns ats es caller f a q h k =
      record {
        streams = λ n t s v d.
            argument-stands (param n ns) ats es caller (args ns ats es caller f) a (q.stream n) t s v (name_target n f t) h (k.streams n t s v) d;
        maps = λ n at bs c x l t s v d.
            no-argument-stands (param n ns) (q.map n) x t s v (call_target at n bs c f t) (k.maps n at bs c x l t s v) d;
      }

  -- One definition in front of others: a name that it defines, and another.
  chosen-stream-stands : (c : Bool) (d e : Found) (f env : Env) (z : Option ℕ) (t s : ℕ) (v : PlainValue) (outer : Aim) (x y : Stream)
      → (x t s v → AimHas b R (in_scope d f env z t outer) s v) → (y t s v → AimHas b R (in_scope e f env z t outer) s v) → chosen c x y t s v
      → AimHas b R (in_scope (if c then d else e) f env z t outer) s v
  chosen-stream-stands true d e f env z t s v outer x y h k = h
  chosen-stream-stands false d e f env z t s v outer x y h k = k

  chosen-map-stands : (c : Bool) (d e : Found) (f caller : Env) (at : ℕ) (es : PlainTrees) (t s : ℕ) (v : PlainValue) (outer : Aim) (x y : Map) (a : Streams)
      → (x a t s v → AimHas b R (called d at es caller f t outer) s v) → (y a t s v → AimHas b R (called e at es caller f t outer) s v)
      → chosen c x y a t s v → AimHas b R (called (if c then d else e) at es caller f t outer) s v
  chosen-map-stands true d e f caller at es t s v outer x y a h k = h
  chosen-map-stands false d e f caller at es t s v outer x y a h k = k

  frozen-stands : (z : Option ℕ) (d : ℕ) (f env : Env) (e : PlainTree) (a : Stream) → ((t s : ℕ) (v : PlainValue) → a t s v → R e env t s v)
      → (t s : ℕ) (v : PlainValue) → frozen z a t s v → AimHas b R (frozen_target d f e env z) s v
  frozen-stands None d f env e a h t s v k = absurd k
  frozen-stands (Some u) d f env e a h t s v k = h u s v k

  iterate-stands : (f : Meanings → Meanings) (env : Env) → ((q : Meanings) → Stands q env → Stands (f q) env) → (k : ℕ) → Stands (iterate f k) env
  iterate-stands f env h zero = record { streams = λ n t s v d. absurd d; maps = λ n at es c a l t s v d. absurd d }
  iterate-stands f env h (suc k) = h (iterate f k) (iterate-stands f env h k)

  least-stands : (f : Meanings → Meanings) (env : Env) → ((q : Meanings) → Stands q env → Stands (f q) env) → Stands (least f) env
  least-stands f env h =
      record {
        streams = λ n t s v d. (iterate-stands f env h d.0).streams n t s v d.1;
        maps = λ n at es c a l t s v d. (iterate-stands f env h d.0).maps n at es c a l t s v d.1;
      }

  -- a block's scope is that of all its definitions
  whole-scope : (ds : PlainDefs) (z : Option ℕ) (env : Env) (q : Meanings) → StandsIn ds z (scope ds z env) env q → Stands q (scope ds z env)
  whole-scope ds z env q h = record { streams = h.streams; maps = h.maps }

  -- what a block's names mean stands, where one step of its equations does
  scope-stands : (ds : PlainDefs) (z : Option ℕ) (r : Meanings) (env : Env)
      → ((q : Meanings) → Stands q (scope ds z env) → StandsIn ds z (scope ds z env) env (equations ds z r q))
      → Stands (least (equations ds z r)) (scope ds z env)
  scope-stands ds z r env h = least-stands (equations ds z r) (scope ds z env) (λ q k. whole-scope ds z env (equations ds z r q) (h q k))

  mutual
    denotation-stands : (e : PlainTree) (r : Meanings) (env : Env) → Stands r env → (t s : ℕ) (v : PlainValue) → denotation e r t s v → R e env t s v
    denotation-stands (form at f es) r env h t s v d =
        closed (form at f es) env t s v (record {
          limit = d.limit;
          reader = d.reader;
          reads = λ i u p w k. denotations-stand es r env h i u p w (d.reads i u p w k);
          value = d.value;
        })
    denotation-stands (name at n) r env h t s v d = closed (name at n) env t s v (h.streams n t s v d)
    denotation-stands (call at n es) r env h t s v d = closed (call at n es) env t s v (h.maps n at es env (denotations es r) (denotations-stand es r env h) t s v d)
    denotation-stands (block at e ds) r env h t s v d =
        closed (block at e ds) env t s v (denotation-stands e (least (equations ds (frozen_at ds t) r)) (scope ds (frozen_at ds t) env)
        (scope-stands ds (frozen_at ds t) r env (λ q k. equations-stand ds (frozen_at ds t) r q (scope ds (frozen_at ds t) env) env h k)) t s v d)

    denotations-stand : (es : PlainTrees) (r : Meanings) (env : Env) → Stands r env → (i t s : ℕ) (v : PlainValue) → denotations es r i t s v → PartHas R es env i t s v
    denotations-stand no_trees r env h i t s v d = d
    denotations-stand (tree e es) r env h zero t s v d = denotation-stands e r env h t s v d
    denotations-stand (tree e es) r env h (suc i) t s v d = denotations-stand es r env h i t s v d

    equations-stand : (ds : PlainDefs) (z : Option ℕ) (r q : Meanings) (f env : Env) → Stands r env → Stands q f → StandsIn ds z f env (equations ds z r q)
    equations-stand no_defs z r q f env h k = record { streams = h.streams; maps = h.maps }
    equations-stand (defines d x e ds) z r q f env h k =
        let more : StandsIn ds z f env (equations ds z r q) = equations-stand ds z r q f env h k in record {
          streams = λ n t s v. chosen-stream-stands (same_name n x) (plain_def d e) (definition n ds) f env z t s v (name_target n env t)
              (denotation e q) ((equations ds z r q).stream n) (denotation-stands e q f k t s v) (more.streams n t s v);
          maps = λ n at es c a l t s v. chosen-map-stands (same_name n x) (plain_def d e) (definition n ds) f c at es t s v (call_target at n es c env t)
              no_map ((equations ds z r q).map n) a (λ o. absurd o) (more.maps n at es c a l t s v);
        }
    equations-stand (defines_function d x ns ats e ds) z r q f env h k =
        let more : StandsIn ds z f env (equations ds z r q) = equations-stand ds z r q f env h k in record {
          streams = λ n t s v. chosen-stream-stands (same_name n x) (function_def d ns ats e) (definition n ds) f env z t s v (name_target n env t)
              no_stream ((equations ds z r q).stream n) (λ o. absurd o) (more.streams n t s v);
          maps = λ n at es c a l t s v. chosen-map-stands (same_name n x) (function_def d ns ats e) (definition n ds) f c at es t s v (call_target at n es c env t)
              (λ y. denotation e (with_arguments ns y q)) ((equations ds z r q).map n) a
              (denotation-stands e (with_arguments ns a q) (args ns ats es c f) (arguments-stand ns ats es c f a q l k) t s v) (more.maps n at es c a l t s v);
        }
    equations-stand (defines_current d x e ds) z r q f env h k =
        let more : StandsIn ds z f env (equations ds z r q) = equations-stand ds z r q f env h k in record {
          streams = λ n t s v. chosen-stream-stands (same_name n x) (current_def d e) (definition n ds) f env z t s v (name_target n env t)
              (frozen z (denotation e r)) ((equations ds z r q).stream n) (frozen-stands z d f env e (denotation e r) (denotation-stands e r env h) t s v) (more.streams n t s v);
          maps = λ n at es c a l t s v. chosen-map-stands (same_name n x) (current_def d e) (definition n ds) f c at es t s v (call_target at n es c env t)
              no_map ((equations ds z r q).map n) a (λ o. absurd o) (more.maps n at es c a l t s v);
        }

  meanings-stand : (env : Env) → Stands (meanings b env) env
  meanings-stand empty = record { streams = λ n t s v d. d; maps = λ n at es c a l t s v d. absurd d }
  meanings-stand (scope ds z rest) =
      scope-stands ds z (meanings b rest) rest (λ q k. equations-stand ds z (meanings b rest) q (scope ds z rest) rest (meanings-stand rest) k)
  meanings-stand (args ns ats es caller rest) =
      arguments-stand ns ats es caller rest (denotations es (meanings b caller)) (meanings b rest) (denotations-stand es (meanings b caller) caller (meanings-stand caller))
      (meanings-stand rest)

  pub denoted-stands : (e : PlainTree) (env : Env) (t s : ℕ) (v : PlainValue) → denotation e (meanings b env) t s v → R e env t s v
  denoted-stands e env t s v d = denotation-stands e (meanings b env) env (meanings-stand env) t s v d
