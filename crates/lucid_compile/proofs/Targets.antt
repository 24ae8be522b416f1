-- What a reference goes on with, on trees and in the table.
use Rattle.lucid_compile.proofs.Common.{◌≡◌, ℕ, zero, suc, ◌<◌, length, Bool, true, false, List, [], Option, Some, None, refl, get_or, if◌then◌else◌, option_map, position-Some, PlainTree, PlainTrees, no_trees, tree, PlainDefs, no_defs, defines, defines_function, defines_current, Env, empty, scope, args, Found, absent, plain_def, function_def, current_def, same_name, definition, param, Referent, tree_at, name_target, unless_param, call_target, Aim, element_of, goes_to, nowhere, Equations, plain_entry, current_entry, reference_aim, call_aim, NodeAim, Context, frames, cut, Meaning, meaning, defined_in, parameter_in, in_body, freezes, Numbers, Source, call_level, node_for, static_of, context_for, daton_of, position_for, HasRow, Parameters, Actuals, Callable, Kept, AllKept, DefsKept, Shape, Good, to_actual, in_scope, in_args, name_aim}
use Rattle.lucid_tree.specs.Env.{called}
use Rattle.lucid_equations.specs.Datons as of_nodes
use Rattle.lucid_compile.specs.Static.{Static, in_block, reference_of}
use Rattle.lucid_compile.proofs.Cuts.{cut-past, Outward, outward-call, outward-frozen, outward-cut, frames-level}

module _ (nu : Numbers) (so : Source) (p : Equations) where
  -- what stands in the table for what a reference goes on with
  abbrev pub target_of : Aim → NodeAim
  target_of (element_of n j) = element_of n j
  target_of (goes_to k x u) = goes_to (daton_of nu k) (position_for nu x) u
  target_of nowhere = nowhere

  -- the key of a reference is that of a row
  abbrev pub Placed : Referent → Type 0
  Placed k = (so.origin (nu.name k.at) ≡ record { at = k.at; home = static_of k.env }) × Good nu so p k.env

  abbrev pub Fits : Aim → Type 0
  Fits (element_of n j) = Unit {0}
  Fits (goes_to k x u) = Placed k × Good nu so p x.env × Kept nu so p (static_of x.env) x.tree
  Fits nowhere = Unit {0}

  -- the definition that is found has its row
  abbrev pub FoundKept : (inside outside : Static) → Found → Type 0
  FoundKept k o absent = Unit {0}
  FoundKept k o (plain_def at e) = HasRow nu so p at k (plain_entry (node_for nu k e)) × Kept nu so p k e
  FoundKept k o (function_def at ns ats e) = Parameters nu so p ns ats (in_body ns ats k) × Kept nu so p (in_body ns ats k) e
  FoundKept k o (current_def at e) = HasRow nu so p at k (current_entry (node_for nu o e)) × Kept nu so p o e

  either-found : (k o : Static) (b : Bool) (x y : Found) → FoundKept k o x → FoundKept k o y → FoundKept k o (if b then x else y)
  either-found k o true x y a c = a
  either-found k o false x y a c = c

  pub found-kept : (k o : Static) (n : List ℕ) (ds : PlainDefs) → DefsKept nu so p k o ds → FoundKept k o (definition n ds)
  found-kept k o n no_defs h = tt
  found-kept k o n (defines at x e ds) h = either-found k o (same_name n x) (plain_def at e) (definition n ds) (h.0, h.1) (found-kept k o n ds h.2)
  found-kept k o n (defines_function at x ns ats e ds) h =
      either-found k o (same_name n x) (function_def at ns ats e) (definition n ds) (h.0, h.1) (found-kept k o n ds h.2)
  found-kept k o n (defines_current at x e ds) h = either-found k o (same_name n x) (current_def at e) (definition n ds) (h.0, h.1) (found-kept k o n ds h.2)

  no_goal : (c : Context) (top n t : ℕ) → top ≡ frames c → name_aim p n (cut (suc top) c) t ≡ nowhere
  no_goal c top n t h = rw (h, cut-past c) refl

  -- where a current definition is found, the block freezes
  abbrev pub Freezing : Bool → Found → Type 0
  Freezing b absent = Unit {0}
  Freezing b (plain_def at e) = Unit {0}
  Freezing b (function_def at ns ats e) = Unit {0}
  Freezing b (current_def at e) = b ≡ true

  either-freezing : (b c : Bool) (x y : Found) → Freezing c x → Freezing c y → Freezing c (if b then x else y)
  either-freezing true c x y h i = h
  either-freezing false c x y h i = i

  always-freezing : (d : Found) → Freezing true d
  always-freezing absent = tt
  always-freezing (plain_def at e) = tt
  always-freezing (function_def at ns ats e) = tt
  always-freezing (current_def at e) = refl

  pub found-freezes : (n : List ℕ) (ds : PlainDefs) → Freezing (freezes ds) (definition n ds)
  found-freezes n no_defs = tt
  found-freezes n (defines at x e ds) = either-freezing (same_name n x) (freezes ds) (plain_def at e) (definition n ds) tt (found-freezes n ds)
  found-freezes n (defines_function at x ns ats e ds) =
      either-freezing (same_name n x) (freezes ds) (function_def at ns ats e) (definition n ds) tt (found-freezes n ds)
  found-freezes n (defines_current at x e ds) = always-freezing (if same_name n x then current_def at e else definition n ds)

  no_time : (b : Bool) → Shape nu so p None b → b ≡ true → ⊥
  no_time true h e = h
  no_time false h e = absurd (cc)

  outward-scope : (c : Context) (ds : PlainDefs) (z : Option ℕ) (rest : Env) → Outward c (context_for nu (scope ds z rest)) → Outward c (context_for nu rest)
  outward-scope c ds None rest w = w
  outward-scope c ds (Some u) rest w = outward-frozen c u (context_for nu rest) w

  -- a definition that is found in a block
  scope-goal : (c : Context) (top : ℕ) → top ≡ frames c → (t : ℕ) (ds : PlainDefs) (z : Option ℕ) (rest : Env) → Good nu so p (scope ds z rest)
      → Outward c (context_for nu (scope ds z rest)) → (d : Found) → FoundKept (in_block ds (static_of rest)) (static_of rest) d → Freezing (freezes ds) d
      → (x : List ℕ) (m : Meaning) (outer' : Aim) → reference_aim p (reference_of nu top x m) c t ≡ target_of outer'
      → reference_aim p (reference_of nu top x (defined_in d (in_block ds (static_of rest)) (static_of rest) m)) c t ≡ target_of
      (in_scope d (scope ds z rest) rest z t outer')
  scope-goal c top h t ds z rest g w absent k b x m outer' i = i
  scope-goal c top h t ds z rest g w (plain_def at e) k b x m outer' i =
      rw (frames-level nu so p (scope ds z rest) g, outward-cut c (context_for nu (scope ds z rest)) w, k.0.0) refl
  scope-goal c top h t ds z rest g w (function_def at ns ats e) k b x m outer' i = no_goal c top 0 t h
  scope-goal c top h t ds None rest g w (current_def at e) k b x m outer' i = absurd (no_time (freezes ds) g.0 b)
  scope-goal c top h t ds (Some u) rest g w (current_def at e) k b x m outer' i =
      rw (frames-level nu so p (scope ds (Some u) rest) g, outward-cut c (context_for nu (scope ds (Some u) rest)) w, k.0.0) refl

  actual-goal : (at : ℕ) (o : Option PlainTree) (f caller : Env) (t : ℕ)
      → of_nodes.to_actual (option_map (λ e. node_for nu (static_of caller) e) o) (nu.name at) (context_for nu f) (context_for nu caller) t ≡ target_of
      (to_actual at o f caller t)
  actual-goal at None f caller t = refl
  actual-goal at (Some e) f caller t = refl

  -- a parameter
  args-goal : (c : Context) (top t : ℕ) (ns : List (List ℕ)) (ats : List ℕ) (es : PlainTrees) (caller rest : Env) → Good nu so p (args ns ats es caller rest)
      → Outward c (context_for nu (args ns ats es caller rest)) → (o : Option ℕ) → ((i : ℕ) → o ≡ Some i → i < length ns)
      → (x : List ℕ) (m : Meaning) (outer' : Aim)
      → reference_aim p (reference_of nu top x m) c t ≡ target_of outer'
      → reference_aim p (reference_of nu top x (parameter_in o 0 ats (in_body ns ats (static_of rest)) m)) c t ≡ target_of
      (in_args o ats es (args ns ats es caller rest) caller t outer')
  args-goal c top t ns ats es caller rest g w None b x m outer' i = i
  args-goal c top t ns ats es caller rest g w (Some j) b x m outer' i =
      rw (frames-level nu so p (args ns ats es caller rest) g, outward-cut c (context_for nu (args ns ats es caller rest)) w, (g.0 j (b j refl)).0, g.1.0 j)
      (actual-goal (get_or ats j 0) (tree_at es j) (args ns ats es caller rest) caller t)

  param-below : (x : List ℕ) (ns : List (List ℕ)) (i : ℕ) → param x ns ≡ Some i → i < length ns
  param-below x ns i h = (position-Some (λ y. same_name x y) ns i [] h).0

  -- what a name goes on with, in the context of an environment within
  pub name-goal : (c : Context) (top : ℕ) → top ≡ frames c → (x : List ℕ) (t : ℕ) (env : Env) → Good nu so p env → Outward c (context_for nu env)
      → reference_aim p (reference_of nu top x (meaning x (static_of env))) c t ≡ target_of (name_target x env t)
  name-goal c top h x t empty g w = refl
  name-goal c top h x t (scope ds z rest) g w =
      scope-goal c top h t ds z rest g w (definition x ds) (found-kept (in_block ds (static_of rest)) (static_of rest) x ds g.1) (found-freezes x ds) x
      (meaning x (static_of rest)) (name_target x rest t) (name-goal c top h x t rest g.2 (outward-scope c ds z rest w))
  name-goal c top h x t (args ns ats es caller rest) g w =
      args-goal c top t ns ats es caller rest g w (param x ns) (param-below x ns) x (meaning x (static_of rest)) (name_target x rest t)
      (name-goal c top h x t rest g.4 (outward-call c (nu.place es) (context_for nu caller) (context_for nu rest) w))

  -- a function that is found in a block
  function-goal : (at : ℕ) (es : PlainTrees) (env : Env) (t : ℕ) (top : ℕ) → top ≡ frames (context_for nu env) → (ds : PlainDefs) (z : Option ℕ) (rest : Env)
      → Good nu so p (scope ds z rest) → Outward (context_for nu env) (context_for nu (scope ds z rest)) → (d : Found) (outer : Meaning) (outer' : Aim)
      → Callable nu so p at (defined_in d (in_block ds (static_of rest)) (static_of rest) outer)
      → (Callable nu so p at outer → call_aim p (nu.name at) (nu.place es) (call_level top outer) (context_for nu env) t ≡ target_of outer')
      → call_aim p (nu.name at) (nu.place es) (call_level top (defined_in d (in_block ds (static_of rest)) (static_of rest) outer)) (context_for nu env)
      t ≡ target_of (called d at es env (scope ds z rest) t outer')
  function-goal at es env t top h ds z rest g w absent outer outer' k i = i k
  function-goal at es env t top h ds z rest g w (plain_def b e) outer outer' k i = rw (h, cut-past (context_for nu env)) refl
  function-goal at es env t top h ds z rest g w (function_def b ns ats e) outer outer' k i =
      rw (frames-level nu so p (scope ds z rest) g, outward-cut (context_for nu env) (context_for nu (scope ds z rest)) w, k.0) refl
  function-goal at es env t top h ds z rest g w (current_def b e) outer outer' k i = rw (h, cut-past (context_for nu env)) refl

  past-goal : (ats : List ℕ) (home : Static) (at : ℕ) (es : PlainTrees) (env : Env) (t : ℕ) (top : ℕ) → top ≡ frames (context_for nu env)
      → (o : Option ℕ) (outer : Meaning) (outer' : Aim) → Callable nu so p at (parameter_in o 0 ats home outer)
      → (Callable nu so p at outer → call_aim p (nu.name at) (nu.place es) (call_level top outer) (context_for nu env) t ≡ target_of outer')
      → call_aim p (nu.name at) (nu.place es) (call_level top (parameter_in o 0 ats home outer)) (context_for nu env) t ≡ target_of (unless_param o outer')
  past-goal ats home at es env t top h None outer outer' k i = i k
  past-goal ats home at es env t top h (Some j) outer outer' k i = rw (h, cut-past (context_for nu env)) refl

  pub call-goal : (at : ℕ) (x : List ℕ) (es : PlainTrees) (env : Env) (t : ℕ) (top : ℕ) → top ≡ frames (context_for nu env) → (f : Env) → Good nu so p f
      → Outward (context_for nu env) (context_for nu f) → Callable nu so p at (meaning x (static_of f))
      → call_aim p (nu.name at) (nu.place es) (call_level top (meaning x (static_of f))) (context_for nu env) t ≡ target_of (call_target at x es env f t)
  call-goal at x es env t top h empty g w k = rw (h, cut-past (context_for nu env)) refl
  call-goal at x es env t top h (scope ds z rest) g w k =
      function-goal at es env t top h ds z rest g w (definition x ds) (meaning x (static_of rest)) (call_target at x es env rest t) k
      (call-goal at x es env t top h rest g.2 (outward-scope (context_for nu env) ds z rest w))
  call-goal at x es env t top h (args ns ats bs caller rest) g w k =
      past-goal ats (in_body ns ats (static_of rest)) at es env t top h (param x ns) (meaning x (static_of rest)) (call_target at x es env rest t) k
      (call-goal at x es env t top h rest g.4 (outward-call (context_for nu env) (nu.place bs) (context_for nu caller) (context_for nu rest) w))

  -- what a name goes on with is met again
  scope-fits : (ds : PlainDefs) (z : Option ℕ) (rest : Env) → Good nu so p (scope ds z rest) → (t : ℕ) → (d : Found)
      → FoundKept (in_block ds (static_of rest)) (static_of rest) d → (outer : Aim) → Fits outer → Fits (in_scope d (scope ds z rest) rest z t outer)
  scope-fits ds z rest g t absent k outer i = i
  scope-fits ds z rest g t (plain_def at e) k outer i = ((k.0.1, g), g, k.1)
  scope-fits ds z rest g t (function_def at ns ats e) k outer i = tt
  scope-fits ds None rest g t (current_def at e) k outer i = tt
  scope-fits ds (Some u) rest g t (current_def at e) k outer i = ((k.0.1, g), g.2, k.1)

  abbrev IfKept : Static → Option PlainTree → Type 0
  IfKept k None = Unit {0}
  IfKept k (Some e) = Kept nu so p k e

  actual-kept : (k : Static) (es : PlainTrees) (i : ℕ) → AllKept nu so p k es → IfKept k (tree_at es i)
  actual-kept k no_trees i h = tt
  actual-kept k (tree e es) zero h = h.0
  actual-kept k (tree e es) (suc i) h = actual-kept k es i h.1

  actual-fits : (at : ℕ) (o : Option PlainTree) (f caller : Env) (t : ℕ) → (so.origin (nu.name at) ≡ record { at = at; home = static_of f }) → Good nu so p f
      → Good nu so p caller → IfKept (static_of caller) o → Fits (to_actual at o f caller t)
  actual-fits at None f caller t r g h k = tt
  actual-fits at (Some e) f caller t r g h k = ((r, g), h, k)

  args-fits : (t : ℕ) (ns : List (List ℕ)) (ats : List ℕ) (es : PlainTrees) (caller rest : Env) → Good nu so p (args ns ats es caller rest) → (o : Option ℕ)
      → ((i : ℕ) → o ≡ Some i → i < length ns) → (outer : Aim) → Fits outer → Fits (in_args o ats es (args ns ats es caller rest) caller t outer)
  args-fits t ns ats es caller rest g None b outer i = i
  args-fits t ns ats es caller rest g (Some j) b outer i =
      actual-fits (get_or ats j 0) (tree_at es j) (args ns ats es caller rest) caller t (g.0 j (b j refl)).1 g g.3 (actual-kept (static_of caller) es j g.2)

  pub name-fits : (x : List ℕ) (t : ℕ) (env : Env) → Good nu so p env → Fits (name_target x env t)
  name-fits x t empty g = tt
  name-fits x t (scope ds z rest) g =
      scope-fits ds z rest g t (definition x ds) (found-kept (in_block ds (static_of rest)) (static_of rest) x ds g.1) (name_target x rest t)
      (name-fits x t rest g.2)
  name-fits x t (args ns ats es caller rest) g =
      args-fits t ns ats es caller rest g (param x ns) (param-below x ns) (name_target x rest t) (name-fits x t rest g.4)

  function-fits : (at : ℕ) (es : PlainTrees) (env : Env) (t : ℕ) → Good nu so p env → Actuals nu so p (static_of env) es → AllKept nu so p (static_of env) es
      → (f : Env) → Good nu so p f → (o : Static) (d : Found) → FoundKept (static_of f) o d → (outer : Meaning) (outer' : Aim)
      → Callable nu so p at (defined_in d (static_of f) o outer) → (Callable nu so p at outer → Fits outer') → Fits (called d at es env f t outer')
  function-fits at es env t g a k f gf o absent kf outer outer' c i = i c
  function-fits at es env t g a k f gf o (plain_def b e) kf outer outer' c i = tt
  function-fits at es env t g a k f gf o (function_def b ns ats e) kf outer outer' c i =
      ((c.1, (kf.0, a, k, g, gf)), (kf.0, a, k, g, gf), kf.1)
  function-fits at es env t g a k f gf o (current_def b e) kf outer outer' c i = tt

  past-fits : (ats : List ℕ) (home : Static) (at : ℕ) (o : Option ℕ) (outer : Meaning) (outer' : Aim) → Callable nu so p at (parameter_in o 0 ats home outer)
      → (Callable nu so p at outer → Fits outer') → Fits (unless_param o outer')
  past-fits ats home at None outer outer' c i = i c
  past-fits ats home at (Some j) outer outer' c i = tt

  pub call-fits : (at : ℕ) (x : List ℕ) (es : PlainTrees) (env : Env) (t : ℕ) → Good nu so p env → Actuals nu so p (static_of env) es
      → AllKept nu so p (static_of env) es → (f : Env) → Good nu so p f → Callable nu so p at (meaning x (static_of f)) → Fits (call_target at x es env f t)
  call-fits at x es env t g a k empty gf c = tt
  call-fits at x es env t g a k (scope ds z rest) gf c =
      function-fits at es env t g a k (scope ds z rest) gf (static_of rest) (definition x ds)
      (found-kept (in_block ds (static_of rest)) (static_of rest) x ds gf.1) (meaning x (static_of rest)) (call_target at x es env rest t) c
      (call-fits at x es env t g a k rest gf.2)
  call-fits at x es env t g a k (args ns ats bs caller rest) gf c =
      past-fits ats (in_body ns ats (static_of rest)) at (param x ns) (meaning x (static_of rest)) (call_target at x es env rest t) c
      (call-fits at x es env t g a k rest gf.4)
