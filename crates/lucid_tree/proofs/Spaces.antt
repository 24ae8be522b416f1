-- An expression without forms over space has the same value at any two spaces.
use Rattle.lucid_tree.proofs.Common.{◌≡◌, ℕ, zero, suc, List, [], ◌∷◌, Option, Some, None, refl, if◌then◌else◌, nat_lt, nat_le, arith, pos, PlainValue, int, truth, fault, Head, const, apply, choose, both, either, first, next, fby, whenever, asa, upon, PlainTree, form, name, call, block, PlainTrees, no_trees, tree, PlainDefs, no_defs, defines, defines_function, defines_current, Look, Plan, gives, nothing, looks, look, single, gives_part, by_test, by_place, at_zero, arguments, find_true, count_true, last, plan, Reader, add_value, all_values, with_values, run, Elements, nothing_held, element_of, goes_to, nowhere, Below, below, Env, empty, scope, args, plain_def, function_def, current_def, same_name, definition, frozen_at, Referent, Position, Aim, param, tree_at, name_target, call_target, value_at, value, val}
use Rattle.std.proofs.Common.{Bool, true, false}
use Rattle.lucid_tree.specs.Tree.{attime}
use Rattle.lucid_tree.specs.Env.{Found, absent, in_scope, frozen_target, to_actual, in_args, called, unless_param}
use Rattle.lucid_tree.specs.Meaning as meaning
use Rattle.lucid_tree.specs.Spaceless.{is_over_space, IsSpaceless, AreSpaceless, DefsAreSpaceless, EnvIsSpaceless}

module _ (s s' : ℕ) where
  -- the same looks, the first at space s and the second at s'
  pub data LooksMoved : List Look → List Look → Type 0 where
    no_look : LooksMoved [] []
    a_look : {i t l : ℕ} {ls ls' : List Look} → LooksMoved ls ls'
        → LooksMoved (record { part = i; time = t; space = s; least = l } ∷ ls) (record { part = i; time = t; space = s'; least = l } ∷ ls')

  -- the same plans, but that the first looks at space s and the second at s'
  pub data Moved : Plan → Plan → Type 0 where
    both_give : {v : PlainValue} → Moved (gives v) (gives v)
    both_nothing : Moved nothing nothing
    both_look : {ls ls' : List Look} {k k' : List PlainValue → Plan} → LooksMoved ls ls' → ((vs : List PlainValue) → Moved (k vs) (k' vs))
        → Moved (looks ls k) (looks ls' k')

  single-moved : (k k' : PlainValue → Plan) → ((v : PlainValue) → Moved (k v) (k' v)) → (vs : List PlainValue) → Moved (single k vs) (single k' vs)
  single-moved k k' h [] = both_nothing
  single-moved k k' h (v ∷ vs) = h v

  look-moved : (i t l : ℕ) (k k' : PlainValue → Plan) → ((v : PlainValue) → Moved (k v) (k' v)) → Moved (look i t s l k) (look i t s' l k')
  look-moved i t l k k' h = both_look (a_look no_look) (single-moved k k' h)

  part-moved : (i t : ℕ) → Moved (gives_part i t s) (gives_part i t s')
  part-moved i t = look-moved i t 0 gives gives (λ v. both_give)

  test-moved : (v : PlainValue) (p p' q q' : Plan) → Moved p p' → Moved q q' → Moved (by_test v p q) (by_test v p' q')
  test-moved (truth true) p p' q q' a b = a
  test-moved (truth false) p p' q q' a b = b
  test-moved _ p p' q q' a b = both_give

  if-moved : (b : Bool) (p p' q q' : Plan) → Moved p p' → Moved q q' → Moved (if b then p else q) (if b then p' else q')
  if-moved true p p' q q' a b = a
  if-moved false p p' q q' a b = b

  place-moved : (v : PlainValue) (k k' : ℕ → Plan) → ((n : ℕ) → Moved (k n) (k' n)) → Moved (by_place v k) (by_place v k')
  place-moved (int (pos n)) k k' h = if-moved (nat_le n last) (k n) (k' n) (gives fault) (gives fault) (h n) both_give
  place-moved _ k k' h = both_give

  zero-moved : (n : ℕ) (p p' : Plan) (k k' : ℕ → Plan) → Moved p p' → ((j : ℕ) → Moved (k j) (k' j)) → Moved (at_zero n p k) (at_zero n p' k')
  zero-moved zero p p' k k' h g = h
  zero-moved (suc n) p p' k k' h g = g n

  arguments-moved : (n i t : ℕ) → LooksMoved (arguments n i t s) (arguments n i t s')
  arguments-moved zero i t = no_look
  arguments-moved (suc n) i t = a_look (arguments-moved n (suc i) t)

  find-moved : (left j n : ℕ) → Moved (find_true left j n s) (find_true left j n s')
  find-moved zero j n = both_nothing
  find-moved (suc left) j n =
      look-moved 1 j (suc j) _ _ (λ v. test-moved v _ _ _ _
      (zero-moved n (gives_part 0 j s) (gives_part 0 j s') (λ k. find_true left (suc j) k s) (λ k. find_true left (suc j) k s') (part-moved 0 j)
      (λ k. find-moved left (suc j) k)) (find-moved left (suc j) n))

  count-moved : (left j n l : ℕ) → Moved (count_true left j n s l) (count_true left j n s' l)
  count-moved zero j n l = part-moved 0 n
  count-moved (suc left) j n l =
      look-moved 1 j l _ _ (λ v. test-moved v _ _ _ _ (count-moved left (suc j) (suc n) l) (count-moved left (suc j) n l))

  -- the row of a form that is not over space
  plan-moved : (m : ℕ) (f : Head) (t : ℕ) → is_over_space f ≡ false → Moved (plan m f t s) (plan m f t s')
  plan-moved m (const v) t h = both_give
  plan-moved m (apply op n) t h = both_look (arguments-moved n 0 t) (λ vs. both_give)
  plan-moved m choose t h = look-moved 0 t 0 _ _ (λ c. test-moved c _ _ _ _ (part-moved 1 t) (part-moved 2 t))
  plan-moved m both t h = look-moved 0 t 0 _ _ (λ c. test-moved c _ _ _ _ (look-moved 1 t 0 _ _ (λ b. both_give)) both_give)
  plan-moved m either t h = look-moved 0 t 0 _ _ (λ c. test-moved c _ _ _ _ both_give (look-moved 1 t 0 _ _ (λ b. both_give)))
  plan-moved m first t h = part-moved 0 0
  plan-moved m next t h = if-moved (nat_lt t last) _ _ _ _ (part-moved 0 (suc t)) both_give
  plan-moved m fby t h = zero-moved t _ _ _ _ (part-moved 0 0) (λ u. part-moved 1 u)
  plan-moved m whenever t h = find-moved m 0 t
  plan-moved m asa t h = find-moved m 0 0
  plan-moved m upon t h = if-moved (nat_le t m) _ _ _ _ (count-moved t 0 0 t) both_nothing
  plan-moved m attime t h = look-moved 1 t 0 _ _ (λ y. place-moved y _ _ (λ u. part-moved 0 u))
  plan-moved m _ t h = absurd (grind arith)

  all_values-moved : (r r' : Reader (Option PlainValue)) → ((i t : ℕ) → r i t s ≡ r' i t s') → {ls ls' : List Look} → LooksMoved ls ls'
      → all_values r ls ≡ all_values r' ls'
  all_values-moved r r' h no_look = refl
  all_values-moved r r' h (a_look {i = i} {t = t} g) = λ k. add_value (h i t k) (all_values-moved r r' h g k)

  with_values-same : (o : Option (List PlainValue)) (f f' : List PlainValue → Option PlainValue) → ((vs : List PlainValue) → f vs ≡ f' vs)
      → with_values o None f ≡ with_values o None f'
  with_values-same None f f' h = refl
  with_values-same (Some vs) f f' h = h vs

  run-moved : (r r' : Reader (Option PlainValue)) → ((i t : ℕ) → r i t s ≡ r' i t s') → {p q : Plan} → Moved p q → run p r ≡ run q r'
  run-moved r r' h both_give = refl
  run-moved r r' h both_nothing = refl
  run-moved r r' h (both_look {ls = ls} {ls' = ls'} {k = k} {k' = k'} g c) =
      rw (all_values-moved r r' h g) (with_values-same (all_values r' ls') (λ vs. run (k vs) r) (λ vs. run (k' vs) r') (λ vs. run-moved r r' h (c vs)))

-- what a reference goes on with is without forms over space
abbrev pub AimIsSpaceless : Aim → Type 0
AimIsSpaceless (element_of n j) = Unit {0}
AimIsSpaceless (goes_to k x u) = IsSpaceless x.tree × EnvIsSpaceless x.env
AimIsSpaceless nowhere = Unit {0}

abbrev FoundIsSpaceless : Found → Type 0
FoundIsSpaceless absent = Unit {0}
FoundIsSpaceless (plain_def at e) = IsSpaceless e
FoundIsSpaceless (function_def at ns ats e) = IsSpaceless e
FoundIsSpaceless (current_def at e) = IsSpaceless e

if-spaceless : (b : Bool) (x y : Found) → FoundIsSpaceless x → FoundIsSpaceless y → FoundIsSpaceless (if b then x else y)
if-spaceless true x y a b = a
if-spaceless false x y a b = b

definition-spaceless : (n : List ℕ) (ds : PlainDefs) → DefsAreSpaceless ds → FoundIsSpaceless (definition n ds)
definition-spaceless n no_defs h = tt
definition-spaceless n (defines at x e ds) h = if-spaceless (same_name n x) (plain_def at e) (definition n ds) h.0 (definition-spaceless n ds h.1)
definition-spaceless n (defines_function at x ns ats e ds) h =
    if-spaceless (same_name n x) (function_def at ns ats e) (definition n ds) h.0 (definition-spaceless n ds h.1)
definition-spaceless n (defines_current at x e ds) h = if-spaceless (same_name n x) (current_def at e) (definition n ds) h.0 (definition-spaceless n ds h.1)

frozen-spaceless : (at : ℕ) (f : Env) (e : PlainTree) (rest : Env) (z : Option ℕ) → IsSpaceless e → EnvIsSpaceless rest
    → AimIsSpaceless (frozen_target at f e rest z)
frozen-spaceless at f e rest None h g = tt
frozen-spaceless at f e rest (Some u) h g = (h, g)

in_scope-spaceless : (x : Found) (f rest : Env) (z : Option ℕ) (t : ℕ) (outer : Aim) → FoundIsSpaceless x → EnvIsSpaceless f → EnvIsSpaceless rest
    → AimIsSpaceless outer → AimIsSpaceless (in_scope x f rest z t outer)
in_scope-spaceless absent f rest z t outer h g r o = o
in_scope-spaceless (plain_def at e) f rest z t outer h g r o = (h, g)
in_scope-spaceless (function_def at ns ats e) f rest z t outer h g r o = tt
in_scope-spaceless (current_def at e) f rest z t outer h g r o = frozen-spaceless at f e rest z h r

to_actual-spaceless : (at : ℕ) (es : PlainTrees) (i : ℕ) (f caller : Env) (t : ℕ) → AreSpaceless es → EnvIsSpaceless caller
    → AimIsSpaceless (to_actual at (tree_at es i) f caller t)
to_actual-spaceless at no_trees i f caller t h g = tt
to_actual-spaceless at (tree e es) zero f caller t h g = (h.0, g)
to_actual-spaceless at (tree e es) (suc i) f caller t h g = to_actual-spaceless at es i f caller t h.1 g

in_args-spaceless : (o : Option ℕ) (ats : List ℕ) (es : PlainTrees) (f caller : Env) (t : ℕ) (outer : Aim) → AreSpaceless es → EnvIsSpaceless caller
    → AimIsSpaceless outer → AimIsSpaceless (in_args o ats es f caller t outer)
in_args-spaceless None ats es f caller t outer h g o = o
in_args-spaceless (Some i) ats es f caller t outer h g o = to_actual-spaceless _ es i f caller t h g

name-spaceless : (n : List ℕ) (env : Env) (t : ℕ) → EnvIsSpaceless env → AimIsSpaceless (name_target n env t)
name-spaceless n empty t h = tt
name-spaceless n (scope ds z rest) t h =
    in_scope-spaceless (definition n ds) (scope ds z rest) rest z t (name_target n rest t) (definition-spaceless n ds h.0) h h.1 (name-spaceless n rest t h.1)
name-spaceless n (args ns ats es caller rest) t h =
    in_args-spaceless (param n ns) ats es (args ns ats es caller rest) caller t (name_target n rest t) h.0 h.1 (name-spaceless n rest t h.2)

called-spaceless : (x : Found) (at : ℕ) (es : PlainTrees) (env f : Env) (t : ℕ) (outer : Aim) → FoundIsSpaceless x → AreSpaceless es → EnvIsSpaceless env
    → EnvIsSpaceless f → AimIsSpaceless outer → AimIsSpaceless (called x at es env f t outer)
called-spaceless absent at es env f t outer h a c g o = o
called-spaceless (plain_def d e) at es env f t outer h a c g o = tt
called-spaceless (function_def d ns ats e) at es env f t outer h a c g o = (h, (a, c, g))
called-spaceless (current_def d e) at es env f t outer h a c g o = tt

unless-spaceless : (o : Option ℕ) (outer : Aim) → AimIsSpaceless outer → AimIsSpaceless (unless_param o outer)
unless-spaceless None outer h = h
unless-spaceless (Some i) outer h = tt

call-spaceless : (at : ℕ) (n : List ℕ) (es : PlainTrees) (env f : Env) (t : ℕ) → AreSpaceless es → EnvIsSpaceless env → EnvIsSpaceless f
    → AimIsSpaceless (call_target at n es env f t)
call-spaceless at n es env empty t a c h = tt
call-spaceless at n es env (scope ds z rest) t a c h =
    called-spaceless (definition n ds) at es env (scope ds z rest) t (call_target at n es env rest t) (definition-spaceless n ds h.0) a c h
    (call-spaceless at n es env rest t a c h.1)
call-spaceless at n es env (args ns ats bs caller rest) t a c h =
    unless-spaceless (param n ns) (call_target at n es env rest t) (call-spaceless at n es env rest t a c h.2)

mutual
  value_at-spaceless : (s s' m : ℕ) (b : Below Referent Position) → ((a : Aim) → AimIsSpaceless a → b a s ≡ b a s') → (e : PlainTree) (env : Env) (t : ℕ)
      → IsSpaceless e → EnvIsSpaceless env → value_at m b e env t s ≡ value_at m b e env t s'
  value_at-spaceless s s' m b h (form at f es) env t g c =
      run-moved s s' (λ i u r. meaning.part_at m b es env i u r) (λ i u r. meaning.part_at m b es env i u r)
      (λ i u. parts-spaceless s s' m b h es env i u g.1 c) (plan-moved s s' m f t g.0)
  value_at-spaceless s s' m b h (name at n) env t g c = h (name_target n env t) (name-spaceless n env t c)
  value_at-spaceless s s' m b h (call at n es) env t g c = h (call_target at n es env env t) (call-spaceless at n es env env t g c c)
  value_at-spaceless s s' m b h (block at e ds) env t g c = value_at-spaceless s s' m b h e (scope ds (frozen_at ds t) env) t g.0 (g.1, c)

  parts-spaceless : (s s' m : ℕ) (b : Below Referent Position) → ((a : Aim) → AimIsSpaceless a → b a s ≡ b a s') → (es : PlainTrees) (env : Env) (i t : ℕ)
      → AreSpaceless es → EnvIsSpaceless env → meaning.part_at m b es env i t s ≡ meaning.part_at m b es env i t s'
  parts-spaceless s s' m b h no_trees env i t g c = refl
  parts-spaceless s s' m b h (tree e es) env zero t g c = value_at-spaceless s s' m b h e env t g.0 c
  parts-spaceless s s' m b h (tree e es) env (suc i) t g c = parts-spaceless s s' m b h es env i t g.1 c

below-spaceless : (b : Elements) (s s' m : ℕ) (a : Aim) → AimIsSpaceless a → below value (nothing_held b) m a s ≡ below value (nothing_held b) m a s'
below-spaceless b s s' zero (element_of n j) h = refl
below-spaceless b s s' zero (goes_to k x u) h = refl
below-spaceless b s s' zero nowhere h = refl
below-spaceless b s s' (suc m) (element_of n j) h = refl
below-spaceless b s s' (suc m) (goes_to k x u) h =
    value_at-spaceless s s' m (below value (nothing_held b) m) (below-spaceless b s s' m) x.tree x.env u h.0 h.1
below-spaceless b s s' (suc m) nowhere h = refl

-- the value at any two spaces
pub val-spaceless : (b : Elements) (m : ℕ) (e : PlainTree) (env : Env) (t s s' : ℕ) → IsSpaceless e → EnvIsSpaceless env
    → val b m e env t s ≡ val b m e env t s'
val-spaceless b m e env t s s' h g = value_at-spaceless s s' m (below value (nothing_held b) m) (below-spaceless b s s' m) e env t h g
