-- What is met from a tree has its rows.
use Rattle.lucid_compile.proofs.Common.{ℕ, zero, suc, ◌+◌, Bool, true, false, List, [], ◌∷◌, ◌++◌, Option, Some, None, sym, subst, if◌then◌else◌, nat_le, inl, inr, PlainValue, PlainTree, form, name, call, block, PlainTrees, no_trees, tree, Look, Plan, gives, nothing, looks, plan, Reader, trace, gather, all_values, with_values, Env, scope, Referent, Position, Aim, name_target, call_target, element_of, goes_to, nowhere, Event, looked_up, referred, entered, Events, In, Equations, Numbers, Source, static_of, Kept, AllKept, Good, Given, value, entry_of, walk}
use Rattle.lucid_tree.specs.Levels.{below, deeper}
use Rattle.lucid_tree.specs.Meaning.{part_at}
use Rattle.lucid_tree.specs.Demand.{walk_at, walk_part}
use Rattle.lucid_compile.proofs.Targets.{Placed, Fits, name-fits, call-fits}
use Rattle.lucid_compile.proofs.Same.{opened}

module _ {A : Type 0} (P : A → Type 0) where
  abbrev pub Each : List A → Type 0
  Each [] = Unit {0}
  Each (x ∷ xs) = P x × Each xs

  pub each-append : (xs ys : List A) → Each xs → Each ys → Each (xs ++ ys)
  each-append [] ys a b = b
  each-append (x ∷ xs) ys a b = (a.0, each-append xs ys a.1 b)

  pub each-at : (xs : List A) (x : A) → Each xs → In x xs → P x
  each-at [] x h i = absurd i
  each-at (y ∷ ys) x h (inl e) = subst P (sym e) h.0
  each-at (y ∷ ys) x h (inr i) = each-at ys x h.1 i

  each-shown : (b : Bool) (xs : List A) → Each xs → Each (if b then xs else [])
  each-shown true xs h = h
  each-shown false xs h = tt

  each-gather : (m : ℕ) (see : Reader (List A)) → ((i t s : ℕ) → Each (see i t s)) → (ls : List Look) → Each (gather m see ls)
  each-gather m see h [] = tt
  each-gather m see h (l ∷ ls) = each-append _ _ (each-shown (nat_le l.least m) _ (h l.part l.time l.space)) (each-gather m see h ls)

  each-later : (o : Option (List PlainValue)) (k : List PlainValue → List A) → ((vs : List PlainValue) → Each (k vs)) → Each (with_values o [] k)
  each-later None k h = tt
  each-later (Some vs) k h = h vs

  pub each-trace : (m : ℕ) (q : Plan) (d : Reader (Option PlainValue)) (see : Reader (List A)) → ((i t s : ℕ) → Each (see i t s)) → Each (trace m q d see)
  each-trace m (gives v) d see h = tt
  each-trace m nothing d see h = tt
  each-trace m (looks ls k) d see h =
      each-append _ _ (each-gather m see h ls) (each-later (all_values d ls) (λ vs. trace m (k vs) d see) (λ vs. each-trace m (k vs) d see h))

module _ (nu : Numbers) (so : Source) (p : Equations) where
  -- an entry that is referred to has its row, and so has all that it goes on with; so has all in scope of what is entered
  abbrev pub Met : Event Referent Position Env → Type 0
  Met (looked_up n j) = Unit {0}
  Met (referred k x u s) = Placed nu so p k × Good nu so p x.env × Kept nu so p (static_of x.env) x.tree
  Met (entered f) = Good nu so p f

  entry-met : (a : Aim) → Fits nu so p a → Each Met (entry_of a)
  entry-met (element_of n j) f = tt
  entry-met (goes_to k x u) f = (f.1, tt)
  entry-met nowhere f = tt

  module _ (g : Given Referent) where
    mutual
      walk-met : (m d : ℕ) (dp : Aim → ℕ → Events) → ((a : Aim) (s : ℕ) → Fits nu so p a → Each Met (dp a s)) → (e : PlainTree) (env : Env) (t s : ℕ)
          → Good nu so p env → Kept nu so p (static_of env) e → Each Met (walk_at g m d dp e env t s)
      walk-met m d dp h (form at f es) env t s good k =
          each-trace Met m (plan (m + d) f t s) (λ i u r. part_at (m + d) (below value g (m + d)) es env i u r) (λ i u r. walk_part g m d dp es env i u r)
          (λ i u r. walk_part-met m d dp h es env i u r good k.0)
      walk-met m d dp h (name at x) env t s good k = h (name_target x env t) s (name-fits nu so p x t env good)
      walk-met m d dp h (call at x es) env t s good k =
          let fits : Fits nu so p (call_target at x es env env t) = call-fits nu so p at x es env t good k.1 k.2 env good k.0 in
          each-append Met _ _ (entry-met (call_target at x es env env t) fits) (h (call_target at x es env env t) s fits)
      walk-met m d dp h (block at e ds) env t s good k =
          elim (opened ds t) [
            | inl o ↦ rw o.1 (let inside : Good nu so p (scope ds (Some t) env) = (rw o.0 tt, k.1, good) in
                (inside, walk-met m d dp h e (scope ds (Some t) env) t s inside k.0))
            | inr o ↦ rw o.1 (walk-met m d dp h e (scope ds None env) t s (rw o.0 tt, k.1, good) k.0)
          ]

      walk_part-met : (m d : ℕ) (dp : Aim → ℕ → Events) → ((a : Aim) (s : ℕ) → Fits nu so p a → Each Met (dp a s)) → (es : PlainTrees) (env : Env) (i t s : ℕ)
          → Good nu so p env → AllKept nu so p (static_of env) es → Each Met (walk_part g m d dp es env i t s)
      walk_part-met m d dp h no_trees env i t s good k = tt
      walk_part-met m d dp h (tree e es) env zero t s good k = walk-met m d dp h e env t s good k.0
      walk_part-met m d dp h (tree e es) env (suc i) t s good k = walk_part-met m d dp h es env i t s good k.1

    deeper-met : (m d : ℕ) (a : Aim) (s : ℕ) → Fits nu so p a → Each Met (deeper (walk g) m d a s)
    deeper-met zero d a s f = tt
    deeper-met (suc m) d (element_of n j) s f = (tt, tt)
    deeper-met (suc m) d (goes_to k x u) s f = (f, walk-met m d (deeper (walk g) m d) (deeper-met m d) x.tree x.env u s f.1 f.2)
    deeper-met (suc m) d nowhere s f = tt

    pub seen-met : (m d : ℕ) (e : PlainTree) (env : Env) (t s : ℕ) → Good nu so p env → Kept nu so p (static_of env) e
        → Each Met (walk_at g m d (deeper (walk g) m d) e env t s)
    seen-met m d e env t s good k = walk-met m d (deeper (walk g) m d) (deeper-met m d) e env t s good k
