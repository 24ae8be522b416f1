-- A call may be unfolded: put in its place, at any places of its block's subject, the function's right side in a block of its arguments.
use Rattle.lucid_fixed_point.proofs.Common.{◌≡◌, ℕ, ◌↔◌, Bool, true, false, if◌then◌else◌, List, Option, subst, arith, PlainValue, PlainTree, PlainTrees, PlainDefs, no_defs, defines, defines_function, defines_current, call, block, frozen_at, same_name, Found, plain_def, function_def, current_def, definition, Streams, Map, Meanings, no_map, chosen, with_arguments, least, MeaningsWithin, IsContinuous, denotation, denotations, equations, Context, fill, bound}
use Rattle.lucid_fixed_point.specs.Unfolding.{CallUnfolds, CallsUnfold}
use Rattle.lucid_fixed_point.proofs.Monotone.{equations-grow, least-grows}
use Rattle.lucid_fixed_point.proofs.Chains.{within-itself}
use Rattle.lucid_fixed_point.proofs.Solved.{block-solves, block-solved}
use Rattle.lucid_fixed_point.proofs.Contexts.{derivations-exchanged}
use Rattle.lucid_fixed_point.proofs.Catches.{swapped}
use Rattle.lucid_fixed_point.proofs.Bound.{right-bound}

-- One definition in front of others: where the function's right side is this tree, its map is what that denotes.
module _ (q : Meanings) (d : ℕ) (ps : List (List ℕ)) (ats : List ℕ) (e : PlainTree) (a : Streams) (t s : ℕ) (v : PlainValue) where
  abbrev Gives : Map → Type 0
  Gives f = f a t s v ↔ denotation e (with_arguments ps a q) t s v

  this-function : (c : Bool) (d' : ℕ) (ps' : List (List ℕ)) (ats' : List ℕ) (e' : PlainTree) (o : Found) (g : Map)
      → (if c then function_def d' ps' ats' e' else o) ≡ function_def d ps ats e → (o ≡ function_def d ps ats e → Gives g)
      → Gives (chosen c (λ b. denotation e' (with_arguments ps' b q)) g)
  this-function true d' ps' ats' e' o g h k =
      let same : ps' ≡ ps = grind (arith, h) in
      let too : e' ≡ e = grind (arith, h) in
      subst (λ x. denotation e' (with_arguments ps' a q) t s v ↔ denotation x (with_arguments ps a q) t s v) too
      (subst (λ xs. denotation e' (with_arguments ps' a q) t s v ↔ denotation e' (with_arguments xs a q) t s v) same ((λ l. l), (λ l. l)))
  this-function false d' ps' ats' e' o g h k = k h

  no-function : (c : Bool) (f o : Found) (g : Map) → (f ≡ function_def d ps ats e → ⊥) → (if c then f else o) ≡ function_def d ps ats e
      → (o ≡ function_def d ps ats e → Gives g) → Gives (chosen c no_map g)
  no-function true f o g off h k = absurd (off h)
  no-function false f o g off h k = k h

module _ (z : Option ℕ) (r q : Meanings) (n : List ℕ) (d : ℕ) (ps : List (List ℕ)) (ats : List ℕ) (e : PlainTree) (a : Streams) (t s : ℕ) (v : PlainValue) where
  function-is : (ds : PlainDefs) → definition n ds ≡ function_def d ps ats e
      → (equations ds z r q).map n a t s v ↔ denotation e (with_arguments ps a q) t s v
  function-is no_defs h = absurd (grind (arith, h))
  function-is (defines at x e' ds) h =
      no-function q d ps ats e a t s v (same_name n x) (plain_def at e') (definition n ds) ((equations ds z r q).map n) (λ k. grind (arith, k)) h (function-is ds)
  function-is (defines_function at x ps' ats' e' ds) h =
      this-function q d ps ats e a t s v (same_name n x) at ps' ats' e' (definition n ds) ((equations ds z r q).map n) h (function-is ds)
  function-is (defines_current at x e' ds) h =
      no-function q d ps ats e a t s v (same_name n x) (current_def at e') (definition n ds) ((equations ds z r q).map n) (λ k. grind (arith, k)) h (function-is ds)

module _ (C : Context) (ds : PlainDefs) (n : List ℕ) (ps : List (List ℕ)) (right : PlainTree) (at : ℕ) (es : PlainTrees)
    (u : CallUnfolds C ds n ps right at es) (z : Option ℕ) (r : Meanings) (h : IsContinuous r) where
  abbrev q : Meanings
  q = least (equations ds z r)

  grown : MeaningsWithin q q
  grown = least-grows (equations ds z r) (equations ds z r) (equations-grow ds z r r (within-itself r h.monotone))

  call-is : (t s : ℕ) (v : PlainValue) → denotation (call at n es) q t s v ↔ denotation (block at right (bound ps es)) q t s v
  call-is t s v =
      let a : Streams = denotations es q in
      let f = function-is z r q n u.place_of_name ps u.places right a t s v ds u.is_function in
      let g = right-bound q grown ps es u.as_many u.arguments_avoid at right t s v in (
        (λ d. g.0 (f.0 ((block-solves ds z r h).maps n a t s v d))),
        (λ d. (block-solved ds z r h).maps n a t s v (f.1 (g.1 d))),
      )

  pub subject-calls : (t s : ℕ) (v : PlainValue)
      → denotation (fill C (call at n es)) q t s v ↔ denotation (fill C (block at right (bound ps es))) q t s v
  subject-calls t s v =
      let x : PlainTree = call at n es in
      let y : PlainTree = block at right (bound ps es) in (
        swapped x y C u.call_is_free u.right_is_free q q (record { within = grown; left = grown; right = grown; less = λ t s v. (call-is t s v).0 }) t s v,
        swapped y x C u.right_is_free u.call_is_free q q (record { within = grown; left = grown; right = grown; less = λ t s v. (call-is t s v).1 }) t s v,
      )

pub calls-unfold : CallsUnfold
calls-unfold C ds n ps right at i j es u =
    derivations-exchanged (block i (fill C (call at n es)) ds) (block j (fill C (block at right (bound ps es))) ds)
    (λ r h t s v. subject-calls C ds n ps right at es u (frozen_at ds t) r h t s v)
