-- What is evaluated has its rows, and the environment of a place is told by its context.
use Rattle.lucid_compile.proofs.Common.{◌≡◌, ℕ, sym, ap, ◌∙◌, subst, inl, inr, PlainTree, form, name, call, block, PlainTrees, PlainDefs, Env, scope, frozen_at, Equations, Numbers, Source, static_of, context_for, Kept, AllKept, Good, Compiles, place_of}
use Rattle.lucid_compile.specs.Static.{Static}
use Rattle.lucid_compile.specs.Promise.{IsAmong, first_among, later_among, IsEvaluated, the_program, a_part, a_subject, by_name, by_call}
use Rattle.lucid_compile.proofs.Targets.{Fits, name-fits, call-fits}
use Rattle.lucid_compile.proofs.Same.{opened}
use Rattle.lucid_compile.proofs.One.{ctx-one}

module _ (nu : Numbers) (so : Source) (p : Equations) where
  pub kept-place : (k : Static) (e : PlainTree) → Kept nu so p k e → so.scope_at (place_of e) ≡ k
  kept-place k (form at f es) h = h.1
  kept-place k (name at x) h = h
  kept-place k (call at x es) h = h.3
  kept-place k (block at e ds) h = h.2

  among-kept : (k : Static) (x : PlainTree) (es : PlainTrees) → AllKept nu so p k es → IsAmong x es → Kept nu so p k x
  among-kept k x es h first_among = h.0
  among-kept k x es h (later_among i) = among-kept k x _ h.1 i

  abbrev pub IsMet : PlainTree → Env → Type 0
  IsMet x f = Good nu so p f × Kept nu so p (static_of f) x

  subject-met : (at : ℕ) (x : PlainTree) (ds : PlainDefs) (env : Env) (t : ℕ) → IsMet (block at x ds) env → IsMet x (scope ds (frozen_at ds t) env)
  subject-met at x ds env t h =
      elim (opened ds t) [
        | inl o ↦ rw o.1 ((rw o.0 tt, h.1.1, h.0), h.1.0)
        | inr o ↦ rw o.1 ((rw o.0 tt, h.1.1, h.0), h.1.0)
      ]

  module _ (e : PlainTree) (c : Compiles nu so p e) where
    pub evaluated-met : (x : PlainTree) (f : Env) → IsEvaluated e x f → IsMet x f
    evaluated-met x f the_program = (tt, c.kept)
    evaluated-met x f (a_part {at = at} {f = g} {es = es} h i) =
        let m : IsMet (form at g es) f = evaluated-met (form at g es) f h in (m.0, among-kept (static_of f) x es m.1.0 i)
    evaluated-met x f (a_subject {at = at} {x = y} {ds = ds} {env = env} t h) = subject-met at y ds env t (evaluated-met (block at y ds) env h)
    evaluated-met x f (by_name {at = at} {n = n} {env = env} t h q) =
        let m : IsMet (name at n) env = evaluated-met (name at n) env h in
        let fits = subst (Fits nu so p) q (name-fits nu so p n t env m.0) in
        (fits.1, fits.2)
    evaluated-met x f (by_call {at = at} {n = n} {es = es} {env = env} t h q) =
        let m : IsMet (call at n es) env = evaluated-met (call at n es) env h in
        let fits = subst (Fits nu so p) q (call-fits nu so p at n es env t m.0 m.1.1 m.1.2 env m.0 m.1.0) in
        (fits.1, fits.2)

    pub environment-one : (x y : PlainTree) (f g : Env) → IsEvaluated e x f → IsEvaluated e y g → place_of x ≡ place_of y → context_for nu f ≡ context_for nu g
        → f ≡ g
    environment-one x y f g h i q r =
        let m : IsMet x f = evaluated-met x f h in
        let n : IsMet y g = evaluated-met y g i in
        ctx-one nu so p f g m.0 n.0 (sym (kept-place (static_of f) x m.1) ∙ ap so.scope_at q ∙ kept-place (static_of g) y n.1) r
