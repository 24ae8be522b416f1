-- One context for one environment with the same names in scope, and one daton for one entry.
use Rattle.lucid_compile.proofs.Common.{◌≡◌, ℕ, Bool, true, false, List, [], Some, None, refl, sym, ap, ◌∙◌, PlainDefs, no_defs, Env, empty, scope, args, Referent, Equations, Context, root, call_frame, frozen_frame, freezes, Numbers, Source, static_of, context_for, daton_of, Shape, Good}
use Rattle.lucid_compile.specs.Static.{Static, outermost, in_block, in_function}
use Rattle.lucid_compile.proofs.Targets.{Placed}

abbrev defs_in : Static → PlainDefs
defs_in outermost = no_defs
defs_in (in_block ds k) = ds
defs_in (in_function d ns ats k) = no_defs

abbrev names_in : Static → List (List ℕ)
names_in outermost = []
names_in (in_block ds k) = []
names_in (in_function d ns ats k) = ns

abbrev places_in : Static → List ℕ
places_in outermost = []
places_in (in_block ds k) = []
places_in (in_function d ns ats k) = ats

abbrev outer_of : Static → Static
outer_of outermost = outermost
outer_of (in_block ds k) = k
outer_of (in_function d ns ats k) = k

abbrev time_in : Context → ℕ
time_in root = 0
time_in (call_frame p cc c) = 0
time_in (frozen_frame u c) = u

abbrev place_in : Context → ℕ
place_in root = 0
place_in (call_frame p cc c) = p
place_in (frozen_frame u c) = 0

abbrev caller_in : Context → Context
caller_in root = root
caller_in (call_frame p cc c) = cc
caller_in (frozen_frame u c) = root

abbrev rest_of : Context → Context
rest_of root = root
rest_of (call_frame p cc c) = c
rest_of (frozen_frame u c) = c

module _ (nu : Numbers) (so : Source) (p : Equations) where
  clash : (b b' : Bool) (u : ℕ) → Shape nu so p None b → Shape nu so p (Some u) b' → b ≡ b' → ⊥
  clash false false u h i e = i
  clash false true u h i e = absurd (cc)
  clash true b' u h i e = h

  pub ctx-one : (env env' : Env) → Good nu so p env → Good nu so p env' → static_of env ≡ static_of env' → context_for nu env ≡ context_for nu env' → env ≡ env'
  ctx-one empty empty g g' h c = refl
  ctx-one empty (scope ds z rest) g g' h c = absurd (cc)
  ctx-one empty (args ns ats es caller rest) g g' h c = absurd (cc)
  ctx-one (scope ds z rest) empty g g' h c = absurd (cc)
  ctx-one (scope ds z rest) (args ns ats es caller rest') g g' h c = absurd (cc)
  ctx-one (args ns ats es caller rest) empty g g' h c = absurd (cc)
  ctx-one (args ns ats es caller rest) (scope ds z rest') g g' h c = absurd (cc)
  ctx-one (scope ds None rest) (scope ds' None rest') g g' h c =
      λ i. scope (defs_in (h i)) None (ctx-one rest rest' g.2 g'.2 (ap outer_of h) c i)
  ctx-one (scope ds None rest) (scope ds' (Some u) rest') g g' h c = absurd (clash (freezes ds) (freezes ds') u g.0 g'.0 (ap (λ k. freezes (defs_in k)) h))
  ctx-one (scope ds (Some u) rest) (scope ds' None rest') g g' h c =
      absurd (clash (freezes ds') (freezes ds) u g'.0 g.0 (sym (ap (λ k. freezes (defs_in k)) h)))
  ctx-one (scope ds (Some u) rest) (scope ds' (Some u') rest') g g' h c =
      λ i. scope (defs_in (h i)) (Some (time_in (c i))) (ctx-one rest rest' g.2 g'.2 (ap outer_of h) (ap rest_of c) i)
  ctx-one (args ns ats es caller rest) (args ns' ats' es' caller' rest') g g' h c =
      let site : record { actuals = es; caller = static_of caller } ≡ record { actuals = es'; caller = static_of caller' } = sym g.1.1
      ∙ ap (λ x. so.site (place_in x)) c ∙ g'.1.1 in
      λ i. args (names_in (h i)) (places_in (h i)) (site i).actuals (ctx-one caller caller' g.3 g'.3 (ap (λ x. x.caller) site) (ap caller_in c) i)
      (ctx-one rest rest' g.4 g'.4 (ap outer_of h) (ap rest_of c) i)

  -- one daton for one entry
  pub daton-one : (k k' : Referent) → Placed nu so p k → Placed nu so p k' → daton_of nu k ≡ daton_of nu k' → k ≡ k'
  daton-one k k' h h' e =
      let origin : record { at = k.at; home = static_of k.env } ≡ record { at = k'.at; home = static_of k'.env } = sym h.0 ∙ ap (λ d. so.origin d.name) e
      ∙ h'.0 in
      λ i. record { at = (origin i).at; env = ctx-one k.env k'.env h.1 h'.1 (ap (λ o. o.home) origin) (ap (λ d. d.context) e) i; time = (e i).time }
