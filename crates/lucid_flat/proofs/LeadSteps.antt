-- What is met in a sound table stands in a scope that its context fits, and goes on with what does.
use Rattle.lucid_flat.proofs.SoundCommon.{◌≡◌, ◌≢◌, ℕ, zero, suc, ◌<◌, List, [], ◌∷◌, length, Some, slice_get, refl, sym, ◌∙◌, ap, subst, arith, option_map, same_Some, Elements, element_of, goes_to, nowhere, Context, call_frame, frozen_frame, PlainNode, row, freeze, reference, invoke, input, refer, Equations, Daton, NodePosition, NodeAim, node_aim, node_at, equations_of, ScopeIs, EachStandsIn, StandsIn, NameIs, IsSound, Entry, Plain, Parameter, Current, Called, NodeRow, NameRow, Table, no_aim, IsMet, the_root, part, subject, gone_on, Fits, DatonFits, empty, called, frozen}
use Rattle.lucid_equations.specs.Nodes.{parameter_entry, current_entry}
use Rattle.lucid_equations.specs.Datons.{to_actual, by_entry, name_aim, called_from}
use Rattle.lucid_equations.specs.Rows.{entry_by, actuals_of}
use Rattle.lucid_equations.specs.declared.rows.ScopeKind.TheVariants.{Called as CalledScope}
use Rattle.lucid_flat.specs.Met.{IsReference}
use Rattle.lucid_flat.proofs.InRange.{sound-in_range}
use Rattle.lucid_flat.proofs.LeadRows.{Stands, stands-right}
use Rattle.lucid_flat.proofs.LeadCuts.{same-parent, CalledFrame, called-frame, frozen-frame, fits-cut}

-- the node stands in a scope that the context fits
pub record IsPlaced (T : Table) (e : PlainNode) (c : Context) : Type 0 where
  pub scope : ℕ
  pub stands : Stands T scope e
  pub fits : Fits T c scope

-- An aim is right: it leads somewhere, to a daton that fits and a position that is placed.
abbrev pub AimIsRight : Table → NodeAim → Type 0
AimIsRight T (element_of n j) = Unit {0}
AimIsRight T (goes_to k x u) = DatonFits T k × IsPlaced T x.node x.context
AimIsRight T nowhere = ⊥

-- an actual that is there stands where all do
actual-there : (rs : List NodeRow) (s : ℕ) (is : List ℕ) (i : ℕ) → EachStandsIn rs s is → i < length is → (k : ℕ) × (slice_get is i ≡ Some k) × StandsIn rs s k
actual-there rs s [] i h low = absurd (omega (arith, low))
actual-there rs s (k ∷ ks) zero h low = (k, refl, h.0)
actual-there rs s (k ∷ ks) (suc i) h low = actual-there rs s ks i h.1 (omega (arith, low))

module _ (T : Table) (sound : IsSound T) where
  abbrev p : Equations
  p = equations_of T

  name-row : (n s : ℕ) (e : Entry) → NameIs T n s e → p.entry n ≡ Some (entry_by T e)
  name-row n s e h = ap (λ o. option_map (entry_by T) (option_map (λ (r : NameRow). r.kind) o)) h

  abbrev whole : (n s : ℕ) (e : Entry) (c : Context) (t : ℕ) → NameIs T n s e → Fits T c s → DatonFits T (record { name = n; context = c; time = t })
  whole n s e c t named fits = record { scope = s; entry = e; named = named; fits = fits }

  -- a parameter's actual
  actual-right : (n s i t : ℕ) (c : Context) → NameIs T n s (Parameter i) → Fits T c s → (f : CalledFrame T sound.scopes c s)
      → AimIsRight T (to_actual (p.actual f.place i) n c f.caller t)
  actual-right n s i t c named fits f =
      let passes = sound.places f.place f.row f.there in
      let same : passes.home ≡ s = ap (λ (x : NameRow). x.scope)
      (same_Some (record { scope = passes.home; kind = Called passes.body }) (record { scope = s; kind = Called f.body }) (sym passes.named ∙ f.calls)) in
      let k = actual-there T.nodes f.row.scope f.row.actuals i passes.stand (passes.enough n i (subst (λ z. NameIs T n z (Parameter i)) (sym same) named)) in
      let is : p.actual f.place i ≡ Some (node_at T k.0) = ap (option_map (node_at T)) (ap (λ o. slice_get (actuals_of o) i) f.there ∙ k.1) in
      subst (λ o. AimIsRight T (to_actual o n c f.caller t)) (sym is)
      (whole n s (Parameter i) c t named fits, record { scope = f.row.scope; stands = record { number = k.0; stands = k.2; is = refl }; fits = f.from })

  -- what a name goes on with in a context that fits its scope
  entry-right : (n s : ℕ) (e : Entry) (c : Context) (t : ℕ) → NameIs T n s e → Fits T c s → AimIsRight T (by_entry p (Some (entry_by T e)) n c t)
  entry-right n s (Plain a) c t named fits = (
    whole n s (Plain a) c t named fits,
    record {
      scope = s;
      stands = record { number = a; stands = sound.bodies n s (Plain a) named; is = refl };
      fits = fits;
    },
  )
  entry-right n s (Called a) c t named fits = (
    whole n s (Called a) c t named fits,
    record {
      scope = s;
      stands = record { number = a; stands = (sound.bodies n s (Called a) named).2; is = refl };
      fits = fits;
    },
  )
  entry-right n s (Parameter i) c t named fits =
      let h = sound.bodies n s (Parameter i) named in
      let f = called-frame T sound.scopes c s h.0 h.1 fits in
      subst (λ z. AimIsRight T (by_entry p (Some (parameter_entry i)) n z t)) (sym f.is)
      (subst (λ z. AimIsRight T (to_actual (p.actual f.place i) n z f.caller t)) f.is (actual-right n s i t c named fits f))
  entry-right n s (Current a) c t named fits =
      let h = sound.bodies n s (Current a) named in
      let f = frozen-frame T sound.scopes c s h.0 h.1 fits in
      subst (λ z. AimIsRight T (by_entry p (Some (current_entry (node_at T a))) n z t)) (sym f.is) (
        whole n s (Current a) (frozen_frame f.time f.base) 0 named (subst (λ z. Fits T z s) f.is fits),
        record { scope = h.0; stands = record { number = a; stands = h.2; is = refl }; fits = f.fits },
      )

  name-right : (n s : ℕ) (e : Entry) (c : Context) (t : ℕ) → NameIs T n s e → Fits T c s → AimIsRight T (name_aim p n (Some c) t)
  name-right n s e c t named fits = subst (λ o. AimIsRight T (by_entry p o n c t)) (sym (name-row n s e named)) (entry-right n s e c t named fits)

  pub aim-right : (e : PlainNode) (c : Context) (t : ℕ) → IsPlaced T e c → IsReference e → AimIsRight T (node_aim p e c t)
  aim-right (row f es) c t h r = absurd r
  aim-right (freeze e) c t h r = absurd r
  aim-right (reference (input n)) c t h r = tt
  aim-right (reference (refer n l)) c t h r =
      let leads = stands-right T sound (sound-in_range T sound) h.scope (reference (refer n l)) h.stands in
      let outer = fits-cut T sound.scopes leads.home l leads.depth c h.scope h.fits leads.round in
      subst (λ o. AimIsRight T (name_aim p n o t)) (sym outer.is) (name-right n leads.home leads.entry outer.context t leads.named outer.fits)
  aim-right (invoke n q l) c t h r =
      let leads = stands-right T sound (sound-in_range T sound) h.scope (invoke n q l) h.stands in
      let outer = fits-cut T sound.scopes leads.home l leads.depth c h.scope h.fits leads.round in
      let stands = sound.bodies n leads.inside (Called leads.body) leads.named in
      let same : stands.0 ≡ leads.home = same-parent T leads.inside stands.0 leads.home CalledScope leads.kind stands.1 leads.parent in
      let frame : Fits T (call_frame q c outer.context) leads.inside =
      called (subst (λ z. ScopeIs T.scopes leads.inside z CalledScope) same stands.1) leads.passed
      (subst (λ z. NameIs T z leads.inside (Called leads.body)) (sym leads.row_name) leads.named) (subst (Fits T c) (sym leads.row_scope) h.fits)
      outer.fits in
      subst (λ o. AimIsRight T (name_aim p n (called_from q c o) t)) (sym outer.is)
      (name-right n leads.inside (Called leads.body) (call_frame q c outer.context) t leads.named frame)

  -- what a node goes on with
  pub goes-right : (e : PlainNode) (c : Context) (t : ℕ) (k : Daton) (x : NodePosition) (u : ℕ) → IsPlaced T e c → node_aim p e c t ≡ goes_to k x u
      → DatonFits T k × IsPlaced T x.node x.context
  goes-right (row f es) c t k x u h e = absurd (no_aim k x u e)
  goes-right (freeze a) c t k x u h e = absurd (no_aim k x u e)
  goes-right (reference r) c t k x u h e = subst (AimIsRight T) e (aim-right (reference r) c t h tt)
  goes-right (invoke n q l) c t k x u h e = subst (AimIsRight T) e (aim-right (invoke n q l) c t h tt)

  -- what is met is placed
  pub met-placed : (b : Elements) (limit d time space m : ℕ) (e : PlainNode) (c : Context) (t s : ℕ) → IsMet p b limit d time space m e c t s → IsPlaced T e c
  met-placed b limit d time space m e c t s the_root =
      record { scope = 0; stands = record { number = T.root; stands = sound.root.root; is = refl }; fits = empty }
  met-placed b limit d time space m e c t s (part {t = u} {s = r} {f = f} {es = es} i met looked is) =
      let h = met-placed b limit d time space m (row f es) c u r met in
      record { scope = h.scope; stands = stands-right T sound (sound-in_range T sound) h.scope (row f es) h.stands i e is; fits = h.fits }
  met-placed b limit d time space m e c t s (subject {c = f} met) =
      let h = met-placed b limit d time space m (freeze e) f t s met in
      let inner = stands-right T sound (sound-in_range T sound) h.scope (freeze e) h.stands in
      record { scope = inner.0; stands = inner.2; fits = frozen inner.1 h.fits }
  met-placed b limit d time space m e c t s (gone_on {t = u} {e = a} {c = f} {k = k} {x = x} met aim) =
      (goes-right a f u k x t (met-placed b limit d time space (suc m) a f u s met) aim).1

  pub leads-somewhere : (e : PlainNode) (c : Context) (t : ℕ) → IsPlaced T e c → IsReference e → node_aim p e c t ≢ nowhere
  leads-somewhere e c t h r is = subst (AimIsRight T) is (aim-right e c t h r)
