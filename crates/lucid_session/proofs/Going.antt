-- How a run goes on: it begins, and a value is demanded.
use Rattle.lucid_session.proofs.Common.{◌≡◌, ℕ, ◌+◌, ◌<◌, ◌≤◌, length, Option, None, refl, sym, ap, ◌∙◌, subst, arith, ◌⊎◌, inl, inr, IsTrue, IfSome, Result, Ok, Err, IfOk, IfErr, ◌↔◌, cases_lt, slice_get_within, same_Some, Value, plain, In, Elements, Context, root, count_of, empty_warehouse, Rises, World, eqval, equations_of, HoldsRight, elements_told, EngineView, IsSoundEngine, AreAskable, ReadsOnly, MayHave, HoldsNeeded, places_of, holding, reads_only_itself, Demanded, DemandFault, StreamMeans, table_stream_at, Found, Asked, Start, Has, of_run, Draws, IsEntered, MuchEntered, Visited, Holds, SoFar, with_point, Standing, ◌-◌, ◌^◌}
use Rattle.std.proofs.Common.{[], ◌∷◌, Some}
use Rattle.lucid_demand_steps.specs.Engine.{ConsultsOverlong, GoesOn, known_elements}
use Rattle.lucid_demand_steps.proofs.History.{reads_only_then}
use Rattle.lucid_demand_steps.proofs.MoreRead.{right_over}
use Rattle.lucid_demand_steps.specs.Faults as faults
use Rattle.lucid_demand_steps.specs.declared.fault.DemandFault.TheVariants.{TooLarge}
use Rattle.lucid_session.proofs.Added.{at_once, so}
use Rattle.lucid_session.proofs.Told.{may_have}
use Rattle.lucid_session.proofs.Drawing.{reads_within, drawn_more}
use Rattle.lucid_session.proofs.Knowing.{known_more}
use Rattle.lucid_session.proofs.Holding.{holds_nothing, holds_more}
use Rattle.lucid_session.proofs.Deepening.{same_held_value}

-- where nothing is held, few are, whatever the bound
pub few_at : (room : Option ℕ) (n : ℕ) → n ≡ 0 → IfSome room (λ r. n ≤ r + 1)
few_at None n e = tt
few_at (Some r) n e = omega (arith, e)

same_contents : {A : Type 0} (o : Option A) (x y : A) → o ≡ Some x → o ≡ Some y → x ≡ y
same_contents o x y e f = same_Some _ _ (sym e ∙ f)

-- A run begins with an engine that holds nothing and knows the empty context alone: no point was demanded.
pub begins : (z : Start) (D : Elements → (time space : ℕ) → Type 0) (e : EngineView) → e ≡ of_run z e → IsSoundEngine e → AreAskable e.streams z.before
    → places_of e.streams ≡ z.places → e.known ≡ root ∷ [] → e.stored ≡ empty_warehouse
    → ((b : Elements) (t s : ℕ) → D b t s → ⊥) → Standing z D e z.before 0
begins z D e is sound askable places known stored never = record {
  is = is;
  sound = sound;
  askable = askable;
  places = places;
  reads_only = reads_only_itself z.places z.before;
  within = λ k n q is old new before after. inl (omega (arith, ap (λ c. length c.consumed) (same_contents (z.before.place q).contents new old after before)));
  few_held = few_at z.policy.room (count_of e.stored) (ap count_of stored);
  no_read_failed = refl;
  late = λ good. refl;
  so_far = λ b has. record {
    visited = record {
      drawn = at_once z.policy.empties (λ d. (k : ℕ) → k < length z.table.inputs → Draws z b (D b) z.before k d)
          (λ d k lt n q is old new before after. inl (omega
          (arith, ap (λ c. length c.consumed) (same_contents (z.before.place q).contents new old after before))));
      known = at_once z.policy.empties (λ d. (c : Context) → In c e.known → (c ≡ root) ⊎ IsEntered z b (D b) d c)
          (λ d c i. elim (subst (λ cs. In c cs) known i) [ inl same ↦ inl same | inr j ↦ absurd j ]);
      clearings = λ lt. absurd (omega (arith, lt));
    };
    holds = holds_nothing z b (D b) e 0 stored (never b);
  };
}

-- Where it gave a value, the run stands with one point more.
pub stands_on : (z : Start) (D : Elements → (time space : ℕ) → Type 0) (e : EngineView) (w : World) (c t s : ℕ) (v : Value) → Asked z D e w c t s (Ok v)
    → Standing z (λ b. with_point (D b) t s) e w c
stands_on z D e w c t s v asked = record {
  is = asked.is;
  sound = asked.sound;
  askable = asked.askable;
  places = asked.places;
  reads_only = asked.reads_only;
  within = asked.within;
  few_held = asked.few_held;
  no_read_failed = elim asked.counts_no_fault [ inl fault ↦ absurd (cc fault) | inr same ↦ same ];
  late = asked.late;
  so_far = λ b has. let f = asked.found b has in record { visited = f.visited; holds = f.holds };
}

module _ (z : Start) (b : Elements) (D E : (time space : ℕ) → Type 0) (forth : (t s : ℕ) → D t s → E t s) where
  -- what was visited at some points was visited at more
  visited_too : (e : EngineView) (w : World) (c : ℕ) → Visited z b D e w c → Visited z b E e w c
  visited_too e w c v = record {
    drawn = so z.policy.empties (λ d. (k : ℕ) → k < length z.table.inputs → Draws z b D w k d) (λ d. (k : ℕ) → k < length z.table.inputs → Draws z b E w k d)
        (λ d h k lt n q is old new first last. elim (h k lt n q is old new first last)
        [ inl le ↦ inl le | inr r ↦ inr (r.0, (r.1.0, r.1.1, forth r.1.0 r.1.1 r.1.2, r.1.3), r.2) ]) v.drawn;
    known = so z.policy.empties (λ d. (x : Context) → In x e.known → (x ≡ root) ⊎ IsEntered z b D d x)
        (λ d. (x : Context) → In x e.known → (x ≡ root) ⊎ IsEntered z b E d x)
        (λ d h x i. elim (h x i) [ inl same ↦ inl same | inr r ↦ inr (r.0, r.1, forth r.0 r.1 r.2, r.3) ]) v.known;
    clearings = λ lt. so z.policy.empties (MuchEntered z b D) (MuchEntered z b E) (λ d h points has. h points (λ t s i. has t s (forth t s i)))
        (v.clearings lt);
  }

  -- and exactly what is needed is held, where they are the same points
  holds_too : ((t s : ℕ) → E t s → D t s) → (e : EngineView) (c : ℕ) → Holds z b D e c → Holds z b E e c
  holds_too back e c h keeps none again k s = let r = h keeps none again k s in (
    (λ i. let n = r.0 i in (n.0, n.1, forth n.0 n.1 n.2, n.3)),
    (λ n. r.1 (n.0, n.1, back n.0 n.1 n.2, n.3)),
  )

-- The same points may be said otherwise.
pub stands_same : (z : Start) (D E : Elements → (time space : ℕ) → Type 0) (e : EngineView) (w : World) (c : ℕ)
    → ((b : Elements) → Has z b → (t s : ℕ) → D b t s ↔ E b t s) → Standing z D e w c → Standing z E e w c
stands_same z D E e w c same standing = record {
  is = standing.is;
  sound = standing.sound;
  askable = standing.askable;
  places = standing.places;
  reads_only = standing.reads_only;
  within = standing.within;
  few_held = standing.few_held;
  no_read_failed = standing.no_read_failed;
  late = standing.late;
  so_far = λ b has. let far = standing.so_far b has in record {
    visited = visited_too z b (D b) (E b) (λ t s. (same b has t s).0) e w c far.visited;
    holds = holds_too z b (D b) (E b) (λ t s. (same b has t s).0) (λ t s. (same b has t s).1) e c far.holds;
  };
}

-- A count that rose in one of several steps rose over all of them.
pub rises_over : (f g h i : ℕ) → f ≤ g → g ≤ h → h ≤ i → Rises g h → Rises f i
rises_over f g h i x y u rises few = elim (cases_lt g (2 ^ 64 - 1)) [ inl below ↦ omega (arith, x, u, rises below) | inr past ↦ omega (arith, few, past, y, u) ]

-- an engine that goes on from one of the run is one of the run
of_run_on : (z : Start) (e f : EngineView) → e ≡ of_run z e → GoesOn e f → f ≡ of_run z f
of_run_on z e f is on = λ i. record {
  table = (on.table ∙ ap (λ x. x.table) is) i;
  known = f.known;
  stored = f.stored;
  noted = f.noted;
  streams = f.streams;
  most = (on.most ∙ ap (λ x. x.most) is) i;
  keeps = (on.keeps ∙ ap (λ x. x.keeps) is) i;
  empties = (on.empties ∙ ap (λ x. x.empties) is) i;
  room = (on.room ∙ ap (λ x. x.room) is) i;
}

module _ (z : Start) (D : Elements → (time space : ℕ) → Type 0) (e f : EngineView) (w v : World) (t s c : ℕ) (result : Result Value DemandFault)
    (standing : Standing z D e w c) where
  module _ (is_now : f ≡ of_run z f) (d : Demanded (of_run z e) (of_run z f) w v t s z.depth result) where
    places_now : places_of f.streams ≡ z.places
    places_now = d.goes_on.places ∙ standing.places

    reads_now : ReadsOnly z.places z.before v
    reads_now = reads_only_then z.places z.before w v standing.reads_only (subst (λ ps. ReadsOnly ps w v) standing.places d.reads_only)

    held_then : (r : Result Value DemandFault) → (b : Elements)
        → (IsTrue z.policy.keeps → f.stored.lost ≡ 0 → IfOk r (λ x. HoldsNeeded (of_run z e) (of_run z f) b t s)) → Holds z b (D b) e c
        → IfOk r (λ x. Holds z b (with_point (D b) t s) f c)
    held_then (Ok x) b more was = holds_more z b (D b) e f t s c d.goes_on.lost more was
    held_then (Err x) b more was = tt

    for_one : (r : Result Value DemandFault) (P : Elements → Value → Type 0) (b : Elements) → MayHave (of_run z f) b
        → IfOk r (λ x. (b : Elements) → MayHave (of_run z f) b → P b x) → IfOk r (P b)
    for_one (Ok x) P b may h = h b may
    for_one (Err x) P b may h = tt

    large : (r : Result Value DemandFault) (b : Elements) → MayHave (of_run z f) b
        → IfErr r (λ q. faults.OnTooLarge q (λ k. (b : Elements) → MayHave (of_run z f) b → ConsultsOverlong (of_run z f) b v k z.depth t s))
        → IfErr r (λ q. faults.OnTooLarge q (λ k. ConsultsOverlong (of_run z f) b v k z.depth t s))
    large (Err (TooLarge k)) b may h = h b may
    large _ b may h = tt

    -- a stream that is too large by some elements that there may be has a name
    named : (r : Result Value DemandFault) (b : Elements) → IfErr r (λ q. faults.OnTooLarge q (λ k. ConsultsOverlong (of_run z f) b v k z.depth t s))
        → IfErr r (λ q. faults.OnTooLarge q (λ k. k < length z.table.inputs))
    named (Err (TooLarge k)) b h = slice_get_within z.table.inputs k h.name h.named
    named _ b h = tt

    found_now : (b : Elements) → Has z b → Found z b (D b) f v c t s result
    found_now b has = record {
      visited = record {
        drawn = drawn_more z b (D b) w v standing.reads_only reads_now e f t s standing.askable d.fits standing.places places_now (d.drawn b may)
            far.visited.drawn;
        known = known_more z b (D b) e f t s (d.visited b may) far.visited.known;
        clearings = λ lt. so z.policy.empties (MuchEntered z b (D b)) (MuchEntered z b (with_point (D b) t s))
            (λ n h points all. h points (λ u r i. all u r (inl i))) (far.visited.clearings lt);
      };
      holds = held_then result b (λ keeps none. for_one result (λ c x. HoldsNeeded (of_run z e) (of_run z f) c t s) b may (d.needed keeps none)) far.holds;
      value = for_one result (λ c x. StreamMeans (table_stream_at z.table s) c t (plain x)) b may d.value;
      exact = λ empties. for_one result (λ c x. eqval (equations_of z.table) c z.depth t s ≡ Some (plain x)) b may (d.exact empties);
      deep = λ x. d.deep x b may;
      kept = λ keeps x none again points exactly m defined held all.
          same_held_value z b (D b) (holding e) right (far.holds keeps (omega (arith, d.goes_on.lost, none)) again) points exactly m defined held all z.depth t
          s ∙ d.kept keeps x b may;
      too_large = large result b may d.too_large;
    }
      where
        may : MayHave (of_run z f) b
        may = may_have z b (of_run z f) v refl has places_now reads_now d.fits

        far : SoFar z b (D b) e w c
        far = standing.so_far b has

        right : HoldsRight (equations_of z.table) b (holding e)
        right = right_over (equations_of z.table) (known_elements (of_run z e)) b (λ n j x h. may n j x (d.goes_on.elements n j x h)) (holding e)
            (subst IsSoundEngine standing.is standing.sound).right

    asked_now : Asked z D f v c t s result
    asked_now = record {
      is = is_now;
      sound = subst IsSoundEngine (sym is_now) d.sound;
      askable = d.fits;
      places = places_now;
      reads_only = reads_now;
      within = reads_within z f v d.fits places_now d.within;
      few_held = d.few_held standing.few_held;
      failed = λ x. rises_over z.before.faults w.faults v.faults v.faults standing.reads_only.faults d.reads_only.faults (omega arith) (d.failed x);
      counts_no_fault = elim d.counts [ inl fault ↦ inl fault | inr same ↦ inr (same ∙ standing.no_read_failed) ];
      late = λ good. d.late (standing.no_read_failed ∙ good) ∙ standing.late good;
      too_large = named result elements (large result elements d.told d.too_large);
      found = found_now;
    }
      where
        -- the elements that the places tell
        elements : Elements
        elements = elements_told z.table.inputs f.streams v

  -- After a demand.
  pub asked : Demanded e f w v t s z.depth result → Asked z D f v c t s result
  asked d =
      let is_now = of_run_on z e f standing.is d.goes_on in
      asked_now is_now (subst (λ x. Demanded (of_run z e) x w v t s z.depth result) is_now (subst (λ x. Demanded x f w v t s z.depth result) standing.is d))
