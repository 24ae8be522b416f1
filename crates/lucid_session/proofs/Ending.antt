-- How a run ends, and what it has promised then.
use Rattle.lucid_session.proofs.Common.{◌≡◌, ◌≢◌, ℕ, suc, ◌+◌, ◌<◌, ◌≤◌, Bool, true, false, List, length, Option, None, refl, sym, ap, ◌∙◌, subst, arith, ◌⊎◌, inl, inr, append-nil, ◌↔◌, IsTrue, IfSome, Ok, Err, IsErrOf, option_map, slice_get, slice_get_within, same_Some, none-some, Value, end_of_line, Elements, count_of, IsOneForEach, Rises, World, Contents, with_all, Summary, all_bytes, HasDistinct, Points, Daton, Context, In, EngineView, IsSoundEngine, ReadsOnly, places_of, DemandFault, Output, Told, Written, ForSomeAdded, ConsumesWithin, ReadsWithin, EndsAt, Ran, Causes, Counted, root_counted, Demands, ArePointsBelow, times_of, Figures, HasMoreThan, PromisesColumns, of_demand, Added, Start, subject, layout, before, Has, seen, of_run, Visited, SoFar, Standing, Draws, IsConsultedSoFar, with_point, Found, Asked}
use Rattle.std.proofs.Common.{[], Some}
use Rattle.lucid_value.specs.Lines.{IsOverlong}
use Rattle.lucid_ports.specs.Faults.{CountsNoFaultUnless}
use Rattle.lucid_ports.specs.declared.run.RunFault.TheVariants as run
use Rattle.lucid_demand_steps.specs.Engine as facts
use Rattle.lucid_demand_steps.specs.Faults as faults
use Rattle.lucid_demand_steps.specs.declared.fault.DemandFault.TheVariants.{TooDeep, ReadFault, TooLarge, NoMemory}
use Rattle.lucid_session.specs.Runs as runs
use Rattle.lucid_ports.specs.Told.{WritesNoneLate}
use Rattle.lucid_session.proofs.Stopped.{figures_nothing}
use Rattle.lucid_session.proofs.Subjects.{no_end, undefined_there, not_defined, consults_there}
use Rattle.lucid_session.proofs.Told.{place_at}
use Rattle.lucid_session.proofs.Holding.{held_count}

-- The lines of the times below one are written.
pub record HasLines (z : Start) (b : Elements) (o : Told) (times : ℕ) : Type 0 where
  pub bytes : List ℕ
  pub output : Output (subject z) b times bytes
  pub written : o.bytes ≡ with_all bytes z.out_before.bytes
  pub exact : IsTrue z.policy.empties → (u : ℕ) → u < times → (subject z).defined b z.depth u

-- what is counted of a run
abbrev pub counted : Start → Counted Daton Context
counted z = root_counted z.table (layout z)

module _ (z : Start) (b : Elements) (w : World) (o : Told) where
  -- whole lines are written
  abbrev pub written_whole : (t : ℕ) → HasLines z b o t → t ≤ z.count → Written (subject z) b (seen z w o)
  written_whole t lines within = record {
    whole = t;
    within = within;
    bytes = lines.bytes;
    output = lines.output;
    front = [];
    begun = inl refl;
    written = lines.written ∙ ap (λ x. with_all x z.out_before.bytes) (sym (append-nil lines.bytes));
  }

  -- what was drawn at some points is consumed within what is consulted at the times attempted, where the points are of these
  pub consumes : (D : (time space : ℕ) → Type 0) (whole : ℕ) → ((u r : ℕ) → D u r → (u < z.count) × (u ≤ whole) × Demands (layout z) b u r)
      → Added z.policy.empties (λ d. (k : ℕ) → k < length z.table.inputs → Draws z b D w k d)
      → ForSomeAdded (seen z w o) (ConsumesWithin (subject z) b (seen z w o) whole)
  consumes D whole attempted drawn = record {
    added = drawn.added;
    none = drawn.none;
    holds = λ d le k n q is old new first last. by d n old new (drawn.holds d le k (slice_get_within z.table.inputs k n is.0) n q is old new first last);
  }
    where
      by : (d : ℕ) (n : List ℕ) (old new : Contents)
          → (length new.consumed ≤ length old.consumed) ⊎ ((j : ℕ) × IsConsultedSoFar z b D d (n, j) × (length new.consumed ≤ end_of_line (all_bytes old) j))
          → (length new.consumed ≤ length old.consumed)
          ⊎ ((j : ℕ) × runs.IsConsulted (subject z) b (seen z w o) whole d (n, j) × (length new.consumed ≤ end_of_line (all_bytes old) j))
      by d n old new (inl le) = inl le
      by d n old new (inr r) =
          let at = attempted r.1.0 r.1.1 r.1.2 in
          inr (r.0, (r.1.0, (at.0, at.1), consults_there z b z.depth r.1.0 r.1.1 at.2 d (n, r.0) r.1.3), r.2)

  -- the engine was cleared only where much was entered
  much : (D : (time space : ℕ) → Type 0) (e : EngineView) (c times : ℕ) → Visited z b D e w c → ((u r : ℕ) → D u r → (u < times) × Demands (layout z) b u r)
      → 0 < c
      → ForSomeAdded (seen z w o) (λ d. (points : Points) → ArePointsBelow (layout z) b times points
      → HasMoreThan 999999 ((counted z).enters b z.depth d points))
  much D e c times visited below lt =
      let r = visited.clearings lt in
      record { added = r.added; none = r.none; holds = λ d le points exactly. r.holds d le points (λ u s i. (exactly u s).1 (below u s i)) }

  -- the limit's approximation is defined at the times of whole lines and at the end, under a policy that empties
  pub defined_at : (t : ℕ) (ended : Type 0) → HasLines z b o t → (IsTrue z.policy.empties → ended → (subject z).defined b z.depth t)
      → IsTrue z.policy.empties → (u : ℕ) → (u < t) ⊎ ((u ≡ t) × (ended ⊎ (◌≢◌ {A = List ℕ} [] []))) → (subject z).defined b z.depth u
  defined_at t ended lines last empties u (inl lt) = lines.exact empties u lt
  defined_at t ended lines last empties u (inr at) = subst (λ q. (subject z).defined b z.depth q) (sym at.0) (there at.1)
    where
      there : ended ⊎ (◌≢◌ {A = List ℕ} [] []) → (subject z).defined b z.depth t
      there (inl is) = last empties is
      there (inr begun) = absurd (begun refl)

  -- below the count a run that is done has ended
  has_ended : (ended : Bool) (t : ℕ) → EndsAt (subject z) b (seen z w o) ended t → t < z.count → ended ≡ true
  has_ended true t ends early = refl
  has_ended false t ends early = absurd (omega (arith, ends, early))

  -- A run is done after so many lines, and attempted so many times.
  module _ (e : EngineView) (s : Summary) (t a c : ℕ) (lines : HasLines z b o t) (far : SoFar z b (before z a 0 b) e w c) where
    below : (u r : ℕ) → before z a 0 b u r → (u < a) × Demands (layout z) b u r
    below u r i = (elim i.0 [ inl lt ↦ lt | inr at ↦ absurd (omega (arith, at.1)) ], i.1)

    pub ran_done : s.lines ≡ t → EndsAt (subject z) b (seen z w o) s.ended t → (IsTrue z.policy.empties → s.ended ≡ true → (subject z).defined b z.depth t)
        → t ≤ z.count → a ≤ z.count → a ≤ suc t → ReadsWithin (seen z w o) → Ran (subject z) b (seen z w o) (Ok s)
    ran_done all ends last most few near within = record {
      out = written_whole t lines most;
      cut_off = inl refl;
      done = record { lines = all; ends = ends };
      deep = tt;
      exact = defined_at t (s.ended ≡ true) lines last;
      stops = λ early defined quiet. has_ended s.ended t ends early;
      complete = λ deep quiet. tt;
      consumed = consumes (before z a 0 b) t (λ u r i. let at = below u r i in (omega (arith, at.0, few), omega (arith, at.0, near), at.1)) far.visited.drawn;
      within = within;
      too_large = tt;
    }

    pub figures_done : IsSoundEngine e → IsOneForEach e.stored → s.held ≡ count_of e.stored → s.lost ≡ e.stored.lost → s.cleared ≡ c → times_of s ≡ a
        → Figures (counted z) b (seen z w o) (Ok s)
    figures_done sound each held lost cleared times = record {
      held = λ keeps none again points exactly m defined.
          subst (λ n. HasDistinct ((counted z).refers b m 0 points) n) (sym held)
          (held_count z b (before z a 0 b) e c sound each far.holds keeps (sym lost ∙ none) (sym cleared ∙ again) points (same points exactly) m defined);
      deep = λ keeps. tt;
      cleared = λ lt. much (before z a 0 b) e c (times_of s) far.visited (λ u r i. let at = below u r i in (omega (arith, at.0, times), at.1))
          (omega (arith, lt, cleared));
    }
      where
        same : (points : Points) → ArePointsBelow (layout z) b (times_of s) points → (u r : ℕ) → In (u, r) points ↔ before z a 0 b u r
        same points exactly u r = (
          (λ i. let p = (exactly u r).0 i in (inl (omega (arith, p.0, times)), p.1)),
          (λ i. let p = below u r i in (exactly u r).1 (omega (arith, p.0, times), p.1)),
        )

-- what is said of the bytes that a place tells, whether they are consumed or left
same_bytes : (P : List ℕ → Type 0) (o p : Option Contents) → option_map all_bytes p ≡ option_map all_bytes o → IfSome p (λ c. P (all_bytes c))
    → IfSome o (λ c. P (all_bytes c))
same_bytes P None p e h = tt
same_bytes P (Some c) None e h = absurd (none-some _ e)
same_bytes P (Some c) (Some d) e h = subst P (same_Some _ _ e) h

-- An overlong element that a demand consults is one that the run consults.
overlong : (z : Start) (b : Elements) (e : EngineView) (w : World) (o : Told) (k t s whole : ℕ) → places_of e.streams ≡ z.places → ReadsOnly z.places z.before w
    → Demands (layout z) b t s → t < z.count → t ≤ whole
    → facts.ConsultsOverlong (of_run z e) b w k z.depth t s → runs.ConsultsOverlong (subject z) b (seen z w o) whole k
overlong z b e w o k t s whole places reads there early near c = record {
  name = c.name;
  place = c.source.place;
  is = (c.named, sym (ap (λ ps. slice_get ps k) places) ∙ place_at e.streams k c.source c.read_from);
  index = c.index;
  consulted = record {
    added = c.consulted.added;
    none = c.consulted.none;
    holds = λ d le. (t, (early, near), consults_there z b z.depth t s there d (c.name, c.index) (c.consulted.holds d le));
  };
  overlong = same_bytes (λ bytes. IsOverlong bytes c.index z.most) (z.before.place c.source.place).contents (w.place c.source.place).contents
      (reads.bytes c.source.place) c.overlong;
}

-- A refused demand ends a run.
module _ (z : Start) (b : Elements) (e : EngineView) (w : World) (o : Told) (t s c : ℕ) (there : Demands (layout z) b t s) where
  -- the points before and at the demand are of the times attempted
  up_to : (u r : ℕ) → with_point (before z t s b) t s u r → (u ≤ t) × Demands (layout z) b u r
  up_to u r (inl i) = (elim i.0 [ inl lt ↦ omega (arith, lt) | inr at ↦ omega (arith, at.0) ], i.1)
  up_to u r (inr at) = (omega (arith, at.0), subst (λ (p : ℕ × ℕ). Demands (layout z) b p.0 p.1) (λ i. (sym at.0 i, sym at.1 i)) there)

  module _ (f : DemandFault) (asked : Asked z (before z t s) e w c t s (Err f)) (found : Found z b (before z t s b) e w c t s (Err f))
      (lines : HasLines z b o t) (early : t < z.count) where
    drawn : ForSomeAdded (seen z w o) (ConsumesWithin (subject z) b (seen z w o) t)
    drawn = consumes z b w o (with_point (before z t s b) t s) t (λ u r i. let at = up_to u r i in (omega (arith, at.0, early), at.0, at.1)) found.visited.drawn

    large : (k : ℕ) → facts.ConsultsOverlong (of_run z e) b w k z.depth t s → runs.ConsultsOverlong (subject z) b (seen z w o) t k
    large k = overlong z b e w o k t s t asked.places asked.reads_only there early (omega arith)

  ran_refused : (f : DemandFault) → Asked z (before z t s) e w c t s (Err f) → Found z b (before z t s b) e w c t s (Err f) → HasLines z b o t → t < z.count
      → Ran (subject z) b (seen z w o) (Err (of_demand t e.stored.lost c f))
  ran_refused TooDeep asked found lines early = record {
    out = written_whole z b w o t lines (omega (arith, early));
    cut_off = inl refl;
    done = tt;
    deep = record { lines = refl; within = early; undefined = undefined_there z b z.depth t s there (found.deep refl) };
    exact = defined_at z b w o t ⊥ lines (λ empties ended. absurd ended);
    stops = λ before defined quiet. absurd (not_defined z b z.depth t s there (found.deep refl) defined);
    complete = λ deep quiet. absurd (not_defined z b z.depth t s there (found.deep refl) (deep t early (no_end z b t lines.bytes lines.output)));
    consumed = drawn TooDeep asked found lines early;
    within = asked.within;
    too_large = tt;
  }
  ran_refused ReadFault asked found lines early = record {
    out = written_whole z b w o t lines (omega (arith, early));
    cut_off = inl refl;
    done = tt;
    deep = tt;
    exact = defined_at z b w o t ⊥ lines (λ empties ended. absurd ended);
    stops = λ before defined quiet. absurd (quiet.no_read_failed (asked.failed refl));
    complete = λ deep quiet. absurd (quiet.no_read_failed (asked.failed refl));
    consumed = drawn ReadFault asked found lines early;
    within = asked.within;
    too_large = tt;
  }
  ran_refused (TooLarge k) asked found lines early = record {
    out = written_whole z b w o t lines (omega (arith, early));
    cut_off = inl refl;
    done = tt;
    deep = tt;
    exact = defined_at z b w o t ⊥ lines (λ empties ended. absurd ended);
    stops = λ before defined quiet. absurd (quiet.none_overlong k (large (TooLarge k) asked found lines early k found.too_large));
    complete = λ deep quiet. absurd (quiet.none_overlong k (large (TooLarge k) asked found lines early k found.too_large));
    consumed = drawn (TooLarge k) asked found lines early;
    within = asked.within;
    too_large = large (TooLarge k) asked found lines early k found.too_large;
  }
  ran_refused NoMemory asked found lines early = record {
    out = written_whole z b w o t lines (omega (arith, early));
    cut_off = inl refl;
    done = tt;
    deep = tt;
    exact = defined_at z b w o t ⊥ lines (λ empties ended. absurd ended);
    stops = λ before defined quiet. refl;
    complete = λ deep quiet. refl;
    consumed = drawn NoMemory asked found lines early;
    within = asked.within;
    too_large = tt;
  }

  figures_refused : (f : DemandFault) → Found z b (before z t s b) e w c t s (Err f) → Figures (counted z) b (seen z w o) (Err (of_demand t e.stored.lost c f))
  figures_refused TooDeep found = record {
    held = λ keeps. tt;
    deep = λ keeps none again. (s, there, λ points exactly m defined held all. found.kept keeps refl none again points exactly m defined held all);
    cleared = much z b w o (with_point (before z t s b) t s) e c (suc t) found.visited (λ u r i. let at = up_to u r i in (omega (arith, at.0), at.1));
  }
  figures_refused ReadFault found = record { held = λ keeps. tt; deep = λ keeps. tt; cleared = tt }
  figures_refused (TooLarge k) found = record { held = λ keeps. tt; deep = λ keeps. tt; cleared = tt }
  figures_refused NoMemory found = record { held = λ keeps. tt; deep = λ keeps. tt; cleared = tt }

module _ (z : Start) (e : EngineView) (w : World) (o : Told) (t s c : ℕ) (no_write_failed : o.faults ≡ z.out_before.faults)
    (late : WritesNoneLate z.out_before o) where
  causes_refused : (f : DemandFault) → Asked z (before z t s) e w c t s (Err f) → Causes (seen z w o) (Err (of_demand t e.stored.lost c f))
  causes_refused f asked = record {
    read = read f asked.failed;
    write = write f;
    no_other_read = other f asked.counts_no_fault;
    no_other_write = inr no_write_failed;
    read_late = asked.late;
    write_late = late;
    read_count = asked.reads_only.faults;
    write_count = omega (arith, no_write_failed);
    too_large = large f asked.too_large;
    held = tt;
  }
    where
      read : (f : DemandFault) → (IsErrOf {T = Value} (Err f) ReadFault → Rises z.before.faults w.faults)
          → IsErrOf {T = Summary} (Err (of_demand t e.stored.lost c f)) run.ReadFault → Rises z.before.faults w.faults
      read ReadFault failed h = failed refl
      read _ failed h = absurd (cc)

      other : (f : DemandFault) → CountsNoFaultUnless (IsErrOf {T = Value} (Err f) ReadFault) z.before.faults w.faults
          → CountsNoFaultUnless (IsErrOf {T = Summary} (Err (of_demand t e.stored.lost c f)) run.ReadFault) z.before.faults w.faults
      other ReadFault counts = inl refl
      other TooDeep (inl fault) = absurd (cc)
      other TooDeep (inr same) = inr same
      other (TooLarge k) (inl fault) = absurd (cc)
      other (TooLarge k) (inr same) = inr same
      other NoMemory (inl fault) = absurd (cc)
      other NoMemory (inr same) = inr same

      write : (f : DemandFault) → IsErrOf {T = Summary} (Err (of_demand t e.stored.lost c f)) run.WriteFault → Rises z.out_before.faults o.faults
      write TooDeep h = absurd (cc)
      write _ h = absurd (cc)

      large : (f : DemandFault) → faults.OnTooLarge f (λ k. k < length z.table.inputs)
          → runs.OnTooLarge (of_demand t e.stored.lost c f) (λ k. k < length z.table.inputs)
      large (TooLarge k) h = h
      large _ h = tt

  -- A refused demand ends a run.
  pub promise_refused : (f : DemandFault) → Asked z (before z t s) e w c t s (Err f) → ((b : Elements) → Has z b → Demands (layout z) b t s)
      → ((b : Elements) → Has z b → HasLines z b o t) → t < z.count
      → PromisesColumns z.table z.columns (seen z w o) (Err (of_demand t e.stored.lost c f))
  promise_refused f asked there lines early = record {
    headline = λ b has. ran_refused z b e w o t s c (there b has) f asked (asked.found b has) (lines b has) early;
    figures = λ b has. figures_refused z b e w o t s c (there b has) f (asked.found b has);
    causes = causes_refused f asked;
    reads_only = asked.reads_only;
  }

-- So does want of memory, between two demands.
module _ (z : Start) (e : EngineView) (w : World) (o : Told) (t s c : ℕ) (no_write_failed : o.faults ≡ z.out_before.faults)
    (late : WritesNoneLate z.out_before o) (standing : Standing z (before z t s) e w c)
    (lines : (b : Elements) → Has z b → HasLines z b o t) (early : t < z.count) where
  ran_short : (b : Elements) → Has z b → Ran (subject z) b (seen z w o) (Err run.NoMemory)
  ran_short b has = record {
    out = written_whole z b w o t (lines b has) (omega (arith, early));
    cut_off = inl refl;
    done = tt;
    deep = tt;
    exact = defined_at z b w o t ⊥ (lines b has) (λ empties ended. absurd ended);
    stops = λ before defined quiet. refl;
    complete = λ deep quiet. refl;
    consumed = consumes z b w o (before z t s b) t
        (λ u r i. elim i.0 [ inl lt ↦ (omega (arith, lt, early), omega (arith, lt), i.1) | inr at ↦ (omega (arith, at.0, early), omega (arith, at.0), i.1) ])
        (standing.so_far b has).visited.drawn;
    within = standing.within;
    too_large = tt;
  }

  pub promise_short : PromisesColumns z.table z.columns (seen z w o) (Err run.NoMemory)
  promise_short = record {
    headline = ran_short;
    figures = λ b has. figures_nothing (counted z) b (seen z w o);
    causes = record {
      read = λ h. absurd (cc);
      write = λ h. absurd (cc);
      no_other_read = inr standing.no_read_failed;
      no_other_write = inr no_write_failed;
      read_late = standing.late;
      write_late = late;
      read_count = standing.reads_only.faults;
      write_count = omega (arith, no_write_failed);
      too_large = tt;
      held = tt;
    };
    reads_only = standing.reads_only;
  }

-- So does the end, at which no line is written, after all demands of its time; and so does the count.
module _ (z : Start) (e : EngineView) (w : World) (o : Told) (t a c : ℕ) (standing : Standing z (before z a 0) e w c) (each : IsOneForEach e.stored)
    (no_write_failed : o.faults ≡ z.out_before.faults) (late : WritesNoneLate z.out_before o)
    (lines : (b : Elements) → Has z b → HasLines z b o t) (s : Summary)
    (is : s ≡ record { lines = t; ended = s.ended; held = count_of e.stored; lost = e.stored.lost; cleared = c }) where
  pub promise_done : t ≤ z.count → a ≤ z.count → a ≤ suc t → times_of s ≡ a → ((b : Elements) → Has z b → EndsAt (subject z) b (seen z w o) s.ended t)
      → ((b : Elements) → Has z b → IsTrue z.policy.empties → s.ended ≡ true → (subject z).defined b z.depth t)
      → PromisesColumns z.table z.columns (seen z w o) (Ok s)
  promise_done most few near times ends exact = record {
    headline = λ b has. ran_done z b w o e s t a c (lines b has) (standing.so_far b has) (ap (λ x. x.lines) is) (ends b has) (exact b has) most few near
        standing.within;
    figures = λ b has. figures_done z b w o e s t a c (lines b has) (standing.so_far b has) standing.sound each (ap (λ x. x.held) is) (ap (λ x. x.lost) is)
        (ap (λ x. x.cleared) is) times;
    causes = record {
      read = λ h. absurd (cc);
      write = λ h. absurd (cc);
      no_other_read = inr standing.no_read_failed;
      no_other_write = inr no_write_failed;
      read_late = standing.late;
      write_late = late;
      read_count = standing.reads_only.faults;
      write_count = omega (arith, no_write_failed);
      too_large = tt;
      held = subst (λ n. IfSome z.policy.room (λ most. n ≤ most + 1)) (sym (ap (λ x. x.held) is)) standing.few_held;
    };
    reads_only = standing.reads_only;
  }
