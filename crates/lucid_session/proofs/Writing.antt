-- A line is written, or its front, and the engine may be cleared.
use Rattle.lucid_session.proofs.Common.{◌≡◌, ◌≢◌, ℕ, suc, ◌<◌, ◌≤◌, List, ◌++◌, length, take, Option, refl, sym, ap, ◌∙◌, subst, arith, ◌⊎◌, inl, inr, cases_lt, IsTrue, Result, Ok, Err, IsErrOf, In, Elements, Context, root, count_of, Rises, World, with_all, Summary, RunFault, Points, EngineView, IsSoundEngine, AreAskable, places_of, Subject, one_line_more, Told, RunView, Written, ForSomeAdded, ConsumesWithin, ReadsWithin, IsTooDeep, OnTooDeep, OnTooLarge, IsShown, Ran, IsUndefinedHeld, ArePointsBelow, HasMoreThan, OnDepth, OnClearings, PromisesColumns, WritesLine, most_known, Start, subject, layout, before, Has, seen, IsEntered, Standing, take-length}
use Rattle.std.proofs.Common.{[], ◌∷◌}
use Rattle.lucid_ports.proofs.WritingLemmas.{all_all as all-all}
use Rattle.lucid_store.specs.Entries.{cleared}
use Rattle.lucid_ports.specs.Writing.{with_front}
use Rattle.lucid_ports.specs.declared.run.RunFault.TheVariants as run
use Rattle.lucid_ports.specs.Told.{WritesNoneLate}
use Rattle.lucid_session.specs.Runs.{ConsultsOverlong}
use Rattle.lucid_session.proofs.Added.{at_once}
use Rattle.lucid_session.proofs.Knowing.{much_entered}
use Rattle.lucid_session.proofs.Going.{few_at}
use Rattle.lucid_session.proofs.Ending.{HasLines, counted, written_whole, consumes}

-- a front that is as long as the piece is the piece
whole_front : (n : ℕ) (piece : List ℕ) (o : Option (List ℕ)) → n ≡ length piece → with_front n piece o ≡ with_all piece o
whole_front n piece o e = ap (λ front. with_all front o) (ap (λ k. take k piece) e ∙ take-length piece)

-- what holds of a failed write and of want of memory
quiet : (P : RunFault → Type 0) → P run.WriteFault → P run.NoMemory → (q : RunFault) → (q ≡ run.WriteFault) ⊎ (q ≡ run.NoMemory) → P q
quiet P x y q (inl e) = subst P (sym e) x
quiet P x y q (inr e) = subst P (sym e) y

not_read : (q : RunFault) → (q ≡ run.WriteFault) ⊎ (q ≡ run.NoMemory) → IsErrOf {T = Summary} (Err q) run.ReadFault → ⊥
not_read q (inl a) h = cc
not_read q (inr a) h = cc

err_once : {T : Type 0} {q r : RunFault} → ◌≡◌ {A = Result T RunFault} (Err q) (Err r) → q ≡ r
err_once e = cc

-- A run that a refused write ends, or want of memory.
ran_stopped : (S : Subject) (b : Elements) (r : RunView) (out : Written S b r) → (IsTrue r.policy.empties → (u : ℕ) → u < out.whole → S.defined b r.depth u)
    → (IsTrue r.policy.empties → out.front ≢ [] → S.defined b r.depth out.whole)
    → ForSomeAdded r (ConsumesWithin S b r out.whole) → ReadsWithin r → (q : RunFault) → (q ≡ run.WriteFault) ⊎ (q ≡ run.NoMemory)
    → (q ≡ run.WriteFault → Rises r.out_before.faults r.out_after.faults) → Ran S b r (Err q)
ran_stopped S b r out exact begun consumed within q refused rises = record {
  out = out;
  cut_off = inr refused;
  done = tt;
  deep = quiet (λ x. OnTooDeep x (IsTooDeep S b r out)) tt tt q refused;
  exact = shown;
  stops = λ early defined undisturbed. memory undisturbed.no_write_failed refused;
  complete = λ deep undisturbed. memory undisturbed.no_write_failed refused;
  consumed = consumed;
  within = within;
  too_large = quiet (λ x. OnTooLarge x (ConsultsOverlong S b r out.whole)) tt tt q refused;
}
  where
    memory : (Rises r.out_before.faults r.out_after.faults → ⊥) → (q ≡ run.WriteFault) ⊎ (q ≡ run.NoMemory) → q ≡ run.NoMemory
    memory writes (inl is) = absurd (writes (rises is))
    memory writes (inr is) = is

    shown : IsTrue r.policy.empties → (u : ℕ) → IsShown out.whole out.front (Err q) u → S.defined b r.depth u
    shown empties u (inl lt) = exact empties u lt
    shown empties u (inr at) = subst (S.defined b r.depth) (sym at.0) (elim at.1 [ inl ended ↦ absurd ended | inr some ↦ begun empties some ])

-- A run between two of its times.
pub record Going (z : Start) (e : EngineView) (w : World) (o : Told) (times cleared : ℕ) : Type 0 where
  pub standing : Standing z (before z times 0) e w cleared
  pub no_write_failed : o.faults ≡ z.out_before.faults
  pub late : WritesNoneLate z.out_before o
  pub lines : (b : Elements) → Has z b → HasLines z b o times

-- A run whose values at a time were demanded, and a line stands there.
pub record Came (z : Start) (e : EngineView) (w : World) (o : Told) (time cleared : ℕ) (next : List ℕ) : Type 0 where
  pub standing : Standing z (before z (suc time) 0) e w cleared
  pub no_write_failed : o.faults ≡ z.out_before.faults
  pub late : WritesNoneLate z.out_before o
  pub lines : (b : Elements) → Has z b → HasLines z b o time
  pub stands : (b : Elements) → Has z b → (subject z).line b time next
  pub exact : (b : Elements) → Has z b → IsTrue z.policy.empties → (subject z).defined b z.depth time

module _ (z : Start) (b : Elements) (o p : Told) (t : ℕ) (lines : HasLines z b o t) (next : List ℕ) (stands : (subject z).line b t next) where
  -- one line more is written
  lines_more : p.bytes ≡ with_all next o.bytes → (IsTrue z.policy.empties → (subject z).defined b z.depth t) → HasLines z b p (suc t)
  lines_more written exact = record {
    bytes = lines.bytes ++ next;
    output = one_line_more lines.output next stands;
    written = written ∙ ap (with_all next) lines.written ∙ all-all lines.bytes next z.out_before.bytes;
    exact = λ empties u lt. by empties u (cases_lt u t) lt;
  }
    where
      by : IsTrue z.policy.empties → (u : ℕ) → (u < t) ⊎ (t ≤ u) → u < suc t → (subject z).defined b z.depth u
      by empties u (inl lower) lt = lines.exact empties u lower
      by empties u (inr le) lt = let at : t ≡ u = omega (arith, le, lt) in subst (λ q. (subject z).defined b z.depth q) at (exact empties)

  -- the front of a line is written behind the lines
  abbrev written_front : (w : World) → t < z.count → (n : ℕ) → n < length next → p.bytes ≡ with_front n next o.bytes → Written (subject z) b (seen z w p)
  written_front w early n short written = record {
    whole = t;
    within = omega (arith, early);
    bytes = lines.bytes;
    output = lines.output;
    front = take n next;
    begun = inr (early, (next, stands, (n, short, refl)));
    written = written ∙ ap (with_front n next) lines.written ∙ all-all lines.bytes (take n next) z.out_before.bytes;
  }

module _ (z : Start) (e : EngineView) (w : World) (o p : Told) (t c : ℕ) (next : List ℕ) (came : Came z e w o t c next) where
  -- A line is written, and the run goes on.
  pub going_on : WritesLine next o p (Ok tt) → Going z e w p (suc t) c
  going_on writes = record {
    standing = came.standing;
    no_write_failed = elim writes.counts_no_fault [ inl fault ↦ absurd (cc fault) | inr same ↦ same ∙ came.no_write_failed ];
    late = λ good. writes.late (came.no_write_failed ∙ good) ∙ came.late good;
    lines = λ b has. lines_more z b o p t (came.lines b has) next (came.stands b has) writes.whole (came.exact b has);
  }

  module _ (q : RunFault) (writes : WritesLine next o p (Err q)) (early : t < z.count) where
    -- A line isn't written whole, or a call failed behind it, and the run ends.
    ran_unwritten : (b : Elements) → Has z b → Ran (subject z) b (seen z w p) (Err q)
    ran_unwritten b has = by (cases_lt writes.count (length next))
      where
        rises : q ≡ run.WriteFault → Rises z.out_before.faults p.faults
        rises is = subst (λ f. Rises f p.faults) came.no_write_failed (writes.failed (ap Err is))

        consumed : (whole : ℕ) → t ≤ whole → ForSomeAdded (seen z w p) (ConsumesWithin (subject z) b (seen z w p) whole)
        consumed whole near = consumes z b w p (before z (suc t) 0 b) whole (λ u r i. elim i.0 [
          | inl lt ↦ (omega (arith, lt, early), omega (arith, lt, near), i.1)
          | inr at ↦ absurd (omega (arith, at.1))
        ]) (came.standing.so_far b has).visited.drawn

        by : (writes.count < length next) ⊎ (length next ≤ writes.count) → Ran (subject z) b (seen z w p) (Err q)
        by (inl short) =
            ran_stopped (subject z) b (seen z w p) (written_front z b o p t (came.lines b has) next (came.stands b has) w early writes.count short writes.front)
            (came.lines b has).exact
            (λ empties some. came.exact b has empties)
            (consumed t (omega arith)) came.standing.within q writes.refused rises
        by (inr long) =
            let written = writes.front ∙ whole_front writes.count next o.bytes (omega (arith, long, writes.within)) in
            let lines = lines_more z b o p t (came.lines b has) next (came.stands b has) written (came.exact b has) in
            ran_stopped (subject z) b (seen z w p) (written_whole z b w p (suc t) lines (omega (arith, early))) lines.exact
            (λ empties some. absurd (some refl))
            (consumed (suc t) (omega arith)) came.standing.within q writes.refused rises

    pub promise_unwritten : PromisesColumns z.table z.columns (seen z w p) (Err q)
    promise_unwritten = record {
      headline = ran_unwritten;
      figures = λ b has. record {
        held = λ keeps. tt;
        deep = λ keeps. quiet (λ x. OnDepth (Err x) (Deep b)) tt tt q writes.refused;
        cleared = quiet (λ x. OnClearings (Err x) (Clear b)) tt tt q writes.refused;
      };
      causes = record {
        read = λ h. absurd (not_read q writes.refused h);
        write = λ h. subst (λ f. Rises f p.faults) came.no_write_failed (writes.failed (ap Err (err_once h)));
        no_other_read = inr came.standing.no_read_failed;
        no_other_write = elim writes.counts_no_fault [ inl fault ↦ inl (ap Err (err_once fault)) | inr same ↦ inr (same ∙ came.no_write_failed) ];
        read_late = came.standing.late;
        write_late = λ good. writes.late (came.no_write_failed ∙ good) ∙ came.late good;
        read_count = came.standing.reads_only.faults;
        write_count = omega (arith, came.no_write_failed, writes.faults);
        too_large = quiet (λ x. OnTooLarge x (λ k. k < length z.table.inputs)) tt tt q writes.refused;
        held = tt;
      };
      reads_only = came.standing.reads_only;
    }
      where
        Deep : Elements → (time lost cleared : ℕ) → Type 0
        Deep b time lost again = lost ≡ 0 → again ≡ 0 → IsUndefinedHeld (counted z) b z.depth time

        Clear : Elements → (times cleared : ℕ) → Type 0
        Clear b times again =
            0 < again → ForSomeAdded (seen z w p) (λ d. (points : Points) → ArePointsBelow (layout z) b times points
            → HasMoreThan 999999 ((counted z).enters b z.depth d points))

-- The engine is cleared where more than a million contexts are known, and that is counted.
module _ (z : Start) (D : Elements → (time space : ℕ) → Type 0) (e f : EngineView) (w : World) (c : ℕ) (standing : Standing z D e w c)
    (much : most_known < length e.known) where
  pub cleared_standing : f ≡ record e { known = root ∷ []; stored = cleared e.stored; noted = record e.noted { sites = [] } } → IsSoundEngine f
      → Standing z D f w (suc c)
  cleared_standing is sound = record {
    is = is ∙ (λ i. record {
      table = ap (λ x. x.table) standing.is i;
      known = ap (λ x. x.known) (sym is) i;
      stored = ap (λ x. x.stored) (sym is) i;
      noted = ap (λ x. x.noted) (sym is) i;
      streams = ap (λ x. x.streams) (sym is) i;
      most = ap (λ x. x.most) standing.is i;
      keeps = ap (λ x. x.keeps) standing.is i;
      empties = ap (λ x. x.empties) standing.is i;
      room = ap (λ x. x.room) standing.is i;
    });
    sound = sound;
    askable = subst (λ ss. AreAskable ss w) (sym streams) standing.askable;
    places = ap places_of streams ∙ standing.places;
    reads_only = standing.reads_only;
    within = standing.within;
    few_held = few_at z.policy.room (count_of f.stored) (ap (λ x. count_of x.stored) is);
    no_read_failed = standing.no_read_failed;
    late = standing.late;
    so_far = λ b has. let far = standing.so_far b has in record {
      visited = record {
        drawn = far.visited.drawn;
        known = at_once z.policy.empties (λ d. (x : Context) → In x f.known → (x ≡ root) ⊎ IsEntered z b (D b) d x)
            (λ d x i. elim (subst (λ cs. In x cs) (ap (λ y. y.known) is) i) [ inl same ↦ inl same | inr j ↦ absurd j ]);
        clearings = λ lt. much_entered z b (D b) e.known standing.sound.contexts much far.visited.known;
      };
      holds = λ keeps none again. absurd (omega (arith, again));
    };
  }
    where
      streams : f.streams ≡ e.streams
      streams = ap (λ x. x.streams) is
