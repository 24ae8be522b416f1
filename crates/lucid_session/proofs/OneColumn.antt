-- One column runs as its stream does: a run of the one is a run of the other.
use Rattle.lucid_session.proofs.Common.{◌≡◌, ℕ, suc, ◌<◌, ◌≤◌, Bool, true, false, List, ◌++◌, None, refl, sym, ap, ◌∙◌, subst, arith, inl, inr, append-nil, IsSome, Result, Ok, Err, IfOk, IfErr, if◌then◌else◌, cases_lt, slice_get_within, eod, Elements, In, Summary, RunFault, Points, Table, OneStream, StreamMeans, stream_subject, columns_subject, IsCell, AreCells, HasEnded, IsOpen, OfSome, Output, no_lines, one_line_more, parted, RunView, Written, ConsumesWithin, EndsAt, IsTooDeep, OnTooDeep, OnTooLarge, IsShown, Ran, Demands, ArePointsBelow, ArePointsBefore, table_counted, columns_counted, times_of, Figures, PromisesColumns}
use Rattle.std.proofs.Common.{[], ◌∷◌}
use Rattle.lucid_ports.specs.declared.run.RunFault.TheVariants.{TooDeep, ReadFault, TooLarge}
use Rattle.lucid_session.specs.Subject.{table_stream, OfEach}
use Rattle.lucid_session.specs.Runs.{IsBegun, IsConsulted, ConsultsOverlong, IsDone, IsUndisturbed, IsDeepEnough}
use Rattle.lucid_session.specs.Figures.{one_stream, side_by_side}
use Rattle.lucid_session.specs.Sessions.{Promises}

module _ (x : OneStream) (b : Elements) where
  -- the one of one
  the_one : (P : OneStream → Type 0) → OfSome (x ∷ []) P → P x
  the_one P s = elim s.1 [ inl same ↦ subst P same s.2 | inr i ↦ absurd i ]

  each_one : (P : OneStream → Type 0) → P x → OfEach (x ∷ []) P
  each_one P p y i = elim i [ inl same ↦ subst P (sym same) p | inr j ↦ absurd j ]

  -- a line of the column is that of its stream
  line_of : (t : ℕ) (bytes : List ℕ) → (columns_subject (x ∷ [])).line b t bytes → (stream_subject x).line b t bytes
  line_of t bytes l = by l.0 l.1 (the_one (λ y. HasEnded y b t → ⊥) l.2) l.3
    where
      of_cell : (cell : List ℕ) (cells : List (List ℕ)) → IsCell x b t cell → cells ≡ [] → (HasEnded x b t → ⊥) → bytes ≡ parted (cell ∷ cells) ++ 10 ∷ []
          → (stream_subject x).line b t bytes
      of_cell cell cells (inl ended) none goes is = absurd (goes ended.0)
      of_cell cell cells (inr shown) none goes is = (
        shown.1.0,
        shown.1.1,
        (λ end. goes (t, omega arith, subst (λ v. StreamMeans x b t v) end shown.1.1)),
        is ∙ ap (λ more. parted (cell ∷ more) ++ 10 ∷ []) none ∙ ap (λ front. front ++ 10 ∷ []) (append-nil cell ∙ shown.1.2),
      )

      by : (cells : List (List ℕ)) → AreCells (x ∷ []) b t cells → (HasEnded x b t → ⊥) → bytes ≡ parted cells ++ 10 ∷ [] → (stream_subject x).line b t bytes
      by [] are goes is = absurd are
      by (cell ∷ cells) are goes is = of_cell cell cells are.0 are.1 goes is

  output_of : (k : ℕ) (bytes : List ℕ) → Output (columns_subject (x ∷ [])) b k bytes → Output (stream_subject x) b k bytes
  output_of _ _ no_lines = no_lines
  output_of _ _ (one_line_more {k = k} {bytes = bytes} before next stands) = one_line_more (output_of k bytes before) next (line_of k next stands)

  -- through the time behind its lines the stream is open
  open_through : (k : ℕ) (bytes : List ℕ) → Output (columns_subject (x ∷ [])) b k bytes → IsOpen x b k
  open_through _ _ no_lines u lt means = absurd (omega (arith, lt))
  open_through _ _ (one_line_more {k = k} {bytes = bytes} before next stands) u lt means =
      the_one (λ y. HasEnded y b k → ⊥) stands.2 (u, omega (arith, lt), means)

  open_before : (k t : ℕ) → IsOpen x b k → t ≤ k → IsOpen x b t
  open_before k t opened le u lt means = opened u (omega (arith, lt, le)) means

  module _ (r : RunView) where
    -- what the column consults its stream does
    consulted_of : (whole d : ℕ) (pair : List ℕ × ℕ) → IsConsulted (columns_subject (x ∷ [])) b r whole d pair → IsConsulted (stream_subject x) b r whole d pair
    consulted_of whole d pair c = (c.0, c.1, (the_one (λ y. IsOpen y b c.0 × In pair (y.pairs b r.depth d c.0)) c.2).1)

    overlong_of : (whole k : ℕ) → ConsultsOverlong (columns_subject (x ∷ [])) b r whole k → ConsultsOverlong (stream_subject x) b r whole k
    overlong_of whole k c = record {
      name = c.name;
      place = c.place;
      is = c.is;
      index = c.index;
      consulted = record {
        added = c.consulted.added;
        none = c.consulted.none;
        holds = λ d le. consulted_of whole d (c.name, c.index) (c.consulted.holds d le);
      };
      overlong = c.overlong;
    }

    quiet_of : (whole : ℕ) → IsUndisturbed (stream_subject x) b r whole → IsUndisturbed (columns_subject (x ∷ [])) b r whole
    quiet_of whole quiet = record {
      no_read_failed = quiet.no_read_failed;
      no_write_failed = quiet.no_write_failed;
      none_overlong = λ k c. quiet.none_overlong k (overlong_of whole k c);
    }

    begun_of : (whole : ℕ) (front : List ℕ) → IsBegun (columns_subject (x ∷ [])) b r.count whole front → IsBegun (stream_subject x) b r.count whole front
    begun_of whole front (inl none) = inl none
    begun_of whole front (inr c) = inr (c.0, (c.1.0, line_of whole c.1.0 c.1.1, c.1.2))

    defined_of : (m t : ℕ) → IsOpen x b t → (columns_subject (x ∷ [])).defined b m t → IsSome (x.value b m t)
    defined_of m t opened defined = defined x (inl refl) opened

    of_defined : (m t : ℕ) → IsSome (x.value b m t) → (columns_subject (x ∷ [])).defined b m t
    of_defined m t defined = each_one (λ y. IsOpen y b t → IsSome (y.value b m t)) (λ opened. defined)

    module _ (result : Result Summary RunFault) (ran : Ran (columns_subject (x ∷ [])) b r result) where
      open_now : IsOpen x b ran.out.whole
      open_now = open_through ran.out.whole ran.out.bytes ran.out.output

      abbrev out_of : Written (stream_subject x) b r
      out_of = record {
        whole = ran.out.whole;
        within = ran.out.within;
        bytes = ran.out.bytes;
        output = output_of ran.out.whole ran.out.bytes ran.out.output;
        front = ran.out.front;
        begun = begun_of ran.out.whole ran.out.front ran.out.begun;
        written = ran.out.written;
      }

      ends_of : (ended : Bool) → EndsAt (columns_subject (x ∷ [])) b r ended ran.out.whole → EndsAt (stream_subject x) b r ended ran.out.whole
      ends_of true e = (e.0, by (e.1 x (inl refl)))
        where
          by : HasEnded x b ran.out.whole → StreamMeans x b ran.out.whole eod
          by h = elim (cases_lt h.0 ran.out.whole) [
            | inl lt ↦ absurd (open_now h.0 lt h.2)
            | inr le ↦ let at : h.0 ≡ ran.out.whole = omega (arith, le, h.1) in subst (λ q. StreamMeans x b q eod) at h.2
          ]
      ends_of false e = e

      done_of : (s : Summary) → IsDone (columns_subject (x ∷ [])) b r ran.out s → IsDone (stream_subject x) b r out_of s
      done_of s d = record { lines = d.lines; ends = ends_of s.ended d.ends }

      deep_of : (t : ℕ) → IsTooDeep (columns_subject (x ∷ [])) b r ran.out t → IsTooDeep (stream_subject x) b r out_of t
      deep_of t d = record { lines = d.lines; within = d.within; undefined = (the_one (λ y. IsOpen y b t × (y.value b r.depth t ≡ None)) d.undefined).1 }

      shown_of : (t : ℕ) → IsShown ran.out.whole ran.out.front result t → t ≤ ran.out.whole
      shown_of t (inl lt) = omega (arith, lt)
      shown_of t (inr at) = omega (arith, at.0)

      enough_of : IsDeepEnough (stream_subject x) b r → IsDeepEnough (columns_subject (x ∷ [])) b r
      enough_of deep t lt before =
          of_defined r.depth t (deep t lt (λ u below end. before u below (each_one (λ y. HasEnded y b u) (u, omega arith, end))))

      consumed_of : (d : ℕ) → ConsumesWithin (columns_subject (x ∷ [])) b r ran.out.whole d → ConsumesWithin (stream_subject x) b r ran.out.whole d
      consumed_of d c k n q is old new first last = elim (c k n q is old new first last) [
        | inl le ↦ inl le
        | inr h ↦ inr (h.0, consulted_of ran.out.whole d (n, h.0) h.1, h.2)
      ]

    if_ok : (result : Result Summary RunFault) (P Q : Summary → Type 0) → ((s : Summary) → P s → Q s) → IfOk result P → IfOk result Q
    if_ok (Ok s) P Q f h = f s h
    if_ok (Err e) P Q f h = tt

    if_deep : (result : Result Summary RunFault) (P Q : ℕ → Type 0) → ((t : ℕ) → P t → Q t) → IfErr result (λ e. OnTooDeep e P)
        → IfErr result (λ e. OnTooDeep e Q)
    if_deep (Err (TooDeep time lost cleared)) P Q f h = f time h
    if_deep _ P Q f h = tt

    if_large : (result : Result Summary RunFault) (P Q : ℕ → Type 0) → ((k : ℕ) → P k → Q k) → IfErr result (λ e. OnTooLarge e P)
        → IfErr result (λ e. OnTooLarge e Q)
    if_large (Err (TooLarge number)) P Q f h = f number h
    if_large _ P Q f h = tt

    -- So a run of the column is one of its stream.
    pub ran_one : (result : Result Summary RunFault) → Ran (columns_subject (x ∷ [])) b r result → Ran (stream_subject x) b r result
    ran_one result ran = record {
      out = out_of result ran;
      cut_off = ran.cut_off;
      done = if_ok result (IsDone (columns_subject (x ∷ [])) b r ran.out) (IsDone (stream_subject x) b r (out_of result ran)) (done_of result ran) ran.done;
      deep = if_deep result (IsTooDeep (columns_subject (x ∷ [])) b r ran.out) (IsTooDeep (stream_subject x) b r (out_of result ran)) (deep_of result ran)
          ran.deep;
      exact = λ empties t shown. defined_of r.depth t (open_before ran.out.whole t (open_now result ran) (shown_of result ran t shown))
          (ran.exact empties t shown);
      stops = λ early defined quiet. ran.stops early (of_defined r.depth ran.out.whole defined) (quiet_of ran.out.whole quiet);
      complete = λ deep quiet. ran.complete (enough_of result ran deep) (quiet_of ran.out.whole quiet);
      consumed = record { added = ran.consumed.added; none = ran.consumed.none; holds = λ d le. consumed_of result ran d (ran.consumed.holds d le) };
      within = ran.within;
      too_large = if_large result (ConsultsOverlong (columns_subject (x ∷ [])) b r ran.out.whole) (ConsultsOverlong (stream_subject x) b r ran.out.whole)
          (overlong_of ran.out.whole) ran.too_large;
    }

  -- at the times through which the stream is open, its values are demanded at the same points
  demands_one : (t s : ℕ) → IsOpen x b t → s ≡ 0 → Demands (side_by_side (x ∷ [])) b t s
  demands_one t s opened e = subst (Demands (side_by_side (x ∷ [])) b t) (sym e) (x, refl, opened)

  one_demands : (t s : ℕ) → Demands (side_by_side (x ∷ [])) b t s → s ≡ 0
  one_demands t s d = let lt : s < 1 = slice_get_within (x ∷ []) s d.0 d.1 in omega (arith, lt)

  module _ (k : ℕ) (opened : IsOpen x b k) where
    below_one : (w : ℕ) (points : Points) → w ≤ suc k → ArePointsBelow one_stream b w points → ArePointsBelow (side_by_side (x ∷ [])) b w points
    below_one w points le exactly t s = (
      (λ i. let p = (exactly t s).0 i in (p.0, demands_one t s (open_before k t opened (omega (arith, p.0, le))) p.1)),
      (λ p. (exactly t s).1 (p.0, one_demands t s p.1)),
    )

    before_one : (t s : ℕ) (points : Points) → t ≤ k → ArePointsBefore one_stream b t s points → ArePointsBefore (side_by_side (x ∷ [])) b t s points
    before_one t s points le exactly u r = (
      (λ i. let p = (exactly u r).0 i in
          (p.0, demands_one u r (open_before k u opened (elim p.0 [ inl lt ↦ omega (arith, lt, le) | inr at ↦ omega (arith, at.0, le) ])) p.1)),
      (λ p. (exactly u r).1 (p.0, one_demands u r p.1)),
    )

module _ (T : Table) (b : Elements) (r : RunView) where
  times_near : (s : Summary) (whole : ℕ) → s.lines ≡ whole → times_of s ≤ suc whole
  times_near s whole e = by s.ended refl
    where
      by : (ended : Bool) → s.ended ≡ ended → times_of s ≤ suc whole
      by true is = omega (arith, e, ap (λ t. if t then suc s.lines else s.lines) is)
      by false is = omega (arith, e, ap (λ t. if t then suc s.lines else s.lines) is)

  -- And its figures are those of its stream.
  pub figures_one : (result : Result Summary RunFault) → Ran (columns_subject (table_stream T ∷ [])) b r result → Figures (columns_counted T 1) b r result
      → Figures (table_counted T) b r result
  figures_one (Ok s) ran f = record {
    held = λ keeps lost cleared points exactly. f.held keeps lost cleared points
        (below_one (table_stream T) b ran.out.whole opened (times_of s) points (times_near s ran.out.whole ran.done.lines) exactly);
    deep = λ keeps. tt;
    cleared = λ lt. let g = f.cleared lt in record {
      added = g.added;
      none = g.none;
      holds = λ d le points exactly. g.holds d le points
          (below_one (table_stream T) b ran.out.whole opened (times_of s) points (times_near s ran.out.whole ran.done.lines) exactly);
    };
  }
    where
      opened : IsOpen (table_stream T) b ran.out.whole
      opened = open_through (table_stream T) b ran.out.whole ran.out.bytes ran.out.output
  figures_one (Err (TooDeep time lost cleared)) ran f = record {
    held = λ keeps. tt;
    deep = λ keeps none again. let g = f.deep keeps none again in (
      g.0,
      one_demands (table_stream T) b time g.0 g.1,
      λ points exactly. g.2 points (before_one (table_stream T) b ran.out.whole opened time g.0 points (omega (arith, ran.deep.lines)) exactly),
    );
    cleared = λ lt. let g = f.cleared lt in record {
      added = g.added;
      none = g.none;
      holds = λ d le points exactly. g.holds d le points
          (below_one (table_stream T) b ran.out.whole opened (suc time) points (omega (arith, ran.deep.lines)) exactly);
    };
  }
    where
      opened : IsOpen (table_stream T) b ran.out.whole
      opened = open_through (table_stream T) b ran.out.whole ran.out.bytes ran.out.output
  figures_one (Err ReadFault) ran f = record { held = λ keeps. tt; deep = λ keeps. tt; cleared = tt }
  figures_one _ ran f = record { held = λ keeps. tt; deep = λ keeps. tt; cleared = tt }

-- So what is promised of one column is promised of its stream.
pub promise_one : (T : Table) (r : RunView) (result : Result Summary RunFault) → PromisesColumns T 1 r result
    → Promises (stream_subject (table_stream T)) (table_counted T) r result
promise_one T r result ran = record {
  headline = λ b e. ran_one (table_stream T) b r result (ran.headline b e);
  figures = λ b e. figures_one T b r result (ran.headline b e) (ran.figures b e);
  causes = ran.causes;
  reads_only = ran.reads_only;
}
