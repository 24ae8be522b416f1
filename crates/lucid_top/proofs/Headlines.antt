-- The headline, from the clauses of a call.
use Rattle.lucid_top.proofs.Common.{◌≡◌, ◌≢◌, ℕ, suc, ◌+◌, ◌-◌, ◌<◌, ◌≤◌, ◌⊎◌, List, [], ◌∷◌, ◌++◌, length, Option, Some, None, Ok, Err, Bool, true, false, inl, inr, refl, sym, ◌∙◌, ap, subst, arith, IfSome, IsSome, is_some, IsSomeAnd, slice_get, unwrap_or, option_map, codes, range_with_len, lt-ltb, length-range_with_len, get_or-range_with_len, slice_get-map, slice_get-get_or, slice_get_within, PlainValue, eod, IsOverlong, Elements, empty, line, Derives, Contents, with_all, Summary, RunFault, all_bytes, file, PlainWords, stream_subject, tree_stream, Told, RunView, HasElements, Ran, IsDone, IsTooDeep, Figures, Status, Outcome, Call, of_tree, program_counted, task_of, form_of, file_given, files_for, IsSource, IsTold, Asks, HasNames, by_tree, IsRun, run_of, view_of, run_result, most_input_bytes, first_place, ReadFails, TellsFiles, ComesOnly, MeetsClauses, RunsProgram, elements, Lines, one_line_more, Headline, certificate_places, first_input, ForSomeAdded}
use Rattle.std.proofs.Common.{take, Result, cond}
use Rattle.lucid_tree.specs.Meaning.{val}
use Rattle.lucid_tree.proofs.Growth.{val-up}
use Rattle.lucid_fixed_point.proofs.Rules.{means-derives}
use Rattle.lucid_ports.specs.World.{unread}
use Rattle.lucid_ports.specs.declared.run.RunFault.TheVariants as fault
use Rattle.lucid_session.specs.Subject.{Output}
use Rattle.lucid_session.specs.Subject as stream
use Rattle.lucid_session.specs.Runs as run
use Rattle.lucid_session.specs.Runs.{EndsAt, IsWriteFaultOrNoMemory, IsEndedOrNoMemory}
use Rattle.lucid_report.specs.declared.status.Status.TheVariants as status
use Rattle.lucid_report.specs.declared.stop.Done.TheVariants as done
use Rattle.lucid_report.specs.declared.stop.Stop.TheVariants as stop
use Rattle.lucid_top.specs.declared.task.Task.TheVariants as task
use Rattle.lucid_top.specs.declared.task.Form.TheVariants as form
use Rattle.lucid_report.specs.Status.{status_of}
use Rattle.lucid_top.specs.Tasks.{form_for}
use Rattle.lucid_top.specs.Clauses.{WriteFails}
use Rattle.lucid_top.specs.Runs.{under, GivesBytes}
use Rattle.lucid_top.specs.Headline.{Has, at_limit, no_lines, IsConsulted, ConsultsOverlong, ConsumesWithin, HeadlineFollows}
use Rattle.lucid_top.proofs.OneCall.{same_words, one_task}
use Rattle.lucid_top.proofs.RunEnds.{in_range}

module _ (c : Call) (g : RunsProgram c) where
  abbrev b : Elements
  b = elements g

  -- the stages of the call
  abbrev asks : Asks c
  asks = record { words = g.words; read = g.asked }

  is_source : IsSource g.words.source c.before g.source
  is_source = subst (λ s. IsSource s c.before g.source) (sym g.run.1) (subst (λ o. IfSome o (λ held. g.source ≡ held)) (sym g.held) refl)

  is_told : IsTold g.words.source c.before
  is_told = subst (λ s. IsTold s c.before) (sym g.run.1) (subst (λ o. IsSome o) (sym g.held) refl)

  no_flat : form_of g.words ≢ form.Flat
  no_flat e =
      let is : form_of g.words ≡ form.Text = ap (λ s. form_for s g.words.from_flat) g.run.1 ∙ ap (λ f. form_for (file g.name) f) g.run.2 in
      absurd (cc (e, is))

  no_print : task_of g.words ≢ task.Print
  no_print e = let is = g.run.0 in absurd (cc (e, is))

  abbrev names : HasNames c
  names = record {
    program = record { source = record { asks = asks; bytes = g.source; is = is_source }; form = no_flat; tree = g.program; spelt = g.spelt };
    task = no_print;
    no_fault = g.no_fault;
    free = g.inputs;
    are_free = g.has_inputs;
  }

  abbrev is_run : IsRun c
  is_run = record { program = by_tree names; task = g.run.0; fits = g.given }

  tells : TellsFiles c
  tells a = (
    subst (λ (w : PlainWords). IsTold w.source c.before) (same_words asks a) is_told,
    λ is.
        absurd (cc (one_task a asks task.Check task.Run is g.run.0)),
  )

  abbrev view : RunView
  view = under c.policy (view_of c (run_of is_run))

  -- the place of an input: its file is told before the run
  first_is : first_input g.words ≡ 1
  first_is =
      let source : first_place g.words.source ≡ 1 = ap first_place g.run.1 in
      let none : certificate_places (task_of g.words) ≡ 0 = ap certificate_places g.run.0 in omega (arith, source, none)

  place_of : (k : ℕ) (n : List ℕ) → slice_get g.inputs k ≡ Some n → slice_get view.places k ≡ Some (1 + k)
  place_of k n is =
      let a : ℕ = first_input g.words in
      let lt : k < length g.inputs = slice_get_within g.inputs k n is in
      let long : length (range_with_len a (length g.inputs)) ≡ length g.inputs = length-range_with_len a (length g.inputs) in
      slice_get-get_or (range_with_len a (length g.inputs)) k 0 (omega (arith, lt, long))
      ∙ ap Some (get_or-range_with_len a (length g.inputs) k 0 lt ∙ ap (λ m. m + k) first_is)

  file_is : (k : ℕ) (n : List ℕ) (q : ℕ) → slice_get g.inputs k ≡ Some n → slice_get view.places k ≡ Some q
      → (view.before.place q).contents ≡ Some (unread (g.bytes_of n))
  file_is k n q is at =
      let files : List (List ℕ) = files_for g.inputs g.words.given in
      let here = in_range (first_input g.words) (length g.inputs) k q at in
      let back : q - first_input g.words ≡ k = omega (arith, here.0) in
      let named : slice_get files (q - first_input g.words) ≡ Some (unwrap_or (file_given g.words.given n) (codes "-")) =
      ap (slice_get files) back ∙ slice_get-map (λ m. unwrap_or (file_given g.words.given m) (codes "-")) g.inputs k ∙ ap (option_map (λ m. unwrap_or (file_given g.words.given m) (codes "-"))) is in
      ap (λ o. option_map unread (c.before.holds (unwrap_or o []))) named ∙ ap (option_map unread) (g.inputs_held k n is)

  has_elements : HasElements view b
  has_elements k n q is = (unread (g.bytes_of n), file_is k n q is.0 is.1, λ j. refl)

  -- the lines of the run
  lines_of : (k : ℕ) (bytes : List ℕ) → Output (stream_subject (tree_stream g.program)) b k bytes → Lines g k bytes
  lines_of _ _ stream.no_lines = no_lines
  lines_of _ _ (stream.one_line_more {k = k} {bytes = bytes} before next stands) =
      subst (λ x. Lines g (suc k) (bytes ++ x)) (sym stands.3)
      (one_line_more (lines_of k bytes before) stands.0 (means-derives b g.program empty k 0 stands.0 stands.1) stands.2)

  -- a front of the line that stands next
  abbrev IsFrontOfNext : (whole : ℕ) → List ℕ → Type 0
  IsFrontOfNext whole front = (v : PlainValue) × (n : ℕ) × Has g whole v × (v ≡ eod → ⊥) × (n < length (line v)) × (front ≡ take n (line v))

  begun_of : (whole : ℕ) (front : List ℕ) (P : Type 0) → run.IsBegun (stream_subject (tree_stream g.program)) b g.words.count whole front → (front ≡ []) ⊎ P
      → (front ≡ []) ⊎ (P × (whole < g.words.count) × IsFrontOfNext whole front)
  begun_of whole front P (inl none) cut = inl none
  begun_of whole front P (inr x) (inl none) = inl none
  begun_of whole front P (inr x) (inr cut) =
      let v : PlainValue = x.1.1.0 in
      let same : x.1.0 ≡ line v = x.1.1.3 in
      inr (
        cut,
        x.0,
        (
          v,
          x.1.2.0,
          means-derives b g.program empty whole 0 v x.1.1.1,
          x.1.1.2,
          subst (λ l. x.1.2.0 < length l) same x.1.2.1,
          subst
              (λ l. front ≡ take x.1.2.0 l) same x.1.2.2,
        ),
      )

  -- what is consulted, one shape in another
  consulted_too : (whole d : ℕ) (n : List ℕ) (j : ℕ) → run.IsConsulted (stream_subject (tree_stream g.program)) b view whole d (n, j)
      → IsConsulted g whole d n j
  consulted_too whole d n j x = (x.0, x.1.0, x.1.1, x.2)

  some_added : (P Q : ℕ → Type 0) → ((d : ℕ) → P d → Q d) → run.ForSomeAdded view P → ForSomeAdded Q
  some_added P Q h x = (x.added, λ d le. h d (x.holds d le))

  overlong_too : (whole k : ℕ) → run.ConsultsOverlong (stream_subject (tree_stream g.program)) b view whole k → ConsultsOverlong g whole
  overlong_too whole k x = (
    k,
    x.name,
    x.index,
    x.is.0,
    some_added (λ d. run.IsConsulted (stream_subject (tree_stream g.program)) b view whole d (x.name, x.index)) (λ d. IsConsulted g whole d x.name x.index)
        (λ d. consulted_too whole d x.name x.index) x.consulted,
    subst (λ o. IfSome o (λ y. IsOverlong (all_bytes y) x.index most_input_bytes)) (file_is k x.name x.place x.is.0 x.is.1) x.overlong,
  )

  -- the place of an input that was reached, after the run
  after_is : (q : ℕ) → q < c.after.reached → view.after.place q ≡ c.after.place q
  after_is q lt = ap (λ t. cond t (c.after.place q) (view.before.place q)) (lt-ltb q c.after.reached lt)

  consumes : GivesBytes view → (whole d : ℕ) → run.ConsumesWithin (stream_subject (tree_stream g.program)) b view whole d → ConsumesWithin g whole d
  consumes gives whole d h k n new is lt told =
      let at : slice_get view.places k ≡ Some (1 + k) = place_of k n is in
      let was = file_is k n (1 + k) is at in
      let now : (view.after.place (1 + k)).contents ≡ Some new = ap (λ p. p.contents) (after_is (1 + k) lt) ∙ told in
      let bytes = sym (ap (option_map all_bytes) now) ∙ gives k n (1 + k) (is, at) ∙ ap (option_map all_bytes) was in (
        same_bytes new (g.bytes_of n) bytes,
        elim (h k n (1 + k) (is, at) (unread (g.bytes_of n)) new was now) [
          | inl few ↦ inl (nothing new few)
          | inr some ↦ inr (some.0, consulted_too whole d n some.0 some.1, some.2)
        ],
      )
    where
      same_bytes : (new : Contents) (held : List ℕ) → Some (new.consumed ++ new.left) ≡ Some held → new.consumed ++ new.left ≡ held
      same_bytes new held e = cc e

      nothing : (new : Contents) → length new.consumed ≤ 0 → new.consumed ≡ []
      nothing new few = of new.consumed few
        where
          of : (xs : List ℕ) → length xs ≤ 0 → xs ≡ []
          of [] le = refl
          of (x ∷ xs) le = absurd (omega (arith, le))

  -- what a limit defines, a greater one does
  defined_up : (m n t : ℕ) → m ≤ n → (o : Option PlainValue) → at_limit g m t ≡ o → IsSome o → IsSome (at_limit g n t)
  defined_up m n t le (Some v) is some = ap is_some (val-up b m n le g.program empty t 0 v is)
  defined_up m n t le None is some = absurd (cc some)

  -- how a run that is done ended
  ends_of : (ended : Bool) (whole : ℕ) → EndsAt (stream_subject (tree_stream g.program)) b view ended whole
      → (whole ≡ g.words.count) ⊎ ((whole < g.words.count) × Derives b g.program empty whole 0 eod)
  ends_of true whole h = inr (h.0, means-derives b g.program empty whole 0 eod h.1)
  ends_of false whole h = inl h

  module _ (gives : GivesBytes view) (result : Result Summary RunFault) (ran : Ran (stream_subject (tree_stream g.program)) b view result) where
    abbrev whole : ℕ
    whole = ran.out.whole

    -- what is written, by any status
    from : (s : Status) → (IsWriteFaultOrNoMemory result → (s ≡ status.WriteFault) ⊎ (s ≡ status.NoMemory))
        → (s ≡ status.Done → (x : Summary) × IsDone (stream_subject (tree_stream g.program)) b view ran.out x)
        → (s ≡ status.TooDeep → (t : ℕ) × IsTooDeep (stream_subject (tree_stream g.program)) b view ran.out t)
        → (s ≡ status.TooLarge → (k : ℕ) × run.ConsultsOverlong (stream_subject (tree_stream g.program)) b view whole k)
        → (s ≡ status.ReadFault → ReadFails c) → (s ≡ status.WriteFault → WriteFails c) → ((s ≡ status.Refused) ⊎ (s ≡ status.Usage) → ⊥)
        → (IsEndedOrNoMemory result → (s ≡ status.Done) ⊎ (s ≡ status.NoMemory)) → Headline g s
    from s cut when_done when_deep when_large read write accepted ok = record {
      lines = record {
        whole = whole;
        lines = ran.out.bytes;
        front = ran.out.front;
        within = ran.out.within;
        are_lines = lines_of whole ran.out.bytes ran.out.output;
        begun = begun_of whole ran.out.front ((s ≡ status.WriteFault) ⊎ (s ≡ status.NoMemory)) ran.out.begun
            (elim ran.cut_off [ inl none ↦ inl none | inr is ↦ inr (cut is) ]);
        written = ran.out.written ∙ ap (with_all (ran.out.bytes ++ ran.out.front)) g.told;
      };
      stops = record {
        done = λ is. let x = when_done is in ends_of x.0.ended whole x.1.ends;
        too_deep = λ is. let x = when_deep is in
            (subst (λ t. t < g.words.count) x.1.lines x.1.within, subst (λ t. val b g.words.depth g.program empty t 0 ≡ None) x.1.lines x.1.undefined);
        complete = λ lt m le defined reads writes short.
            ok
            (ran.stops lt (defined_up m g.words.depth whole le (at_limit g m whole) refl defined)
            (record { no_read_failed = reads; no_write_failed = writes; none_overlong = λ k x. short (overlong_too whole k x) }));
        too_large = λ is. let x = when_large is in overlong_too whole x.0 x.1;
        read_fault = read;
        write_fault = write;
        accepted = accepted;
      };
      consumed = some_added (run.ConsumesWithin (stream_subject (tree_stream g.program)) b view whole) (ConsumesWithin g whole) (consumes gives whole) ran.consumed;
    }

    -- where the report found no memory
    no_memory : Headline g status.NoMemory
    no_memory = from status.NoMemory (λ is. inr refl) (λ is. absurd (cc is)) (λ is. absurd (cc is)) (λ is. absurd (cc is)) (λ is. absurd (cc is))
        (λ is. absurd (cc is)) refused (λ ok. inr refl)
      where
        refused : (status.NoMemory ≡ status.Refused) ⊎ (status.NoMemory ≡ status.Usage) → ⊥
        refused (inl e) = absurd (cc e)
        refused (inr e) = absurd (cc e)

  -- by the outcome: its status, or that there was no memory to report it
  by_outcome : GivesBytes view → (o : Outcome) → ComesOnly c o → (ran : IsSomeAnd (run_result o) (λ result. Ran (stream_subject (tree_stream g.program)) b view result))
      → Headline g (status_of o) × Headline g status.NoMemory
  by_outcome gives (Ok (done.Ran summary stats)) only ran = (
    from gives (Ok summary) ran status.Done (λ is. absurd is) (λ is. (summary, ran.done)) (λ is. absurd (cc is)) (λ is. absurd (cc is)) (λ is. absurd (cc is))
        (λ is. absurd (cc is)) (λ is. elim is [ inl e ↦ absurd (cc e) | inr e ↦ absurd (cc e) ]) (λ ok. inl refl),
    no_memory gives (Ok summary) ran,
  )
  by_outcome gives (Ok done.Written) only ran = absurd ran
  by_outcome gives (Err (stop.Refused why)) only ran = absurd ran
  by_outcome gives (Err stop.ReadFault) only ran = (
    from gives (Err fault.ReadFault) ran status.ReadFault (λ is. elim is [ inl e ↦ absurd (cc e) | inr e ↦ absurd (cc e) ]) (λ is. absurd (cc is))
        (λ is. absurd (cc is)) (λ is. absurd (cc is)) (λ is. only) (λ is. absurd (cc is)) (λ is. elim is [ inl e ↦ absurd (cc e) | inr e ↦ absurd (cc e) ])
        (λ ok. absurd (cc ok)),
    no_memory gives (Err fault.ReadFault) ran,
  )
  by_outcome gives (Err stop.WriteFault) only ran = (
    from gives (Err fault.WriteFault) ran status.WriteFault (λ is. inl refl) (λ is. absurd (cc is)) (λ is. absurd (cc is)) (λ is. absurd (cc is))
        (λ is. absurd (cc is)) (λ is. only) (λ is. elim is [ inl e ↦ absurd (cc e) | inr e ↦ absurd (cc e) ]) (λ ok. absurd (cc ok)),
    no_memory gives (Err fault.WriteFault) ran,
  )
  by_outcome gives (Err (stop.TooDeep time lost cleared stats)) only ran = (
    from gives (Err (fault.TooDeep time lost cleared)) ran status.TooDeep (λ is. elim is [ inl e ↦ absurd (cc e) | inr e ↦ absurd (cc e) ]) (λ is. absurd (cc is))
        (λ is. (time, ran.deep)) (λ is. absurd (cc is)) (λ is. absurd (cc is)) (λ is. absurd (cc is))
        (λ is. elim is [ inl e ↦ absurd (cc e) | inr e ↦ absurd (cc e) ]) (λ ok. absurd (cc ok)),
    no_memory gives (Err (fault.TooDeep time lost cleared)) ran,
  )
  by_outcome gives (Err (stop.TooLarge k n)) only ran = (
    from gives (Err (fault.TooLarge k)) ran status.TooLarge (λ is. elim is [ inl e ↦ absurd (cc e) | inr e ↦ absurd (cc e) ]) (λ is. absurd (cc is))
        (λ is. absurd (cc is)) (λ is. (k, ran.too_large)) (λ is. absurd (cc is)) (λ is. absurd (cc is))
        (λ is. elim is [ inl e ↦ absurd (cc e) | inr e ↦ absurd (cc e) ]) (λ ok. absurd (cc ok)),
    no_memory gives (Err (fault.TooLarge k)) ran,
  )
  by_outcome gives (Err (stop.Wrong judgment)) only ran = absurd ran
  by_outcome gives (Err stop.NoMemory) only ran = (no_memory gives (Err fault.NoMemory) ran, no_memory gives (Err fault.NoMemory) ran)

  -- without the figures
  plainly : (o : Option (Result Summary RunFault)) (P Q : Result Summary RunFault → Type 0) → IsSomeAnd o (λ x. P x × Q x) → IsSomeAnd o P
  plainly None P Q h = h
  plainly (Some x) P Q h = h.0

  pub headline : (p q : Told) (s : Status) → MeetsClauses c p q s → Headline g s
  headline p q s m =
      let both = by_outcome (m.met.gives is_run tells) m.outcome m.met.comes_only (plainly (run_result m.outcome) (λ result. Ran (stream_subject (tree_stream g.program)) b view result)
      (λ result. Figures (program_counted (of_tree g.program)) b view result) (m.met.headline is_run tells b has_elements)) in
      elim m.report [
        | inl whole_line ↦ subst (Headline g) (sym whole_line.0) both.0
        | inr other ↦ elim other [ inl front ↦ subst (Headline g) (sym front.0) both.0 | inr none ↦ subst (Headline g) (sym none.0) both.1 ]
      ]

pub headline-follows : HeadlineFollows
headline-follows c p q s m g = headline c g p q s m
