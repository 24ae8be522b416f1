-- What the judgments through one read of the inputs.
use Rattle.lucid_cert.proofs.CheckCommon.{◌≡◌, ℕ, ◌+◌, ◌<◌, ◌≤◌, List, length, Option, Some, None, ◌⊎◌, inl, inr, refl, sym, ap, ◌∙◌, subst, arith, IfSome, Result, slice_get, option_map, cases_eq, same_Some, slice_get-get_or, AllDiffer, World, Inputs, most_bytes, streams, stream_at, Extends, Node, Input, Table, row_at, elements_read, AreAskable, places_of, extends_then, streams_read, read_more, Context, PlainJudgment, CheckFault, LiesWithin, TellsElement, DrawsFor, ReadsFor, nothing_read, element_read, ◌≢◌, max, cases_lt, unwrap_or-slice_get}
use Rattle.std.specs.Prelude.{Bool}
use Rattle.lucid_value.specs.Lines.{end_of_line, IsOverlong}
use Rattle.lucid_tree.specs.Members.{In}
use Rattle.lucid_ports.specs.World.{Contents}
use Rattle.lucid_inputs.specs.Inputs.{ReadsStream}
use Rattle.lucid_inputs.specs.Streams.{Stream, all_bytes, fresh_stream}
use Rattle.lucid_demand_steps.specs.Engine.{ReadsOnly}
use Rattle.lucid_demand_steps.proofs.History.{reads_only_then}
use Rattle.lucid_demand_steps.proofs.Places.{place_in}
use Rattle.lucid_demand_steps.proofs.Reading.{StreamsRead, asked_again, read_places}
use Rattle.lucid_cert.specs.CheckReads.{LiesPast}

-- the stream of a number that is there
pub stream_there : (inputs : Inputs) (k : ℕ) → k < length (streams inputs) → slice_get (streams inputs) k ≡ Some (stream_at inputs k)
stream_there inputs k h = slice_get-get_or (streams inputs) k (fresh_stream 0) h ∙ ap Some (sym (unwrap_or-slice_get (streams inputs) k (fresh_stream 0)))

-- where a stream is read on, no place but its own is touched
pub its_place : (now next : Inputs) (q x : ℕ) (mid after : World) → q < length (streams now) → ReadsStream now q x next mid after
    → ReadsOnly (places_of (streams now)) mid after
its_place now next q x mid after there r = record {
  names = r.asked.others.names;
  asked = r.asked.others.asked;
  reached = r.asked.reached;
  others = λ k. elim (cases_eq k (stream_at now q).place) [
    | inl e ↦ inl (subst (λ p. In p (places_of (streams now))) (sym e) (place_in (streams now) q (stream_at now q) (stream_there now q there)))
    | inr e ↦ inr (r.asked.others.others k e)
  ];
  bytes = r.bytes;
  faults = r.asked.others.faults;
}

-- what is said of the bytes of a place is said of the same bytes
pub of_bytes : (P : List ℕ → Type 0) (o p : Option Contents) → option_map all_bytes p ≡ option_map all_bytes o → IfSome o (λ c. P (all_bytes c))
    → IfSome p (λ c. P (all_bytes c))
of_bytes P o None e h = tt
of_bytes P None (Some c) e h = absurd (cc)
of_bytes P (Some a) (Some c) e h = let f : all_bytes a ≡ all_bytes c = cc in subst P f h

-- and what follows from two facts
from_both : (A B C : List ℕ → Type 0) (o : Option Contents) → ((bs : List ℕ) → A bs → B bs → C bs) → IfSome o (λ c. A (all_bytes c))
    → IfSome o (λ c. B (all_bytes c)) → IfSome o (λ c. C (all_bytes c))
from_both A B C None f a b = tt
from_both A B C (Some c) f a b = f (all_bytes c) a b

module _ (T : Table) (cs : List (Option Context)) (js : List PlainJudgment) where
  -- a judgment tells one element
  pub tells_one : (n k j l i : ℕ) → TellsElement T cs js n k j → TellsElement T cs js n l i → (l ≡ k) × (i ≡ j)
  tells_one n k j l i a b = (inputs (rows ∙ b.row), sym b.is_time ∙ (ap (λ (x : PlainJudgment). x.time) (sym same) ∙ a.is_time))
    where
      same : a.judgment ≡ b.judgment
      same = same_Some _ _ (sym a.there ∙ b.there)

      rows : ◌≡◌ {A = Option Node} (Some (Input k)) (row_at T b.judgment.node)
      rows = sym a.row ∙ ap (λ (x : PlainJudgment). row_at T x.node) same

      inputs : ◌≡◌ {A = Option Node} (Some (Input k)) (Some (Input l)) → l ≡ k
      inputs e = cc

  module _ (old : Inputs) (before : World) where
    -- how far a stream is drawn, where these are its bytes
    abbrev Drawn : (below stream consumed : ℕ) → List ℕ → Type 0
    Drawn n k x bs = (x ≤ (stream_at old k).consumed) ⊎ ((i : ℕ) × (j : ℕ) × (i < n) × TellsElement T cs js i k j × (x ≤ end_of_line bs j))

    drawn_more : (n m k x : ℕ) (bs : List ℕ) → n ≤ m → Drawn n k x bs → Drawn m k x bs
    drawn_more n m k x bs l (inl h) = inl h
    drawn_more n m k x bs l (inr h) = inr (h.0, h.1, omega (arith, l, h.2), h.3, h.4)

    drawn_on : (n k x y j : ℕ) (bs : List ℕ) → TellsElement T cs js n k j → Drawn n k x bs → y ≤ max x (end_of_line bs j) → Drawn (n + 1) k y bs
    drawn_on n k x y j bs t d b = elim (cases_lt x y) [
      | inl more ↦ inr (n, j, omega arith, t, omega (arith, more, b))
      | inr less ↦ lower less (drawn_more n (n + 1) k x bs (omega arith) d)
    ]
      where
        lower : y ≤ x → Drawn (n + 1) k x bs → Drawn (n + 1) k y bs
        lower l (inl h) = inl (omega (arith, l, h))
        lower l (inr h) = inr (h.0, h.1, h.2, h.3, omega (arith, l, h.4))

    -- What the judgments below a number have read.
    pub record HaveRead (n : ℕ) (now : Inputs) (mid : World) : Type 0 where
      pub drawn : DrawsFor T cs js n old now mid
      pub elements : Extends (elements_read T.inputs (streams old)) (elements_read T.inputs (streams now))
      pub askable : AreAskable (streams now) mid
      pub reads_only : ReadsOnly (places_of (streams old)) before mid
      pub places : places_of (streams now) ≡ places_of (streams old)
      pub count : length (streams now) ≡ length (streams old)
      pub most : most_bytes now ≡ most_bytes old
      pub at : (k : ℕ) → (stream_at now k).place ≡ (stream_at old k).place

    pub nothing_yet : AreAskable (streams old) before → HaveRead 0 old before
    nothing_yet ask = record {
      drawn = λ k l. low k (before.place (stream_at old k).place).contents;
      elements = λ n j v e. e;
      askable = ask;
      reads_only = record { names = λ n. refl; asked = refl; reached = refl; others = λ k. inr refl; bytes = λ k. refl; faults = omega arith };
      places = refl;
      count = refl;
      most = refl;
      at = λ k. refl;
    }
      where
        low : (k : ℕ) (o : Option Contents) → IfSome o (λ c. Drawn 0 k (stream_at old k).consumed (all_bytes c))
        low k None = tt
        low k (Some c) = inl (omega arith)

    pub read_more_of : (n m : ℕ) (now : Inputs) (mid : World) → n ≤ m → HaveRead n now mid → DrawsFor T cs js m old now mid
    read_more_of n m now mid l h k lt = more (mid.place (stream_at now k).place).contents (h.drawn k lt)
      where
        more : (o : Option Contents) → IfSome o (λ c. Drawn n k (stream_at now k).consumed (all_bytes c))
            → IfSome o (λ c. Drawn m k (stream_at now k).consumed (all_bytes c))
        more None d = tt
        more (Some c) d = drawn_more n m k (stream_at now k).consumed (all_bytes c) l d

    -- what lies past, or doesn't, did so at first
    module _ (n : ℕ) (now : Inputs) (mid : World) (h : HaveRead n now mid) (P : Type 0 → Type 0) where
      abbrev Lies : Inputs → World → (stream index place most : ℕ) → Type 0
      Lies inputs w k j p most = IfSome (w.place p).contents (λ c. P (IsOverlong (all_bytes c) j most))

      pub lay : (k j : ℕ) → Lies now mid k j (stream_at now k).place (most_bytes now) → Lies old before k j (stream_at old k).place (most_bytes old)
      lay k j l =
          let A : ℕ → Type 0 = λ p. Lies now mid k j p (most_bytes now) in
          let B : ℕ → Type 0 = λ m. Lies now mid k j (stream_at old k).place m in
          of_bytes (λ bs. P (IsOverlong bs j (most_bytes old))) (mid.place (stream_at old k).place).contents (before.place (stream_at old k).place).contents
          (sym (h.reads_only.bytes (stream_at old k).place)) (subst B h.most (subst A (h.at k) l))

    pub lay_past : (n : ℕ) (now : Inputs) (mid : World) → HaveRead n now mid → (k j : ℕ) → LiesPast now mid k j → LiesPast old before k j
    lay_past n now mid h k j = lay n now mid h (λ x. x) k j

    pub lay_within : (n : ℕ) (now : Inputs) (mid : World) → HaveRead n now mid → (k j : ℕ) → LiesWithin now mid k j → LiesWithin old before k j
    lay_within n now mid h k j = lay n now mid h (λ x. x → ⊥) k j

    -- One more judgment: its element is read, if it tells one.
    module _ (n : ℕ) (now next : Inputs) (mid after : World) (apart : AllDiffer (places_of (streams now))) (h : HaveRead n now mid) where
      module _ (q x : ℕ) (tells : TellsElement T cs js n q x) (there : q < length (streams now)) (r : ReadsStream now q x next mid after) where
        read : StreamsRead (streams now) (streams next) q x mid after
        read = streams_read now next q x mid after there r

        -- of the stream that is read on, and of each other one
        this_drawn : q < length (streams old) → IfSome (after.place (stream_at next q).place).contents
            (λ c. Drawn (n + 1) q (stream_at next q).consumed (all_bytes c))
        this_drawn l =
            let place = (stream_at now q).place in
            let A : ℕ → Type 0 = λ p. IfSome (after.place p).contents (λ c. Drawn (n + 1) q (stream_at next q).consumed (all_bytes c)) in
            subst A (sym r.asked.place) (of_bytes (Drawn (n + 1) q (stream_at next q).consumed) (mid.place place).contents (after.place place).contents
            (r.bytes place)
            (from_both (Drawn n q (stream_at now q).consumed) (λ bs. (stream_at next q).consumed ≤ max (stream_at now q).consumed (end_of_line bs x))
            (Drawn (n + 1) q (stream_at next q).consumed)
            (mid.place place).contents (λ bs a b. drawn_on n q (stream_at now q).consumed (stream_at next q).consumed x bs tells a b) (h.drawn q l)
            r.asked.bound))

        other_drawn : (k : ℕ) → k ≢ q → k < length (streams old)
            → IfSome (after.place (stream_at next k).place).contents (λ c. Drawn (n + 1) k (stream_at next k).consumed (all_bytes c))
        other_drawn k other l =
            let place = (stream_at now k).place in
            let A : Stream → Type 0 = λ s. IfSome (after.place s.place).contents (λ c. Drawn (n + 1) k s.consumed (all_bytes c)) in
            subst A (sym (r.others k other)) (of_bytes (Drawn (n + 1) k (stream_at now k).consumed) (mid.place place).contents (after.place place).contents
            (r.bytes place)
            (from_both (Drawn n k (stream_at now k).consumed) (λ bs. Unit {0}) (Drawn (n + 1) k (stream_at now k).consumed) (mid.place place).contents
            (λ bs a b. drawn_more n (n + 1) k (stream_at now k).consumed bs (omega arith) a) (h.drawn k l) (nothing_said (mid.place place).contents)))
          where
            nothing_said : (o : Option Contents) → IfSome o (λ c. Unit {0})
            nothing_said None = tt
            nothing_said (Some c) = tt

        this_place : (k : ℕ) → (stream_at next k).place ≡ (stream_at now k).place
        this_place k = elim (cases_eq k q) [
          | inl e ↦ subst (λ i. (stream_at next i).place ≡ (stream_at now i).place) (sym e) r.asked.place
          | inr e ↦ ap (λ (s : Stream). s.place) (r.others k e)
        ]

        one_read : HaveRead (n + 1) next after
        one_read = record {
          drawn = λ k l. elim (cases_eq k q) [
            | inl e ↦ subst (λ i. IfSome (after.place (stream_at next i).place).contents (λ c. Drawn (n + 1) i (stream_at next i).consumed (all_bytes c)))
                (sym e) (this_drawn (omega (arith, e, l)))
            | inr e ↦ other_drawn k e l
          ];
          elements = extends_then _ _ _ h.elements (read_more (streams now) (streams next) q x mid after read apart T.inputs);
          askable = asked_again (streams now) (streams next) q x mid after read apart h.askable;
          reads_only = reads_only_then (places_of (streams old)) before mid after h.reads_only
              (subst (λ ps. ReadsOnly ps mid after) h.places (its_place now next q x mid after there r));
          places = read_places (streams now) (streams next) q x mid after read apart ∙ h.places;
          count = r.count ∙ h.count;
          most = r.most ∙ h.most;
          at = λ k. this_place k ∙ h.at k;
        }

      none_read : next ≡ now → after ≡ mid → HaveRead (n + 1) next after
      none_read e f =
          let A : Inputs → Type 0 = λ i. HaveRead (n + 1) i after in
          let B : World → Type 0 = λ w. HaveRead (n + 1) now w in
          subst A (sym e) (subst B (sym f) (record {
            drawn = read_more_of n (n + 1) now mid (omega arith) h;
            elements = h.elements;
            askable = h.askable;
            reads_only = h.reads_only;
            places = h.places;
            count = h.count;
            most = h.most;
            at = h.at;
          }))

      pub read_on : (result : Result Bool CheckFault) → ReadsFor T cs js n now next mid after result → HaveRead (n + 1) next after
      read_on result (nothing_read none e f own) = none_read e f
      read_on result (element_read k j t r) = one_read k j t r.there r.reads
