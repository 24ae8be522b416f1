-- A stream is read on, for an element that the root looks up.
use Rattle.lucid_demand_steps.proofs.Common.{◌≡◌, ℕ, suc, ◌<◌, ◌≤◌, max, List, [], ◌∷◌, Option, Some, None, ◌⊎◌, inl, inr, refl, sym, ap, ◌∙◌, subst, arith, le_refl, IfSome, cases_eq, cases_lt, same_Some, In, AllDiffer, Elements, World, Contents, Stream, all_bytes, IsOneForOne, KeepsKnown, ReadsOn, equations_of, Extends, elements_read, EngineView, known_elements, holding, MayHave, ForSomeAdded, DrawsWithin, AreAskable, places_of, GoesOn, ReadsOnly, HoldsFew, Demand, table_of, demand_of, StockFacts, Owns, held_in, AreKeysKnown, unwrap_or, slice_get-get_or, slice_get_past, slice_get_within, unwrap_or-slice_get}
use Rattle.std.proofs.Common.{◌≢◌, length}
use Rattle.std.specs.Prelude.{slice_get, option_map}
use Rattle.lucid_value.specs.Lines.{end_of_line}
use Rattle.lucid_inputs.specs.declared.on_demand.Inputs.{Inputs}
use Rattle.lucid_inputs.specs.Streams.{FitsPlace, fresh_stream}
use Rattle.lucid_inputs.specs.Laws.{KeepsWithin, PlacesDiffer}
use Rattle.lucid_inputs.specs.Inputs.{ReadsStream, streams, stream_at, most_bytes}
use Rattle.lucid_equations.specs.Visits.{consults_on_nodes}
use Rattle.lucid_demand_steps.specs.Demands.{IsConsulted}
use Rattle.lucid_demand_steps.specs.Stock.{Stock}
use Rattle.lucid_demand_steps.proofs.Places.{place_in, places_all_differ, places_apart, reading_extends}
use Rattle.lucid_demand_steps.proofs.History.{goes_on_then, reads_only_then}

-- One of the streams is read on for the element of an index, and nothing else changes.
pub record StreamsRead (old new : List Stream) (number index : ℕ) (before after : World) : Type 0 where
  pub from : Stream
  pub to : Stream
  pub there : slice_get old number ≡ Some from
  pub now : slice_get new number ≡ Some to
  pub reads : ReadsOn index from to before after
  pub others : (k : ℕ) → k ≢ number → slice_get new k ≡ slice_get old k
  pub count : length new ≡ length old
  pub bytes : (k : ℕ) → option_map all_bytes (after.place k).contents ≡ option_map all_bytes (before.place k).contents

some_none : {A : Type 0} {x : A} → ◌≡◌ {A = Option A} (Some x) None → ⊥
some_none e = cc

get_there : {A : Type 0} (xs : List A) (i : ℕ) (d : A) → i < length xs → slice_get xs i ≡ Some (unwrap_or (slice_get xs i) d)
get_there xs i d h = slice_get-get_or xs i d h ∙ ap Some (sym (unwrap_or-slice_get xs i d))

-- places are the same where each stream's is
places_same : (old new : List Stream) → length new ≡ length old
    → ((k : ℕ) (s t : Stream) → slice_get old k ≡ Some s → slice_get new k ≡ Some t → t.place ≡ s.place) → places_of new ≡ places_of old
places_same [] [] same each = refl
places_same [] (t ∷ new) same each = absurd (omega (arith, same))
places_same (s ∷ old) [] same each = absurd (omega (arith, same))
places_same (s ∷ old) (t ∷ new) same each =
    let first : t.place ≡ s.place = each 0 s t refl refl in
    let rest : places_of new ≡ places_of old = places_same old new (omega (arith, same)) (λ k. each (suc k)) in
    ap (λ p. p ∷ places_of new) first ∙ ap (λ ps. s.place ∷ ps) rest

-- What a stream may have drawn once it is read on, by its contents before and after.
drawn_on :
    (P : ℕ → Type 0) (o p : Option Contents) (first old new index : ℕ) → option_map all_bytes p ≡ option_map all_bytes o
    → IfSome o (λ c. (old ≤ first) ⊎ ((j : ℕ) × P j × (old ≤ end_of_line (all_bytes c) j))) → IfSome o (λ c. new ≤ max old (end_of_line (all_bytes c) index))
    → P index
    → IfSome p (λ c. (new ≤ first) ⊎ ((j : ℕ) × P j × (new ≤ end_of_line (all_bytes c) j)))
drawn_on P o None first old new index e was bound there = tt
drawn_on P None (Some c) first old new index e was bound there = absurd (some_none e)
drawn_on P (Some o) (Some c) first old new index e was bound there =
    elim (cases_lt old new) [
      | inl more ↦ let reach : new ≤ end_of_line (all_bytes o) index = omega (arith, more, bound) in
          inr (index, there, subst (λ bs. new ≤ end_of_line bs index) (sym same) reach)
      | inr less ↦ within less was
    ]
  where
    same : all_bytes c ≡ all_bytes o
    same = same_Some _ _ e

    within : new ≤ old → (old ≤ first) ⊎ ((j : ℕ) × P j × (old ≤ end_of_line (all_bytes o) j))
        → (new ≤ first) ⊎ ((j : ℕ) × P j × (new ≤ end_of_line (all_bytes c) j))
    within less (inl low) = inl (omega (arith, less, low))
    within less (inr q) =
        let low : new ≤ end_of_line (all_bytes o) q.0 = omega (arith, less, q.2) in inr (q.0, q.1, subst (λ bs. new ≤ end_of_line bs q.0) (sym same) low)

-- What one stream's reading leaves of the others: each is at its own place, which does not change.
module _ (old new : List Stream) (number index : ℕ) (before after : World) (r : StreamsRead old new number index before after)
    (apart : AllDiffer (places_of old)) where
  other_place : (k : ℕ) (t : Stream) → k ≢ number → slice_get new k ≡ Some t → after.place t.place ≡ before.place t.place
  other_place k t other e = r.reads.others.others t.place (λ same. other (places_apart old apart k number t r.from (sym (r.others k other) ∙ e) r.there same))

  -- each stream may be read on after that
  pub asked_again : AreAskable old before → AreAskable new after
  asked_again ask k t e = elim (cases_eq k number) [
    | inl z ↦ subst (λ x. (x.place < after.reached) × FitsPlace x (after.place x.place)) (same_Some _ _ (sym r.now ∙ ap (slice_get new) (sym z) ∙ e)) (
      subst (λ n. r.to.place < n) (sym r.reads.reached) (subst (λ n. n < before.reached) (sym r.reads.place) (ask number r.from r.there).0),
      subst
          (λ n. FitsPlace r.to (after.place n)) (sym r.reads.place) r.reads.fits,
    )
    | inr z ↦ let a = ask k t (sym (r.others k z) ∙ e) in
        (subst (λ n. t.place < n) (sym r.reads.reached) a.0, subst (λ q. FitsPlace t q) (sym (other_place k t z e)) a.1)
  ]

  pub read_places : places_of new ≡ places_of old
  read_places = places_same old new r.count (λ k s t e f. elim (cases_eq k number) [
    | inl z ↦ ap (λ x. x.place) (same_Some _ _ (sym f ∙ ap (slice_get new) z ∙ r.now)) ∙ r.reads.place
        ∙ ap (λ x. x.place) (same_Some _ _ (sym r.there ∙ ap (slice_get old) (sym z) ∙ e))
    | inr z ↦ ap (λ x. x.place) (same_Some _ _ (sym f ∙ r.others k z ∙ e))
  ])

  pub read_more : (names : List (List ℕ)) → Extends (elements_read names old) (elements_read names new)
  read_more names = reading_extends names old new number index before after r.count reads r.others
    where
      reads : (s t : Stream) → slice_get old number ≡ Some s → slice_get new number ≡ Some t → ReadsOn index s t before after
      reads s t e f = subst (λ x. ReadsOn index x t before after) (same_Some _ _ (sym r.there ∙ e))
          (subst (λ x. ReadsOn index r.from x before after) (same_Some _ _ (sym r.now ∙ f)) r.reads)

-- What an engine owns after one of its streams is read on: nothing but its streams has changed.
pub record EngineReads (now later : EngineView) (number index : ℕ) (before after : World) : Type 0 where
  pub table : later.table ≡ now.table
  pub known : later.known ≡ now.known
  pub stored : later.stored ≡ now.stored
  pub noted : later.noted ≡ now.noted
  pub most : later.most ≡ now.most
  pub keeps : later.keeps ≡ now.keeps
  pub empties : later.empties ≡ now.empties
  pub room : later.room ≡ now.room
  pub streams : StreamsRead now.streams later.streams number index before after

-- the demand is one of the table's root, in the empty context
abbrev pub IsOfRoot : Demand → Type 0
IsOfRoot d = demand_of d.first d.world d.root.time d.root.space d.root.limit ≡ d

-- how far a stream may be drawn where these are its bytes: no further than it was, or through an element that is consulted
abbrev Drawn : Demand → Elements → List ℕ → (first last : Stream) → Contents → Type 0
Drawn d b m first last c =
    (last.consumed ≤ first.consumed)
    ⊎ ((j : ℕ) × ForSomeAdded d.first (λ a. In (m, j) (consults_on_nodes (equations_of (table_of d)) b d.root.limit a d.root.time d.root.space))
    × (last.consumed ≤ end_of_line (all_bytes c) j))

module _ (d : Demand) (of_root : IsOfRoot d) (now later : EngineView) (number index : ℕ) (n : List ℕ) (before after : World)
    (named : slice_get (table_of d).inputs number ≡ Some n) (apart : AllDiffer (places_of now.streams)) (r : EngineReads now later number index before after)
  where
    -- what was read before is read
    pub later_elements : Extends (known_elements now) (known_elements later)
    later_elements = subst (λ T. Extends (elements_read now.table.inputs now.streams) (elements_read T.inputs later.streams)) (sym r.table)
        (read_more now.streams later.streams number index before after r.streams apart now.table.inputs)

    -- that stream is drawn through the element at most,
    this_drawn : (b : Elements) → IsConsulted d b n index → DrawsWithin d.first now b before d.root.limit d.root.time d.root.space
        → (m : List ℕ) (first last : Stream) → slice_get (table_of d).inputs number ≡ Some m → slice_get d.first.streams number ≡ Some first
        → slice_get later.streams number ≡ Some last
        → IfSome (after.place last.place).contents (λ c. Drawn d b m first last c)
    this_drawn b consulted was m first last names e f =
        subst (λ x. IfSome (after.place x.place).contents (λ c. Drawn d b m first x c)) (same_Some _ _ (sym r.streams.now ∙ f))
        (subst (λ p. IfSome (after.place p).contents (λ c. Drawn d b m first r.streams.to c)) (sym r.streams.reads.place)
        (drawn_on (λ j. ForSomeAdded d.first (λ a. In (m, j) (consults_on_nodes (equations_of (table_of d)) b d.root.limit a d.root.time d.root.space)))
        (before.place r.streams.from.place).contents (after.place r.streams.from.place).contents first.consumed r.streams.from.consumed r.streams.to.consumed
        index (r.streams.bytes r.streams.from.place)
        (was number m first r.streams.from names e r.streams.there) r.streams.reads.bound
        (subst (λ x. ForSomeAdded d.first (λ a. In (x, index) (consults_on_nodes (equations_of (table_of d)) b d.root.limit a d.root.time d.root.space)))
        (same_Some _ _ (sym named ∙ names)) here)))
      where
        here : IsConsulted (demand_of d.first d.world d.root.time d.root.space d.root.limit) b n index
        here = subst (λ q. IsConsulted q b n index) (sym of_root) consulted

    -- and no other is drawn.
    later_drawn : (b : Elements) → IsConsulted d b n index → DrawsWithin d.first now b before d.root.limit d.root.time d.root.space
        → DrawsWithin d.first later b after d.root.limit d.root.time d.root.space
    later_drawn b consulted was k m first last names e f = elim (cases_eq k number) [
      | inl z ↦ this_drawn b consulted was m first last (subst (λ i. slice_get (table_of d).inputs i ≡ Some m) z names)
          (subst (λ i. slice_get d.first.streams i ≡ Some first) z e)
          (subst (λ i. slice_get later.streams i ≡ Some last) z f)
      | inr z ↦ subst (λ q. IfSome q.contents (λ c. Drawn d b m first last c))
          (sym (other_place now.streams later.streams number index before after r.streams apart k last z f))
          (was k m first last names e (sym (r.streams.others k z) ∙ f))
    ]

    -- A stream is read on for an element that the root looks up: what is true of what is owned stays so.
    pub stock_reads : ((b : Elements) → MayHave now b → IsConsulted d b n index) → Stock d now before → Stock d later after
    stock_reads consulted s = record {
      stock = λ b m. facts b (s.stock b (may b m));
      drawn = λ b m. later_drawn b (consulted b (may b m)) (s.drawn b (may b m));
      askable = asked_again now.streams later.streams number index before after r.streams apart s.askable;
    }
      where
        may : (b : Elements) → MayHave later b → MayHave now b
        may b m i j v e = m i j v (later_elements i j v e)

        facts : (b : Elements) → StockFacts d b now.known (holding now) now.stored.lost now.noted
            → StockFacts d b later.known (holding later) later.stored.lost later.noted
        facts b f =
            subst (λ k. StockFacts d b k (held_in k later.stored) later.stored.lost later.noted) (sym r.known)
            (subst (λ w. StockFacts d b now.known (held_in now.known w) w.lost later.noted) (sym r.stored)
            (subst (λ q. StockFacts d b now.known (holding now) now.stored.lost q) (sym r.noted) f))

    -- No other place is touched.
    reads_only_its : ReadsOnly (places_of now.streams) before after
    reads_only_its = record {
      names = r.streams.reads.others.names;
      asked = r.streams.reads.others.asked;
      reached = r.streams.reads.reached;
      others = λ k. elim (cases_eq k r.streams.from.place) [
        | inl z ↦ inl (subst (λ p. In p (places_of now.streams)) (sym z) (place_in now.streams number r.streams.from r.streams.there))
        | inr z ↦ inr (r.streams.reads.others.others k z)
      ];
      bytes = r.streams.bytes;
      faults = r.streams.reads.others.faults;
    }

    goes_on_reading : GoesOn now later
    goes_on_reading = record {
      table = r.table;
      most = r.most;
      keeps = r.keeps;
      empties = r.empties;
      room = r.room;
      elements = later_elements;
      known = subst (λ k. KeepsKnown now.known k) (sym r.known) (record { known = λ tag h. h; same = λ tag h. refl });
      lost = subst (λ w. now.stored.lost ≤ w.lost) (sym r.stored) (le_refl now.stored.lost);
      places = read_places now.streams later.streams number index before after r.streams apart;
    }

    -- So it is of all that is owned.
    pub owns_reads : ((b : Elements) → MayHave now b → IsConsulted d b n index) → Owns d now before → Owns d later after
    owns_reads consulted o = record {
      stock = stock_reads consulted o.stock;
      keys = subst (λ k. AreKeysKnown k later.stored) (sym r.known) (subst (λ w. AreKeysKnown now.known w) (sym r.stored) o.keys);
      contexts = subst (λ k. IsOneForOne k) (sym r.known) o.contexts;
      since = record {
        goes_on = goes_on_then d.first now later o.since.goes_on goes_on_reading;
        reads_only = reads_only_then (places_of d.first.streams) d.world before after o.since.reads_only
            (subst (λ ps. ReadsOnly ps before after) o.since.goes_on.places reads_only_its);
        few = λ h. subst (λ w. HoldsFew d.first.room w) (sym r.stored) (o.since.few h);
      };
    }

-- What lucid_inputs says of a read, by the streams' numbers.
pub streams_read : (old new : Inputs) (number index : ℕ) (before after : World) → number < length (streams old) → ReadsStream old number index new before after
    → StreamsRead (streams old) (streams new) number index before after
streams_read old new number index before after there r = record {
  from = stream_at old number;
  to = stream_at new number;
  there = get_there (streams old) number (fresh_stream 0) there;
  now = get_there (streams new) number (fresh_stream 0) (omega (arith, there, r.count));
  reads = r.asked;
  others = λ k other. same k (r.others k other);
  count = r.count;
  bytes = r.bytes;
}
  where
    same : (k : ℕ) → stream_at new k ≡ stream_at old k → slice_get (streams new) k ≡ slice_get (streams old) k
    same k e = elim (cases_lt k (length (streams old))) [
      | inl lt ↦ get_there (streams new) k (fresh_stream 0) (omega (arith, lt, r.count)) ∙ ap Some e ∙ sym (get_there (streams old) k (fresh_stream 0) lt)
      | inr le ↦ slice_get_past (streams new) k (omega (arith, le, r.count)) ∙ sym (slice_get_past (streams old) k le)
    ]

-- What lucid_inputs says of the places of streams, by the list of them.
pub inputs_apart : PlacesDiffer → (inputs : Inputs) → AllDiffer (places_of (streams inputs))
inputs_apart differ inputs = places_all_differ (streams inputs)
    (λ i k s t e f same. differ inputs i k (slice_get_within (streams inputs) i s e) (slice_get_within (streams inputs) k t f)
    (ap (λ o. (unwrap_or o (fresh_stream 0)).place) e ∙ same ∙ sym (ap (λ o. (unwrap_or o (fresh_stream 0)).place) f)))

-- Of each stream of inputs no more bytes are consumed than may be read.
pub inputs_within : KeepsWithin → (inputs : Inputs) (k : ℕ) (s : Stream) → slice_get (streams inputs) k ≡ Some s → s.consumed ≤ most_bytes inputs
inputs_within keeps inputs k s e = subst (λ (x : Stream). x.consumed ≤ most_bytes inputs) (ap (λ o. unwrap_or o (fresh_stream 0)) e) (keeps inputs k).0
