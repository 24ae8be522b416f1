-- What is read for what is wanted: no stream is drawn past an element that the root consults, and one that is too large is consulted.
use Rattle.lucid_cert.proofs.Common.{◌≡◌, ℕ, ◌<◌, [], ◌∷◌, length, Option, Some, None, inl, refl, sym, ◌∙◌, subst, arith, get_or, true≢false, slice_get, IfSome, false, true, slice_get-get_or, AllDiffer, Elements, root, World, Inputs, ReadsStream, streams, stream_at, IsInRange, row_at, Input, Table, PlainTask, AreAskable, ConsultsOverlong, places_of, streams_read, read_more, MayBe, stream_there, view_of, root_task, HasDrawn, IsWanted}
use Rattle.lucid_value.specs.Lines.{IsOverlong}
use Rattle.lucid_inputs.specs.Inputs.{most_bytes}
use Rattle.lucid_inputs.specs.Streams.{all_bytes}
use Rattle.lucid_search.specs.Noted.{nothing_noted}
use Rattle.lucid_demand_steps.specs.Engine.{holding}
use Rattle.lucid_demand_steps.specs.Demands.{Demand, demand_of, IsConsulted}
use Rattle.lucid_demand_steps.specs.Stock.{StockFacts}
use Rattle.lucid_demand_steps.proofs.Reading.{EngineReads, stock_reads}
use Rattle.lucid_cert.specs.CheckReads.{LiesPast}
use Rattle.lucid_cert.proofs.Drawing.{of_bytes}
use Rattle.lucid_cert.proofs.Wanting.{input_is_consulted}

not_none : {P : Type 0} → true ≡ false → P
not_none e = absurd (true≢false e)

some_of_none : {A P : Type 0} (x : A) → ◌≡◌ {A = Option A} None (Some x) → P
some_of_none x e = absurd (cc)

module _ (T : Table) (first : Inputs) (w : World) (limit time : ℕ) where
  abbrev demand : Demand
  demand = demand_of (view_of T first) w time 0 limit

  -- nothing is held, and nothing is noted
  nothing_held : (b : Elements) (now : Inputs) → StockFacts demand b (root ∷ []) (holding (view_of T now)) 0 nothing_noted
  nothing_held b now = record {
    right = λ d s v h. some_of_none v h;
    stays = λ k s v h. h;
    traced = λ k s h. not_none (sym h);
    closed = λ keeps lost d x u s h. not_none (sym h);
    noted_right = λ node tag key number h. some_of_none number h;
    noted_closed = λ keeps lost node tag key number h. some_of_none number h;
    contexts = λ c i. inl i;
  }

  -- what a wanted input tells, the root looks up
  consulted : (range : IsInRange T) (b : Elements) (x : PlainTask) (k : ℕ) → IsWanted T b (root_task T limit time) x → row_at T x.node ≡ Some (Input k)
      → 0 < x.limit
      → IsConsulted demand b (get_or T.inputs k []) x.time
  consulted range b x k want there some = record {
    added = want.added;
    none = λ e. not_none (sym e);
    holds = λ d l. input_is_consulted T b (root_task T limit time) x want range k there some d l;
  }

  module _ (range : IsInRange T) (x : PlainTask) (k : ℕ) (there : row_at T x.node ≡ Some (Input k)) (some : 0 < x.limit) (now next : Inputs)
      (before after : World)
      (want : (b : Elements) → MayBe T now b → IsWanted T b (root_task T limit time) x) (count : length (streams now) ≡ length T.inputs)
      (below : k < length (streams now))
      (apart : AllDiffer (places_of (streams now))) (r : ReadsStream now k x.time next before after) where
    named : slice_get T.inputs k ≡ Some (get_or T.inputs k [])
    named = slice_get-get_or T.inputs k [] (omega (arith, count, below))

    reads : EngineReads (view_of T now) (view_of T next) k x.time before after
    reads = record {
      table = refl;
      known = refl;
      stored = refl;
      noted = refl;
      most = r.most;
      keeps = refl;
      empties = refl;
      room = refl;
      streams = streams_read now next k x.time before after below r;
    }

    may_before : (b : Elements) → MayBe T next b → MayBe T now b
    may_before b m n j v e = m n j v (read_more (streams now) (streams next) k x.time before after (streams_read now next k x.time before after below r) apart
        T.inputs n j v e)

    -- No stream is drawn further,
    pub drawn_on : AreAskable (streams now) before → HasDrawn T first now before limit time → HasDrawn T first next after limit time
    drawn_on ask was =
        (stock_reads demand refl (view_of T now) (view_of T next) k x.time (get_or T.inputs k []) before after named apart reads
        (λ b m. consulted range b x k (want b m) there some)
        (record { stock = λ b m. nothing_held b now; drawn = was; askable = ask })).drawn

    -- and one that is too large is consulted.
    pub overlong_consulted : LiesPast now before k x.time → (stream_at next k).consumed ≡ most_bytes now → (b : Elements) → MayBe T next b
        → ConsultsOverlong (view_of T next) b after k limit time 0
    overlong_consulted past full b m = record {
      name = get_or T.inputs k [];
      named = named;
      index = x.time;
      consulted = record { added = here.added; none = λ e. not_none (sym e); holds = λ d l. here.holds d l };
      source = stream_at next k;
      read_from = stream_there next k (omega (arith, below, r.count));
      overlong = subst (λ (p : ℕ). IfSome (after.place p).contents (λ c. IsOverlong (all_bytes c) x.time (most_bytes next))) (sym r.asked.place)
          (subst (λ (q : ℕ). IfSome (after.place (stream_at now k).place).contents (λ c. IsOverlong (all_bytes c) x.time q)) (sym r.most)
          (of_bytes (λ bs. IsOverlong bs x.time (most_bytes now)) (before.place (stream_at now k).place).contents (after.place (stream_at now k).place).contents
          (r.bytes (stream_at now k).place) past));
      full = full ∙ sym r.most;
    }
      where
        here : IsConsulted demand b (get_or T.inputs k []) x.time
        here = consulted range b x k (want b (may_before b m)) there some
