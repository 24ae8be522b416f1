-- The walk: all that waits is wanted by the root, and what is read the root consults.
use Rattle.lucid_cert.proofs.Common.{◌≡◌, ℕ, ◌-◌, ◌≤◌, List, [], ◌∷◌, ◌++◌, length, Option, Some, None, ◌⊎◌, sym, ap, ◌∙◌, inl, subst, arith, Result, Ok, Err, IfSome, slice_get, same_Some, none-some, Elements, AllDiffer, Context, context_of, World, streams, PlacesDiffer, Inputs, IsInRange, Table, AreAskable, ConsultsOverlong, places_of, PlainTask, task_val, extends_then, inputs_apart, DemandFault, TooDeep, NoMemory, ReadFault, Why, Position, MayBe, AsDemanded, HasDrawn, root_task, view_of, AreFollowing, IsRoot, IsWaiting, Leaves, judgments_of, table_in, ReadsFor, ReadsNext, nothing_read, element_read, AllMayWait, AreWanted, IsWanted, MayWait, StaysWanted, task_at, Maker, Making}
use Rattle.lucid_tags.specs.Contexts.{root as empty}
use Rattle.lucid_ports.specs.World.{Contents}
use Rattle.lucid_inputs.specs.Streams.{Stream}
use Rattle.lucid_demand_steps.specs.Faults.{OnTooLarge}
use Rattle.lucid_demand_steps.specs.declared.fault.DemandFault.TheVariants.{TooLarge}
use Rattle.lucid_cert.proofs.DrawingOn.{drawn_on, overlong_consulted}
use Rattle.lucid_cert.proofs.Reading.{stay_read}
use Rattle.lucid_cert.proofs.Keeping.{each_fewer}
use Rattle.lucid_cert.proofs.WaitingOn.{each_last, next_is_wanted}
use Rattle.lucid_cert.proofs.Walking.{Walks}
use Rattle.lucid_cert.proofs.Wanting.{wants_itself}

-- What waits of a walk under way is wanted by the root, by all elements that there may be, and the root consults what was read.
pub record WalksWanted (T : Table) (first : Inputs) (limit time : ℕ) (m : Maker) (now : Inputs) (mid : World) : Type 0 where
  pub wanted : (b : Elements) → MayBe T now b → AreWanted b (root_task T limit time) m
  pub drawn : HasDrawn T first now mid limit time

-- at first nothing is drawn
drawn_not : (o : Option Contents) (x y : ℕ) (P : Contents → Type 0) → y ≡ x → IfSome o (λ c. (y ≤ x) ⊎ P c)
drawn_not None x y P e = tt
drawn_not (Some c) x y P e = inl (omega (arith, e))

nothing_drawn : (T : Table) (first : Inputs) (w : World) (limit time : ℕ) → HasDrawn T first first w limit time
nothing_drawn T first w limit time b m k n before after names e f =
    drawn_not (w.place after.place).contents before.consumed after.consumed _ (ap (λ (s : Stream). s.consumed) (same_Some after before (sym f ∙ e)))

module _ (T : Table) (range : IsInRange T) (first : Inputs) (limit time : ℕ) (known : List Context) (at : Position) (space most : ℕ) (now next : Inputs)
    (mid after : World)
    (want : (b : Elements) → MayBe T now b → IsWanted T b (root_task T limit time) (task_at known at space most))
    (count : length (streams now) ≡ length T.inputs)
    (apart : AllDiffer (places_of (streams now))) where
  -- No stream is drawn past what the root consults,
  pub drawn_for : (result : Result (Unit {0}) DemandFault) → AreAskable (streams now) mid → ReadsFor T at most now next mid after result
      → HasDrawn T first now mid limit time
      → HasDrawn T first next after limit time
  drawn_for result ask (nothing_read e f own) was =
      subst (λ (i : Inputs). HasDrawn T first i after limit time) (sym e) (subst (λ (w : World). HasDrawn T first now w limit time) (sym f) was)
  drawn_for result ask (element_read k row some r) was =
      drawn_on T first mid limit time range (task_at known at space most) k row some now next mid after want count r.there apart r.reads ask was

  -- and an element that is too large is consulted.
  pub too_large_for : (e : DemandFault) → ReadsFor T at most now next mid after (Err e)
      → OnTooLarge e (λ k. (b : Elements) → MayBe T next b → ConsultsOverlong (view_of T next) b after k limit time 0)
  too_large_for TooDeep r = tt
  too_large_for ReadFault r = tt
  too_large_for NoMemory r = tt
  too_large_for (TooLarge k) (nothing_read e f own) = absurd own
  too_large_for (TooLarge k) (element_read q row some r) =
      let h = r.too_large in
      subst (λ (i : ℕ). (b : Elements) → MayBe T next b → ConsultsOverlong (view_of T next) b after i limit time 0) (sym h.0)
      (overlong_consulted T first mid limit time range (task_at known at space most) q row some now next mid after want count r.there apart r.reads h.1 h.2)

-- A refusal is that of a demand.
as_refused : (T : Table) (first next : Inputs) (after : World) (limit time : ℕ) (e : DemandFault)
    → (e ≡ TooDeep → (b : Elements) → MayBe T next b → task_val T b (root_task T limit time) ≡ None)
    → OnTooLarge e (λ k. (b : Elements) → MayBe T next b → ConsultsOverlong (view_of T next) b after k limit time 0) → HasDrawn T first next after limit time
    → AsDemanded T first next after time limit (Err e)
as_refused T first next after limit time e deep large drawn = record {
  deep = λ q. let same : e ≡ TooDeep = cc in deep same;
  too_large = large;
  drawn = drawn;
}

-- What is made is within what a demand reads.
as_made : (T : Table) (first now : Inputs) (mid : World) (limit time : ℕ) (w : Why) → HasDrawn T first now mid limit time
    → AsDemanded T first now mid time limit (Ok w)
as_made T first now mid limit time w drawn = record { deep = λ q. absurd (cc); too_large = tt; drawn = drawn }

-- The walk begins with the root, which wants itself.
module _ (T : Table) (range : IsInRange T) (first : Inputs) (before : World) (limit time : ℕ) (differ : PlacesDiffer)
    (count : length (streams first) ≡ length T.inputs) (ask : AreAskable (streams first) before)
    (none : Maker) (root : Position) (table : table_in none ≡ T) (waiting : none.waiting.items ≡ []) (is_root : IsRoot (table_in none) root)
    (at_time : root.time ≡ time) (empty_context : context_of none.tags root.context ≡ empty) where
  root_is : task_at none.tags root 0 limit ≡ root_task T limit time
  root_is =
      ap (λ (n : ℕ). record (task_at none.tags root 0 limit) { node = n }) (is_root.node ∙ ap (λ (U : Table). U.root) table)
      ∙ (ap (λ (c : Context). record (root_task T limit root.time) { context = c }) empty_context ∙ ap (λ (t : ℕ). root_task T limit t) at_time)

  root_wanted : (b : Elements) → IsWanted T b (root_task T limit time) (task_at none.tags root 0 limit)
  root_wanted b = subst (λ (x : PlainTask). IsWanted T b (root_task T limit time) x) (sym root_is) (wants_itself T b (root_task T limit time))

  none_waits : (b : Elements) → AreWanted b (root_task T limit time) none
  none_waits b i w e = absurd (none-some w (sym (ap (λ (ws : List Making). slice_get ws i) waiting) ∙ e))

  module _ (m : Maker) (next : Inputs) (after : World) (result : Result (Unit {0}) DemandFault)
      (wanted : (b : Elements) (x : PlainTask) → IsInRange (table_in none) → IsWanted (table_in none) b x (task_at none.tags root 0 limit) → AreWanted b x none
      → StaysWanted b x none m result)
      (reads : ReadsFor (table_in none) root limit first next before after result) where
    stays : (b : Elements) → StaysWanted b (root_task T limit time) none m result
    stays b = wanted b (root_task T limit time) (subst IsInRange (sym table) range)
        (subst (λ (U : Table). IsWanted U b (root_task T limit time) (task_at none.tags root 0 limit)) (sym table) (root_wanted b)) (none_waits b)

    reads_root : ReadsFor T root limit first next before after result
    reads_root = subst (λ (U : Table). ReadsFor U root limit first next before after result) table reads

    drawn_first : HasDrawn T first next after limit time
    drawn_first = drawn_for T range first limit time none.tags root 0 limit first next before after (λ b m. root_wanted b) count (inputs_apart differ first)
        result ask reads_root (nothing_drawn T first before limit time)

  pub wanted_begins : (m : Maker) (next : Inputs) (after : World) (x : Unit {0})
      → ((b : Elements) (x : PlainTask) → IsInRange (table_in none) → IsWanted (table_in none) b x (task_at none.tags root 0 limit) → AreWanted b x none
      → StaysWanted b x none m (Ok tt))
      → ReadsFor (table_in none) root limit first next before after (Ok x) → WalksWanted T first limit time m next after
  wanted_begins m next after x wanted reads = record {
    wanted = λ b may. (stays m next after (Ok tt) wanted reads b).waits;
    drawn = drawn_first m next after (Ok tt) wanted reads;
  }

  pub wanted_not_begun : (m : Maker) (next : Inputs) (after : World) (e : DemandFault)
      → ((b : Elements) (x : PlainTask) → IsInRange (table_in none) → IsWanted (table_in none) b x (task_at none.tags root 0 limit) → AreWanted b x none
      → StaysWanted b x none m (Err e))
      → ReadsFor (table_in none) root limit first next before after (Err e) → AsDemanded T first next after time limit (Err e)
  wanted_not_begun m next after e wanted reads =
      as_refused T first next after limit time e (λ q b may.
      subst (λ (U : Table). task_val U b (root_task T limit time) ≡ None) table ((stays m next after (Err e) wanted reads b).deep (ap Err q)))
      (too_large_for T range first limit time none.tags root 0 limit first next before after (λ b m. root_wanted b) count (inputs_apart differ first) e
      (reads_root m next after (Err e) wanted reads))
      (drawn_first m next after (Err e) wanted reads)

-- The innermost that waits goes on.
module _ (T : Table) (range : IsInRange T) (first : Inputs) (before : World) (limit time : ℕ) (differ : PlacesDiffer)
    (count : length (streams first) ≡ length T.inputs)
    (root : Position) (m : Maker) (now : Inputs) (mid : World) (g : Walks T first before root m now mid) (h : WalksWanted T first limit time m now mid) where
  -- None waits.
  pub wanted_ends : (w : Why) → AsDemanded T first now mid time limit (Ok w)
  wanted_ends w = as_made T first now mid limit time w h.drawn

  pub wanted_breaks : AsDemanded T first now mid time limit (Err NoMemory)
  wanted_breaks = as_refused T first now mid limit time NoMemory (λ q. absurd (cc)) tt h.drawn

  module _ (p : Maker) (left : Leaves m p) (w : Making) (waiting : m.waiting.items ≡ p.waiting.items ++ w ∷ [])
      (is : IsWaiting (table_in p) p.tags (judgments_of p) w) where
    table_p : table_in p ≡ T
    table_p = left.table ∙ g.table

    range_p : IsInRange (table_in p)
    range_p = subst IsInRange (sym table_p) range

    all_before : (b : Elements) → MayBe T now b → AllMayWait (table_in p) b (root_task T limit time) p.tags (p.waiting.items ++ w ∷ [])
    all_before b may =
        subst (λ (ws : List Making). AllMayWait (table_in p) b (root_task T limit time) p.tags ws) waiting
        (subst (λ (known : List Context). AllMayWait (table_in p) b (root_task T limit time) known m.waiting.items) (sym left.known)
        (subst (λ (U : Table). AllMayWait U b (root_task T limit time) m.tags m.waiting.items) (sym left.table) (h.wanted b may)))

    others_wait : (b : Elements) → MayBe T now b → AreWanted b (root_task T limit time) p
    others_wait b may = each_fewer (MayWait (table_in p) b (root_task T limit time) p.tags) p.waiting.items (w ∷ []) (all_before b may)

    it_waits : (b : Elements) → MayBe T now b → MayWait (table_in p) b (root_task T limit time) p.tags w
    it_waits b may = each_last (MayWait (table_in p) b (root_task T limit time) p.tags) p.waiting.items w (all_before b may)

    abbrev Keeps : Maker → Result (Unit {0}) DemandFault → Type 0
    Keeps new result =
        (b : Elements) (x : PlainTask) → IsInRange (table_in p) → AreFollowing b p → MayWait (table_in p) b x p.tags w → AreWanted b x p
        → StaysWanted b x p new result

    module _ (follow : (b : Elements) → MayBe T now b → AreFollowing b p) (next : Inputs) (after : World) (result : Result (Unit {0}) DemandFault)
        (reads : ReadsNext (table_in p) w now next mid after result) where
      reads_next : ReadsFor T reads.at (w.limit - reads.references) now next mid after result
      reads_next = subst (λ (U : Table). ReadsFor U reads.at (w.limit - reads.references) now next mid after result) table_p reads.reads

      may_now : (b : Elements) → MayBe T next b → MayBe T now b
      may_now b may = extends_then _ _ b (stay_read T now next mid after (inputs_apart differ now) reads.at (w.limit - reads.references) result reads_next) may

      next_wanted : (b : Elements) → MayBe T now b → IsWanted T b (root_task T limit time) (task_at p.tags reads.at reads.space (w.limit - reads.references))
      next_wanted b may =
          subst (λ (U : Table). IsWanted U b (root_task T limit time) (task_at p.tags reads.at reads.space (w.limit - reads.references))) table_p
          (next_is_wanted (table_in p) range_p b (root_task T limit time) p.tags (judgments_of p) w reads.at reads.space reads.references is (it_waits b may)
          reads.wants)

      drawn_next : HasDrawn T first next after limit time
      drawn_next = drawn_for T range first limit time p.tags reads.at reads.space (w.limit - reads.references) now next mid after next_wanted
          (g.read.count ∙ count) (inputs_apart differ now) result g.read.askable reads_next h.drawn

      kept : (new : Maker) → Keeps new result → (b : Elements) → MayBe T next b → StaysWanted b (root_task T limit time) p new result
      kept new keeps b may =
          let now_may = may_now b may in keeps b (root_task T limit time) range_p (follow b now_may) (it_waits b now_may) (others_wait b now_may)

    pub wanted_on : ((b : Elements) → MayBe T now b → AreFollowing b p) → (next : Inputs) (after : World) (new : Maker) → Keeps new (Ok tt)
        → ReadsNext (table_in p) w now next mid after (Ok tt)
        → WalksWanted T first limit time new next after
    wanted_on follow next after new keeps reads = record {
      wanted = λ b may. (kept follow next after (Ok tt) reads new keeps b may).waits;
      drawn = drawn_next follow next after (Ok tt) reads;
    }

    pub wanted_refused : ((b : Elements) → MayBe T now b → AreFollowing b p) → (next : Inputs) (after : World) (new : Maker) (e : DemandFault)
        → Keeps new (Err e) → ReadsNext (table_in p) w now next mid after (Err e)
        → AsDemanded T first next after time limit (Err e)
    wanted_refused follow next after new e keeps reads =
        as_refused T first next after limit time e (λ q b may.
        subst (λ (U : Table). task_val U b (root_task T limit time) ≡ None) table_p
        ((kept follow next after (Err e) reads new keeps b may).deep (ap Err q)))
        (too_large_for T range first limit time p.tags reads.at reads.space (w.limit - reads.references) now next mid after
        (next_wanted follow next after (Err e) reads) (g.read.count ∙ count)
        (inputs_apart differ now) e (reads_next follow next after (Err e) reads))
        (drawn_next follow next after (Err e) reads)
