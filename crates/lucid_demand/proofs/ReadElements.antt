-- A row that reads an element: what is owned stays right, and the row may settle with the element, or the reading is refused.
use Rattle.lucid_demand.proofs.Common.{ℕ, List, Option, None, refl, sym, ap, ◌∙◌, subst, IsTrue, IfErr, slice_get, Value, plain, IsOverlong, Elements, inside-read, Task, TaskRow, World, Stream, all_bytes, GivesElement, equations_of, Table, In, plain_task, plain_row, plain_rows, task_visits, EngineView, known_elements, holding, MayHave, Demand, demand_of, RowFacts, Owns, Waits, plain_of_row, StreamsRead, OnTooLarge, Evaluating, Stepped, cost, MayAct, IsTaken, Settling, MaySettle, ReadsElement, DemandFault, TooDeep, ReadFault}
use Rattle.std.proofs.Common.{◌≡◌, Some}
use Rattle.std.specs.Prelude.{IfSome, Result, Ok, Err, IfOk, option_map}
use Rattle.lucid_tree.specs.Levels.{look_up_of}
use Rattle.lucid_tree.specs.Members.{AllDiffer}
use Rattle.lucid_tasks.specs.Rows.{row_at}
use Rattle.lucid_ports.specs.World.{Contents}
use Rattle.lucid_equations.specs.MoreElements.{Extends}
use Rattle.lucid_equations.specs.Visits.{consults_on_nodes}
use Rattle.lucid_demand_steps.specs.Engine.{ConsultsOverlong, places_of}
use Rattle.lucid_demand_steps.specs.Demands.{table_of, Answers, IsConsulted}
use Rattle.lucid_demand_steps.specs.Decisions.{MayRead}
use Rattle.lucid_demand_steps.proofs.References.{input-consults}
use Rattle.lucid_demand_steps.proofs.Answering.{element-answers}
use Rattle.lucid_demand_steps.proofs.Working.{work_later}
use Rattle.lucid_demand_steps.proofs.Places.{reads_its_element}
use Rattle.lucid_demand_steps.proofs.Reading.{EngineReads, later_elements, owns_reads}
use Rattle.lucid_demand_steps.specs.declared.decision.Decision.TheVariants as decision
use Rattle.lucid_demand_steps.specs.declared.fault.DemandFault.TheVariants.{TooLarge}
use Rattle.lucid_demand.proofs.SettledRows.{nothing_taken, stepped_from}

overlong_again : (o p : Option Contents) (index most : ℕ) → option_map all_bytes p ≡ option_map all_bytes o
    → IfSome o (λ c. IsOverlong (all_bytes c) index most)
    → IfSome p (λ c. IsOverlong (all_bytes c) index most)
overlong_again o None index most e h = tt
overlong_again None (Some c) index most e h = absurd (cc)
overlong_again (Some a) (Some c) index most e h = let f : all_bytes a ≡ all_bytes c = cc in subst (λ z. IsOverlong z index most) f h

-- the row that reads
module _ (d : Demand) (e : Evaluating) (slot number : ℕ) (before after : World) (act : MayAct d e before slot (decision.Read number)) (row : TaskRow)
    (at : row_at e.rows slot ≡ Some row) where
  abbrev name : List ℕ
  name = (act.justified row at).0

  named : slice_get (table_of d).inputs number ≡ Some name
  named = (act.justified row at).1

  may : MayRead (table_of d) (plain_task e.engine.known row.task) name row.task.time
  may = (act.justified row at).2

  apart : AllDiffer (places_of e.engine.streams)
  apart = subst (λ ps. AllDiffer ps) (sym act.step.waits.going.owns.since.goes_on.places) act.step.demand.places

  facts : (b : Elements) → MayHave e.engine b → RowFacts d b (holding e.engine) e.engine.stored.lost (plain_row e.engine.known row)
  facts b m = act.step.waits.going.work.each slot (plain_row e.engine.known row) (plain_of_row e.engine.known e.rows slot row at) b m

  -- the root looks the element up
  consulted : (b : Elements) → MayHave e.engine b → IsConsulted d b name row.task.time
  consulted b m =
      let s = (facts b m).seen in
      record {
        added = s.added;
        none = s.none;
        holds = λ a le. inside-read look_up_of (task_visits (table_of d) b a (plain_task e.engine.known row.task)) (task_visits (table_of d) b a d.root)
            (s.holds a le) (name, row.task.time)
            (input-consults (table_of d) b a (plain_task e.engine.known row.task) name row.task.time may);
      }

  module _ (streams : List Stream) (r : StreamsRead e.engine.streams streams number row.task.time before after) where
    abbrev later : EngineView
    later = record e.engine { streams = streams }

    reads : EngineReads e.engine later number row.task.time before after
    reads = record { table = refl; known = refl; stored = refl; noted = refl; most = refl; keeps = refl; empties = refl; room = refl; streams = r }

    more : Extends (known_elements e.engine) (known_elements later)
    more = later_elements d act.step.demand.of_root e.engine later number row.task.time name before after named apart reads

    owned : Owns d later after
    owned = owns_reads d act.step.demand.of_root e.engine later number row.task.time name before after named apart reads consulted act.step.waits.going.owns

    waits : Waits d later after e.rows
    waits = record {
      going = record {
        work = work_later d (known_elements e.engine) (known_elements later) (holding e.engine) e.engine.stored.lost (plain_rows e.engine.known e.rows) more
            act.step.waits.going.work;
        owns = owned;
      };
      known = act.step.waits.known;
    }

    table_is : later.table ≡ table_of d
    table_is = act.step.waits.going.owns.since.goes_on.table

    names_differ : AllDiffer later.table.inputs
    names_differ = subst (λ (T : Table). AllDiffer T.inputs) (sym table_is) act.step.demand.names

    named_now : slice_get later.table.inputs number ≡ Some name
    named_now = subst (λ (T : Table). slice_get T.inputs number ≡ Some name) (sym table_is) named

    -- the stream gives what it read, which is the element of all elements that there may be
    answered : (to : Stream) (v : Value) → slice_get streams number ≡ Some to → GivesElement to row.task.time (plain v) → (b : Elements) → MayHave later b
        → Answers d b (holding later) later.stored.lost (plain_task later.known row.task) (plain v)
    answered to v there gives b m =
        element-answers d b (holding later) later.stored.lost (plain_task later.known row.task) name row.task.time (plain v) may
        (m name row.task.time (plain v) (reads_its_element later.table.inputs streams number row.task.time name to (plain v) names_differ named_now there
        gives))

    -- an element that was too large is consulted
    overlong : (to : Stream) → slice_get streams number ≡ Some to → to.consumed ≡ e.engine.most
        → IfSome (after.place to.place).contents (λ c. IsOverlong (all_bytes c) row.task.time e.engine.most)
        → (b : Elements) → MayHave later b → ConsultsOverlong later b after number d.root.limit d.root.time d.root.space
    overlong to there full past b m = record {
      name = name;
      named = named_now;
      index = row.task.time;
      consulted = record {
        added = here.added;
        none = λ i. here.none (subst (λ t. IsTrue t) act.step.waits.going.owns.since.goes_on.empties i);
        holds = λ a le. subst (λ T. In (name, row.task.time) (consults_on_nodes (equations_of T) b d.root.limit a d.root.time d.root.space)) (sym table_is)
            (here.holds a le);
      };
      source = to;
      read_from = there;
      overlong = past;
      full = full;
    }
      where
        may_now : MayHave e.engine b
        may_now i j v q = m i j v (more i j v q)

        here : IsConsulted (demand_of d.first d.world d.root.time d.root.space d.root.limit) b name row.task.time
        here = subst (λ q. IsConsulted q b name row.task.time) (sym act.step.demand.of_root) (consulted b may_now)

module _ (d : Demand) (e new : Evaluating) (slot number : ℕ) (before after : World) (act : MayAct d e before slot (decision.Read number)) (row : TaskRow)
    (at : row_at e.rows slot ≡ Some row)
    (result : Result Value DemandFault) (r : ReadsElement e.engine new.engine number row.task.time before after result) where
  read_on : StreamsRead e.engine.streams new.engine.streams number row.task.time before after
  read_on = record { from = r.from; to = r.to; there = r.there; now = r.now; reads = r.reads; others = r.others; count = r.count; bytes = r.bytes }

  now_owned : Owns d new.engine after
  now_owned = subst (λ z. Owns d z after) (sym r.only) (owned d e slot number before after act row at new.engine.streams read_on)

  -- The element was read: the row may settle with it.
  pub read_may_settle : (v : Value) → result ≡ Ok v → new.rows ≡ e.rows → MaySettle (record { demand = d; world = after; before = e.rows }) new slot v
  read_may_settle v is same =
      subst (λ (z : EngineView). MaySettle (record { demand = d; world = after; before = e.rows }) (record { engine = z; rows = new.rows }) slot v) (sym r.only)
      (record {
        waits = waits d e slot number before after act row at new.engine.streams read_on;
        within = act.step.within;
        ready = act.step.ready;
        taken = subst (λ z. IsTaken e.rows z slot) (sym same) (nothing_taken e.rows slot act.step.ready);
        answers = λ q there b m. subst (λ (z : TaskRow).
            Answers d b (holding (later d e slot number before after act row at new.engine.streams read_on)) e.engine.stored.lost
            (plain_task e.engine.known z.task) (plain v))
            (one_row q there) (answered d e slot number before after act row at new.engine.streams read_on r.to v r.now gives b m);
      })
    where
      gives : GivesElement r.to row.task.time (plain v)
      gives = subst (λ z. IfOk z (λ x. GivesElement r.to row.task.time (plain x))) is r.element

      one_row : (q : TaskRow) → row_at e.rows slot ≡ Some q → row ≡ q
      one_row q there = let f : Some row ≡ Some q = sym at ∙ there in cc

  -- The reading is refused.
  pub read_refused : (f : DemandFault) → result ≡ Err f → Stepped d e new before after (Err f)
  read_refused f is = record {
    owns = now_owned;
    goes_on = tt;
    answers = tt;
    deep = λ q. absurd (r.not_deep (is ∙ ap Err (same f TooDeep q)));
    too_large = too_large f (subst (λ z. IfErr z (λ g. OnTooLarge g (λ k. (k ≡ number) × (r.to.consumed ≡ e.engine.most)
        × IfSome (before.place r.from.place).contents (λ c. IsOverlong (all_bytes c) row.task.time e.engine.most)))) is r.too_large);
    failed = λ q. r.failed (is ∙ ap Err (same f ReadFault q));
  }
    where
      same : (g h : DemandFault) → ◌≡◌ {A = Result (Option Value) DemandFault} (Err g) (Err h) → g ≡ h
      same g h q = cc

      past : IfSome (before.place r.from.place).contents (λ c. IsOverlong (all_bytes c) row.task.time e.engine.most)
          → IfSome (after.place r.to.place).contents (λ c. IsOverlong (all_bytes c) row.task.time e.engine.most)
      past h = subst (λ p. IfSome (after.place p).contents (λ c. IsOverlong (all_bytes c) row.task.time e.engine.most)) (sym r.reads.place)
          (overlong_again (before.place r.from.place).contents (after.place r.from.place).contents row.task.time e.engine.most (r.bytes r.from.place) h)

      too_large : (g : DemandFault) → OnTooLarge g (λ k. (k ≡ number) × (r.to.consumed ≡ e.engine.most)
          × IfSome (before.place r.from.place).contents (λ c. IsOverlong (all_bytes c) row.task.time e.engine.most))
          → OnTooLarge g (λ k. (b : Elements) → MayHave new.engine b → ConsultsOverlong new.engine b after k d.root.limit d.root.time d.root.space)
      too_large (TooLarge k) h =
          subst (λ i. (b : Elements) → MayHave new.engine b → ConsultsOverlong new.engine b after i d.root.limit d.root.time d.root.space) (sym h.0)
          (subst (λ z. (b : Elements) → MayHave z b → ConsultsOverlong z b after number d.root.limit d.root.time d.root.space) (sym r.only)
          (overlong d e slot number before after act row at new.engine.streams read_on r.to r.now h.1 (past h.2)))
      too_large _ h = tt

-- the row that is asked for its task
task_row : (rs inner : List (Option TaskRow)) (slot : ℕ) (x : Task) → inner ≡ rs → option_map (λ r. r.task) (row_at inner slot) ≡ Some x
    → (r : TaskRow) × (row_at rs slot ≡ Some r) × (r.task ≡ x)
task_row rs inner slot x same is = go (row_at rs slot) refl (ap (λ z. option_map (λ r. r.task) (row_at z slot)) (sym same) ∙ is)
  where
    go : (o : Option TaskRow) → row_at rs slot ≡ o → option_map (λ r. r.task) o ≡ Some x → (r : TaskRow) × (row_at rs slot ≡ Some r) × (r.task ≡ x)
    go None e h = absurd (cc)
    go (Some r) e h = (r, e, cc)

-- A row reads its element and settles with it.
pub settled_read : (d : Demand) (e mid new : Evaluating) (slot number : ℕ) (before after : World) (inner : List (Option TaskRow)) (x : Task) (v : Value)
    (element : Result Value DemandFault)
    (result : Result (Option Value) DemandFault) → inner ≡ e.rows → option_map (λ r. r.task) (row_at inner slot) ≡ Some x
    → ReadsElement e.engine mid.engine number x.time before after element
    → element ≡ Ok v → mid.rows ≡ e.rows
    → ((s : Settling) → MaySettle s mid slot v → Stepped s.demand (record { engine = mid.engine; rows = s.before }) new s.world s.world result)
    → MayAct d e before slot (decision.Read number) → Stepped d e new before after result
settled_read d e mid new slot number before after inner x v element result rows_are is reads ok same steps act =
    let f = task_row e.rows inner slot x rows_are is in
    let r = subst (λ (t : Task). ReadsElement e.engine mid.engine number t.time before after element) (sym f.2) reads in
    stepped_from d e (record { engine = mid.engine; rows = e.rows }) new before after result
    (ap (λ (z : EngineView). cost d (record { engine = z; rows = e.rows })) r.only)
    (steps (record { demand = d; world = after; before = e.rows }) (read_may_settle d e mid slot number before after act f.0 f.1 element r v ok same))

-- A refused reading is a step that refuses.
pub refused_read : (d : Demand) (e mid : Evaluating) (slot number : ℕ) (before after : World) (inner : List (Option TaskRow)) (x : Task)
    (element : Result Value DemandFault) (f : DemandFault)
    → inner ≡ e.rows → option_map (λ r. r.task) (row_at inner slot) ≡ Some x → ReadsElement e.engine mid.engine number x.time before after element
    → element ≡ Err f
    → MayAct d e before slot (decision.Read number) → Stepped d e mid before after (Err f)
refused_read d e mid slot number before after inner x element f rows_are is reads err act =
    let q = task_row e.rows inner slot x rows_are is in
    let r = subst (λ (t : Task). ReadsElement e.engine mid.engine number t.time before after element) (sym q.2) reads in
    read_refused d e mid slot number before after act q.0 q.1 element r f err
