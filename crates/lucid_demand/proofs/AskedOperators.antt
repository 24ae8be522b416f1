-- An operator is asked for: what is so after each look at an argument, the row that has its first argument, an argument that is asked for with the
-- row, and a value that is given at once.
use Rattle.lucid_demand.proofs.Common.{ℕ, List, [], ◌∷◌, DemandIn, Option, None, refl, sym, ap, ◌∙◌, subst, arith, slice_get, slice_set, Value, plain, Key, KeepsKnown, Task, TaskRow, Got, value_at, World, state_at, plain_task, plain_row, EngineView, holding, Demand, at_it, arity, Aim, Evaluating, cost, MayAskNow, MayRefer, SetsPart, IsTurned, AsksIn, DemandFault, NoMemory, IsSome}
use Rattle.std.proofs.Common.{◌≡◌, ◌<◌, Some}
use Rattle.std.specs.Prelude.{Result, Ok, Err, IfSome, option_map}
use Rattle.lucid_tasks.specs.declared.Part.{Part}
use Rattle.lucid_tasks.specs.Rows as rows
use Rattle.lucid_ops.specs.Algebra.{algebra}
use Rattle.lucid_demand_steps.specs.Tasks.{key_list}
use Rattle.lucid_demand_steps.specs.Tasks as tasks
use Rattle.lucid_demand_steps.specs.Demands.{table_of}
use Rattle.lucid_demand_steps.proofs.Standing.{standing-answers}
use Rattle.lucid_demand_steps.proofs.Coming.{arguments_may_be_asked}
use Rattle.lucid_demand_steps.proofs.OperatorParts.{operator_node, operator_part}
use Rattle.lucid_demand.specs.declared.operators.Operation.{Operation}
use Rattle.lucid_demand.specs.Naming.{MayHaveRow, MayGiveAtOnce, AnswersTask}
use Rattle.lucid_demand.specs.Telling.{IsOperation, IsTold, LooksAt, HasFirst}
use Rattle.lucid_demand.proofs.MayAsk.{part_may_be_asked}
use Rattle.lucid_demand.proofs.Turning.{turned_cost}
use Rattle.lucid_demand.proofs.AskedParts.{Passes, passes_then, refers_now, asked_refused, asked_from, asked_given, given_turned, given_sets, only_set}
use Rattle.lucid_demand.proofs.NamedBodies.{row_asked, row_sets, within_sets, asked_on}
use Rattle.lucid_demand.proofs.ToldOperators.{row_turned, task_answers_turned, row_looked, task_answers_looked, told_answers, operation_answers}

-- ---- what a look and a turn leave

pub passes_looked : (old new : Evaluating) → LooksAt old new → Passes old new
passes_looked old new l = record {
  rows_stay = ap (λ (e : Evaluating). e.rows) l.only;
  only = only_set new.engine old.engine old.engine.known new.engine.stored old.engine.noted (ap (λ (e : Evaluating). e.engine) l.only);
  keeps = subst (λ (e : Evaluating). KeepsKnown old.engine.known e.engine.known) (sym l.only) (record { known = λ tag h. h; same = λ tag h. refl });
}

passes_turned : (old new : Evaluating) → IsTurned old.engine new.engine → new.rows ≡ old.rows → Passes old new
passes_turned old new t same = record {
  rows_stay = same;
  only = only_set new.engine old.engine old.engine.known new.engine.stored new.engine.noted t.only;
  keeps = subst (λ (e : EngineView). KeepsKnown old.engine.known e.known) (sym t.only) (record { known = λ tag h. h; same = λ tag h. refl });
}

-- an operation is one where no more changed
pub operation_then : (old new : Evaluating) → Passes old new → (n : ℕ) (o : Operation) → IsOperation old.engine.table n o → IsOperation new.engine.table n o
operation_then old new p n o is = subst (λ T. IsOperation T n o) (sym (ap (λ (e : EngineView). e.table) p.only)) is

-- In a demand an operation may still have a row, at the cost that there was.
pub record Looked (d : Demand) (old now : Evaluating) (w : World) (part : Option Part) (x y : Task) (key : Option Key) (o : Operation) : Type 0 where
  pub row : MayHaveRow d now w part x y key
  pub costs : cost d now ≡ cost d old
  pub is : IsOperation (table_of d) y.node o

looked_first : (d : Demand) (old : Evaluating) (w : World) (part : Option Part) (x y : Task) (key : Option Key) (o : Operation)
    → IsOperation old.engine.table y.node o → MayHaveRow d old w part x y key → Looked d old old w part x y key o
looked_first d old w part x y key o is m = record {
  row = m;
  costs = refl;
  is = subst (λ T. IsOperation T y.node o) m.may.owns.since.goes_on.table is;
}

module _ (d : Demand) (old now : Evaluating) (w : World) (part : Option Part) (x y : Task) (key : Option Key) (o : Operation)
    (k : Looked d old now w part x y key o) where
  -- after a look,
  looks_on : (new : Evaluating) → LooksAt now new → Looked d old new w part x y key o
  looks_on new l = record { row = row_looked d now new w part x y key k.row l; costs = ap (cost d) l.only ∙ k.costs; is = k.is }

  -- and after the policy's turn
  looks_turned : (new : Evaluating) → IsTurned now.engine new.engine → new.rows ≡ now.rows → Looked d old new w part x y key o
  looks_turned new t same = record { row = row_turned d now new w part x y key k.row t same; costs = turned_cost d now new t same ∙ k.costs; is = k.is }

  -- There is no memory for what is done next,
  operation_refused : (res : Result (Option Value) DemandFault) → res ≡ Err NoMemory → AsksIn d old now w part res
  operation_refused res is = subst (λ r. AsksIn d old now w part r) (sym is)
      (asked_refused d old now w part x k.row.least k.row.may k.costs now.rows)

  -- or it is done.
  operation_done : (new : Evaluating) (res : Result (Option Value) DemandFault) → (MayHaveRow d now w part x y key → AsksIn d now new w part res)
      → AsksIn d old new w part res
  operation_done new res asks = asked_from d old now new w part res k.costs (asks k.row)

-- ---- a row for an operation

-- a row of a task, with these parts
abbrev row_with : Task → Option Part → Option Key → List rows.PartState → TaskRow
row_with y part key ps = record { task = y; parent = part; cursor = rows.start; key = key; parts = ps }

module _ (d : Demand) (o e : Evaluating) (view : o ≡ e) (w : World) (part : Option Part) (x y : Task) (key : Option Key) (m : MayHaveRow d e w part x y key)
    (op : Operation) (is : IsOperation e.engine.table y.node op) where
  here : MayHaveRow d o w part x y key
  here = subst (λ z. MayHaveRow d z w part x y key) (sym view) m

  is_here : IsOperation (table_of d) y.node op
  is_here = subst (λ T. IsOperation T y.node op) m.may.owns.since.goes_on.table is

  -- It may ask for an argument that isn't asked for and has no value.
  module _ (rs : List (Option TaskRow)) (slot : ℕ) (asked : AsksIn d e (record { engine = o.engine; rows = rs }) w part (Ok None)) (ps : List rows.PartState)
      (at : rows.row_at rs slot ≡ Some (row_with y part key ps)) (i n : ℕ) (low : i < 2)
      (arg : slice_get (op.first ∷ op.second ∷ is_here.rest) i ≡ Some n)
      (free : state_at (plain_row o.engine.known (row_with y part key ps)).parts i ≡ tasks.idle) where
    argument_asked : MayAskNow d (record { engine = o.engine; rows = rs }) w (Some (record { slot = slot; index = i })) (record y { node = n })
    argument_asked =
        part_may_be_asked d (record { engine = o.engine; rows = rs }) w here.may.demand asked.goes_on.0 asked.nothing (record { slot = slot; index = i })
        (row_with y part key ps) at (record y { node = n }) (
          arguments_may_be_asked (table_of d) (plain_row o.engine.known (row_with y part key ps)) op.op (arity op.op)
              (operator_node (table_of d) y.node op.op (op.first ∷ op.second ∷ is_here.rest) here.may.demand.in_range is_here.row).0 i
              (operator_node (table_of d) y.node op.op (op.first ∷ op.second ∷ is_here.rest) here.may.demand.in_range is_here.row).1
              (omega (arith, low, is_here.two)) (omega (arith, is_here.two)) free,
          operator_part (table_of d) (plain_row o.engine.known (row_with y part key ps)) op.op (op.first ∷ op.second ∷ is_here.rest) i n
              here.may.demand.in_range is_here.row (omega (arith, low, is_here.two)) arg,
          here.tag,
        )

    argument_refers : MayRefer d (record { engine = o.engine; rows = rs }) w (Some (record { slot = slot; index = i })) (record y { node = n })
    argument_refers = refers_now d (record { engine = o.engine; rows = rs }) w (Some (record { slot = slot; index = i })) (record y { node = n }) argument_asked

  module _ (rs : List (Option TaskRow)) (slot : ℕ) (past : rows.IsPast o.rows slot) (asks : rows.Asks o.rows rs part slot y key) where
    its_row : rows.row_at rs slot ≡ Some (row_with y part key rows.all_idle)
    its_row = asks slot ∙ at_it slot slot (Some (rows.fresh y part key)) _ refl

    row_made : AsksIn d e (record { engine = o.engine; rows = rs }) w part (Ok None)
    row_made = row_asked o e view d w part x y key m rs slot past asks None refl

    -- Its first argument is asked for with it.
    pub first_absent : (a : Aim) → value_at e.engine.stored a.key ≡ None → (new : Evaluating) (res : Result (Option Value) DemandFault)
        → (MayRefer d (record { engine = o.engine; rows = rs }) w (Some (record { slot = slot; index = 0 })) (record y { node = op.first })
        → value_at o.engine.stored a.key ≡ None
        → AsksIn d (record { engine = o.engine; rows = rs }) new w (Some (record { slot = slot; index = 0 })) res)
        → AsksIn d e new w part res
    first_absent a none new res within =
        asked_on d e (record { engine = o.engine; rows = rs }) new w part (record { slot = slot; index = 0 }) res row_made
        (within (argument_refers rs slot row_made rows.all_idle its_row 0 op.first (omega arith) refl refl)
        (subst (λ (z : Evaluating). value_at z.engine.stored a.key ≡ None) (sym view) none))

    -- It has its first argument,
    module _ (first : Value) (answers : AnswersTask d e (record y { node = op.first }) first) (given : List (Option TaskRow))
        (gives : rows.Gives rs given (Some (record { slot = slot; index = 0 })) first) where
      first_given : AsksIn d e (record { engine = o.engine; rows = given }) w part (Ok None)
      first_given =
          asked_on d e (record { engine = o.engine; rows = rs }) (record { engine = o.engine; rows = given }) w part (record { slot = slot; index = 0 })
          (Ok None) row_made
          (asked_given d (record { engine = o.engine; rows = rs }) (record { engine = o.engine; rows = rs }) w (Some (record { slot = slot; index = 0 }))
          (record y { node = op.first }) _ (argument_asked rs slot row_made rows.all_idle its_row 0 op.first (omega arith) refl refl) refl given first
          (subst (λ z. AnswersTask d z (record y { node = op.first }) first) (sym view) answers) gives)

      given_row : rows.row_at given slot ≡ Some (row_with y part key (slice_set rows.all_idle 0 (Got first)))
      given_row = gives slot ∙ at_it slot slot (option_map (rows.with_part 0 (Got first)) (rows.row_at rs slot)) (rows.row_at rs slot) refl
          ∙ ap (option_map (rows.with_part 0 (Got first))) its_row

      -- and its second is asked for with it.
      second_absent : (a : Aim) → value_at e.engine.stored a.key ≡ None → (new : Evaluating) (res : Result (Option Value) DemandFault)
          → (MayRefer d (record { engine = o.engine; rows = given }) w (Some (record { slot = slot; index = 1 })) (record y { node = op.second })
          → value_at o.engine.stored a.key ≡ None
          → AsksIn d (record { engine = o.engine; rows = given }) new w (Some (record { slot = slot; index = 1 })) res)
          → AsksIn d e new w part res
      second_absent a none new res within =
          asked_on d e (record { engine = o.engine; rows = given }) new w part (record { slot = slot; index = 1 }) res first_given
          (within (argument_refers given slot first_given (slice_set rows.all_idle 0 (Got first)) given_row 1 op.second (omega arith) refl refl)
          (subst (λ (z : Evaluating). value_at z.engine.stored a.key ≡ None) (sym view) none))

-- The engine with such a row.
module _ (e made : Evaluating) (part : Option Part) (slot : ℕ) (y : Task) (key : Option Key) (first : Value)
    (h : HasFirst e.rows made.rows part slot y key first) (same : made.engine ≡ e.engine) where
  so : record { engine = e.engine; rows = made.rows } ≡ made
  so = λ i. record { engine = sym same i; rows = made.rows }

  its_parts : rows.row_at made.rows slot ≡ Some (row_with y part key (slice_set rows.all_idle 0 (Got first)))
  its_parts = h.gives slot ∙ at_it slot slot (option_map (rows.with_part 0 (Got first)) (rows.row_at h.between slot)) (rows.row_at h.between slot) refl
      ∙ ap (option_map (rows.with_part 0 (Got first))) (h.asks slot ∙ at_it slot slot (Some (rows.fresh y part key)) _ refl)

  -- Its second part is idle,
  pub made_idle : rows.IsIdlePart made.rows (record { slot = slot; index = 1 })
  made_idle = record {
    row = subst (λ o. IsSome o) (sym its_parts) refl;
    index = omega arith;
    idle = ap (option_map (rows.state_at 1)) its_parts;
  }

  -- and the part that it is for waits for it.
  pub made_sets : IfSome part (rows.IsIdlePart e.rows) → IfSome part (SetsPart e made)
  made_sets idle =
      within_sets e (record { engine = e.engine; rows = h.between }) made part (record { slot = slot; index = 0 }) idle h.past
      (row_sets e e refl part y key idle h.between slot h.past h.asks)
      (given_sets (record { engine = e.engine; rows = h.between }) made h.between refl
      (only_set made.engine e.engine e.engine.known e.engine.stored e.engine.noted same)
      (subst (λ (z : EngineView). KeepsKnown e.engine.known z.known) (sym same) (record { known = λ tag k. k; same = λ tag k. refl }))
      (Some (record { slot = slot; index = 0 })) first h.gives)

  pub made_given : (d : Demand) (w : World) (x : Task) (op : Operation) → MayHaveRow d e w part x y key → IsOperation e.engine.table y.node op
      → AnswersTask d e (record y { node = op.first }) first → (r : Option Value) → r ≡ None → AsksIn d e made w part (Ok r)
  made_given d w x op m is answers r none = subst (λ z. AsksIn d e made w part (Ok z)) (sym none) (subst (λ z. AsksIn d e z w part (Ok None)) so
      (first_given d e e refl w part x y key m op is h.between slot h.past h.asks first answers made.rows h.gives))

  pub made_absent : (d : Demand) (w : World) (x : Task) (op : Operation) → MayHaveRow d e w part x y key → IsOperation e.engine.table y.node op
      → AnswersTask d e (record y { node = op.first }) first → (a : Aim) → value_at e.engine.stored a.key ≡ None
      → (new : Evaluating) (res : Result (Option Value) DemandFault)
      → (MayRefer d made w (Some (record { slot = slot; index = 1 })) (record y { node = op.second }) → value_at made.engine.stored a.key ≡ None
      → AsksIn d made new w (Some (record { slot = slot; index = 1 })) res)
      → AsksIn d e new w part res
  made_absent d w x op m is answers a none new res within =
      second_absent d e e refl w part x y key m op is h.between slot h.past h.asks first answers made.rows h.gives a none new res
      (subst (λ z. MayRefer d z w (Some (record { slot = slot; index = 1 })) (record y { node = op.second }) → value_at z.engine.stored a.key ≡ None
      → AsksIn d z new w (Some (record { slot = slot; index = 1 })) res) (sym so) within)

-- ---- a value that is given at once, without a key

pub at_once_given : (d : Demand) (e : Evaluating) (w : World) (part : Option Part) (x y : Task) (v : Value) → MayGiveAtOnce d e w part x y None v
    → (rs : List (Option TaskRow)) → rows.Gives e.rows rs part v → (new : Evaluating) → IsTurned e.engine new.engine → new.rows ≡ rs
    → (r : Option Value) → r ≡ rows.returned part v → AsksIn d e new w part (Ok r)
at_once_given d e w part x y v g rs gives new t same r told = subst (λ z. AsksIn d e new w part (Ok z)) (sym told)
    (given_turned d e e w part x g.row.least g.row.may.owns g.row.may.is_for refl v
    (λ b z. standing-answers d b (holding e.engine) e.engine.stored.lost (key_list None) (plain_task e.engine.known y) (plain_task e.engine.known x) (plain v) g.row.stands
    (λ keeps none k i. absurd i) (g.answers b z)) rs gives new t same)

-- ---- an operation is asked for, and its first argument was looked at

module _ (old mid : Evaluating) (part : Option Part) (y : Task) (key : Option Key) (o : Operation) (is : IsOperation old.engine.table y.node o)
    (l : LooksAt old mid) where
  at_first : (i : DemandIn) (x : Task) → MayHaveRow i.demand old i.world part x y key → Looked i.demand old mid i.world part x y key o
  at_first i x may = looks_on i.demand old old i.world part x y key o (looked_first i.demand old i.world part x y key o is may) mid l

  -- There was no memory for its value, or for a row,
  pub first_refused : (res : Result (Option Value) DemandFault) → res ≡ Err NoMemory → (i : DemandIn) (x : Task)
      → MayHaveRow i.demand old i.world part x y key → AsksIn i.demand old mid i.world part res
  first_refused res none i x may = operation_refused i.demand old mid i.world part x y key o (at_first i x may) res none

  -- or it isn't told.
  pub first_lacks : (new : Evaluating) (res : Result (Option Value) DemandFault) (i : DemandIn) (x : Task)
      → (MayHaveRow i.demand mid i.world part x y key → AsksIn i.demand mid new i.world part res)
      → MayHaveRow i.demand old i.world part x y key → AsksIn i.demand old new i.world part res
  first_lacks new res i x asks may = operation_done i.demand old mid i.world part x y key o (at_first i x may) new res asks

  pub first_operation : IsOperation mid.engine.table y.node o
  first_operation = operation_then old mid (passes_looked old mid l) y.node o is

  -- It is told, the policy had its turn, and the second was looked at.
  module _ (v : Value) (told : IsTold mid (record y { node = o.first }) v) (turned later : Evaluating) (t : IsTurned mid.engine turned.engine)
      (same : turned.rows ≡ mid.rows) (n : LooksAt turned later) where
    at_turn : (i : DemandIn) (x : Task) → MayHaveRow i.demand old i.world part x y key → Looked i.demand old turned i.world part x y key o
    at_turn i x may = looks_turned i.demand old mid i.world part x y key o (at_first i x may) turned t same

    at_second : (i : DemandIn) (x : Task) → MayHaveRow i.demand old i.world part x y key → Looked i.demand old later i.world part x y key o
    at_second i x may = looks_on i.demand old turned i.world part x y key o (at_turn i x may) later n

    first_then : (i : DemandIn) (x : Task) → MayHaveRow i.demand old i.world part x y key → AnswersTask i.demand later (record y { node = o.first }) v
    first_then i x may =
        task_answers_looked i.demand turned later i.world part x y key (at_turn i x may).row n (record y { node = o.first }) v
        (task_answers_turned i.demand mid turned i.world part x y key (at_first i x may).row t (record y { node = o.first }) v
        (told_answers i.demand mid i.world part x y key (at_first i x may).row (record y { node = o.first }) v told))

    -- The rows are those that there were.
    pub both_pass : Passes old later
    both_pass = passes_then old mid later (passes_looked old mid l) (passes_then mid turned later (passes_turned mid turned t same) (passes_looked turned later n))

    -- There was no memory for its value, or for what comes then;
    pub second_refused : (res : Result (Option Value) DemandFault) → res ≡ Err NoMemory → (i : DemandIn) (x : Task)
        → MayHaveRow i.demand old i.world part x y key → AsksIn i.demand old later i.world part res
    second_refused res none i x may = operation_refused i.demand old later i.world part x y key o (at_second i x may) res none

    -- nor for the row;
    pub row_with_refused : (made : Evaluating) → made.engine ≡ later.engine → (res : Result (Option Value) DemandFault) → res ≡ Err NoMemory
        → (i : DemandIn) (x : Task) → MayHaveRow i.demand old i.world part x y key → AsksIn i.demand old made i.world part res
    row_with_refused made same_engine res none i x may = subst (λ r. AsksIn i.demand old made i.world part r) (sym none)
        (subst (λ (z : EngineView). AsksIn i.demand old (record { engine = z; rows = made.rows }) i.world part (Err NoMemory)) (sym same_engine)
        (asked_refused i.demand old later i.world part x k.row.least k.row.may k.costs made.rows))
      where
        k : Looked i.demand old later i.world part x y key o
        k = at_second i x may

    -- or it isn't told, and a row has the first;
    pub second_lacks : (new : Evaluating) (res : Result (Option Value) DemandFault) (i : DemandIn) (x : Task)
        → (MayHaveRow i.demand later i.world part x y key → IsOperation later.engine.table y.node o
        → AnswersTask i.demand later (record y { node = o.first }) v → AsksIn i.demand later new i.world part res)
        → MayHaveRow i.demand old i.world part x y key → AsksIn i.demand old new i.world part res
    second_lacks new res i x asks may = operation_done i.demand old later i.world part x y key o (at_second i x may) new res
        (λ m. asks m (operation_then old later both_pass y.node o is) (first_then i x may))

    -- or it is told too, and what the operator gives may be given.
    pub both_given : (u : Value) → IsTold later (record y { node = o.second }) u → (z : Value)
        → plain z ≡ algebra o.op (plain v ∷ plain u ∷ []) → (new : Evaluating) (res : Result (Option Value) DemandFault) (i : DemandIn) (x : Task)
        → (MayGiveAtOnce i.demand later i.world part x y key z → AsksIn i.demand later new i.world part res)
        → MayHaveRow i.demand old i.world part x y key → AsksIn i.demand old new i.world part res
    both_given u also z value new res i x asks may = operation_done i.demand old later i.world part x y key o at new res (λ m.
        asks (record {
          row = m;
          answers = operation_answers i.demand later i.world part x y key m o at.is v u (first_then i x may)
              (told_answers i.demand later i.world part x y key m (record y { node = o.second }) u also) z value;
        }))
      where
        at : Looked i.demand old later i.world part x y key o
        at = at_second i x may
