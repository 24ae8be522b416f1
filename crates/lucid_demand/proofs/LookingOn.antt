-- A search looks on: it takes a step, which its cursor's time and count have room for.
use Rattle.lucid_demand.proofs.Common.{ℕ, suc, ◌+◌, List, Option, None, sym, ap, ◌∙◌, subst, arith, IsTrue, same_Some, Cursor, TaskRow, is_ready, waits_for_none, plain_row, EngineView, known_elements, holding, Demand, RowFacts, Owns, Waits, plain_ready, plain_of_row, changed_there, ready_after_take, GoesDown, World, Evaluating, MayStep, Stepped, cost, DemandIn, MayAct, IsReadyTask, from_bool}
use Rattle.std.proofs.Common.{◌≡◌, ◌<◌, ◌≤◌, Bool, true, false, length, Some}
use Rattle.std.specs.Prelude.{Ok, option_map}
use Rattle.lucid_tasks.specs.Rows as rows
use Rattle.lucid_tasks.specs.Rows.{row_at}
use Rattle.lucid_demand_steps.specs.Demands.{table_of}
use Rattle.lucid_demand_steps.specs.Decisions.{MayMove, looked_on}
use Rattle.lucid_demand_steps.proofs.Noting.{stream_of_search}
use Rattle.lucid_demand_steps.proofs.Searching.{count-is_few}
use Rattle.lucid_demand_steps.proofs.Acting.{moves_goes_down}
use Rattle.lucid_demand_steps.specs.declared.decision.Decision.TheVariants as decision
use Rattle.lucid_demand.specs.Searching.{CanLookOn}
use Rattle.lucid_demand.proofs.GoneRows.{goes_on_step}
use Rattle.lucid_demand.proofs.Beginning.{noted_costs}
use Rattle.lucid_demand.proofs.SettledRows.{ready_is_there}

-- A search that goes on stands before its limit, and counted no more than it looked at.
pub can_look_on : (d : Demand) (e : Evaluating) (w : World) (slot : ℕ) (seen : Bool) → MayAct d e w slot (decision.LookOn seen) → CanLookOn e.rows slot
can_look_on d e w slot seen act = record {
  before = λ r at. (act.justified r at).before;
  few = λ r at. few r at (act.justified r at);
}
  where
    few : (r : TaskRow) → row_at e.rows slot ≡ Some r → MayMove (table_of d) (plain_row e.engine.known r) seen → r.cursor.count ≤ r.cursor.time
    few r at may =
        let facts : RowFacts d (known_elements e.engine) (holding e.engine) e.engine.stored.lost (plain_row e.engine.known r)
        = act.step.waits.going.work.each slot (plain_row e.engine.known r) (plain_of_row e.engine.known e.rows slot r at) (known_elements e.engine)
        (λ name j v h. h) in
        let stream = stream_of_search (table_of d) act.step.demand.in_range (plain_row e.engine.known r).task facts.there may.form may.nodes may.is
        may.search in
        let stands = facts.search may.form may.nodes stream.0 may.is may.search stream.1 in
        count-is_few _ r.cursor.time r.cursor.count stands.counted.1

-- the next cursor, after a truth
pub next_cursor : (c : Cursor) (seen : Bool) (n : ℕ) → n ≡ from_bool seen
    → ◌≡◌ {A = Cursor} (record { time = c.time + 1; count = c.count + n }) (looked_on c seen)
next_cursor c true n p =
    let time : c.time + 1 ≡ suc c.time = omega arith in
    let count : c.count + n ≡ suc c.count = omega (arith, p) in
    ap (λ x. record { time = x; count = c.count + n }) time ∙ ap (λ x. record { time = suc c.time; count = x }) count
next_cursor c false n p =
    let time : c.time + 1 ≡ suc c.time = omega arith in
    let count : c.count + n ≡ c.count = omega (arith, p) in
    ap (λ x. record { time = x; count = c.count + n }) time ∙ ap (λ x. record { time = suc c.time; count = x }) count

-- The row is ready at its next cursor, with its task.
pub looked_ready : (now inside new : Evaluating) (one two : List (Option TaskRow)) (slot : ℕ) (c : Cursor) → inside ≡ now → new.engine ≡ inside.engine
    → rows.ChangesOnly inside.rows one slot (rows.taken 1) → rows.ChangesOnly one two slot (rows.taken 0)
    → rows.ChangesOnly two new.rows slot (rows.with_cursor c)
    → IsReadyTask now slot → IsReadyTask new slot
looked_ready now inside new one two slot c same engine first second moved task = record {
  ready = ap is_ready at ∙ sym (ap is_ready was) ∙ ready_after_take one two slot 0 second ∙ ready_after_take inside.rows one slot 1 first
      ∙ subst (λ z. IsTrue (is_ready (row_at z.rows slot))) (sym same) task.ready;
  there = λ r is.
      let own : rows.with_cursor c taken ≡ r = same_Some (rows.with_cursor c taken) r (sym at ∙ is) in
      subst (λ (z : EngineView). r.task.node < length z.table.nodes) (sym engine)
      (subst (λ (x : TaskRow). x.task.node < length inside.engine.table.nodes) own
      (subst (λ (z : Evaluating). (row.0).task.node < length z.engine.table.nodes) (sym same)
      (task.there row.0 (subst (λ (z : Evaluating). row_at z.rows slot ≡ Some row.0) same row.1))));
}
  where
    row : (r : TaskRow) × (row_at inside.rows slot ≡ Some r)
    row = ready_is_there inside.rows slot (subst (λ z. IsTrue (is_ready (row_at z.rows slot))) (sym same) task.ready)

    taken : TaskRow
    taken = rows.taken 0 (rows.taken 1 row.0)

    was : row_at two slot ≡ Some taken
    was = changed_there one two slot (rows.taken 0) (rows.taken 1 row.0) second (changed_there inside.rows one slot (rows.taken 1) row.0 first row.1)

    at : row_at new.rows slot ≡ Some (rows.with_cursor c taken)
    at = changed_there two new.rows slot (rows.with_cursor c) taken moved was

-- It looks on at less cost, and may step again.
pub looked : (i : DemandIn) (now inside : Evaluating) (new one two : List (Option TaskRow)) (slot : ℕ) (seen : Bool) (cursor c : Cursor) → inside ≡ now
    → option_map (λ row. row.cursor) (row_at inside.rows slot) ≡ Some cursor → c ≡ looked_on cursor seen → rows.ChangesOnly inside.rows one slot (rows.taken 1)
    → rows.ChangesOnly one two slot (rows.taken 0) → rows.ChangesOnly two new slot (rows.with_cursor c)
    → MayAct i.demand now i.world slot (decision.LookOn seen)
    → IsReadyTask (record { engine = inside.engine; rows = new }) slot
    → MayStep i.demand (record { engine = inside.engine; rows = new }) i.world slot
    × (cost i.demand (record { engine = inside.engine; rows = new }) < cost i.demand now)
looked i now inside new one two slot seen cursor c same stood next first second moved may task = (
  record { demand = act.step.demand; waits = down.waits; emptied = act.step.emptied; within = act.step.within; ready = task.ready },
  subst (λ z. cost i.demand (record { engine = inside.engine; rows = new }) < cost i.demand z) same down.less,
)
  where
    act : MayAct i.demand inside i.world slot (decision.LookOn seen)
    act = subst (λ z. MayAct i.demand z i.world slot (decision.LookOn seen)) (sym same) may

    there : (r : TaskRow) × (row_at inside.rows slot ≡ Some r)
    there = ready_is_there inside.rows slot act.step.ready

    its : cursor ≡ (there.0).cursor
    its = let z : Some ((there.0).cursor) ≡ Some cursor = sym (ap (option_map (λ row. row.cursor)) there.1) ∙ stood in cc

    ready : waits_for_none (plain_row inside.engine.known there.0) ≡ true
    ready = sym (plain_ready inside.engine.known there.0) ∙ ap is_ready (sym there.1) ∙ act.step.ready

    down : GoesDown i.demand inside.engine i.world inside.rows new
    down = moves_goes_down i.demand inside.engine i.world inside.rows new act.step.waits one two slot there.0 c seen there.1 ready
        (act.justified there.0 there.1)
        (next ∙ ap (λ z. looked_on z seen) its) first second moved

-- What is noted then costs nothing.
pub noted_on : (i : DemandIn) (old mid new : Evaluating) (slot : ℕ) → MayStep i.demand mid i.world slot → cost i.demand mid < cost i.demand old
    → Owns i.demand new.engine i.world
    → new.engine ≡ record mid.engine { noted = new.engine.noted } → new.rows ≡ mid.rows → Stepped i.demand old new i.world i.world (Ok None)
noted_on i old mid new slot step less owns only same =
    goes_on_step i.demand old new i.world
    (subst (λ (rs : List (Option TaskRow)). Waits i.demand new.engine i.world rs) (sym same)
    (subst (λ (z : EngineView). Waits i.demand z i.world mid.rows) (sym only) (record {
      going = record { work = step.waits.going.work; owns = subst (λ z. Owns i.demand z i.world) only owns };
      known = step.waits.known;
    })))
    (let free = noted_costs i.demand mid new new.engine.noted only same in omega (arith, free, less))
