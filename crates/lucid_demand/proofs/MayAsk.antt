-- What a decision that is justified in a demand lets its function ask for, and require of the row and of the table.
use Rattle.lucid_demand.proofs.Common.{ℕ, List, Option, None, refl, sym, ap, subst, arith, IsSome, Elements, Op, Task, TaskRow, World, equations_of, PlainRow, idle, state_at, plain_task, plain_row, node_of, rank, IsReference, IsPart, HoldsRight, EngineView, known_elements, holding, MayHave, Demand, stays, RowFacts, IsWanted, IsDemand, Owns, Waits, plain_of_row, stands-itself, row-is_wanted, Evaluating, MayAct, Justified, CanAsk, CanAskAll, HoldsNothing, IsFor, MayAskFor, MayAskNow, MayRefer}
use Rattle.std.proofs.Common.{◌≡◌, ◌<◌, Some, length}
use Rattle.std.specs.Prelude.{IfSome}
use Rattle.lucid_tasks.specs.declared.Part.{Part}
use Rattle.lucid_tasks.specs.Rows.{row_at, IsIdlePart}
use Rattle.lucid_demand_steps.specs.Parts.{part_by_reference}
use Rattle.lucid_demand_steps.specs.Demands.{table_of}
use Rattle.lucid_demand_steps.proofs.Listing.{row_of_plain}
use Rattle.lucid_demand_steps.proofs.Seeing.{plain_idle}
use Rattle.lucid_demand_steps.proofs.Asking.{asked_is_lower, asked_is_wanted}
use Rattle.lucid_demand_steps.specs.declared.decision.Decision.TheVariants as decision
use Rattle.lucid_demand.proofs.SettledRows.{ready_is_there}
use Rattle.lucid_demand.proofs.Stepping.{argument_in_table}

-- what stays held is right
pub stays_right : (d : Demand) (now : EngineView) (w : World) (b : Elements) → Owns d now w → MayHave now b → HoldsRight (equations_of (table_of d)) b (stays d)
stays_right d now w b owns m k s v h = let f = owns.stock.stock b m in f.right k s v (f.stays k s v h)

-- what is there by the demand's table is there by the engine's
there_here : (d : Demand) (now : EngineView) (w : World) (n : ℕ) → Owns d now w → n < length (table_of d).nodes → n < length now.table.nodes
there_here d now w n owns low = subst (λ T. n < length T.nodes) (sym owns.since.goes_on.table) low

-- What may be asked for in a demand can be asked for.
pub can_ask : (d : Demand) (e : Evaluating) (w : World) (part : Option Part) (x : Task) (n : ℕ) → MayAskFor d e w part x n → CanAsk e part x
can_ask d e w part x n m = record {
  part_idle = go part m.is_for;
  there = there_here d e.engine w x.node m.owns ((m.wanted (known_elements e.engine) (λ k j v h. h)).there);
  known = m.tag;
}
  where
    go : (p : Option Part) → IsFor d e w p (plain_task e.engine.known x) n → IfSome p (IsIdlePart e.rows)
    go None f = tt
    go (Some p) f = record {
      row = let r = row_of_plain e.engine.known e.rows p.slot f.parent f.there in subst (λ o. IsSome o) (sym r.1) refl;
      index = f.few;
      idle = plain_idle e.engine.known e.rows p f.parent f.there f.free;
    }

module _ (d : Demand) (e : Evaluating) (w : World) (demand : IsDemand d) (waits : Waits d e.engine w e.rows) (nothing : HoldsNothing d e.engine) (part : Part)
    (r : TaskRow) (at : row_at e.rows part.slot ≡ Some r) where
  abbrev row : PlainRow
  row = plain_row e.engine.known r

  facts : (b : Elements) → MayHave e.engine b → RowFacts d b (holding e.engine) e.engine.stored.lost row
  facts b m = waits.going.work.each part.slot row (plain_of_row e.engine.known e.rows part.slot r at) b m

  -- A part may be asked for by what the row's decision asks for.
  pub part_may_be_asked : (x : Task) → Justified (table_of d) e.engine.known row (decision.Ask part.index x) → MayAskNow d e w (Some part) x
  part_may_be_asked x why = record {
    demand = demand;
    owns = waits.going.owns;
    nothing = nothing;
    wanted = λ b m. asked_is_wanted d b (holding e.engine) e.engine.stored.lost row demand (right b m) (facts b m) part.index why.0
        (plain_task e.engine.known x) why.1;
    tag = why.2;
    is_for = record {
      waits = waits;
      parent = row;
      there = plain_of_row e.engine.known e.rows part.slot r at;
      free = why.0.free;
      few = why.0.few;
      task = plain_task e.engine.known x;
      is_part = why.1;
      stands = stands-itself (table_of d) (plain_task e.engine.known x);
      least_rank = let low = asked_is_lower d now (holding e.engine) e.engine.stored.lost row demand (right now all) (facts now all) part.index why.0
          (plain_task e.engine.known x) why.1 in omega (arith, low);
    };
  }
    where
      now : Elements
      now = known_elements e.engine

      all : MayHave e.engine now
      all k j v h = h

      right : (b : Elements) → MayHave e.engine b → HoldsRight (equations_of (table_of d)) b (stays d)
      right b m = stays_right d e.engine w b waits.going.owns m

  -- The row of a reference may ask for that, as its first part.
  pub reference_may_be_asked : (x : Task) → part.index ≡ 0 → Justified (table_of d) e.engine.known row (decision.Refer x) → MayRefer d e w (Some part) x
  reference_may_be_asked x first why = record {
    demand = demand;
    owns = waits.going.owns;
    nothing = nothing;
    wanted = λ b m. subst (λ q. IsWanted d b q) (sym why.1) (row-is_wanted d b (holding e.engine) e.engine.stored.lost row (facts b m));
    tag = why.2;
    is_for = subst (λ q. IsFor d e w (Some part) q (rank (table_of d) (plain_task e.engine.known x))) (sym why.1) (record {
      waits = waits;
      parent = row;
      there = plain_of_row e.engine.known e.rows part.slot r at;
      free = subst (λ k. state_at row.parts k ≡ idle) (sym first) why.3;
      few = omega (arith, first);
      task = row.task;
      is_part = subst (λ k. IsPart (table_of d) row k row.task) (sym first) (part_by_reference why.0 refl);
      stands = stands-itself (table_of d) row.task;
      least_rank = omega (arith, ap (rank (table_of d)) why.1);
    });
  }

-- what a row that takes a step has, by a decision that is justified
module _ (d : Demand) (e : Evaluating) (w : World) (slot : ℕ) where
  -- Its reference may be asked for, and is one.
  pub may_refer : (x : Task) → MayAct d e w slot (decision.Refer x) → MayRefer d e w (Some (record { slot = slot; index = 0 })) x
  may_refer x act =
      let r = ready_is_there e.rows slot act.step.ready in
      reference_may_be_asked d e w act.step.demand act.step.waits act.step.emptied.nothing (record { slot = slot; index = 0 }) r.0 r.1 x refl
      (act.justified r.0 r.1)

  pub refers_here : (x : Task) → MayAct d e w slot (decision.Refer x) → IsReference (node_of e.engine.table (plain_task e.engine.known x))
  refers_here x act =
      let r = ready_is_there e.rows slot act.step.ready in
      let why = act.justified r.0 r.1 in
      subst (λ T. IsReference (node_of T (plain_task e.engine.known x))) (sym act.step.waits.going.owns.since.goes_on.table)
      (subst (λ q. IsReference (node_of (table_of d) q)) (sym why.1) why.0)

  -- The arguments of an operator can be asked for.
  pub can_ask_all : (op : Op) (args : List ℕ) → MayAct d e w slot (decision.AskAll op args) → CanAskAll e slot op args
  can_ask_all op args act = record {
    ready = act.step.ready;
    known = λ r at. (act.step.waits.known slot r at).task;
    there = argument_in_table d e w slot act.step row.0 row.1 op args ((act.justified row.0 row.1).0);
  }
    where
      row : (r : TaskRow) × (row_at e.rows slot ≡ Some r)
      row = ready_is_there e.rows slot act.step.ready
