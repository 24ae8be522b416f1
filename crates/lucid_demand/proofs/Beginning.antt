-- What a step keeps: where a search began elsewhere, the row decides as before, at no more cost; and what is noted costs nothing.
use Rattle.lucid_demand.proofs.Common.{ℕ, inl, inr, List, Option, sym, ap, ◌∙◌, subst, arith, IsTrue, if◌then◌else◌, Value, Task, TaskRow, is_ready, Noted, World, EngineView, Demand, Owns, at_it, at_another, Evaluating, Stepped, cost, DemandIn, MayAct, MayAskNow, DemandFault, ◌==◌, cases_eq}
use Rattle.std.proofs.Common.{◌≡◌, ◌≤◌, ◌⊎◌, Some}
use Rattle.std.specs.Prelude.{Result, option_map}
use Rattle.lucid_tasks.specs.Rows as rows
use Rattle.lucid_tasks.specs.Rows.{row_at}
use Rattle.lucid_demand_steps.specs.declared.decision.Decision.TheVariants as decision
use Rattle.lucid_demand.specs.Searching.{StandsAt}
use Rattle.lucid_demand.proofs.SettledRows.{ready_is_there, on_going}
use Rattle.lucid_demand.proofs.MayAsk.{part_may_be_asked}

-- A row that stays where it is stands at a cursor.
pub stands_still : (rs : List (Option TaskRow)) (slot : ℕ) → IsTrue (is_ready (row_at rs slot)) → StandsAt rs rs slot
stands_still rs slot ready = record { cursor = (r.0).cursor; rows = λ q. go q (cases_eq q slot) }
  where
    r : (x : TaskRow) × (row_at rs slot ≡ Some x)
    r = ready_is_there rs slot ready

    go : (q : ℕ) → (q ≡ slot) ⊎ (q ≡ slot → ⊥) → row_at rs q ≡ (if q == slot then option_map (rows.with_cursor (r.0).cursor) (row_at rs q) else row_at rs q)
    go q (inl e) =
        ap (row_at rs) e ∙ r.1 ∙ sym (ap (option_map (rows.with_cursor (r.0).cursor)) (ap (row_at rs) e ∙ r.1))
        ∙ sym (at_it q slot (option_map (rows.with_cursor (r.0).cursor) (row_at rs q)) (row_at rs q) e)
    go q (inr n) = sym (at_another q slot (option_map (rows.with_cursor (r.0).cursor) (row_at rs q)) (row_at rs q) n)

-- A step from what costs no more is a step.
pub stepped_from_less : (d : Demand) (old mid new : Evaluating) (v w : World) (result : Result (Option Value) DemandFault) → cost d mid ≤ cost d old
    → Stepped d mid new v w result
    → Stepped d old new v w result
stepped_from_less d old mid new v w result less s = record {
  owns = s.owns;
  goes_on = on_going result _ _ (λ p. (p.0, omega (arith, p.1, less))) s.goes_on;
  answers = s.answers;
  deep = s.deep;
  too_large = s.too_large;
  failed = s.failed;
}

-- What is noted costs nothing.
pub noted_costs : (d : Demand) (e new : Evaluating) (noted : Noted) → new.engine ≡ record e.engine { noted = noted } → new.rows ≡ e.rows → cost d new ≡ cost d e
noted_costs d e new noted only same =
    ap (λ (z : EngineView). cost d (record { engine = z; rows = new.rows })) only
    ∙ ap (λ (rs : List (Option TaskRow)). cost d (record { engine = record e.engine { noted = noted }; rows = rs })) same

-- A row that may ask for a part may ask for it once its search was noted.
pub noted_asks : (i : DemandIn) (e new : Evaluating) (slot index : ℕ) (task : Task) → Owns i.demand new.engine i.world
    → new.engine ≡ record e.engine { noted = new.engine.noted } → new.rows ≡ e.rows
    → MayAct i.demand e i.world slot (decision.Ask index task) → MayAskNow i.demand new i.world (Some (record { slot = slot; index = index })) task
noted_asks i e new slot index task owns only same act =
    subst (λ (z : EngineView). MayAskNow i.demand (record { engine = z; rows = new.rows }) i.world (Some (record { slot = slot; index = index })) task)
    (sym only)
    (subst (λ (rs : List (Option TaskRow)). MayAskNow i.demand (record { engine = record e.engine { noted = new.engine.noted }; rows = rs }) i.world
    (Some (record { slot = slot; index = index })) task)
    (sym same) (
    let r = ready_is_there e.rows slot act.step.ready in
    part_may_be_asked i.demand (record { engine = record e.engine { noted = new.engine.noted }; rows = e.rows }) i.world act.step.demand
    (record { going = record { work = act.step.waits.going.work; owns = subst (λ z. Owns i.demand z i.world) only owns }; known = act.step.waits.known })
    act.step.emptied.nothing (record { slot = slot; index = index }) r.0 r.1 task (act.justified r.0 r.1)
    ))
