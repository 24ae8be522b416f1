-- A row that settles with a value which answers its task takes a step.
use Rattle.lucid_demand.proofs.Common.{ℕ, List, Option, None, refl, sym, ◌∙◌, subst, IsTrue, IsSome, Value, plain, Elements, TaskRow, is_ready, returned, World, DatonAt, plain_task, plain_row, waits_for_none, EngineView, holding, MayHave, Demand, Waits, plain_ready, cost_of, GoesDown, Evaluating, Stepped, cost}
use Rattle.std.proofs.Common.{◌≡◌, ◌<◌, Some, true}
use Rattle.std.specs.Prelude.{Ok}
use Rattle.lucid_tasks.specs.declared.Part.{Part}
use Rattle.lucid_tasks.specs.Rows as rows
use Rattle.lucid_tasks.specs.Rows.{row_at}
use Rattle.lucid_demand_steps.specs.Demands.{Answers}
use Rattle.lucid_demand_steps.proofs.Acting.{settles_goes_down, root_is_answered}

-- The rows wait on, a value answers a ready row's task, and what the row remembers is held, or was lost.
pub record Answered (d : Demand) (now : EngineView) (w : World) (before : List (Option TaskRow)) (r : TaskRow) (v : Value) : Type 0 where
  pub waits : Waits d now w before
  pub ready : IsTrue (is_ready (Some r))
  pub answers : (b : Elements) → MayHave now b → Answers d b (holding now) now.stored.lost (plain_task now.known r.task) (plain v)
  pub there : IsTrue d.first.keeps → now.stored.lost ≡ 0 → (k : DatonAt) → (plain_row now.known r).key ≡ Some k → IsSome (holding now k.0 k.1)

-- The row goes, and its parent has the value, or it answers the root.
pub row_goes : (d : Demand) (old new : Evaluating) (w : World) (before : List (Option TaskRow)) (slot : ℕ) (r : TaskRow) (v : Value)
    → row_at before slot ≡ Some r
    → Answered d new.engine w before r v → rows.Settles before new.rows slot v → cost_of d new.engine.known before ≡ cost d old
    → Stepped d old new w w (Ok (returned r.parent v))
row_goes d old new w before slot r v at a settles same = go r.parent refl
  where
    go : (p : Option Part) → r.parent ≡ p → Stepped d old new w w (Ok (returned p v))
    go None up = record {
      owns = a.waits.going.owns;
      goes_on = tt;
      answers = λ b m. root_is_answered d new.engine w before new.rows a.waits slot r (plain v) at up b m (a.answers b m) a.there;
      deep = λ e. absurd (cc);
      too_large = tt;
      failed = λ e. absurd (cc);
    }
    go (Some part) up = record {
      owns = a.waits.going.owns;
      goes_on = (down.waits, subst (λ n. cost d new < n) same down.less);
      answers = tt;
      deep = λ e. absurd (cc);
      too_large = tt;
      failed = λ e. absurd (cc);
    }
      where
        ready : waits_for_none (plain_row new.engine.known r) ≡ true
        ready = sym (plain_ready new.engine.known r) ∙ a.ready

        down : GoesDown d new.engine w before new.rows
        down = settles_goes_down d new.engine w before new.rows a.waits slot r part v at ready up a.answers a.there settles

-- A step that goes on.
pub goes_on_step : (d : Demand) (old new : Evaluating) (w : World) → Waits d new.engine w new.rows → cost d new < cost d old → Stepped d old new w w (Ok None)
goes_on_step d old new w waits less = record {
  owns = waits.going.owns;
  goes_on = (waits, less);
  answers = tt;
  deep = λ e. absurd (cc);
  too_large = tt;
  failed = λ e. absurd (cc);
}
