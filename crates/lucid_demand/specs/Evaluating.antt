-- An evaluation as its functions see it: the engine, and the rows that wait; and what one step of a row does.
use Rattle.std.specs.Prelude.{◌≡◌, ℕ, ◌<◌, List, Option, Some, None, IsTrue, Result, Ok, Err, IfErr, ⊤, length}
use Rattle.lucid_value.specs.declared.Value.{Value}
use Rattle.lucid_value.specs.View.{plain}
use Rattle.lucid_tree.specs.Levels.{Elements}
use Rattle.lucid_tasks.specs.Rows.{TaskRow, row_at, is_ready}
use Rattle.lucid_ports.specs.World.{World}
use Rattle.lucid_ports.specs.Faults.{Rises}
use Rattle.lucid_demand_steps.specs.Tasks.{plain_rows}
use Rattle.lucid_demand_steps.specs.Stands.{IsDefined}
use Rattle.lucid_demand_steps.specs.Engine.{EngineView, MayHave, ConsultsOverlong, holding}
use Rattle.lucid_demand_steps.specs.Demands.{Demand, table_of, stays, Answers}
use Rattle.lucid_demand_steps.specs.Measure.{total}
use Rattle.lucid_demand_steps.specs.Stock.{IsEmptied}
use Rattle.lucid_demand_steps.specs.Going.{IsDemand, Owns, Waits, WithinRoom}
use Rattle.lucid_demand_steps.specs.Faults.{OnTooLarge}
use Rattle.lucid_demand_steps.specs.declared.fault.DemandFault.{DemandFault}
use Rattle.lucid_demand_steps.specs.declared.fault.DemandFault.TheVariants.{TooDeep, ReadFault}

-- What an evaluation is: an engine's view, and the rows of the waiting tasks by their slots.
pub record Evaluating : Type 0 where
  pub engine : EngineView
  pub rows : List (Option TaskRow)

-- what the waiting rows can still cost
abbrev pub cost : Demand → Evaluating → ℕ
cost d e = total (table_of d) d.root.limit (plain_rows e.engine.known e.rows) (length e.rows)

-- A row may take its step: the demand's invariant holds, the policy had its turn, and the row waits for none.
pub record MayStep (d : Demand) (e : Evaluating) (w : World) (slot : ℕ) : Type 0 where
  pub demand : IsDemand d
  pub waits : Waits d e.engine w e.rows
  pub emptied : IsEmptied d (holding e.engine) e.engine.noted
  pub within : WithinRoom d.first.room e.engine.stored
  pub ready : IsTrue (is_ready (row_at e.rows slot))

-- what a step or a turn gave: a refusal, or else what the answer is then
abbrev pub gave : Result ⊤ DemandFault → Option Value → Result (Option Value) DemandFault
gave (Ok done) answer = Ok answer
gave (Err fault) answer = Err fault

-- what is said of a value, where a step or a turn gave one
abbrev pub OnAnswer : Result (Option Value) DemandFault → (Value → Type 0) → Type 0
OnAnswer (Ok (Some v)) P = P v
OnAnswer (Ok None) P = Unit {0}
OnAnswer (Err e) P = Unit {0}

-- and where it only went on
abbrev pub OnGoingOn : Result (Option Value) DemandFault → Type 0 → Type 0
OnGoingOn (Ok None) P = P
OnGoingOn (Ok (Some v)) P = Unit {0}
OnGoingOn (Err e) P = Unit {0}

-- What a step does. Whatever it gives, what the engine owns is right. It goes on at less cost, or gives a value that answers the demand's
-- root, or it refuses: too deep only where the root's approximation with what stays held is undefined.
pub record Stepped (d : Demand) (old new : Evaluating) (before after : World) (result : Result (Option Value) DemandFault) : Type 0 where
  pub owns : Owns d new.engine after
  pub goes_on : OnGoingOn result (Waits d new.engine after new.rows × (cost d new < cost d old))
  pub answers : OnAnswer result (λ v. (b : Elements) → MayHave new.engine b → Answers d b (holding new.engine) new.engine.stored.lost d.root (plain v))
  pub deep : result ≡ Err TooDeep → (b : Elements) → MayHave new.engine b → IsDefined (table_of d) b (stays d) d.root → ⊥
  pub too_large : IfErr result (λ e. OnTooLarge e (λ k. (b : Elements) → MayHave new.engine b → ConsultsOverlong new.engine b after k d.root.limit d.root.time d.root.space))
  pub failed : result ≡ Err ReadFault → Rises before.faults after.faults
