-- What the parts of a turn do: the policy drops values, and one of the ready rows is picked.
use Rattle.std.specs.Prelude.{◌≡◌, ℕ, IsTrue, false, Option, Some, None, Result, Err, IfErr, ◌⊎◌}
use Rattle.lucid_value.specs.declared.Value.{Value}
use Rattle.lucid_value.specs.View.{plain}
use Rattle.lucid_tree.specs.Levels.{Elements}
use Rattle.lucid_tags.specs.declared.Tag.{Tag}
use Rattle.lucid_search.specs.Noted.{number_at}
use Rattle.lucid_retire.specs.Turns.{IsTurn}
use Rattle.lucid_ports.specs.World.{World}
use Rattle.lucid_demand_steps.specs.Engine.{EngineView, MayHave, holding}
use Rattle.lucid_demand_steps.specs.Demands.{Demand, table_of, stays, Answers}
use Rattle.lucid_demand_steps.specs.Going.{IsDemand, Owns, Waits}
use Rattle.lucid_demand_steps.specs.Stands.{IsDefined}
use Rattle.lucid_demand.specs.Evaluating.{Evaluating, OnAnswer, OnGoingOn}
use Rattle.lucid_demand_steps.specs.declared.fault.DemandFault.{DemandFault}
use Rattle.lucid_demand_steps.specs.declared.fault.DemandFault.TheVariants.{TooDeep, NoMemory}

-- A turn may be taken: the demand's invariant holds.
pub record MayTurn (d : Demand) (e : Evaluating) (w : World) : Type 0 where
  pub demand : IsDemand d
  pub waits : Waits d e.engine w e.rows

-- The policy had its turn. Under a policy that empties no noted position stays, and under any other each does.
pub record IsTurned (old new : EngineView) : Type 0 where
  pub turn : IsTurn old.keeps old.empties old.room old.stored new.stored
  pub noted : (node : ℕ) (tag : Tag) (key number : ℕ) → number_at new.noted node tag key ≡ Some number → number_at old.noted node tag key ≡ Some number
  pub unnoted : IsTrue old.empties → (node : ℕ) (tag : Tag) (key : ℕ) → number_at new.noted node tag key ≡ None
  pub stays : old.empties ≡ false → new.noted ≡ old.noted
  pub only : new ≡ record old { stored = new.stored; noted = new.noted }

-- A demand has begun: the root has its value, or its row waits; what the engine owns is right whatever it gives, and it is refused as too deep
-- only where the root's approximation with what stays held is undefined.
pub record Begins (d : Demand) (now : Evaluating) (w : World) (result : Result (Option Value) DemandFault) : Type 0 where
  pub owns : Owns d now.engine w
  pub stands : OnGoingOn result (MayTurn d now w)
  pub answers : OnAnswer result (λ v. (b : Elements) → MayHave now.engine b → Answers d b (holding now.engine) now.engine.stored.lost d.root (plain v))
  pub deep : result ≡ Err TooDeep → (b : Elements) → MayHave now.engine b → IsDefined (table_of d) b (stays d) d.root → ⊥
  pub refused : IfErr result (λ f. (f ≡ TooDeep) ⊎ (f ≡ NoMemory))
