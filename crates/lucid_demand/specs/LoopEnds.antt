-- What a demand's loop leaves.
use Rattle.std.specs.Prelude.{ℕ, Result, IfOk, IfErr, IsErrOf}
use Rattle.lucid_value.specs.declared.Value.{Value}
use Rattle.lucid_value.specs.View.{plain}
use Rattle.lucid_tree.specs.Levels.{Elements}
use Rattle.lucid_ports.specs.World.{World}
use Rattle.lucid_ports.specs.Faults.{AsksNoneLate, Rises}
use Rattle.lucid_demand_steps.specs.Stands.{IsDefined}
use Rattle.lucid_demand_steps.specs.Engine.{EngineView, MayHave, holding, ConsultsOverlong}
use Rattle.lucid_demand_steps.specs.Demands.{demand_of, stays, Answers}
use Rattle.lucid_demand_steps.specs.Going.{Owns}
use Rattle.lucid_demand_steps.specs.declared.fault.DemandFault.{DemandFault}
use Rattle.lucid_demand_steps.specs.declared.fault.DemandFault.TheVariants.{TooDeep, ReadFault}
use Rattle.lucid_demand_steps.specs.Faults.{OnTooLarge, CountsReadFaults}

-- What is true when a demand's loop ends, whatever it answers.
pub record LoopEnds (old new : EngineView) (before after : World) (time space limit : ℕ) (result : Result Value DemandFault) : Type 0 where
  pub owns : Owns (demand_of old before time space limit) new after
  pub answers : IfOk result (λ v. (b : Elements) → MayHave new b
      → Answers (demand_of old before time space limit) b (holding new) new.stored.lost (demand_of old before time space limit).root (plain v))
  pub deep : IsErrOf result TooDeep → (b : Elements) → MayHave new b → IsDefined old.table b (stays (demand_of old before time space limit)) (demand_of old before time space limit).root → ⊥
  pub too_large : IfErr result (λ e. OnTooLarge e (λ k. (b : Elements) → MayHave new b → ConsultsOverlong new b after k limit time space))
  pub failed : IsErrOf result ReadFault → Rises before.faults after.faults
  pub counts : CountsReadFaults result before after
  pub late : AsksNoneLate before after
