-- What asking leads to: the body of a name, or another task that is asked for.
use Rattle.std.specs.Prelude.{◌≡◌, ◌<◌, Option, Some, None, Result, Ok, Err, IfSome, IsSome, ⊤, length}
use Rattle.lucid_value.specs.declared.Value.{Value}
use Rattle.lucid_tags.specs.Known.{IsKnown}
use Rattle.lucid_tasks.specs.declared.Part.{Part}
use Rattle.lucid_tasks.specs.declared.Task.{Task}
use Rattle.lucid_tasks.specs.Rows.{IsIdlePart}
use Rattle.lucid_store.specs.Entries.{value_at}
use Rattle.lucid_demand_steps.specs.declared.aim.Aim.{Aim}
use Rattle.lucid_demand_steps.specs.declared.fault.DemandFault.{DemandFault}
use Rattle.lucid_demand.specs.Evaluating.{Evaluating}
use Rattle.lucid_demand.specs.Acting.{DemandIn}
use Rattle.lucid_demand.specs.Asking.{MayRefer, AsksIn, SetsPart}
use Rattle.lucid_demand.specs.Naming.{MayHaveRow, MayAskBody}
use Rattle.lucid_demand.specs.declared.operators.Wanted.{Wanted}

-- Where the name may be asked for, and isn't held, its body may be, and what asking for that does is what asking for the name does.
abbrev pub GoesOnWith : Evaluating → Evaluating → (x : Task) → Aim → (body : Task) → Type 0
GoesOnWith old now x a body = (i : DemandIn) (part : Option Part) → MayRefer i.demand old i.world part x → value_at old.engine.stored a.key ≡ None
    → (new : Evaluating) (result : Result (Option Value) DemandFault)
    → (MayAskBody i.demand now i.world part x body a.key → AsksIn i.demand now new i.world part result) → AsksIn i.demand old new i.world part result

-- There refusing it so is right.
abbrev pub IsRefused : Evaluating → Evaluating → (x : Task) → Aim → DemandFault → Type 0
IsRefused old now x a fault = (i : DemandIn) (part : Option Part) → MayRefer i.demand old i.world part x → value_at old.engine.stored a.key ≡ None
    → AsksIn i.demand old now i.world part (Err fault)

-- What is wanted may be asked for next: what that does is what asking for what was wanted first does, and sets of its part what that sets.
pub record LeadsTo (old now : Evaluating) (a b : Wanted) : Type 0 where
  pub for_part : IfSome a.part (λ p. IsSome b.part)
  pub idle : IfSome b.part (IsIdlePart now.rows)
  pub there : b.task.node < length now.engine.table.nodes
  pub known : IsKnown now.engine.known b.task.tag
  pub sets : (new : Evaluating) → IfSome b.part (SetsPart now new) → IfSome a.part (SetsPart old new)
  pub asks : (i : DemandIn) (new : Evaluating) (result : Result (Option Value) DemandFault)
      → ((y : Task) → MayHaveRow i.demand now i.world b.part y b.task b.key → AsksIn i.demand now new i.world b.part result)
      → (x : Task) → MayHaveRow i.demand old i.world a.part x a.task a.key → AsksIn i.demand old new i.world a.part result

-- what is said where nothing else is wanted then
abbrev pub OnDone : Result (Option Wanted) DemandFault → (Result ⊤ DemandFault → Type 0) → Type 0
OnDone (Ok None) P = P (Ok tt)
OnDone (Ok (Some next)) P = Unit {0}
OnDone (Err fault) P = P (Err fault)
