-- What is told of an operator's arguments before it has a row, and what a look at one leaves.
use Rattle.std.specs.Prelude.{◌≡◌, ℕ, ◌<◌, List, ◌∷◌, Option, Some, None, ◌⊎◌, length}
use Rattle.lucid_value.specs.declared.Value.{Value}
use Rattle.lucid_value.specs.View.{plain}
use Rattle.lucid_ops.specs.Arity.{arity}
use Rattle.lucid_tags.specs.declared.Key.{Key}
use Rattle.lucid_tasks.specs.declared.Task.{Task}
use Rattle.lucid_tasks.specs.declared.Part.{Part}
use Rattle.lucid_tasks.specs.Rows.{TaskRow, IsPast, Asks, Gives}
use Rattle.lucid_store.specs.Entries.{IsTouched, value_at}
use Rattle.lucid_equations.specs.Rows.{row_at}
use Rattle.lucid_equations.specs.declared.rows.Node.TheVariants.{Apply}
use Rattle.lucid_equations.specs.declared.table.Table.{Table}
use Rattle.lucid_demand_steps.specs.Tasks.{plain_task}
use Rattle.lucid_demand_steps.specs.Decisions.{IsConstant}
use Rattle.lucid_demand_steps.specs.declared.aim.Aim.{Aim}
use Rattle.lucid_demand.specs.Evaluating.{Evaluating}
use Rattle.lucid_demand.specs.Naming.{IsNamedAim}
use Rattle.lucid_demand.specs.declared.operators.Operation.{Operation}
use Rattle.lucid_demand.specs.declared.operators.Argument.{Argument}
use Rattle.lucid_demand.specs.declared.operators.Argument.TheVariants.{Told, Absent, Other}

-- The node applies the operator, which is one of two arguments, to these two nodes of the table.
pub record IsOperation (T : Table) (node : ℕ) (o : Operation) : Type 0 where
  pub rest : List ℕ
  pub row : row_at T node ≡ Some (Apply o.op (o.first ∷ o.second ∷ rest))
  pub two : arity o.op ≡ 2
  pub first_there : o.first < length T.nodes
  pub second_there : o.second < length T.nodes

-- The task is a constant, or a name whose value is held.
abbrev pub IsTold : Evaluating → Task → Value → Type 0
IsTold e x v = IsConstant e.engine.table (plain_task e.engine.known x) (plain v) ⊎ ((a : Aim) × IsNamedAim e x a × (value_at e.engine.stored a.key ≡ Some v))

-- The task is told; or it is a name, whose value isn't held; of any other task nothing is said.
abbrev pub IsSeenAs : Evaluating → Task → Argument → Type 0
IsSeenAs e x (Told v) = IsTold e x v
IsSeenAs e x (Absent a) = IsNamedAim e x a × (value_at e.engine.stored a.key ≡ None)
IsSeenAs e x Other = Unit {0}

-- A key was looked up, or none was. Nothing else changes.
pub record LooksAt (old new : Evaluating) : Type 0 where
  pub stored : (new.engine.stored ≡ old.engine.stored) ⊎ ((key : Key) × IsTouched old.engine.stored new.engine.stored key)
  pub only : new ≡ record old { engine = record old.engine { stored = new.engine.stored } }

-- A new row waits for a task in the slot, and its first part has the value.
pub record HasFirst (old new : List (Option TaskRow)) (part : Option Part) (slot : ℕ) (x : Task) (key : Option Key) (v : Value) : Type 0 where
  pub between : List (Option TaskRow)
  pub past : IsPast old slot
  pub asks : Asks old between part slot x key
  pub gives : Gives between new (Some (record { slot = slot; index = 0 })) v
