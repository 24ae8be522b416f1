-- When the functions that act on a decision may act, and what they do besides a step.
use Rattle.std.specs.Prelude.{◌≡◌, ◌≢◌, ℕ, ◌<◌, List, Option, Some, None, IsSome, IsTrue, length, slice_get}
use Rattle.lucid_value.specs.declared.Value.{Value}
use Rattle.lucid_value.specs.Plain.{PlainValue}
use Rattle.lucid_value.specs.View.{plain}
use Rattle.lucid_ops.specs.declared.op.Op.{Op}
use Rattle.lucid_ops.specs.Arity.{arity}
use Rattle.lucid_ops.specs.Algebra.{algebra}
use Rattle.lucid_tree.specs.Levels.{Elements}
use Rattle.lucid_tags.specs.declared.Key.{Key}
use Rattle.lucid_tasks.specs.Rows.{TaskRow, row_at, parent_of, key_of, is_ready}
use Rattle.lucid_ports.specs.World.{World}
use Rattle.lucid_demand_steps.specs.Tasks.{plain_task, plain_row}
use Rattle.lucid_demand_steps.specs.Engine.{EngineView, MayHave, holding}
use Rattle.lucid_demand_steps.specs.Demands.{Demand, table_of, Answers}
use Rattle.lucid_demand_steps.specs.Decisions.{GivesByPlan}
use Rattle.lucid_demand_steps.specs.Going.{Waits, WithinRoom}
use Rattle.lucid_demand_steps.specs.Changes.{PutsOrLoses}
use Rattle.lucid_demand_steps.specs.Justified.{Justified, HaveValues}
use Rattle.lucid_demand_steps.specs.Ready.{argument_of}
use Rattle.lucid_demand_steps.specs.declared.decision.Decision.{Decision}
use Rattle.lucid_demand.specs.Evaluating.{Evaluating, MayStep}

-- a demand, and the world in which its next step is taken
pub record DemandIn : Type 0 where
  pub demand : Demand
  pub world : World

-- A ready row may act on a decision, which is justified.
pub record MayAct (d : Demand) (e : Evaluating) (w : World) (slot : ℕ) (decision : Decision) : Type 0 where
  pub step : MayStep d e w slot
  pub justified : (r : TaskRow) → row_at e.rows slot ≡ Some r → Justified (table_of d) e.engine.known (plain_row e.engine.known r) decision

-- The plan of a ready row's form gives the value.
pub record MayGive (d : Demand) (e : Evaluating) (w : World) (slot : ℕ) (v : PlainValue) : Type 0 where
  pub step : MayStep d e w slot
  pub gives : (r : TaskRow) → row_at e.rows slot ≡ Some r → GivesByPlan (table_of d) (plain_row e.engine.known r) v

-- The row in the slot is ready, and its task is one of the table's.
pub record IsReadyTask (e : Evaluating) (slot : ℕ) : Type 0 where
  pub ready : IsTrue (is_ready (row_at e.rows slot))
  pub there : (r : TaskRow) → row_at e.rows slot ≡ Some r → r.task.node < length e.engine.table.nodes

-- the value of an argument of the row in the slot
abbrev pub value_of : Evaluating → (slot index node : ℕ) → Option PlainValue
value_of e slot i n = argument_of e.engine.table e.rows slot i n

-- An argument of the row in the slot is one of the table's nodes, and has a value.
pub record IsThere (e : Evaluating) (slot index node : ℕ) : Type 0 where
  pub in_table : node < length e.engine.table.nodes
  pub there : IsSome (value_of e slot index node)

-- the operator's arguments are there
abbrev pub AreThere : Evaluating → (slot count : ℕ) → (args : List ℕ) → Type 0
AreThere e slot count args = (i n : ℕ) → i < count → slice_get args i ≡ Some n → IsThere e slot i n

-- The operator gives the value for those that its arguments have.
abbrev pub Applies : Evaluating → (slot : ℕ) → Op → (args : List ℕ) → Value → Type 0
Applies e slot op args v = (vs : List PlainValue) → length vs ≡ arity op → HaveValues (value_of e slot) args 0 vs → plain v ≡ algebra op vs

-- The rows are those before, but for values of parts of the one in the slot, which may have been taken.
pub record IsTaken (before now : List (Option TaskRow)) (slot : ℕ) : Type 0 where
  pub others : (q : ℕ) → q ≢ slot → row_at now q ≡ row_at before q
  pub parent : parent_of now slot ≡ parent_of before slot
  pub key : key_of now slot ≡ key_of before slot
  pub ready : IsTrue (is_ready (row_at now slot))

-- What a row settles in: a demand, the world, and the rows as they were before values of its parts were taken.
pub record Settling : Type 0 where
  pub demand : Demand
  pub world : World
  pub before : List (Option TaskRow)

-- A row may settle with a value, which answers its task.
pub record MaySettle (s : Settling) (now : Evaluating) (slot : ℕ) (v : Value) : Type 0 where
  pub waits : Waits s.demand now.engine s.world s.before
  pub within : WithinRoom s.demand.first.room now.engine.stored
  pub ready : IsTrue (is_ready (row_at s.before slot))
  pub taken : IsTaken s.before now.rows slot
  pub answers : (r : TaskRow) → row_at s.before slot ≡ Some r → (b : Elements) → MayHave now.engine b
      → Answers s.demand b (holding now.engine) now.engine.stored.lost (plain_task now.engine.known r.task) (plain v)

-- the rows before are those of the evaluation
abbrev pub at_rows : DemandIn → List (Option TaskRow) → Settling
at_rows i rows = record { demand = i.demand; world = i.world; before = rows }

-- Of what an engine owns the value is put under a key, if there is one, or lost for want of memory.
abbrev pub IsKept : Option Key → (old new : EngineView) → Value → Type 0
IsKept None old new v = new ≡ old
IsKept (Some k) old new v = (new ≡ record old { stored = new.stored }) × PutsOrLoses old.stored new.stored k v
