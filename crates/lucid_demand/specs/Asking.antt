-- When a task may be asked for, for a part of a row or as the root, and what asking does.
use Rattle.std.specs.Prelude.{◌≡◌, ◌≢◌, ℕ, suc, ◌<◌, ◌≤◌, List, [], Option, Some, None, IsTrue, Result, Err, IfOk, IfErr, IfSome, ◌⊎◌, length, slice_get, option_map}
use Rattle.std.specs.List.{filter_map}
use Rattle.lucid_tree.specs.Members.{In}
use Rattle.lucid_tree.specs.Levels.{Elements, entered_of}
use Rattle.lucid_ops.specs.declared.op.Op.{Op}
use Rattle.lucid_ops.specs.Arity.{arity}
use Rattle.lucid_tags.specs.Contexts.{Context}
use Rattle.lucid_tags.specs.Known.{IsKnown, IsOneForOne, KeepsKnown, space_of}
use Rattle.lucid_tasks.specs.declared.Part.{Part}
use Rattle.lucid_tasks.specs.declared.Task.{Task}
use Rattle.lucid_value.specs.declared.Value.{Value}
use Rattle.lucid_value.specs.View.{plain}
use Rattle.lucid_tasks.specs.Rows.{TaskRow, PartState, row_at, with_part, is_ready, IsRow, IsIdlePart}
use Rattle.lucid_ports.specs.World.{World}
use Rattle.lucid_equations.specs.declared.table.Table.{Table}
use Rattle.lucid_equations.specs.Datons.{Daton}
use Rattle.lucid_demand_steps.specs.Tasks.{PlainTask, PlainRow, idle, state_at, plain_task, plain_rows}
use Rattle.lucid_demand_steps.specs.Parts.{node_of, rank, aim_of_task, IsReference, IsPart}
use Rattle.lucid_demand_steps.specs.Stands.{visits_of, IsDefined, StandsFor}
use Rattle.lucid_demand_steps.specs.Engine.{EngineView, holding, MayHave}
use Rattle.lucid_demand_steps.specs.Demands.{Demand, table_of, stays, Answers}
use Rattle.lucid_demand_steps.specs.Rows.{IsWanted}
use Rattle.lucid_demand_steps.specs.Going.{IsDemand, Owns, Waits}
use Rattle.lucid_demand_steps.specs.Aims.{plain_aim, IsAim}
use Rattle.lucid_demand_steps.specs.declared.aim.Aim.{Aim}
use Rattle.lucid_demand.specs.Evaluating.{Evaluating, cost, OnAnswer, OnGoingOn}
use Rattle.lucid_demand_steps.specs.declared.fault.DemandFault.{DemandFault}
use Rattle.lucid_demand_steps.specs.declared.fault.DemandFault.TheVariants.{TooDeep, NoMemory}

-- The part, if it is for one, is idle, and the task is one of the table's, in a known context.
pub record CanAsk (e : Evaluating) (part : Option Part) (x : Task) : Type 0 where
  pub part_idle : IfSome part (IsIdlePart e.rows)
  pub there : x.node < length e.engine.table.nodes
  pub known : IsKnown e.engine.known x.tag

-- The row in the slot waits for none of its parts, its context is known, and the nodes of an operator's arguments are the table's.
pub record CanAskAll (e : Evaluating) (slot : ℕ) (op : Op) (args : List ℕ) : Type 0 where
  pub ready : IsTrue (is_ready (row_at e.rows slot))
  pub known : (r : TaskRow) → row_at e.rows slot ≡ Some r → IsKnown e.engine.known r.task.tag
  pub there : (i n : ℕ) → i < arity op → slice_get args i ≡ Some n → n < length e.engine.table.nodes

-- What asking for a part does to the rows that there were, whoever asks: that part alone is set. No known context is forgotten; of what is held a value
-- may have been looked up, and then the policy had its turn.
pub record SetsPart (old new : Evaluating) (part : Part) : Type 0 where
  pub state : PartState
  pub row : row_at new.rows part.slot ≡ option_map (with_part part.index state) (row_at old.rows part.slot)
  pub others : (q : ℕ) → IsRow old.rows q → q ≢ part.slot → row_at new.rows q ≡ row_at old.rows q
  pub only : new.engine ≡ record old.engine { known = new.engine.known; stored = new.engine.stored; noted = new.engine.noted }
  pub keeps : KeepsKnown old.engine.known new.engine.known

-- nothing is held, under a policy that empties
abbrev pub HoldsNothing : Demand → EngineView → Type 0
HoldsNothing d now = IsTrue d.first.empties → (k : Daton) (s : ℕ) → holding now k s ≡ None

-- What asking does in a demand. What the engine owns stays right. The rows wait on, at less cost where the asking was for a part; or the
-- root, which was asked for, has its value; or it is refused, too deep only where the root's approximation with what stays held is undefined.
pub record AsksIn (d : Demand) (old new : Evaluating) (w : World) (part : Option Part) (result : Result (Option Value) DemandFault) : Type 0 where
  pub owns : Owns d new.engine w
  pub goes_on : OnGoingOn result (Waits d new.engine w new.rows × IfSome part (λ p. cost d new < cost d old))
  pub answers : OnAnswer result (λ v. (b : Elements) → MayHave new.engine b → Answers d b (holding new.engine) new.engine.stored.lost d.root (plain v))
  pub nothing : OnGoingOn result (HoldsNothing d new.engine)
  pub deep : result ≡ Err TooDeep → (b : Elements) → MayHave new.engine b → IsDefined (table_of d) b (stays d) d.root → ⊥
  pub refused : IfErr result (λ f. (f ≡ TooDeep) ⊎ (f ≡ NoMemory))

-- A task is asked for an idle part, for which it stands, of a row that waits and ranks no lower than so.
pub record IsForPart (d : Demand) (e : Evaluating) (w : World) (part : Part) (x : PlainTask) (least : ℕ) : Type 0 where
  pub waits : Waits d e.engine w e.rows
  pub parent : PlainRow
  pub there : plain_rows e.engine.known e.rows part.slot ≡ Some parent
  pub free : state_at parent.parts part.index ≡ idle
  pub few : part.index < 3
  pub task : PlainTask
  pub is_part : IsPart (table_of d) parent part.index task
  pub stands : StandsFor (table_of d) [] x task
  pub least_rank : least ≤ rank (table_of d) parent.task

-- Or, where no row waits, it stands for the demand's root.
abbrev pub IsFor : Demand → Evaluating → World → Option Part → PlainTask → ℕ → Type 0
IsFor d e w None x least = (e.rows ≡ []) × StandsFor (table_of d) [] x d.root
IsFor d e w (Some part) x least = IsForPart d e w part x least

-- A task may be asked for in a demand.
pub record MayAskFor (d : Demand) (e : Evaluating) (w : World) (part : Option Part) (x : Task) (least : ℕ) : Type 0 where
  pub demand : IsDemand d
  pub owns : Owns d e.engine w
  pub nothing : HoldsNothing d e.engine
  pub wanted : (b : Elements) → MayHave e.engine b → IsWanted d b (plain_task e.engine.known x)
  pub tag : IsKnown e.engine.known x.tag
  pub is_for : IsFor d e w part (plain_task e.engine.known x) least

-- Any task: what it stands for costs more.
abbrev pub MayAskNow : Demand → Evaluating → World → Option Part → Task → Type 0
MayAskNow d e w part x = MayAskFor d e w part x (suc (rank (table_of d) (plain_task e.engine.known x)))

-- A reference: its body costs less than itself, so its own row may ask for it.
abbrev pub MayRefer : Demand → Evaluating → World → Option Part → Task → Type 0
MayRefer d e w part x = MayAskFor d e w part x (rank (table_of d) (plain_task e.engine.known x))

-- the task enters the context, at each limit
abbrev pub Enters : Table → PlainTask → Context → Type 0
Enters T x c = (b : Elements) (m e : ℕ) → In c (filter_map entered_of (visits_of T b m e x))

-- What a reference goes on with is found. Nothing changes but the known contexts: known tags stand for what they stood for, and no
-- context becomes known but those that the reference enters. A refusal changes nothing.
pub record FindsAim {E : Type 0} (old new : Evaluating) (x : Task) (result : Result (Option Aim) E) : Type 0 where
  pub aim : IsReference (node_of old.engine.table (plain_task old.engine.known x))
      → IfOk result (λ o. plain_aim old.engine.table new.engine.known o ≡ aim_of_task old.engine.table (plain_task old.engine.known x))
  pub there : IfOk result (λ o. IfSome o (IsAim old.engine.table new.engine.known (space_of x.tag)))
  pub only : new ≡ record old { engine = record old.engine { known = new.engine.known } }
  pub entered : (c : Context) → In c new.engine.known → In c old.engine.known ⊎ Enters old.engine.table (plain_task old.engine.known x) c
  pub keeps : KeepsKnown old.engine.known new.engine.known
  pub one_for_one : IsOneForOne old.engine.known → IsOneForOne new.engine.known
