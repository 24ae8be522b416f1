-- What stays fixed while one demand runs, and what is said against it: what its root visits, and what answers a task.
use Rattle.std.specs.Prelude.{◌≡◌, ℕ, Bool, IsTrue, List, Some, None, if◌then◌else◌}
use Rattle.std.specs.List.{filter_map}
use Rattle.lucid_value.specs.Plain.{PlainValue}
use Rattle.lucid_tree.specs.Members.{In, Inside}
use Rattle.lucid_tree.specs.Rows.{Look}
use Rattle.lucid_tree.specs.Levels.{Elements, look_up_of, reference_of, entered_of}
use Rattle.lucid_tags.specs.Contexts.{Context, root}
use Rattle.lucid_ports.specs.World.{World}
use Rattle.lucid_equations.specs.Rows.{equations_of}
use Rattle.lucid_equations.specs.declared.table.Table.{Table}
use Rattle.lucid_demand_steps.specs.Tasks.{PlainTask, DatonAt}
use Rattle.lucid_demand_steps.specs.Parts.{node_of, look_task}
use Rattle.lucid_demand_steps.specs.Stands.{Holding, task_val, task_visits, TaskMeans}
use Rattle.lucid_demand_steps.specs.Held.{NeedsHeld}
use Rattle.lucid_demand_steps.specs.Engine.{EngineView, ForSomeAdded, holding}

-- A demand: the engine and the world as they were when it began, and its root.
pub record Demand : Type 0 where
  pub first : EngineView
  pub world : World
  pub root : PlainTask

abbrev pub table_of : Demand → Table
table_of d = d.first.table

-- what is held under a policy that keeps, and else nothing
abbrev pub held_if : Bool → Holding → Holding
held_if keeps h k s = if keeps then h k s else None

-- What stays held whatever is dropped: what was held when the demand began, under a policy that keeps.
abbrev pub stays : Demand → Holding
stays d = held_if d.first.keeps (holding d.first)

-- the demand of an engine's root at a point
abbrev pub demand_of : EngineView → World → (time space limit : ℕ) → Demand
demand_of e w t s m = record { first = e; world = w; root = record { node = e.table.root; context = root; time = t; space = s; limit = m } }

-- all that the task visits is visited by the root
abbrev pub IsSeen : Demand → Elements → PlainTask → Type 0
IsSeen d b x = ForSomeAdded d.first (λ e. Inside (task_visits (table_of d) b e x) (task_visits (table_of d) b e d.root))

-- the root goes to the daton; it enters the context; it looks up the element
abbrev pub IsVisited : Demand → Elements → DatonAt → Type 0
IsVisited d b k = ForSomeAdded d.first (λ e. In k (filter_map reference_of (task_visits (table_of d) b e d.root)))

abbrev pub IsEntered : Demand → Elements → Context → Type 0
IsEntered d b c = ForSomeAdded d.first (λ e. In c (filter_map entered_of (task_visits (table_of d) b e d.root)))

abbrev pub IsConsulted : Demand → Elements → (input : List ℕ) → (index : ℕ) → Type 0
IsConsulted d b n j = ForSomeAdded d.first (λ e. In (n, j) (filter_map look_up_of (task_visits (table_of d) b e d.root)))

-- The value answers the task. It is meant; under a policy that empties it is that of the task's own approximation; under one that
-- keeps, and with nothing lost, all that it needs is held.
pub record Answers (d : Demand) (b : Elements) (h : Holding) (lost : ℕ) (x : PlainTask) (v : PlainValue) : Type 0 where
  pub means : TaskMeans (table_of d) b x v
  pub exact : IsTrue d.first.empties → task_val (table_of d) b x ≡ Some v
  pub kept : IsTrue d.first.keeps → lost ≡ 0 → NeedsHeld (equations_of (table_of d)) b h (node_of (table_of d) x) x.context x.time x.space

-- the value answers the look's task
pub record LookAnswers (d : Demand) (b : Elements) (h : Holding) (lost : ℕ) (x : PlainTask) (l : Look) (v : PlainValue) : Type 0 where
  pub task : PlainTask
  pub is : look_task (table_of d) x l ≡ Some task
  pub answers : Answers d b h lost task v
