-- A task that stands for another: whoever has the value of the one has that of the other.
use Rattle.std.specs.Prelude.{◌≡◌, ℕ, zero, suc, ◌≤◌, List, ◌⊎◌, Option, Some, None}
use Rattle.lucid_value.specs.Plain.{PlainValue}
use Rattle.lucid_tree.specs.Members.{In, Inside}
use Rattle.lucid_tree.specs.Levels.{Elements, Given}
use Rattle.lucid_equations.specs.Datons.{Daton}
use Rattle.lucid_equations.specs.Values.{node_hval, node_val, NodeMeans}
use Rattle.lucid_equations.specs.Visits.{NodeEvents, node_visits, IsNeeded}
use Rattle.lucid_equations.specs.Rows.{equations_of}
use Rattle.lucid_equations.specs.declared.table.Table.{Table}
use Rattle.lucid_demand_steps.specs.Tasks.{PlainTask, DatonAt}
use Rattle.lucid_demand_steps.specs.Parts.{node_of, rank}

-- what is held: values by datons and spaces
abbrev pub Holding : Type 0
Holding = Daton → (space : ℕ) → Option PlainValue

abbrev pub given : Elements → Holding → Given Daton
given b h = record { element = b; held = h }

-- none of these datons is held
abbrev pub Lacks : Holding → List DatonAt → Type 0
Lacks h ks = (k : DatonAt) → In k ks → h k.0 k.1 ≡ None

-- the approximation of a task's node at its point, and that with held values, at any limit
abbrev pub val_of : Table → Elements → (m : ℕ) → PlainTask → Option PlainValue
val_of T b m x = node_val (equations_of T) b m (node_of T x) x.context x.time x.space

abbrev pub hval_of : Table → Elements → Holding → (m : ℕ) → PlainTask → Option PlainValue
hval_of T b h m x = node_hval (equations_of T) (given b h) m (node_of T x) x.context x.time x.space

-- the task's own approximation: at its own limit
abbrev pub task_val : Table → Elements → PlainTask → Option PlainValue
task_val T b x = val_of T b x.limit x

-- the task's node means the value at its point
abbrev pub TaskMeans : Table → Elements → PlainTask → PlainValue → Type 0
TaskMeans T b x v = NodeMeans (equations_of T) b (node_of T x) x.context x.time x.space v

-- the task's own approximation is defined, with what is held
abbrev pub IsDefined : Table → Elements → Holding → PlainTask → Type 0
IsDefined T b h x = (v : PlainValue) × (hval_of T b h x.limit x ≡ Some v)

-- what the task's node visits at a limit, with e added for choices
abbrev pub visits_of : Table → Elements → (m e : ℕ) → PlainTask → NodeEvents
visits_of T b m e x = node_visits (equations_of T) b m e (node_of T x) x.context x.time x.space

abbrev pub task_visits : Table → Elements → (e : ℕ) → PlainTask → NodeEvents
task_visits T b e x = visits_of T b x.limit e x

-- the daton is needed for what the task's node means
abbrev pub TaskNeeds : Table → Elements → PlainTask → DatonAt → Type 0
TaskNeeds T b x k = IsNeeded (equations_of T) b (node_of T x) x.context x.time x.space k

-- a limit that is so many references higher, by cases, so that it computes
abbrev pub higher : (fewer m : ℕ) → ℕ
higher zero m = m
higher (suc n) m = suc (higher n m)

-- One task stands for another, from which it comes by what only moves the point and by references of these datons, none of which
-- is held. It has so many references fewer to look through. All of it is said for every way in which the elements may grow, and for
-- every limit, so it holds for what the tasks mean and for their own approximations alike.
pub record StandsFor (T : Table) (ks : List DatonAt) (new old : PlainTask) : Type 0 where
  pub fewer : ℕ
  pub limit : old.limit ≡ higher fewer new.limit
  pub rank : rank T new ≤ rank T old
  pub values : (b : Elements) (h : Holding) → Lacks h ks → (m : ℕ) → hval_of T b h m new ≡ hval_of T b h (higher fewer m) old
  pub visits : (b : Elements) (m e : ℕ) → Inside (visits_of T b m e new) (visits_of T b (higher fewer m) e old)
  pub needs : (b : Elements) (k : DatonAt) → TaskNeeds T b old k → In k ks ⊎ TaskNeeds T b new k
