-- The facts of the waiting rows. Each is local to its row and speaks of the demand's fixed root; none speaks of the path to it.
-- No fact about a limit mentions what is held but what stays held, so no discarding touches it.
use Rattle.std.specs.Prelude.{◌≡◌, ℕ, true, IsTrue, ◌<◌, ◌≤◌, [], length, Some, None}
use Rattle.lucid_value.specs.Plain.{PlainValue}
use Rattle.lucid_tree.specs.Tree.{Head}
use Rattle.lucid_tree.specs.Rests.{CanStandAt, count_below}
use Rattle.lucid_tree.specs.Levels.{Elements, goes_to}
use Rattle.lucid_tasks.specs.declared.Part.{Part}
use Rattle.lucid_equations.specs.Nodes.{row, PlainNodes}
use Rattle.lucid_equations.specs.Datons.{NodePosition, daton_aim}
use Rattle.lucid_equations.specs.Values.{node_val}
use Rattle.lucid_equations.specs.Rows.{equations_of, node_at, part_number}
use Rattle.lucid_demand_steps.specs.Tasks.{PlainTask, PlainRow, PlainRows, DatonAt, asked, state_at, value_of_part, key_list}
use Rattle.lucid_equations.specs.MoreElements.{Extends}
use Rattle.lucid_demand_steps.specs.Parts.{node_of, moved, IsTask, IsPart}
use Rattle.lucid_demand_steps.specs.Held.{Counted, DatonMeans, NeedsHeld, is_search}
use Rattle.lucid_demand_steps.specs.Stands.{Holding, IsDefined, StandsFor}
use Rattle.lucid_demand_steps.specs.Demands.{Demand, table_of, stays, IsSeen, IsVisited, Answers}

-- The value of a row's task is to become that of this daton: the task stands for the daton's body.
pub record Remembers (d : Demand) (b : Elements) (x : PlainTask) (k : DatonAt) : Type 0 where
  pub absent : stays d k.0 k.1 ≡ None
  pub body : PlainTask
  pub aim : daton_aim (equations_of (table_of d)) k.0 ≡ goes_to k.0 (record { node = node_of (table_of d) body; context = body.context }) body.time
  pub space : body.space ≡ k.1
  pub stands : StandsFor (table_of d) [] x body
  pub visited : IsVisited d b k

-- a part's value answers the part's task
pub record PartAnswers (d : Demand) (b : Elements) (h : Holding) (lost : ℕ) (r : PlainRow) (index : ℕ) (v : PlainValue) : Type 0 where
  pub task : PlainTask
  pub is : IsPart (table_of d) r index task
  pub answers : Answers d b h lost task v

-- A search stands at its cursor: the stream has truths at all times before, of which so many are true, and the search doesn't end
-- there. That it stands at a rest of its plan follows, and says less: at or past the limit every cursor stands at nothing.
pub record SearchFacts (d : Demand) (b : Elements) (h : Holding) (lost : ℕ) (r : PlainRow) (f : Head) (stream : ℕ) : Type 0 where
  pub counted : Counted (equations_of (table_of d)) b (node_at (table_of d) stream) r.task.context r.task.space r.cursor.time r.cursor.count
  -- by the row's own approximation, under a policy that empties
  pub exact : IsTrue d.first.empties
      → count_below (λ u. node_val (equations_of (table_of d)) b r.task.limit (node_at (table_of d) stream) r.task.context u r.task.space) r.cursor.time ≡ Some r.cursor.count
  pub kept : IsTrue d.first.keeps → lost ≡ 0 → (u : ℕ) → u < r.cursor.time
      → NeedsHeld (equations_of (table_of d)) b h (node_at (table_of d) stream) r.task.context u r.task.space
  pub within : CanStandAt f r.cursor.time r.cursor.count r.task.time

-- The facts of one row, over elements that extend those read.
pub record RowFacts (d : Demand) (b : Elements) (h : Holding) (lost : ℕ) (r : PlainRow) : Type 0 where
  pub there : IsTask (table_of d) r.task
  pub three : length r.parts ≡ 3
  pub limit : r.task.limit ≤ d.root.limit
  -- what only moves the point was passed before the row was made
  pub still : moved (table_of d) r.task ≡ None
  -- where the root's approximation is defined with what stays held, so is the row's own
  pub needed : IsDefined (table_of d) b (stays d) d.root → IsDefined (table_of d) b (stays d) r.task
  pub seen : IsSeen d b r.task
  pub search : (f : Head) (es : PlainNodes) (stream : ℕ) → node_of (table_of d) r.task ≡ row f es → is_search f ≡ true → part_number (table_of d) r.task.node 1 ≡ Some stream
      → SearchFacts d b h lost r f stream
  pub got_parts : (index : ℕ) (v : PlainValue) → value_of_part r index ≡ Some v → PartAnswers d b h lost r index v
  pub remembers : (k : DatonAt) → r.key ≡ Some k → Remembers d b r.task k

-- A task that may be asked for: it is one of the table's, no deeper than the root, needed where the root is, and visited with it.
pub record IsWanted (d : Demand) (b : Elements) (x : PlainTask) : Type 0 where
  pub there : IsTask (table_of d) x
  pub limit : x.limit ≤ d.root.limit
  pub needed : IsDefined (table_of d) b (stays d) d.root → IsDefined (table_of d) b (stays d) x
  pub seen : IsSeen d b x

-- The daton may be put with the value: it means it, it is visited, and what it needs is held.
pub record MayPut (d : Demand) (b : Elements) (h : Holding) (lost : ℕ) (k : DatonAt) (v : PlainValue) : Type 0 where
  pub means : DatonMeans (equations_of (table_of d)) b k v
  pub visited : IsVisited d b k
  pub needs : IsTrue d.first.keeps → lost ≡ 0 → (x : NodePosition) (u : ℕ) → daton_aim (equations_of (table_of d)) k.0 ≡ goes_to k.0 x u
      → NeedsHeld (equations_of (table_of d)) b h x.node x.context u k.1

-- The row that waits for the task in a slot: it is older, and asked the task for a part for which the row's own task stands.
pub record Serves (d : Demand) (rows : PlainRows) (slot : ℕ) (r : PlainRow) (part : Part) : Type 0 where
  pub parent : PlainRow
  pub there : rows part.slot ≡ Some parent
  pub asked_it : state_at parent.parts part.index ≡ asked slot
  pub older : part.slot < slot
  pub task : PlainTask
  pub is_part : IsPart (table_of d) parent part.index task
  pub stands : StandsFor (table_of d) (key_list r.key) r.task task

-- A row stands for the demand's root, or for a part of the row that waits for it.
pub record Links (d : Demand) (rows : PlainRows) (slot : ℕ) (r : PlainRow) : Type 0 where
  pub root : r.parent ≡ None → StandsFor (table_of d) (key_list r.key) r.task d.root
  pub serves : (part : Part) → r.parent ≡ Some part → Serves d rows slot r part

-- What is true of the rows at each turn, where these elements are read.
pub record Work (d : Demand) (now : Elements) (h : Holding) (lost : ℕ) (rows : PlainRows) : Type 0 where
  pub each : (slot : ℕ) (r : PlainRow) → rows slot ≡ Some r → (b : Elements) → Extends now b → RowFacts d b h lost r
  pub links : (slot : ℕ) (r : PlainRow) → rows slot ≡ Some r → Links d rows slot r
  pub some : (slot : ℕ) × (r : PlainRow) × (rows slot ≡ Some r)
