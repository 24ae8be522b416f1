-- Why a ready row does what it does next. A decision is justified by the row alone: by where it has come to in its form's plan. No fact
-- of the store, of the demand or of the elements is in it; what a reference goes on with, and whether it is held, is seen by those who act.
use Rattle.std.specs.Prelude.{◌≡◌, Bool, true, false, ℕ, suc, ◌<◌, List, Option, Some, None, ◌⊎◌}
use Rattle.lucid_value.specs.Plain.{PlainValue, truth}
use Rattle.lucid_tasks.specs.declared.Cursor.{Cursor}
use Rattle.lucid_tree.specs.Members.{In}
use Rattle.lucid_tree.specs.Tree.{Head, const}
use Rattle.lucid_tree.specs.Rows.{Look, Plan, gives, looks}
use Rattle.lucid_tree.specs.Rests.{LeadsTo, rest_at, CanStandAt}
use Rattle.lucid_tree.specs.Levels.{element_of, nowhere}
use Rattle.lucid_equations.specs.Nodes.{row, PlainNodes, no_nodes}
use Rattle.lucid_equations.specs.Rows.{row_at, constant_at, part_number}
use Rattle.lucid_equations.specs.declared.rows.Node.TheVariants as node
use Rattle.lucid_equations.specs.declared.table.Table.{Table}
use Rattle.lucid_demand_steps.specs.Tasks.{PlainTask, PlainRow, DatonAt, idle, state_at, value_of_part, key_list}
use Rattle.lucid_demand_steps.specs.Parts.{node_of, rank, moved, aim_of_task, look_of_row, RefersTo, IsReference, IsPart}
use Rattle.lucid_demand_steps.specs.Stands.{StandsFor}
use Rattle.lucid_demand_steps.specs.Held.{is_search}

-- the value of a row's part, as the answer to the look of the form's plan
pub record RowHas (f : Head) (r : PlainRow) (l : Look) (v : PlainValue) : Type 0 where
  pub index : ℕ
  pub look : look_of_row f r index ≡ Some l
  pub value : value_of_part r index ≡ Some v

-- the value of a constant, as the answer to a look at it, whatever the row's parts have
pub record LooksAtConstant (T : Table) (x : PlainTask) (l : Look) (v : PlainValue) : Type 0 where
  pub part : ℕ
  pub number : part_number T x.node l.part ≡ Some part
  pub constant : ℕ
  pub is : row_at T part ≡ Some (node.Const constant)
  pub value : constant_at T constant ≡ v

abbrev pub LookHas : Table → Head → PlainRow → Look → PlainValue → Type 0
LookHas T f r l v = RowHas f r l v ⊎ LooksAtConstant T r.task l v

-- The values of the row's parts, and of constants, lead from where its search stands to this rest of its form's plan.
pub record ComesTo (T : Table) (r : PlainRow) (q : Plan) : Type 0 where
  pub form : Head
  pub nodes : PlainNodes
  pub is : node_of T r.task ≡ row form nodes
  pub along : LeadsTo (LookHas T form r) (rest_at form r.task.limit r.cursor.time r.cursor.count r.task.time r.task.space) q

-- the row's value: a part's, an applied operator's, a constant or what a form gives by itself
abbrev pub GivesByPlan : Table → PlainRow → PlainValue → Type 0
GivesByPlan T r v = ComesTo T r (gives v)

-- A part that may be asked: it is idle, and its look stands next.
pub record MayAsk (T : Table) (r : PlainRow) (index : ℕ) : Type 0 where
  pub stands_next : List Look
  pub go_on : List PlainValue → Plan
  pub at : ComesTo T r (looks stands_next go_on)
  pub look : Look
  pub is : look_of_row at.form r index ≡ Some look
  pub next : In look stands_next
  pub free : state_at r.parts index ≡ idle
  pub few : index < 3

-- the cursor after a look that was a truth
abbrev pub looked_on : Cursor → Bool → Cursor
looked_on c true = record { time = suc c.time; count = suc c.count }
looked_on c false = record { time = suc c.time; count = c.count }

-- A search goes on: its last look was a truth, it had a look to take, and does not end there.
pub record MayMove (T : Table) (r : PlainRow) (truth_seen : Bool) : Type 0 where
  pub form : Head
  pub nodes : PlainNodes
  pub is : node_of T r.task ≡ row form nodes
  pub search : is_search form ≡ true
  pub value : value_of_part r 1 ≡ Some (truth truth_seen)
  pub before : r.cursor.time < r.task.limit
  pub within : CanStandAt form r.cursor.time r.cursor.count r.task.time
      → CanStandAt form (looked_on r.cursor truth_seen).time (looked_on r.cursor truth_seen).count r.task.time

-- the row is an input's, and may read
pub record MayRead (T : Table) (x : PlainTask) (n : List ℕ) (j : ℕ) : Type 0 where
  pub aim : aim_of_task T x ≡ element_of n j
  pub deep : 0 < x.limit

-- The row's reference leads nowhere; or it would look one reference too deep. The second holds only where the daton isn't held. Or it
-- would read an element one reference too deep.
pub data LooksTooDeep (T : Table) (x : PlainTask) : Type 0 where
  leads_nowhere : IsReference (node_of T x) → aim_of_task T x ≡ nowhere → LooksTooDeep T x
  too_deep_for : {k : DatonAt} → RefersTo T x k → x.limit ≡ 0 → LooksTooDeep T x
  element_too_deep : {n : List ℕ} {j : ℕ} → aim_of_task T x ≡ element_of n j → x.limit ≡ 0 → LooksTooDeep T x

-- A task whose row is asked for a part, and remembers this daton, or none: it stands for the part by the daton, costs less than the row, and
-- does not only move the point.
pub record AsksFor (T : Table) (r : PlainRow) (index : ℕ) (x : PlainTask) (key : Option DatonAt) : Type 0 where
  pub part : PlainTask
  pub is_part : IsPart T r index part
  pub stands : StandsFor T (key_list key) x part
  pub lower : rank T x < rank T r.task
  pub still : moved T x ≡ None

-- the task gives this constant
abbrev pub IsConstant : Table → PlainTask → PlainValue → Type 0
IsConstant T x v = node_of T x ≡ row (const v) no_nodes
