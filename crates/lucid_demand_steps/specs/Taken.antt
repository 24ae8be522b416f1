-- When a ready row may take a step of its form, and what a row with one node decides.
use Rattle.std.specs.Prelude.{◌≡◌, ℕ, ◌<◌, Bool, true, List, [], Option, Some, length, option_map, unwrap_or}
use Rattle.lucid_value.specs.Plain.{truth}
use Rattle.lucid_tree.specs.declared.form.Form.{Form}
use Rattle.lucid_tree.specs.Forms.{part_count}
use Rattle.lucid_tree.specs.Tree.{stream}
use Rattle.lucid_tree.specs.Rows.{Plan}
use Rattle.lucid_tree.specs.Rests.{LeadsTo, rest_at, CanStandAt}
use Rattle.lucid_equations.specs.declared.step.Place.{Place}
use Rattle.lucid_equations.specs.declared.step.PartAt.{PartAt}
use Rattle.lucid_equations.specs.declared.step.Given.{Given}
use Rattle.lucid_equations.specs.declared.step.Given.TheVariants as given
use Rattle.lucid_equations.specs.declared.step.Step.{Step}
use Rattle.lucid_equations.specs.declared.step.Step.TheVariants as step
use Rattle.lucid_equations.specs.Steps.{step_plan}
use Rattle.lucid_tags.specs.Contexts.{Context}
use Rattle.lucid_tags.specs.Known.{IsKnown}
use Rattle.lucid_tasks.specs.declared.Task.{Task}
use Rattle.lucid_tasks.specs.Rows.{TaskRow}
use Rattle.lucid_equations.specs.Nodes.{PlainNodes, row}
use Rattle.lucid_equations.specs.Rows.{row_at, node_at, node_by, parts}
use Rattle.lucid_equations.specs.Ranges.{NodeIsInRange, sizes}
use Rattle.lucid_equations.specs.declared.rows.Node.{Node}
use Rattle.lucid_equations.specs.declared.table.Table.{Table}
use Rattle.lucid_demand_steps.specs.Tasks.{PlainRow, plain_row, plain_task, value_of_part}
use Rattle.lucid_demand_steps.specs.Held.{is_search}
use Rattle.lucid_demand_steps.specs.Parts.{look_of_row}
use Rattle.lucid_demand_steps.specs.Decisions.{RowHas, looked_on}
use Rattle.lucid_demand_steps.specs.declared.decision.Decision.{Decision}
use Rattle.lucid_demand_steps.specs.declared.decision.Decision.TheVariants.{Ask, Truth, End, Fault}
use Rattle.lucid_demand_steps.specs.Justified.{Justified}
use Rattle.lucid_demand_steps.specs.Ready.{IsReadyRow}

-- where a row is taken, and where its search stands
abbrev pub place_of : PlainRow → Place
place_of r = record { time = r.task.time; space = r.task.space; limit = r.task.limit; reached = r.cursor.time; count = r.cursor.count }

-- The values of the row's parts lead from where its search stands to this rest of the form's plan.
abbrev pub Leads : Form → PlainRow → Plan → Type 0
Leads f r q = LeadsTo (RowHas (stream f) r) (rest_at (stream f) r.task.limit r.cursor.time r.cursor.count r.task.time r.task.space) q

-- a look of the plan is that of the row's part
abbrev pub IsLook : Form → PlainRow → PartAt → (least : ℕ) → Type 0
IsLook f r x l = look_of_row (stream f) r x.part ≡ Some (record { part = x.part; time = x.time; space = x.space; least = l })

-- The row's search goes on after a truth: it had a look to take, and does not end there.
pub record SearchesOn (f : Form) (r : PlainRow) (seen : Bool) : Type 0 where
  pub search : is_search (stream f) ≡ true
  pub value : value_of_part r 1 ≡ Some (truth seen)
  pub before : r.cursor.time < r.task.limit
  pub within : CanStandAt (stream f) r.cursor.time r.cursor.count r.task.time
      → CanStandAt (stream f) (looked_on r.cursor seen).time (looked_on r.cursor seen).count r.task.time

-- what a step looks at is the look of the row's part, and a search may go on
abbrev pub Fits : Form → PlainRow → Step → Type 0
Fits f r (step.Part x) = IsLook f r x 0
Fits f r (step.Judge x) = IsLook f r x 0
Fits f r (step.On seen) = SearchesOn f r seen
Fits f r _ = Unit {0}

-- A row may take a step of its form: the values of its parts lead to the step's plan.
pub record MayTake (f : Form) (r : PlainRow) (x : Step) : Type 0 where
  pub leads : Leads f r (step_plan f (place_of r) x)
  pub fits : Fits f r x

-- the parts of the node of a number, by their numbers; none where there is no such node
abbrev pub parts_at : Table → ℕ → List ℕ
parts_at T id = unwrap_or (option_map parts (row_at T id)) []

-- A ready row whose node is a form over streams, with as many parts as the form has.
pub record IsFormRow (T : Table) (known : List Context) (forest : List (Option TaskRow)) (slot : ℕ) (task : Task) (its : TaskRow) (f : Form) : Type 0 where
  pub ready : IsReadyRow T known forest slot task its
  pub nodes : PlainNodes
  pub form : node_at T task.node ≡ row (stream f) nodes
  pub count : length (parts_at T task.node) ≡ part_count f

-- It is asked for a part that is this node, at its time and space, in the context of the row's task and at its limit.
pub record IsAskFor (task : Task) (node : ℕ) (x : PartAt) (d : Decision) : Type 0 where
  pub asked : Task
  pub is : d ≡ Ask x.part asked
  pub moved : (known : List Context) → plain_task known asked ≡ record (plain_task known task) { node = node; time = x.time; space = x.space }
  pub known_tag : (known : List Context) → IsKnown known task.tag → IsKnown known asked.tag

-- what a form gives by itself, as a decision
abbrev pub settled : Given → Decision
settled (given.Truth holds) = Truth holds
settled given.End = End
settled given.Fault = Fault

-- The decision is justified in a table whose row of the task is this node,
abbrev pub DecidesIn : Table → List (Option TaskRow) → (slot : ℕ) → Task → Node → Decision → Type 0
DecidesIn T forest slot task n decision =
    (known : List Context) (its : TaskRow) → IsReadyRow T known forest slot task its → row_at T task.node ≡ Some n → node_at T task.node ≡ node_by T n
    → NodeIsInRange (sizes T) task.node n → Justified T known (plain_row known its) decision

-- or in each such table.
abbrev pub DecidesFor : List (Option TaskRow) → (slot : ℕ) → Task → Node → Decision → Type 0
DecidesFor forest slot task n decision = (T : Table) → DecidesIn T forest slot task n decision
