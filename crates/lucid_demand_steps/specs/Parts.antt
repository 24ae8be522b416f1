-- The parts of a task: what it looks at, what a reference goes on with, and what only moves the point.
use Rattle.std.specs.Prelude.{◌≡◌, ℕ, zero, suc, ◌+◌, ◌*◌, ◌<◌, List, [], ◌∷◌, Option, Some, None, if◌then◌else◌, nat_lt, option_map, option_and_then, length}
use Rattle.lucid_value.specs.Plain.{PlainValue}
use Rattle.lucid_tree.specs.declared.form.Form.{Form}
use Rattle.lucid_tree.specs.declared.form.Form.TheVariants as forms
use Rattle.lucid_tree.specs.declared.form.Decider.{Decider}
use Rattle.lucid_tree.specs.Forms.{form_row}
use Rattle.lucid_tree.specs.declared.form.Decider.TheVariants.{Test, Target, Search}
use Rattle.lucid_tree.specs.Tree.{Head, const, apply, stream}
use Rattle.lucid_tree.specs.Rows.{Look}
use Rattle.lucid_tree.specs.Levels.{goes_to}
use Rattle.lucid_tags.specs.Contexts.{Context, frozen_frame}
use Rattle.lucid_tasks.specs.declared.Cursor.{Cursor}
use Rattle.lucid_equations.specs.Nodes.{PlainNode, row, freeze, reference, invoke, PlainNodes, input, refer}
use Rattle.lucid_equations.specs.Datons.{NodePosition, NodeAim, node_aim}
use Rattle.lucid_equations.specs.Moving.{onward}
use Rattle.lucid_equations.specs.declared.step.Place.{Place}
use Rattle.lucid_equations.specs.declared.step.Step.{Step}
use Rattle.lucid_equations.specs.declared.step.Step.TheVariants as step
use Rattle.lucid_equations.specs.Steps.{answer_of, step_after}
use Rattle.lucid_equations.specs.Rows.{node_at, part_number, equations_of}
use Rattle.lucid_equations.specs.declared.table.Table.{Table}
use Rattle.lucid_demand_steps.specs.Tasks.{PlainTask, PlainRow, DatonAt, value_of_part}

-- the node of a task
abbrev pub node_of : Table → PlainTask → PlainNode
node_of T x = node_at T x.node

-- the task is one of the table's
abbrev pub IsTask : Table → PlainTask → Type 0
IsTask T x = x.node < length T.nodes

-- It falls from a task to its parts, and to the body of a reference.
abbrev pub rank : Table → PlainTask → ℕ
rank T x = x.limit * length T.nodes + x.node

-- What only moves the point goes on with one part at one point, at the same limit: a form, or a frozen time in the context that it
-- enters. The part's node has a lower number.
abbrev pub moved_by : Table → PlainTask → PlainNode → Option PlainTask
moved_by T x (row f es) =
    option_and_then (λ q. option_map (λ n. record x { node = n; time = q.time; space = q.space }) (part_number T x.node q.part)) (onward f x.time x.space)
moved_by T x (freeze e) = option_map (λ n. record x { node = n; context = frozen_frame x.time x.context }) (part_number T x.node 0)
moved_by T x (reference r) = None
moved_by T x (invoke n at l) = None

abbrev pub moved : Table → PlainTask → Option PlainTask
moved T x = moved_by T x (node_of T x)

-- on with the next task, where there is one
abbrev pub on_with : {A : Type 0} → Option PlainTask → (none : A) → (PlainTask → A) → A
on_with None a k = a
on_with (Some y) a k = k y

-- The task after everything that only moves the point. Each step lowers the node, so as many steps as the node's number are enough.
abbrev pub passed_in : Table → (steps : ℕ) → PlainTask → PlainTask
passed_in T zero x = x
passed_in T (suc n) x = on_with (moved T x) x (λ y. passed_in T n y)

abbrev pub passed : Table → PlainTask → PlainTask
passed T x = passed_in T (suc x.node) x

-- the contexts of the tasks on the way, of which those that frozen times make are entered
abbrev pub passed_contexts : Table → (steps : ℕ) → PlainTask → List Context
passed_contexts T zero x = []
passed_contexts T (suc n) x = on_with (moved T x) [] (λ y. y.context ∷ passed_contexts T n y)

-- a look at a part at a point, which each approximation takes
abbrev pub look_at : (part time space : ℕ) → Look
look_at i t s = record { part = i; time = t; space = s; least = 0 }

-- the look of a step that gives a part
abbrev pub look_of_step : Step → Option Look
look_of_step (step.Part x) = Some (look_at x.part x.time x.space)
look_of_step _ = None

-- The look at the target that part 1 has, where it has a value.
abbrev pub look_at_target : Form → Place → Option PlainValue → Option Look
look_at_target f p None = None
look_at_target f p (Some v) = look_of_step (step_after f p (answer_of v))

-- The look of a search that stands at a cursor.
abbrev pub look_of_search : Form → Cursor → (time space : ℕ) → (index : ℕ) → Option Look
look_of_search forms.Upon c t s zero = Some (look_at 0 c.count s)
look_of_search forms.Upon c t s (suc zero) = Some (record { part = 1; time = c.time; space = s; least = t })
look_of_search f c t s zero = Some (look_at 0 c.time s)
look_of_search f c t s (suc zero) = Some (record { part = 1; time = c.time; space = s; least = suc c.time })
look_of_search f c t s i = None

-- The look that a part's value answers, in a form at a point whose search stands at the cursor and whose part 1 has this value, if any.
-- It is the look of the form's plan; a part that isn't looked at has none.
abbrev pub look_by : Decider → Form → Cursor → (target : Option PlainValue) → (time space : ℕ) → (index : ℕ) → Option Look
look_by Test f c v t s i = Some (look_at i t s)
look_by Target f c v t s zero = look_at_target f (record { time = t; space = s; limit = 0; reached = c.time; count = c.count }) v
look_by Target f c v t s (suc zero) = Some (look_at 1 t s)
look_by Search f c v t s i = look_of_search f c t s i
look_by d f c v t s i = None

abbrev pub look_of : Head → Cursor → (target : Option PlainValue) → (time space : ℕ) → (index : ℕ) → Option Look
look_of (const k) c v t s i = None
look_of (apply op n) c v t s i = if nat_lt i n then Some (look_at i t s) else None
look_of (stream f) c v t s i = look_by (form_row f).decider f c v t s i

-- the look of a row's part
abbrev pub look_of_row : Head → PlainRow → (index : ℕ) → Option Look
look_of_row f r i = look_of f r.cursor (value_of_part r 1) r.task.time r.task.space i

-- the task of a look: the part at the look's point, in the same context and at the same limit
abbrev pub look_task : Table → PlainTask → Look → Option PlainTask
look_task T x l = option_map (λ n. record x { node = n; time = l.time; space = l.space }) (part_number T x.node l.part)

-- what a task's node goes on with as a reference
abbrev pub aim_of_task : Table → PlainTask → NodeAim
aim_of_task T x = node_aim (equations_of T) (node_of T x) x.context x.time

-- a reference of a name or a call, whatever it leads to
abbrev pub IsReference : PlainNode → Type 0
IsReference (row f es) = ⊥
IsReference (freeze e) = ⊥
IsReference (reference (input n)) = ⊥
IsReference (reference (refer n l)) = Unit {0}
IsReference (invoke n at l) = Unit {0}

-- the task is a reference of a daton
pub record RefersTo (T : Table) (x : PlainTask) (k : DatonAt) : Type 0 where
  pub position : NodePosition
  pub time : ℕ
  pub aim : aim_of_task T x ≡ goes_to k.0 position time
  pub space : k.1 ≡ x.space

-- The task is a reference of a daton, and has the limit to go on with its body, or with the actual of a parameter.
pub record GoesTo (T : Table) (x : PlainTask) (k : DatonAt) (body : PlainTask) : Type 0 where
  pub aim : aim_of_task T x ≡ goes_to k.0 (record { node = node_of T body; context = body.context }) body.time
  pub space : k.1 ≡ x.space
  pub same_space : body.space ≡ x.space
  pub limit : x.limit ≡ suc body.limit
  pub there : IsTask T body

-- The task of a part of a row: that of the look that the part's value answers, or, of a reference, its own.
pub data IsPart (T : Table) (r : PlainRow) : (index : ℕ) → PlainTask → Type 0 where
  part_by_look : {f : Head} {es : PlainNodes} {l : Look} {x : PlainTask} (index : ℕ) → node_of T r.task ≡ row f es → look_of_row f r index ≡ Some l
      → look_task T r.task l ≡ Some x → IsPart T r index x
  part_by_reference : {x : PlainTask} → IsReference (node_of T r.task) → x ≡ r.task → IsPart T r 0 x
