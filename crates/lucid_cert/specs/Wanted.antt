-- What waits is wanted by the root. A judgment in the making is seen as a task: its node in its context at its point, and how many references
-- deep it may look.
use Rattle.std.specs.Prelude.{◌≡◌, ℕ, ◌+◌, ◌-◌, ◌≤◌, List, [], ◌∷◌, ◌++◌, Some, None, Result, IsErrOf, OnOk}
use Rattle.lucid_value.specs.Plain.{PlainValue}
use Rattle.lucid_tree.specs.Tree.{Head}
use Rattle.lucid_tree.specs.Members.{Inside}
use Rattle.lucid_tree.specs.Rows.{Look as PlainLook, Plan, plan}
use Rattle.lucid_tree.specs.Rests.{ReadsAtSome}
use Rattle.lucid_tree.specs.Levels.{Elements, nothing_held}
use Rattle.lucid_tags.specs.Contexts.{Context}
use Rattle.lucid_tags.specs.Known.{context_of}
use Rattle.lucid_equations.specs.Nodes.{row, PlainNodes}
use Rattle.lucid_equations.specs.Parts.{reads_parts}
use Rattle.lucid_equations.specs.Rows.{equations_of}
use Rattle.lucid_equations.specs.declared.rows.Node.{Node}
use Rattle.lucid_equations.specs.declared.rows.Node.TheVariants.{Freeze}
use Rattle.lucid_equations.specs.declared.table.Table.{Table}
use Rattle.lucid_demand_steps.specs.Tasks.{PlainTask}
use Rattle.lucid_demand_steps.specs.Parts.{node_of}
use Rattle.lucid_demand_steps.specs.Stands.{task_val, task_visits}
use Rattle.lucid_cert_rules.specs.RestPlans.{by_then, rest_plan, CanGoOn, Stands, AreFedAlike}
use Rattle.lucid_cert_rules.specs.declared.passing.Position.{Position}
use Rattle.lucid_cert_rules.specs.declared.rest.Look.{Look}
use Rattle.lucid_cert_rules.specs.declared.rest.Rest.{Rest}
use Rattle.lucid_cert_rules.specs.declared.rest.Rest.TheVariants as rest
use Rattle.lucid_cert.specs.Uses.{plain_look}
use Rattle.lucid_demand_steps.specs.declared.fault.DemandFault.{DemandFault}
use Rattle.lucid_demand_steps.specs.declared.fault.DemandFault.TheVariants.{TooDeep}
use Rattle.lucid_cert.specs.Makers.{Each, table_in}
use Rattle.lucid_cert.specs.declared.maker.Maker.{Maker}
use Rattle.lucid_cert.specs.declared.making.Making.{Making}
use Rattle.lucid_cert.specs.declared.making.Next.{Next}
use Rattle.lucid_cert.specs.declared.making.Next.TheVariants as next

-- the task of a position at a space, which may look so many references deep
abbrev pub task_at : List Context → Position → (space limit : ℕ) → PlainTask
task_at known at s m = record { node = at.node; context = context_of known at.context; time = at.time; space = s; limit = m }

-- Where the root's own approximation is defined, so is the task's; and what the task visits the root visits, with each added number from some
-- on.
pub record IsWanted (T : Table) (b : Elements) (root x : PlainTask) : Type 0 where
  pub needed : (v : PlainValue) → task_val T b root ≡ Some v → (w : PlainValue) × (task_val T b x ≡ Some w)
  pub added : ℕ
  pub seen : (d : ℕ) → added ≤ d → Inside (task_visits T b d x) (task_visits T b d root)

-- By looks that have these values, one after another, a form's plan comes to this rest, at each limit that is large enough.
pub data ComesTo (M : PlainLook → PlainValue → Type 0) (plan : (limit : ℕ) → Plan) (time : ℕ) : List PlainValue → Rest → Type 0 where
  begun : (r : Rest) → ((m most : ℕ) → time + most ≤ m → AreFedAlike most (plan m) (rest_plan m [] r)) → Stands 0 r → ComesTo M plan time [] r
  gone_on : (vs : List PlainValue) (l : Look) (v : PlainValue) (r : Rest) → ComesTo M plan time vs (rest.Look l) → M (plain_look l) v
      → ((m k most : ℕ) (vs : List PlainValue) → CanGoOn k l → k + 1 + most ≤ m → AreFedAlike most (by_then m vs l.then l.part l.time l.space v) (rest_plan m (vs ++ v ∷ []) r))
      → ((k : ℕ) → CanGoOn k l → Stands (k + 1) r) → ComesTo M plan time (vs ++ v ∷ []) r

-- The task is a form's, whose plan comes to this rest by values that its parts mean.
pub record HasCome (T : Table) (b : Elements) (x : PlainTask) (r : Rest) : Type 0 where
  pub head : Head
  pub nodes : PlainNodes
  pub is : node_of T x ≡ row head nodes
  pub values : List PlainValue
  pub comes : ComesTo (ReadsAtSome (λ n. reads_parts (equations_of T) (nothing_held b) n nodes x.context)) (λ m. plan m head x.time x.space) x.time values r

-- What a judgment in the making wants next, it may want: a look stands next in its plan; what it goes on with is wanted, so many references on.
abbrev pub MayWant : Table → Elements → (root : PlainTask) → List Context → Making → Next → Type 0
MayWant T b root known w (next.Look l) = HasCome T b (task_at known w.at w.space w.limit) (rest.Look l)
MayWant T b root known w (next.Position at references) = IsWanted T b root (task_at known at w.space (w.limit - references))

-- A judgment in the making is wanted, and may want what it wants next.
pub record MayWait (T : Table) (b : Elements) (root : PlainTask) (known : List Context) (w : Making) : Type 0 where
  pub own : IsWanted T b root (task_at known w.at w.space w.limit)
  pub next : MayWant T b root known w w.next

-- all of these may wait
abbrev pub AllMayWait : Table → Elements → (root : PlainTask) → List Context → List Making → Type 0
AllMayWait T b root known ws = Each (MayWait T b root known) ws

-- all that wait of a certificate in the making
abbrev pub AreWanted : Elements → (root : PlainTask) → Maker → Type 0
AreWanted b root m = AllMayWait (table_in m) b root m.tags m.waiting.items

-- how many references a node is that passes on
abbrev pub references_of : Node → ℕ
references_of (Freeze a) = 0
references_of _ = 1

-- After a step all that wait may wait; or it is too deep, and the root's approximation is undefined.
pub record StaysWanted (b : Elements) (root : PlainTask) (old new : Maker) (result : Result (Unit {0}) DemandFault) : Type 0 where
  pub waits : OnOk result (AreWanted b root new)
  pub deep : IsErrOf result TooDeep → task_val (table_in old) b root ≡ None
