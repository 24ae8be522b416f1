-- It is enough to justify a decision for the ready row itself.
use Rattle.lucid_demand_steps.proofs.DecidingCommon.{ℕ, List, Option, sym, ap, ◌∙◌, subst, same_Some, Context, Task, TaskRow, node_at, node_by, NodeIsInRange, sizes, Node, Table, plain_row, Justified, IsReadyRow, DecidesFor}
use Rattle.std.proofs.Common.{◌≡◌, Some}
use Rattle.std.specs.Prelude.{option_map}
use Rattle.lucid_tasks.specs.Rows as rows
use Rattle.lucid_equations.specs.Rows.{row_at}
use Rattle.lucid_demand_steps.specs.Taken.{DecidesIn}
use Rattle.lucid_demand_steps.specs.declared.decision.Decision.{Decision}
use Rattle.lucid_demand_steps.specs.Ready.{MayDecide}

-- It is enough to justify a decision with the row's own task.
pub decides_in : (T : Table) (forest : List (Option TaskRow)) (slot : ℕ) (task : Task) (n : Node) (decision : Task → Decision)
    → ((known : List Context) (its : TaskRow) → IsReadyRow T known forest slot its.task its → row_at T its.task.node ≡ Some n
    → node_at T its.task.node ≡ node_by T n
    → NodeIsInRange (sizes T) its.task.node n → Justified T known (plain_row known its) (decision its.task)) → DecidesIn T forest slot task n (decision task)
decides_in T forest slot task n decision h known its is there meaning range =
    let back : task ≡ its.task = sym is.is_task in
    subst (λ x. Justified T known (plain_row known its) (decision x)) is.is_task
    (h known its (subst (λ x. IsReadyRow T known forest slot x its) back is) (subst (λ x. row_at T x.node ≡ Some n) back there)
    (subst (λ x. node_at T x.node ≡ node_by T n) back meaning)
    (subst (λ x. NodeIsInRange (sizes T) x.node n) back range))

pub decides_for : (forest : List (Option TaskRow)) (slot : ℕ) (task : Task) (n : Node) (decision : Task → Decision)
    → ((T : Table) (known : List Context) (its : TaskRow) → IsReadyRow T known forest slot its.task its → row_at T its.task.node ≡ Some n
    → node_at T its.task.node ≡ node_by T n
    → NodeIsInRange (sizes T) its.task.node n → Justified T known (plain_row known its) (decision its.task)) → DecidesFor forest slot task n (decision task)
decides_for forest slot task n decision h T = decides_in T forest slot task n decision (h T)

-- And what is known of the task is known of the row's own.
pub decides_where : (forest : List (Option TaskRow)) (slot : ℕ) (task : Task) (n : Node) (P : Task → Type 0) (decision : Task → Decision) → P task
    → ((T : Table) (known : List Context) (its : TaskRow) → IsReadyRow T known forest slot its.task its → row_at T its.task.node ≡ Some n
    → node_at T its.task.node ≡ node_by T n
    → NodeIsInRange (sizes T) its.task.node n → P its.task
    → Justified T known (plain_row known its) (decision its.task)) → DecidesFor forest slot task n (decision task)
decides_where forest slot task n P decision p h T known its is there meaning range =
    let back : task ≡ its.task = sym is.is_task in
    subst (λ x. Justified T known (plain_row known its) (decision x)) is.is_task
    (h T known its (subst (λ x. IsReadyRow T known forest slot x its) back is) (subst (λ x. row_at T x.node ≡ Some n) back there)
    (subst (λ x. node_at T x.node ≡ node_by T n) back meaning)
    (subst (λ x. NodeIsInRange (sizes T) x.node n) back range) (subst P back p))

-- The row in the slot is the one that may be decided.
pub its_ready : (T : Table) (known : List Context) (forest : List (Option TaskRow)) (slot : ℕ) → MayDecide T known forest slot → (its : TaskRow)
    → rows.row_at forest slot ≡ Some its
    → (task : Task) → option_map (λ z. z.task) (rows.row_at forest slot) ≡ Some task → IsReadyRow T known forest slot task its
its_ready T known forest slot may its there task e =
    let same : may.row ≡ its = same_Some may.row its (sym may.is.there ∙ there) in
    let own : its.task ≡ task = same_Some its.task task (ap (option_map (λ z. z.task)) (sym there) ∙ e) in
    subst (λ x. IsReadyRow T known forest slot x its) own (subst (λ z. IsReadyRow T known forest slot z.task z) same may.is)
