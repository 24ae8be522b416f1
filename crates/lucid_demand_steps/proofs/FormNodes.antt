-- A row whose node is read as a form over streams.
use Rattle.lucid_demand_steps.proofs.DecidingCommon.{ℕ, List, [], refl, ap, ◌∙◌, option_and_then, slice_get, Option, None, node_at, node_by, part_number, parts, Node, Table, Task, TaskRow, Context}
use Rattle.std.proofs.Common.{◌≡◌, Some, length}
use Rattle.std.specs.Prelude.{option_map, unwrap_or}
use Rattle.lucid_tree.specs.declared.form.Form.{Form}
use Rattle.lucid_tree.specs.Forms.{part_count}
use Rattle.lucid_equations.specs.Rows.{read, row_at, nodes_of, all_at}
use Rattle.lucid_equations.proofs.Formed.{is_form_node}
use Rattle.lucid_tasks.specs.Rows as rows
use Rattle.lucid_demand_steps.specs.Ready.{MayDecide}
use Rattle.lucid_demand_steps.specs.Taken.{parts_at, IsFormRow}
use Rattle.lucid_demand_steps.proofs.Deciding.{its_ready}

-- The parts of a node that is there,
pub parts_are : (T : Table) (id : ℕ) (n : Node) → row_at T id ≡ Some n → parts_at T id ≡ parts n
parts_are T id n there = ap (λ (o : Option Node). unwrap_or (option_map parts o) []) there

-- of which each has its number.
number_in : (o : Option Node) (i : ℕ) → option_and_then (λ n. slice_get (parts n) i) o ≡ slice_get (unwrap_or (option_map parts o) []) i
number_in None i = refl
number_in (Some n) i = refl

pub number_of_part : (T : Table) (id i : ℕ) → part_number T id i ≡ slice_get (parts_at T id) i
number_of_part T id i = number_in (row_at T id) i

-- A node that is read as a form has as many parts as the form.
pub form_count : (T : Table) (id : ℕ) (n : Node) → row_at T id ≡ Some n → (f : Form) (is : List ℕ) → read n ≡ Some (f, is)
    → length (parts_at T id) ≡ part_count f
form_count T id n there f is e =
    let h = is_form_node n (f, is) e in ap length (parts_are T id n there ∙ h.parts_are) ∙ h.count

-- The row that may be decided is one of the form that its node is read as.
pub form_row : (T : Table) (known : List Context) (forest : List (Option TaskRow)) (slot : ℕ) → MayDecide T known forest slot → (task : Task)
    → option_map (λ z. z.task) (rows.row_at forest slot) ≡ Some task → (n : Node) → row_at T task.node ≡ Some n → node_at T task.node ≡ node_by T n → (f : Form)
    (is : List ℕ) → read n ≡ Some (f, is) → (its : TaskRow) → rows.row_at forest slot ≡ Some its → IsFormRow T known forest slot task its f
form_row T known forest slot may task is_task n there meaning f is e its own =
    let h = is_form_node n (f, is) e in
    record {
      ready = its_ready T known forest slot may its own task is_task;
      nodes = all_at (nodes_of T) is;
      form = meaning ∙ h.node_is T;
      count = form_count T task.node n there f is e;
    }
