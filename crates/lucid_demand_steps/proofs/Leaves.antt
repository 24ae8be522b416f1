-- Why the decisions of the nodes without parts are justified.
use Rattle.lucid_demand_steps.proofs.DecidingCommon.{ℕ, List, [], Option, None, refl, sym, ap, subst, inr, arith, is_none, slice_get-get_or, plain, Value, Context, at_start, Task, TaskRow, got_of, node_at, node_by, constant_at, NodeIsInRange, sizes, Table, PlainRow, value_of_part, plain_row, node_of, aim_of_task, Constant, Read, Refuse, Justified, IsReadyRow, DecidesFor, get_or}
use Rattle.std.proofs.Common.{◌≡◌, ◌<◌, Some}
use Rattle.std.specs.Prelude.{false, option_map}
use Rattle.lucid_tree.specs.Tree.{const}
use Rattle.lucid_tree.specs.Levels.{element_of}
use Rattle.lucid_equations.specs.Rows.{equations_of}
use Rattle.lucid_equations.specs.declared.rows.Node.TheVariants as node
use Rattle.lucid_equations.specs.Datons.{node_aim}
use Rattle.lucid_demand_steps.specs.Parts.{IsReference}
use Rattle.lucid_demand_steps.specs.declared.decision.Decision.TheVariants.{Part}
use Rattle.lucid_demand_steps.proofs.Got.{value_is_got}
use Rattle.lucid_demand_steps.proofs.Deciding.{decides_for}

module _ (T : Table) (known : List Context) (forest : List (Option TaskRow)) (slot : ℕ) (its : TaskRow) (is : IsReadyRow T known forest slot its.task its) where
  abbrev r : PlainRow
  r = plain_row known its

  -- a constant, by its number
  constant_there : (k : ℕ) → node_at T its.task.node ≡ node_by T (node.Const k) → NodeIsInRange (sizes T) its.task.node (node.Const k)
      → Justified T known r (Constant k)
  constant_there k e range = (range.1, record { form = const (constant_at T k); nodes = _; is = e; along = at_start })

  -- a reference has the value that it asked for
  pub reference_has : IsReference (node_of T r.task) → is_none (got_of forest (record { slot = slot; index = 0 })) ≡ false → Justified T known r (Part 0)
  reference_has i h = go (got_of forest (record { slot = slot; index = 0 })) (value_is_got known forest slot its 0 is.there) h
    where
      go : (o : Option Value) → value_of_part r 0 ≡ option_map plain o → is_none o ≡ false → Justified T known r (Part 0)
      go None has n = absurd (cc)
      go (Some v) has n = (omega arith, (plain v, has, inr (i, refl)))

  pub name_is : (n l : ℕ) → node_at T its.task.node ≡ node_by T (node.Refer n l) → IsReference (node_of T r.task)
  name_is n l e = subst IsReference (sym e) tt

  pub call_is : (n q l : ℕ) → node_at T its.task.node ≡ node_by T (node.Call n q l) → IsReference (node_of T r.task)
  call_is n q l e = subst IsReference (sym e) tt

  -- an input: it reads the element of its time, where its limit isn't 0
  module _ (k : ℕ) (e : node_at T its.task.node ≡ node_by T (node.Input k)) (range : NodeIsInRange (sizes T) its.task.node (node.Input k)) where
    input_aim : aim_of_task T r.task ≡ element_of (get_or T.inputs k []) its.task.time
    input_aim = ap (λ z. node_aim (equations_of T) z r.task.context its.task.time) e

    pub input_reads : 0 < its.task.depth → Justified T known r (Read k)
    input_reads deep = (get_or T.inputs k [], slice_get-get_or T.inputs k [] range.1, record { aim = input_aim; deep = deep })

    pub input_refuses : its.task.depth ≡ 0 → Justified T known r Refuse
    input_refuses none = inr (get_or T.inputs k [], its.task.time, input_aim, none)

pub constant_decides : (forest : List (Option TaskRow)) (slot : ℕ) (task : Task) (k : ℕ) → DecidesFor forest slot task (node.Const k) (Constant k)
constant_decides forest slot task k = decides_for forest slot task (node.Const k) (λ x. Constant k)
    (λ T known its is there e range. constant_there T known forest slot its is k e range)
