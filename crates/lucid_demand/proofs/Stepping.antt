-- A ready row decides, and what its decision asks for is there.
use Rattle.lucid_demand.proofs.Common.{inl, inr, ℕ, ◌+◌, List, refl, sym, ap, ◌∙◌, subst, arith, IsSome, slice_get, Op, arity, Elements, TaskRow, is_ready, World, equations_of, constant_at, Table, plain_task, plain_row, HoldsRight, known_elements, holding, MayHave, Demand, stays, RowFacts, plain_of_row, row-is_wanted, too_deep-is_right, Evaluating, MayStep, Stepped, MayAct, MayGive, IsReadyTask, Justified, argument_at, TooDeep, length-map, slice_get_within}
use Rattle.std.proofs.Common.{◌≡◌, ◌<◌, length, Some}
use Rattle.std.specs.Prelude.{Bool, Err}
use Rattle.lucid_value.specs.Plain.{truth, eod, fault}
use Rattle.lucid_tree.specs.Levels.{element_of, goes_to}
use Rattle.lucid_tasks.specs.Rows.{row_at}
use Rattle.lucid_equations.specs.Datons.{NodePosition, NodeAim, Daton}
use Rattle.lucid_equations.specs.Rows as table
use Rattle.lucid_equations.specs.declared.rows.Node.TheVariants as node
use Rattle.lucid_demand_steps.specs.Stands.{IsDefined}
use Rattle.lucid_demand_steps.specs.Demands.{table_of}
use Rattle.lucid_demand_steps.specs.Decisions.{element_too_deep}
use Rattle.lucid_demand_steps.proofs.Asking.{nothing_is_right}
use Rattle.lucid_demand_steps.specs.declared.decision.Decision.TheVariants as decision
use Rattle.lucid_demand_steps.specs.Ready.{MayDecide}
use Rattle.lucid_demand_steps.specs.declared.decision.Decision.{Decision}
use Rattle.lucid_demand_steps.proofs.OperatorParts.{argument_is_lower}
use Rattle.lucid_demand.specs.Acting.{AreThere}
use Rattle.lucid_demand.proofs.TakenParts.{value_there}
use Rattle.lucid_demand.proofs.SettledRows.{ready_is_there, argument_value}

module _ (d : Demand) (e : Evaluating) (w : World) (slot : ℕ) (step : MayStep d e w slot) where
  -- the table is the engine's
  pub same_table : e.engine.table ≡ table_of d
  same_table = step.waits.going.owns.since.goes_on.table

  facts_of_row : (r : TaskRow) → row_at e.rows slot ≡ Some r → (b : Elements) → MayHave e.engine b
      → RowFacts d b (holding e.engine) e.engine.stored.lost (plain_row e.engine.known r)
  facts_of_row r at = step.waits.going.work.each slot (plain_row e.engine.known r) (plain_of_row e.engine.known e.rows slot r at)

  facts_now : (r : TaskRow) → row_at e.rows slot ≡ Some r
      → RowFacts d (known_elements e.engine) (holding e.engine) e.engine.stored.lost (plain_row e.engine.known r)
  facts_now r at = facts_of_row r at (known_elements e.engine) (λ n j v i. i)

  -- A row that may step is ready, with its task.
  pub ready_task : IsReadyTask e slot
  ready_task = record { ready = step.ready; there = λ r at. subst (λ (T : Table). r.task.node < length T.nodes) (sym same_table) ((facts_now r at).there) }

  -- It may decide.
  pub may_decide : MayDecide e.engine.table e.engine.known e.rows slot
  may_decide = let r = ready_is_there e.rows slot step.ready in subst (λ T. MayDecide T e.engine.known e.rows slot) (sym same_table) (record {
    row = r.0;
    is = record {
      there = r.1;
      ready = ap is_ready (sym r.1) ∙ step.ready;
      is_task = refl;
      known_tag = (step.waits.known slot r.0 r.1).task;
      still = (facts_now r.0 r.1).still;
    };
    in_table = (facts_now r.0 r.1).there;
  })

  -- What is decided over the engine's table is justified in the demand.
  pub may_act : (decided : Decision) → ((r : TaskRow) → row_at e.rows slot ≡ Some r
      → Justified e.engine.table e.engine.known (plain_row e.engine.known r) decided) → MayAct d e w slot decided
  may_act decided justified = record {
    step = step;
    justified = λ r at. subst (λ T. Justified T e.engine.known (plain_row e.engine.known r) decided) same_table (justified r at);
  }

  -- An operator's argument is one of the table's nodes.
  pub argument_in_table : (r : TaskRow) → row_at e.rows slot ≡ Some r → (op : Op) (args : List ℕ)
      → table.row_at (table_of d) r.task.node ≡ Some (node.Apply op args) → (i n : ℕ) → i < arity op
      → slice_get args i ≡ Some n → n < length e.engine.table.nodes
  argument_in_table r at op args is i n low arg =
      let below : n < r.task.node = argument_is_lower (table_of d) r.task.node op args step.demand.in_range is i n low arg in
      let there : r.task.node < length (table_of d).nodes = (facts_now r at).there in
      subst (λ (T : Table). n < length T.nodes) (sym same_table) (omega (arith, below, there))

  right_now : (b : Elements) → MayHave e.engine b → HoldsRight (equations_of (table_of d)) b (stays d)
  right_now b may k s v has = let f = step.waits.going.owns.stock.stock b may in f.right k s v (f.stays k s v has)

  -- There are as many streams as inputs.
  pub as_many_streams : length e.engine.streams ≡ length (table_of d).inputs
  as_many_streams =
      sym (length-map e.engine.streams (λ s. s.place)) ∙ ap length step.waits.going.owns.since.goes_on.places ∙ length-map d.first.streams (λ s. s.place)
      ∙ step.demand.streams

-- ---- what each decision asks for

module _ (d : Demand) (e : Evaluating) (w : World) (slot : ℕ) where
  -- a justified decision, of the row that is there
  justified_there : (decided : Decision) → MayAct d e w slot decided
      → (r : TaskRow) × (row_at e.rows slot ≡ Some r) × Justified (table_of d) e.engine.known (plain_row e.engine.known r) decided
  justified_there decided act = let r = ready_is_there e.rows slot act.step.ready in (r.0, r.1, act.justified r.0 r.1)

  -- the same decision
  pub decided_so : {a b : Decision} → a ≡ b → MayAct d e w slot a → MayAct d e w slot b
  decided_so same act = subst (λ x. MayAct d e w slot x) same act

  -- The values of an operator's arguments are there.
  pub arguments_are_there : (op : Op) (args : List ℕ) → MayAct d e w slot (decision.Apply op args) → AreThere e slot (arity op) args
  arguments_are_there op args act i n low arg =
      let j = justified_there (decision.Apply op args) act in
      let vs = j.2.1 in
      let own : 0 + i ≡ i = omega arith in
      let many : i < length vs.0 = (let l = vs.1 in omega (arith, l, low)) in
      record {
        in_table = argument_in_table d e w slot act.step j.0 j.1 op args j.2.0 i n low arg;
        there = subst (λ o. IsSome o) (argument_value d e w slot act.step j.0 j.1 i n)
            (subst (λ q. IsSome (argument_at (table_of d) (plain_row e.engine.known j.0) q n)) own
            (value_there (argument_at (table_of d) (plain_row e.engine.known j.0)) args 0 vs.0 vs.2 i n many arg));
      }

  pub constant_gives : (k : ℕ) → MayAct d e w slot (decision.Constant k) → MayGive d e w slot (constant_at e.engine.table k)
  constant_gives k act =
      subst (λ T. MayGive d e w slot (constant_at T k)) (sym (same_table d e w slot act.step))
      (record { step = act.step; gives = λ r at. (act.justified r at).1 })

  -- So is what a form gives by itself.
  pub truth_gives : (holds : Bool) → MayAct d e w slot (decision.Truth holds) → MayGive d e w slot (truth holds)
  truth_gives holds act = record { step = act.step; gives = act.justified }

  pub end_gives : MayAct d e w slot decision.End → MayGive d e w slot eod
  end_gives act = record { step = act.step; gives = act.justified }

  pub fault_gives : MayAct d e w slot decision.Fault → MayGive d e w slot fault
  fault_gives act = record { step = act.step; gives = act.justified }

  -- The stream of an element is there.
  pub stream_is_there : (k : ℕ) → MayAct d e w slot (decision.Read k) → k < length e.engine.streams
  stream_is_there k act =
      let j = justified_there (decision.Read k) act in
      let below = slice_get_within (table_of d).inputs k j.2.0 j.2.1 in
      let same = as_many_streams d e w slot act.step in
      omega (arith, below, same)

  -- A refusal is right.
  pub refuses : MayAct d e w slot decision.Refuse → Stepped d e e w w (Err TooDeep)
  refuses act = record {
    owns = act.step.waits.going.owns;
    goes_on = tt;
    answers = tt;
    deep = λ same b may. deep b may;
    too_large = tt;
    failed = λ f. absurd (cc);
  }
    where
      j : (r : TaskRow) × (row_at e.rows slot ≡ Some r) × Justified (table_of d) e.engine.known (plain_row e.engine.known r) decision.Refuse
      j = justified_there decision.Refuse act

      no_daton : (n : List ℕ) (i : ℕ) (k : Daton) (x : NodePosition) (u : ℕ) → ◌≡◌ {A = NodeAim} (element_of n i) (goes_to k x u) → ⊥
      no_daton n i k x u same = cc

      deep : (b : Elements) → MayHave e.engine b → IsDefined (table_of d) b (stays d) d.root → ⊥
      deep b may = elim j.2 [
        | inl comes ↦ nothing_is_right d b (holding e.engine) e.engine.stored.lost (plain_row e.engine.known j.0) act.step.demand
            (right_now d e w slot act.step b may)
            (facts_of_row d e w slot act.step j.0 j.1 b may) comes
        | inr none ↦ too_deep-is_right d b (plain_task e.engine.known j.0.task)
            (row-is_wanted d b (holding e.engine) e.engine.stored.lost (plain_row e.engine.known j.0) (facts_of_row d e w slot act.step j.0 j.1 b may))
            (element_too_deep none.2 none.3) (λ k to. absurd (no_daton none.0 none.1 k.0 to.position to.time (sym none.2 ∙ to.aim)))
      ]
