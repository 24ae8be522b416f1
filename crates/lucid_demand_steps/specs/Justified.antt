-- Why a ready row decides as it does.
use Rattle.std.specs.Prelude.{◌≡◌, ℕ, suc, ◌<◌, List, [], ◌∷◌, Option, Some, None, ◌⊎◌, length, slice_get}
use Rattle.lucid_value.specs.Plain.{PlainValue, truth, eod, fault}
use Rattle.lucid_ops.specs.Arity.{arity}
use Rattle.lucid_ops.specs.Algebra.{algebra}
use Rattle.lucid_tags.specs.Contexts.{Context}
use Rattle.lucid_tags.specs.Known.{IsKnown}
use Rattle.lucid_tree.specs.Rows.{nothing}
use Rattle.lucid_tree.specs.Levels.{element_of}
use Rattle.lucid_equations.specs.Rows.{row_at, constant_at}
use Rattle.lucid_equations.specs.declared.table.Table.{Table}
use Rattle.lucid_equations.specs.declared.rows.Node.{Node}
use Rattle.lucid_equations.specs.declared.rows.Node.TheVariants as node
use Rattle.lucid_equations.specs.declared.rows.Node.TheVariants.{Const}
use Rattle.lucid_demand_steps.specs.Tasks.{PlainRow, plain_task, idle, state_at, value_of_part}
use Rattle.lucid_demand_steps.specs.Parts.{node_of, aim_of_task, IsReference, IsPart}
use Rattle.lucid_demand_steps.specs.Decisions.{ComesTo, GivesByPlan, MayAsk, MayMove, MayRead}
use Rattle.lucid_demand_steps.specs.declared.decision.Decision.{Decision}
use Rattle.lucid_demand_steps.specs.declared.decision.Decision.TheVariants.{Part, Apply, Constant, Truth, End, Fault, Ask, AskAll, LookOn, Refer, Read, Refuse}

-- The value of an operator's argument, by the row of its node and the value of the operator's part: that of the part, or of a constant.
abbrev pub argument_by : Table → Option Node → Option PlainValue → Option PlainValue
argument_by T n (Some v) = Some v
argument_by T (Some (Const k)) None = Some (constant_at T k)
argument_by T n None = None

-- the arguments from one on have these values, where the function gives the value of each, by its index and its node
abbrev pub HaveValues : ((index node : ℕ) → Option PlainValue) → (args : List ℕ) → (index : ℕ) → List PlainValue → Type 0
HaveValues value args i [] = Unit {0}
HaveValues value [] i (v ∷ vs) = ⊥
HaveValues value (n ∷ args) i (v ∷ vs) = (value i n ≡ Some v) × HaveValues value args (suc i) vs

-- the value of a row's argument
abbrev pub argument_at : Table → PlainRow → (index node : ℕ) → Option PlainValue
argument_at T r i n = argument_by T (row_at T n) (value_of_part r i)

-- Why a row of a table decides so, by the row alone, where these contexts are known: by where the values of its parts lead in its form's
-- plan, or since it is an input or a reference, whose value is that of its body.
abbrev pub Justified : Table → List Context → PlainRow → Decision → Type 0
Justified T known r (Part i) = (i < 3) × ((v : PlainValue) × (value_of_part r i ≡ Some v) × (GivesByPlan T r v ⊎ (IsReference (node_of T r.task) × (i ≡ 0))))
Justified T known r (Apply op args) = (row_at T r.task.node ≡ Some (node.Apply op args))
    × ((vs : List PlainValue) × (length vs ≡ arity op) × HaveValues (argument_at T r) args 0 vs × GivesByPlan T r (algebra op vs))
Justified T known r (Constant k) = (k < length T.constants) × GivesByPlan T r (constant_at T k)
Justified T known r (Truth holds) = GivesByPlan T r (truth holds)
Justified T known r End = GivesByPlan T r eod
Justified T known r Fault = GivesByPlan T r fault
Justified T known r (Ask i x) = MayAsk T r i × IsPart T r i (plain_task known x) × IsKnown known x.tag
Justified T known r (AskAll op args) = (row_at T r.task.node ≡ Some (node.Apply op args)) × ((i : ℕ) × (i < arity op) × ((n : ℕ) × (slice_get args i ≡ Some n) × (argument_at T r i n ≡ None)))
Justified T known r (LookOn holds) = MayMove T r holds
Justified T known r (Refer x) = IsReference (node_of T r.task) × (plain_task known x ≡ r.task) × IsKnown known x.tag × (state_at r.parts 0 ≡ idle)
Justified T known r (Read k) = (n : List ℕ) × (slice_get T.inputs k ≡ Some n) × MayRead T r.task n r.task.time
Justified T known r Refuse = ComesTo T r nothing ⊎ ((n : List ℕ) × (j : ℕ) × (aim_of_task T r.task ≡ element_of n j) × (r.task.limit ≡ 0))
