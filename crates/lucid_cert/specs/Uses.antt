-- What uses tell, as a check has it.
use Rattle.std.specs.Prelude.{◌≡◌, ℕ, ◌+◌, ◌<◌, List, [], Option, Some, None, map, length, get_or}
use Rattle.std.specs.List.{AllByRecursion}
use Rattle.lucid_value.specs.Plain.{PlainValue, fault}
use Rattle.lucid_tree.specs.Tree.{Head}
use Rattle.lucid_tree.specs.Rows.{Look, Plan, gives, nothing, looks, plan}
use Rattle.lucid_tags.specs.Contexts.{Context}
use Rattle.lucid_equations.specs.Rows.{row_at}
use Rattle.lucid_equations.specs.declared.rows.Node.{Node}
use Rattle.lucid_equations.specs.declared.table.Table.{Table}
use Rattle.lucid_cert_rules.specs.Certificates.{PlainJudgment}
use Rattle.lucid_cert_rules.specs.Fed.{fed}
use Rattle.lucid_cert_rules.specs.Follows.{used, of_part}
use Rattle.lucid_cert_rules.specs.RestPlans.{HasHead, least_of, rest_plan, Stands}
use Rattle.lucid_cert_rules.specs.declared.rest.Look.{Look as NextLook}
use Rattle.lucid_cert_rules.specs.declared.rest.Rest.{Rest}

-- the value of the judgment of a number, an error where there is none
abbrev pub told : List PlainJudgment → ℕ → PlainValue
told js n = get_or (map (λ j. j.value) js) n fault

-- the plan gives this value, without a look
abbrev pub gives_only : Plan → PlainValue → Type 0
gives_only (gives w) v = w ≡ v
gives_only nothing v = ⊥
gives_only (looks ls k) v = ⊥

-- a look in plain data
abbrev pub plain_look : NextLook → Look
plain_look l = record { part = l.part; time = l.time; space = l.space; least = least_of l.then l.time }

-- the plan of a node's form at a judgment's point is fed by its uses to this
abbrev pub FedTo : (T : Table) (cs : List (Option Context)) (js : List PlainJudgment) (before : ℕ) (node : Node) (c : Context) (j : PlainJudgment) → Option PlainValue → Type 0
FedTo T cs js i n c j v =
    (id : ℕ) (f : Head) → row_at T id ≡ Some n → HasHead T n f → fed (of_part T (used cs js i) id c) (plan (j.time + length j.uses) f j.time j.space) j.uses ≡ v

-- The uses feed the plan of the form to this rest, which stands after all of them, and they are earlier judgments; or they don't feed it.
pub record FeedsTo (T : Table) (cs : List (Option Context)) (js : List PlainJudgment) (before : ℕ) (node : Node) (c : Context) (j : PlainJudgment) (rest : Rest) : Type 0 where
  pub plan : FedTo T cs js before node c j (fed (λ l u. None) (rest_plan (j.time + length j.uses) (map (told js) j.uses) rest) [])
  pub stands : Stands (length j.uses) rest
  pub earlier : AllByRecursion (λ u. u < before) j.uses

abbrev pub IsFed : (T : Table) (cs : List (Option Context)) (js : List PlainJudgment) (before : ℕ) (node : Node) (c : Context) (j : PlainJudgment) → Option Rest → Type 0
IsFed T cs js i n c j (Some r) = FeedsTo T cs js i n c j r
IsFed T cs js i n c j None = FedTo T cs js i n c j None
