-- The plans that what is left of a form stands for, and what the looks on the way were.
use Rattle.std.specs.Prelude.{◌≡◌, ℕ, suc, ◌+◌, ◌-◌, ◌<◌, ◌≤◌, ◌^◌, List, [], ◌∷◌, ◌++◌, length, Option, Some, None}
use Rattle.lucid_value.specs.Plain.{PlainValue, truth, eod, fault}
use Rattle.lucid_value.specs.View.{plain}
use Rattle.lucid_ops.specs.Algebra.{algebra}
use Rattle.lucid_ops.specs.Arity.{arity}
use Rattle.lucid_tree.specs.declared.form.Form.{Form}
use Rattle.lucid_tree.specs.Forms.{part_count}
use Rattle.lucid_tree.specs.Tree.{Head, const, apply, stream}
use Rattle.lucid_tree.specs.Members.{Inside}
use Rattle.lucid_tree.specs.Rows.{Plan, last, gives, looks, look, gives_part, by_test, only_truth, at_zero, arguments, find_true, count_true, Reader}
use Rattle.lucid_tree.specs.PlanLaws.{points_of}
use Rattle.lucid_equations.specs.Rows.{constant_at, read}
use Rattle.lucid_equations.specs.Steps.{answer_of, IsDecided, IsNoSearch}
use Rattle.lucid_equations.specs.declared.rows.Node.{Node}
use Rattle.lucid_equations.specs.declared.rows.Node.TheVariants as node
use Rattle.lucid_equations.specs.declared.table.Table.{Table}
use Rattle.lucid_cert_rules.specs.Fed.{Uses, fed}
use Rattle.lucid_cert_rules.specs.Told.{at_point, told_plan}
use Rattle.lucid_cert_rules.specs.declared.rest.Then.{Then}
use Rattle.lucid_cert_rules.specs.declared.rest.Then.TheVariants.{Give, Judge, Decide, Find, Count, Argument}
use Rattle.lucid_cert_rules.specs.declared.rest.Look.{Look}
use Rattle.lucid_cert_rules.specs.declared.rest.Rest.{Rest}
use Rattle.lucid_cert_rules.specs.declared.rest.Rest.TheVariants as rest

-- the form over streams that was read
abbrev pub IsRead : Option (Form × List ℕ) → Head → Type 0
IsRead None f = ⊥
IsRead (Some p) f = f ≡ stream p.0

-- the form of a node that has one
abbrev pub HasHead : Table → Node → Head → Type 0
HasHead T (node.Const k) f = f ≡ const (constant_at T k)
HasHead T (node.Apply op args) f = f ≡ apply op (arity op)
HasHead T n f = IsRead (read n) f

-- the node is a form
abbrev pub IsForm : Node → Type 0
IsForm (node.Input k) = ⊥
IsForm (node.Freeze a) = ⊥
IsForm (node.Refer n l) = ⊥
IsForm (node.Call n q l) = ⊥
IsForm _ = Unit {0}

-- a form over streams was read that doesn't search
abbrev pub IsReadAtOnce : Option (Form × List ℕ) → Type 0
IsReadAtOnce None = ⊥
IsReadAtOnce (Some p) = IsNoSearch p.0

-- What the plan goes on with once a look has a value, at a limit and after looks with these values.
abbrev pub by_then : (limit : ℕ) → (values : List PlainValue) → Then → (part time space : ℕ) → PlainValue → Plan
by_then m vs Give i t s v = gives v
by_then m vs Judge i t s v = gives (only_truth v)
by_then m vs (Decide f) i t s v = told_plan f (at_point t s) (answer_of v)
by_then m vs (Find n) i t s v = by_test v (at_zero n (gives_part 0 t s) (λ k. find_true (m - suc t) (suc t) k s)) (find_true (m - suc t) (suc t) n s)
by_then m vs (Count n until) i t s v = by_test v (count_true (until - suc t) (suc t) (suc n) s until) (count_true (until - suc t) (suc t) n s until)
by_then m vs (Argument op) i t s v = looks (arguments (arity op - suc i) (suc i) t s) (λ ws. gives (algebra op ((vs ++ v ∷ []) ++ ws)))

-- the limit below which no approximation takes a look
abbrev pub least_of : Then → (time : ℕ) → ℕ
least_of (Find n) t = suc t
least_of (Count n until) t = until
least_of _ t = 0

abbrev pub look_plan : (limit : ℕ) → (values : List PlainValue) → Look → Plan
look_plan m vs l = look l.part l.time l.space (least_of l.then l.time) (by_then m vs l.then l.part l.time l.space)

-- The plan that a rest stands for.
abbrev pub rest_plan : (limit : ℕ) → (values : List PlainValue) → Rest → Plan
rest_plan m vs (rest.Look l) = look_plan m vs l
rest_plan m vs (rest.Value v) = gives (plain v.now)
rest_plan m vs (rest.Truth b) = gives (truth b)
rest_plan m vs rest.End = gives eod
rest_plan m vs rest.Fault = gives fault
rest_plan m vs (rest.Apply op) = gives (algebra op vs)

-- After so many looks a search is at the time that is their number, a count is below its time, and an operator has the argument. A form
-- that takes its step by a value is one that a value decides.
abbrev pub IsAfter : (looks : ℕ) → Then → (part time : ℕ) → Type 0
IsAfter k (Decide f) i t = IsDecided f
IsAfter k (Find n) i t = t ≡ k
IsAfter k (Count n until) i t = (t < until) × ((n ≤ t) × (until < 2 ^ 63))
IsAfter k (Argument op) i t = (i ≡ k) × (i < arity op)
IsAfter k _ i t = Unit {0}

abbrev pub CanGoOn : (looks : ℕ) → Look → Type 0
CanGoOn k l = IsAfter k l.then l.part l.time

-- no time past the last number of the machine is looked at
abbrev pub IsSmall : Then → (part time : ℕ) → Type 0
IsSmall (Decide f) i t = IsDecided f
IsSmall (Find n) i t = t + 1 < 2 ^ 64
IsSmall (Count n until) i t = (t < until) × ((n ≤ t) × (until < 2 ^ 63))
IsSmall (Argument op) i t = i < arity op
IsSmall _ i t = Unit {0}

abbrev pub MayGoOn : Look → Type 0
MayGoOn l = IsSmall l.then l.part l.time

-- the same of a rest
abbrev pub Stands : (looks : ℕ) → Rest → Type 0
Stands k (rest.Look l) = CanGoOn k l
Stands k (rest.Apply op) = k ≡ arity op
Stands k _ = Unit {0}

-- With so many parts, those that are looked at by what is done with a value are there.
abbrev pub PartsFor : Then → (count : ℕ) → Type 0
PartsFor (Decide f) n = part_count f ≤ n
PartsFor (Find w) n = 1 < n
PartsFor (Count seen until) n = 1 < n
PartsFor (Argument op) n = arity op ≤ n
PartsFor _ n = Unit {0}

-- a time and a space; that of a search goes on to any time
abbrev pub IsAtPoint : Then → (time space : ℕ) → Type 0
IsAtPoint (Find w) t s = s ≤ last
IsAtPoint _ t s = (t ≤ last) × (s ≤ last)

-- A look of a form with so many parts: at one of them, at a point.
pub record IsLookOf (count : ℕ) (l : Look) : Type 0 where
  pub part : l.part < count
  pub parts : PartsFor l.then count
  pub point : IsAtPoint l.then l.time l.space

abbrev pub LooksInside : (count : ℕ) → Rest → Type 0
LooksInside n (rest.Look l) = IsLookOf n l
LooksInside n _ = Unit {0}

-- Two plans are alike for as many uses, or fewer: these feed them alike; and if there may be one at all, the first looks wherever the second
-- looks, at each limit and by whatever values.
pub record AreFedAlike (most : ℕ) (p q : Plan) : Type 0 where
  pub fed : (value : Uses) (us : List ℕ) → length us ≤ most → fed value p us ≡ fed value q us
  pub look : 0 < most → (m : ℕ) (r : Reader (Option PlainValue)) → Inside (points_of m q r) (points_of m p r)
