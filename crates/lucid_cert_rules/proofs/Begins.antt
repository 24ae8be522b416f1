-- The plan with which a form begins.
use Rattle.lucid_cert_rules.proofs.FollowingCommon.{◌≡◌, ℕ, List, [], Option, Some, None, refl, sym, ap, ◌∙◌, subst, arith, PlainValue, arity, Op, Head, apply, Plan, plan, Node, Table, HasHead, look_plan, AreFedAlike}
use Rattle.lucid_ops.proofs.OperatorRows.{arity_some}
use Rattle.lucid_tree.specs.declared.form.Form.{Form}
use Rattle.lucid_tree.specs.declared.form.Form.TheVariants as forms
use Rattle.lucid_tree.specs.declared.form.Decider.{Decider}
use Rattle.lucid_tree.specs.Forms.{form_row}
use Rattle.lucid_tree.specs.declared.form.Decider.TheVariants.{Point, Test, Target, Search}
use Rattle.lucid_tree.specs.Rows.{look}
use Rattle.lucid_tree.specs.Tree.{stream}
use Rattle.lucid_equations.specs.Rows.{read}
use Rattle.lucid_equations.specs.declared.rows.Node.TheVariants.{Const, Apply}
use Rattle.lucid_equations.specs.declared.step.Place.{Place}
use Rattle.lucid_equations.specs.declared.step.PartAt.{PartAt}
use Rattle.lucid_equations.specs.declared.step.Step.{Step}
use Rattle.lucid_equations.specs.declared.step.Start.{Start}
use Rattle.lucid_equations.specs.declared.step.Start.TheVariants as start
use Rattle.lucid_equations.specs.Steps.{answer_of, part_at, start_by, start_of, start_plan, step_plan, least_of, NoSearch, IsNoSearch}
use Rattle.lucid_equations.proofs.Plans.{steps_are_of_plans}
use Rattle.lucid_cert_rules.specs.RestPlans.{IsRead}
use Rattle.lucid_cert_rules.specs.Told.{at_point, told_plan}
use Rattle.lucid_cert_rules.specs.declared.rest.Then.TheVariants as then
use Rattle.lucid_cert_rules.proofs.Alike.{next_argument}

-- what is said of the head of a row
pub head_at : (T : Table) (f : Head) (n n' : Node) → n ≡ n' → HasHead T n f → HasHead T n' f
head_at T f n n' e h =
    let P : Node → Type 0 = λ x. HasHead T x f in subst P e h

-- a plan of the form's head is alike
pub begins_alike : (m most t s : ℕ) (f g : Head) (p : Plan) → f ≡ g → AreFedAlike most (plan m g t s) p → AreFedAlike most (plan m f t s) p
begins_alike m most t s f g p e h =
    let P : Head → Type 0 = λ x. AreFedAlike most (plan m x t s) p in subst P (sym e) h

-- an operator
pub apply_alike : (m most : ℕ) (op : Op) (t s : ℕ)
    → AreFedAlike most (plan m (apply op (arity op)) t s) (look_plan m [] (record { part = 0; time = t; space = s; then = then.Argument op }))
apply_alike m most op t s = next_argument op t s most m [] (arity op) 0 (omega arith) (let l = arity_some op in omega (arith, l))

-- a form over streams was read
abbrev IsThere : Option (Form × List ℕ) → Type 0
IsThere None = ⊥
IsThere (Some p) = Unit {0}

-- the head of a node that is read as one
pub head_read : (T : Table) (n : Node) (p : Form × List ℕ) → read n ≡ Some p → (f : Head) → HasHead T n f → f ≡ stream p.0
head_read T (Const k) p e f h = absurd (subst IsThere (sym e) tt)
head_read T (Apply op args) p e f h = absurd (subst IsThere (sym e) tt)
head_read T n p e f h =
    let P : Option (Form × List ℕ) → Type 0 = λ o. IsRead o f in subst P e h

-- What isn't a search looks at the point, and each approximation takes the look.
abbrev LooksHere : Place → Start → Type 0
LooksHere p (start.Look x) = x ≡ part_at x.part p.time p.space
LooksHere p (start.Step y) = Unit {0}

looks_here : (d : Decider) (f : Form) (p : Place) → NoSearch d → LooksHere p (start_by d f p)
looks_here Point f p h = tt
looks_here Test f p h = refl
looks_here Target f p h = refl
looks_here Search f p h = absurd h

least_is : (f : Form) (p : Place) → IsNoSearch f → least_of f p ≡ 0
least_is forms.Whenever p h = absurd h
least_is forms.Asa p h = absurd h
least_is forms.Upon p h = absurd h
least_is f p h = refl

module _ (m : ℕ) (vs : List PlainValue) (t s : ℕ) where
  -- The plan of a form that doesn't search is that with which it begins:
  begins_so : (f : Form) → IsNoSearch f → plan m (stream f) t s ≡ start_plan f (at_point t s) (start_of f (at_point t s))
  begins_so forms.Whenever h = absurd h
  begins_so forms.Asa h = absurd h
  begins_so forms.Upon h = absurd h
  begins_so f h = steps_are_of_plans f (at_point t s)

  -- the step that it takes,
  pub begins_stepping : (f : Form) → IsNoSearch f → (y : Step) → start_of f (at_point t s) ≡ start.Step y → plan m (stream f) t s ≡ step_plan f (at_point t s) y
  begins_stepping f h y e = begins_so f h ∙ ap (start_plan f (at_point t s)) e

  -- or the look by whose value it takes one.
  abbrev told : Form → PlainValue → Plan
  told f v = told_plan f (at_point t s) (answer_of v)

  abbrev look_by : Form → PartAt → Plan
  look_by f x = look x.part x.time x.space 0 (told f)

  abbrev look_then : Form → PartAt → Plan
  look_then f x = look_plan m vs (record { part = x.part; time = x.time; space = x.space; then = then.Decide f })

  pub begins_looking : (f : Form) → IsNoSearch f → (x : PartAt) → start_of f (at_point t s) ≡ start.Look x → plan m (stream f) t s ≡ look_then f x
  begins_looking f h x e =
      let here : x ≡ part_at x.part t s = subst (LooksHere (at_point t s)) e (looks_here (form_row f).decider f (at_point t s) h) in
      let at : look_by f (part_at x.part t s) ≡ look_then f (part_at x.part t s) = refl in
      begins_so f h ∙ ap (start_plan f (at_point t s)) e ∙ ap (λ (l : ℕ). look x.part x.time x.space l (told f)) (least_is f (at_point t s) h)
      ∙ ap (look_by f) here ∙ at ∙ ap (look_then f) (sym here)
