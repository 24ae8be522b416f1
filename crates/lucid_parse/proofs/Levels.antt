-- Laws of the levels.
use Rattle.lucid_parse.proofs.Common.{◌≡◌, ℕ, ◌+◌, ◌≤◌, ◌<◌, Bool, true, false, cond, Option, Some, None, refl, sym, ◌∙◌, ap, subst, arith, nat_eq, and_parts, ltb-true, eqb-true, Form, Before, Between, Called, Data, node, Operator, PlainTerminal, level_of, arity_of, left, right, head, operator_in, nat_lt, ◌&&◌}
use Rattle.lucid_ops.specs.declared.op.Op.TheVariants as op
use Rattle.lucid_ops.specs.declared.op.Side.{Side}
use Rattle.lucid_ops.specs.declared.op.Side.TheVariants.{Left, Single}
use Rattle.lucid_ops.specs.Row.{left_level, right_level}
use Rattle.lucid_ops.specs.Rows.{form_number, level_side, fits_form}
use Rattle.lucid_ops.proofs.OperatorRows.{form_is}
use Rattle.lucid_parse.specs.Operators.{fits_fixity}
use Rattle.lucid_parse.specs.declared.operator.Operator.TheVariants.{Stream}
use Rattle.lucid_parse.proofs.OperatorRows.{row_stands}
use Rattle.lucid_parse.specs.declared.terminal.Terminal.TheVariants as terminal
use Rattle.lucid_parse.specs.declared.state.Item.TheVariants as item
use Rattle.lucid_parse.specs.Grammar.{row_of, is_form, as_form}

-- A terminal that is an operator in a form is one whose row has that form.
of_form : (wanted : Form) (o found : Operator) → as_form wanted o ≡ Some found → ((row_of o).form ≡ Some wanted) × (o ≡ found)
of_form wanted o found e = of (row_of o).form e
  where
    by : (f : Form) (b : Bool) → nat_eq (form_number f) (form_number wanted) ≡ b → cond b (Some o) None ≡ Some found → (f ≡ wanted) × (o ≡ found)
    by f true s g = (form_is _ _ s, cc)
    by f false s g = cc

    of : (x : Option Form) → cond (is_form wanted x) (Some o) None ≡ Some found → (x ≡ Some wanted) × (o ≡ found)
    of None g = cc
    of (Some f) g = let is = by f (nat_eq (form_number f) (form_number wanted)) refl g in (ap Some is.0, is.1)

pub stands : (wanted : Form) (terminal : PlainTerminal) (found : Operator) → operator_in wanted terminal ≡ Some found → (row_of found).form ≡ Some wanted
stands wanted (terminal.Operator o) found e = let is = of_form wanted o found e in subst (λ x. (row_of x).form ≡ Some wanted) is.1 is.0
stands Between terminal.Minus found e = let same : Data op.Sub ≡ found = cc in subst (λ x. (row_of x).form ≡ Some Between) same refl
stands Before terminal.Minus found e = let same : Data op.Neg ≡ found = cc in subst (λ x. (row_of x).form ≡ Some Before) same refl
stands _ _ found e = cc

pub before_not_called : (terminal : PlainTerminal) (operator : Operator) → operator_in Before terminal ≡ Some operator → operator_in Called terminal ≡ None
before_not_called (terminal.Operator o) operator e = ap (λ f. cond (is_form Called f) (Some o) None) (of_form Before o operator e).0
before_not_called terminal.Minus operator e = refl
before_not_called _ operator e = cc

-- what the row of an operator in a form says
fits_as : (o : Operator) (f : Form) → (row_of o).form ≡ Some f → fits_form f (row_of o).side (level_of o) (arity_of o) ≡ true
fits_as o f e = subst (λ x. fits_fixity x (row_of o).side (level_of o) (arity_of o) ≡ true) e (row_stands o).fits

both_fit : (level arity n : ℕ) → (nat_lt level 12 && nat_eq arity n) ≡ true → (level < 12) × (arity ≡ n)
both_fit level arity n e = let two = and_parts (nat_lt level 12) (nat_eq arity n) e in (ltb-true level 12 two.0, eqb-true arity n two.1)

single_fits : (side : Side) (level n : ℕ) → fits_form Before side level n ≡ true → (side ≡ Single) × ((nat_lt level 12 && nat_eq n 1) ≡ true)
single_fits Single level n e = (refl, e)
single_fits _ level n e = cc

infix_fits : (terminal : PlainTerminal) (o : Operator) → operator_in Between terminal ≡ Some o → (level_of o < 12) × (arity_of o ≡ 2)
infix_fits terminal o e = both_fit (level_of o) (arity_of o) 2 (fits_as o Between (stands Between terminal o e))

prefix_fits : (terminal : PlainTerminal) (o : Operator) → operator_in Before terminal ≡ Some o
    → ((row_of o).side ≡ Single) × ((level_of o < 12) × (arity_of o ≡ 1))
prefix_fits terminal o e =
    let single = single_fits (row_of o).side (level_of o) (arity_of o) (fits_as o Before (stands Before terminal o e)) in
    (single.0, both_fit (level_of o) (arity_of o) 1 single.1)

pub infix_arity : (terminal : PlainTerminal) (o : Operator) → operator_in Between terminal ≡ Some o → arity_of o ≡ 2
infix_arity terminal o e = (infix_fits terminal o e).1

pub prefix_arity : (terminal : PlainTerminal) (o : Operator) → operator_in Before terminal ≡ Some o → arity_of o ≡ 1
prefix_arity terminal o e = (prefix_fits terminal o e).1.1

pub prefix_level_most : (terminal : PlainTerminal) (o : Operator) → operator_in Before terminal ≡ Some o → level_of o ≤ 11
prefix_level_most terminal o e = let fits = prefix_fits terminal o e in omega (arith, fits.1.0)

-- the levels of an operator's operands
bounds : (side : Side) (level : ℕ) → (level ≤ left_level side level)
    × ((left_level side level ≤ level + 1) × ((level ≤ right_level side level) × (right_level side level ≤ level + 1)))
bounds Left level = (omega arith, (omega arith, (omega arith, omega arith)))
bounds _ level = (omega arith, (omega arith, (omega arith, omega arith)))

pub left_most : (terminal : PlainTerminal) (o : Operator) → operator_in Between terminal ≡ Some o → left o ≤ 12
left_most terminal o e = let fits = infix_fits terminal o e in let b = bounds (row_of o).side (level_of o) in omega (arith, fits.0, b.1.0)

pub right_most : (terminal : PlainTerminal) (o : Operator) → operator_in Between terminal ≡ Some o → right o ≤ 12
right_most terminal o e = let fits = infix_fits terminal o e in let b = bounds (row_of o).side (level_of o) in omega (arith, fits.0, b.1.1.1)

pub left_least : (o : Operator) → level_of o ≤ left o
left_least o = (bounds (row_of o).side (level_of o)).0

pub right_least : (o : Operator) → level_of o ≤ right o
right_least o = (bounds (row_of o).side (level_of o)).1.1.0

-- no side has both operands at the operator's own level
one_side : (side : Side) (level : ℕ) → left_level side level ≤ level → right_level side level ≤ level → ⊥
one_side Left level h g = omega (arith, g)
one_side _ level h g = omega (arith, h)

-- An operator that closes operands of a level is not taken by an operand on the right of that level: no level groups to both sides.
pub apart : (operator following : Operator) → left following ≤ level_of operator → right operator ≤ level_of following → ⊥
apart operator following h k =
    let same : level_of following ≡ level_of operator = omega (arith, h, k, left_least following, right_least operator) in
    let sides : (row_of following).side ≡ (row_of operator).side = (row_stands following).side ∙ ap level_side same ∙ sym (row_stands operator).side in
    one_side (row_of operator).side (level_of operator)
    (subst (λ x. left_level x (level_of operator) ≤ level_of operator) sides (subst (λ n. left_level (row_of following).side n ≤ level_of operator) same h))
    (subst (λ n. right_level (row_of operator).side (level_of operator) ≤ n) same k)

pub apart_prefix : (terminal : PlainTerminal) (operator following : Operator) → operator_in Before terminal ≡ Some operator → left following ≤ level_of operator
    → level_of operator ≤ level_of following → ⊥
apart_prefix terminal operator following e h k =
    let same : level_of following ≡ level_of operator = omega (arith, h, k, left_least following) in
    let single : (row_of following).side ≡ Single = (row_stands following).side ∙ ap level_side same ∙ sym (row_stands operator).side
    ∙ (prefix_fits terminal operator e).0 in
    let alone : left following ≡ level_of following + 1 = ap (λ s. left_level s (level_of following)) single in
    omega (arith, h, same, alone)

pub level_positive : (o : Operator) → 1 ≤ level_of o
level_positive o = (row_stands o).least

pub right_positive : (o : Operator) → 1 ≤ right o
right_positive o = omega (arith, level_positive o, right_least o)

pub arity_positive : (o : Operator) → 1 ≤ arity_of o
arity_positive o = (row_stands o).some

-- each operator has a node of its own
pub node-operator : (o : Operator) (at : ℕ) → node (head o) at ≡ item.Operator o at
node-operator (Data o) at = refl
node-operator (Stream f) at = refl
