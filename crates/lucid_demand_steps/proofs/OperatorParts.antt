-- The arguments of an operator's node: each is a part of its row, with a lower number.
use Rattle.lucid_demand_steps.proofs.DecidingCommon.{ℕ, zero, suc, List, [], ◌∷◌, refl, ap, ◌∙◌, arith, slice_get, option_and_then, nat_lt, nat_tests, Op, arity, apply, row, PlainNodes, IsInRange, node_at, parts, Table, PlainRow, part_number, look_of_row, part_by_look, take}
use Rattle.std.proofs.Common.{◌≡◌, ◌<◌, Some, true}
use Rattle.std.specs.Prelude.{option_map}
use Rattle.lucid_equations.specs.Rows.{row_at}
use Rattle.lucid_equations.specs.declared.rows.Node.TheVariants as node
use Rattle.lucid_equations.proofs.PartsRead.{row-node, part-lower}
use Rattle.lucid_demand_steps.proofs.Looking.{has_part}
use Rattle.lucid_demand_steps.specs.Parts.{IsPart}

-- what is taken of a list is there
taken_at : {A : Type 0} (xs : List A) (n i : ℕ) → i < n → slice_get (take n xs) i ≡ slice_get xs i
taken_at xs zero i l = absurd (omega (arith, l))
taken_at [] (suc n) i l = refl
taken_at (x ∷ xs) (suc n) zero l = refl
taken_at (x ∷ xs) (suc n) (suc i) l = taken_at xs n i (omega (arith, l))

-- Each argument is a part of the operator's node.
pub argument_is_part : (T : Table) (id : ℕ) (op : Op) (args : List ℕ) → row_at T id ≡ Some (node.Apply op args) → (i n : ℕ) → i < arity op
    → slice_get args i ≡ Some n → part_number T id i ≡ Some n
argument_is_part T id op args is i n low arg = ap (option_and_then (λ x. slice_get (parts x) i)) is ∙ taken_at args (arity op) i low ∙ arg

module _ (T : Table) (id : ℕ) (op : Op) (args : List ℕ) (range : IsInRange T) (is : row_at T id ≡ Some (node.Apply op args)) where
  -- the node applies the operator
  pub operator_node : (es : PlainNodes) × (node_at T id ≡ row (apply op (arity op)) es)
  operator_node = (_, row-node T range id (node.Apply op args) is)

  pub argument_is_lower : (i n : ℕ) → i < arity op → slice_get args i ≡ Some n → n < id
  argument_is_lower i n low arg = part-lower T range id i n (has_part T id i n (argument_is_part T id op args is i n low arg))

-- The task of an argument is the row's part.
pub operator_part : (T : Table) (r : PlainRow) (op : Op) (args : List ℕ) (i n : ℕ) → IsInRange T → row_at T r.task.node ≡ Some (node.Apply op args)
    → i < arity op → slice_get args i ≡ Some n
    → IsPart T r i (record r.task { node = n })
operator_part T r op args i n range is low arg =
    part_by_look {f = apply op (arity op)} {es = (operator_node T r.task.node op args range is).0}
    {l = record { part = i; time = r.task.time; space = r.task.space; least = 0 }} i
    (operator_node T r.task.node op args range is).1 look
    (ap (option_map (λ m. record r.task { node = m; time = r.task.time; space = r.task.space })) (argument_is_part T r.task.node op args is i n low arg))
  where
    look : look_of_row (apply op (arity op)) r i ≡ Some (record { part = i; time = r.task.time; space = r.task.space; least = 0 })
    look = let yes : nat_lt i (arity op) ≡ true = grind (arith, nat_tests) in rw yes refl
