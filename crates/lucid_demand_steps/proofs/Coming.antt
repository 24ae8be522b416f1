-- The rest of a form's plan where a row's search stands; and which arguments of an operator a row may ask for.
use Rattle.lucid_demand_steps.proofs.Common.{◌≡◌, ℕ, zero, suc, ◌+◌, ◌<◌, ◌≤◌, Some, refl, ap, inl, inr, arith, cases_lt, nat_tests, Head, In, Plan, at_start, rest_at, row, PlainNodes, Table, PlainRow, idle, state_at, node_of, look_of_row, MayAsk}
use Rattle.std.specs.Prelude.{true, nat_lt}
use Rattle.lucid_ops.specs.declared.op.Op.{Op}
use Rattle.lucid_tree.specs.Tree.{apply}
use Rattle.lucid_tree.specs.Rows.{arguments}

-- the rest of the form's plan where the row's search stands
abbrev pub rest_of : Head → PlainRow → Plan
rest_of f r = rest_at f r.task.limit r.cursor.time r.cursor.count r.task.time r.task.space

-- The look at an argument is among those at all arguments.
among_arguments : (count first i t s : ℕ) → first ≤ i → i < first + count → In (record { part = i; time = t; space = s; least = 0 }) (arguments count first t s)
among_arguments zero first i t s low high = absurd (omega (arith, low, high))
among_arguments (suc n) first i t s low high =
    elim (cases_lt first i) [
      | inl l ↦ inr (among_arguments n (suc first) i t s l (omega (arith, high)))
      | inr l ↦ (let e : i ≡ first = omega (arith, l, low) in inl (ap (λ k. record { part = k; time = t; space = s; least = 0 }) e))
    ]

-- Each idle argument of an operator may be asked for, whatever the others are.
pub arguments_may_be_asked : (T : Table) (r : PlainRow) (op : Op) (count : ℕ) (es : PlainNodes) (i : ℕ) → node_of T r.task ≡ row (apply op count) es → i < count
    → count ≤ 3
    → state_at r.parts i ≡ idle → MayAsk T r i
arguments_may_be_asked T r op count es i e low few free = record {
  stands_next = arguments count 0 r.task.time r.task.space;
  go_on = _;
  at = record { form = apply op count; nodes = es; is = e; along = at_start };
  look = record { part = i; time = r.task.time; space = r.task.space; least = 0 };
  is = argument;
  next = among_arguments count 0 i r.task.time r.task.space (omega arith) (omega (arith, low));
  free = free;
  few = omega (arith, low, few);
}
  where
    argument : look_of_row (apply op count) r i ≡ Some (record { part = i; time = r.task.time; space = r.task.space; least = 0 })
    argument = let yes : nat_lt i count ≡ true = grind (arith, nat_tests) in rw yes refl
