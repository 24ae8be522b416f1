-- The number of arguments that an operator takes. This is this language's own rule.
use Rattle.std.specs.Prelude.{ℕ}
use Rattle.lucid_ops.specs.declared.op.Op.{Op}
use Rattle.lucid_ops.specs.Rows.{operator_row}

-- how many arguments an operator takes: what its row says
abbrev pub arity : Op → ℕ
arity op = (operator_row op).arity
