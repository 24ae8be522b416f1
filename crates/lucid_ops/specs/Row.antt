-- A row of the operator table in its plain form.
use Rattle.std.specs.Prelude.{ℕ, ◌+◌, List}
use Rattle.lucid_ops.specs.declared.op.Op.{Op}
use Rattle.lucid_ops.specs.declared.op.Form.{Form}
use Rattle.lucid_ops.specs.declared.op.Side.{Side}
use Rattle.lucid_ops.specs.declared.op.Side.TheVariants.{Left, Right, Single}
use Rattle.lucid_ops.specs.declared.op.OpRow.{OpRow}

-- A row: an operator, the bytes that stand for it in a source, how it stands to its arguments, how tightly it binds
-- (from 0, the loosest, to 12), to which side operators of one level group, and the number of its arguments.
pub record Row : Type 0 where
  pub op : Op
  pub spelling : List ℕ
  pub form : Form
  pub level : ℕ
  pub side : Side
  pub arity : ℕ

-- a row of the program as such a row
abbrev pub plain_row : OpRow → Row
plain_row r = record { op = r.op; spelling = r.spelling.now; form = r.form; level = r.level; side = r.side; arity = r.arity }

-- The least levels of the arguments to the left and to the right of an operator of this level: the operator's own level on the side to
-- which a row of such operators groups, and the next level elsewhere. The argument behind an operator in front of it has the operator's level.
abbrev pub left_level : Side → ℕ → ℕ
left_level Left level = level
left_level Right level = level + 1
left_level Single level = level + 1

abbrev pub right_level : Side → ℕ → ℕ
right_level Left level = level + 1
right_level Right level = level
right_level Single level = level + 1
