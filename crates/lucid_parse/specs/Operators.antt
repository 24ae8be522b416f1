-- The operators of a source, over data and over streams: the one row of each says how it is written. Each makes forms of one head.
use Rattle.std.specs.Prelude.{◌≡◌, ◌≤◌, ℕ, Bool, List, Option, Some, None, IsTrue, nat_eq, ◌==◌, if◌then◌else◌}
use Rattle.std.specs.Option.{option_or, option_map}
use Rattle.lucid_ops.specs.declared.op.Op.{Op}
use Rattle.lucid_ops.specs.declared.op.Form.{Form}
use Rattle.lucid_ops.specs.declared.op.Form.TheVariants.{Before, Between, Called}
use Rattle.lucid_ops.specs.declared.op.Side.{Side}
use Rattle.lucid_ops.specs.Arity.{arity}
use Rattle.lucid_ops.specs.Row.{left_level, right_level}
use Rattle.lucid_ops.specs.Rows.{operator_row, level_side, fits_form}
use Rattle.lucid_ops.specs.Rows as rows
use Rattle.lucid_tree.specs.Forms as forms
use Rattle.lucid_tree.specs.Tree.{Head, apply, stream}
pub use Rattle.lucid_parse.specs.declared.operator.Operator.{Operator}
use Rattle.lucid_parse.specs.declared.operator.Operator.TheVariants.{Data, Stream}
use Rattle.lucid_parse.specs.declared.operator.OperatorRow.{OperatorRow}

-- A row: the bytes that stand for the operator in a source, how it stands to its parts (`if`, which has words of its own round them, in none of
-- these ways), how tightly it binds (from 0, the loosest, to 12), to which side operators of its level group, and the number of its parts.
pub record Row : Type 0 where
  pub spelling : List ℕ
  pub form : Option Form
  pub level : ℕ
  pub side : Side
  pub arity : ℕ

-- A form over streams stands before one part, and between two.
abbrev pub fixity : (parts : ℕ) → Option Form
fixity n = if n == 1 then Some Before else if n == 2 then Some Between else None

-- The row of each operator: that of a data operator is its row among these; that of a form over streams says its level, from which its side
-- follows, and the number of its parts, from which it follows how it stands to them.
abbrev pub row_of : Operator → Row
row_of (Data op) =
    let r = operator_row op in
    record { spelling = r.spelling; form = Some r.form; level = r.level; side = r.side; arity = r.arity }
row_of (Stream f) =
    let r = forms.form_row f in
    record { spelling = r.spelling; form = fixity r.parts; level = r.level; side = level_side r.level; arity = r.parts }

-- The head of the form that an operator makes.
abbrev pub head : Operator → Head
head (Data op) = apply op (arity op)
head (Stream f) = stream f

-- An operator's level, and the number of its parts.
abbrev pub level_of : Operator → ℕ
level_of operator = (row_of operator).level

abbrev pub arity_of : Operator → ℕ
arity_of operator = (row_of operator).arity

-- The least levels of an operator's left and right part.
abbrev pub left : Operator → ℕ
left operator = left_level (row_of operator).side (level_of operator)

abbrev pub right : Operator → ℕ
right operator = right_level (row_of operator).side (level_of operator)

-- The data operator that a text spells: one between its parts, else one before its part, else one that is called.
abbrev pub data_spelled : List ℕ → Option Op
data_spelled text = option_or (rows.operator_of Between text) (option_or (rows.operator_of Before text) (rows.operator_of Called text))

-- The operator that a text spells.
abbrev pub spelled : List ℕ → Option Operator
spelled text = option_or (option_map Stream (forms.spelled text)) (option_map Data (data_spelled text))

-- a row of the program as such a row
abbrev pub plain_row : OperatorRow → Row
plain_row r = record { spelling = r.spelling.now; form = r.form; level = r.level; side = r.side; arity = r.arity }

-- A row fits how the operator stands to its parts; what has words of its own round them binds as what is called does.
abbrev pub fits_fixity : Option Form → Side → (level arity : ℕ) → Bool
fits_fixity (Some f) side level arity = fits_form f side level arity
fits_fixity None side level arity = nat_eq level 12

-- It does, has a part and a level from 1 to 12, and groups as its level does.
pub record IsRow (r : Row) : Type 0 where
  pub fits : IsTrue (fits_fixity r.form r.side r.level r.arity)
  pub some : 1 ≤ r.arity
  pub least : 1 ≤ r.level
  pub most : r.level ≤ 12
  pub side : r.side ≡ level_side r.level
