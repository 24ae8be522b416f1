-- How each form is written: its spelling, its level, and the levels that the places of its parts want. The levels are those of the
-- operators' rows; 0 binds loosest.
use Rattle.std.specs.Prelude.{ℕ, List, Option, Some, None}
use Rattle.lucid_value.specs.Plain.{PlainValue}
use Rattle.lucid_ops.specs.declared.op.Form.{Form}
use Rattle.lucid_ops.specs.declared.op.Form.TheVariants.{Before, Between, Called}
use Rattle.lucid_ops.specs.declared.op.Side.{Side}
use Rattle.lucid_ops.specs.Row.{left_level, right_level}
use Rattle.lucid_parse.specs.declared.operator.Operator.{Operator}
use Rattle.lucid_parse.specs.declared.operator.Operator.TheVariants.{Data, Stream}
use Rattle.lucid_parse.specs.Operators.{Row, row_of}
use Rattle.lucid_tree.specs.Tree.{Head, const, apply, stream, PlainTree, form, name, call, block}

pub data Style : Type 0 where
  constant : PlainValue → Style
  -- `if`
  conditional : Style
  -- between two parts; the levels are the form's own, and those that its left and its right part have at least
  between : (spelling : List ℕ) → (level left right : ℕ) → Style
  -- before one part, whose level is at least the form's own
  before : (spelling : List ℕ) → (level : ℕ) → Style
  -- before its parts in parentheses
  called : (spelling : List ℕ) → Style

-- Between two parts, at this level, where a row of such operators groups to the side.
abbrev pub grouped : Side → ℕ → List ℕ → Style
grouped side k s = between s k (left_level side k) (right_level side k)

-- An operator, by its row; `if` has words of its own.
abbrev pub row_style : Option Form → Row → Style
row_style (Some Before) r = before r.spelling r.level
row_style (Some Between) r = grouped r.side r.level r.spelling
row_style (Some Called) r = called r.spelling
row_style None r = conditional

abbrev pub operator : Operator → Style
operator o = row_style (row_of o).form (row_of o)

-- All forms: a constant, or by the operator that makes it.
abbrev pub style : Head → Style
style (const v) = constant v
style (apply op n) = operator (Data op)
style (stream f) = operator (Stream f)

-- The level of a form: what is no operator and no block binds tightest.
abbrev pub style_level : Style → ℕ
style_level (constant v) = 12
style_level conditional = 12
style_level (between s k l r) = k
style_level (before s k) = k
style_level (called s) = 12

abbrev pub level : PlainTree → ℕ
level (form at h es) = style_level (style h)
level (name at n) = 12
level (call at n es) = 12
level (block at e ds) = 0
