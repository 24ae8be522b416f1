-- What the row of each operator says.
use Rattle.std.proofs.Common.{◌≤◌, refl, arith}
use Rattle.lucid_ops.proofs.OperatorRows as rows
use Rattle.lucid_tree.specs.declared.form.Form.{Form}
use Rattle.lucid_tree.specs.declared.form.Form.TheVariants.{If}
use Rattle.lucid_parse.specs.declared.operator.Operator.TheVariants.{Data, Stream}
use Rattle.lucid_parse.specs.Operators.{Operator, row_of, IsRow}

stream_stands : (f : Form) → IsRow (row_of (Stream f))
stream_stands If = record { fits = refl; some = omega arith; least = omega arith; most = omega arith; side = refl }
stream_stands _ = record { fits = refl; some = omega arith; least = omega arith; most = omega arith; side = refl }

pub row_stands : (operator : Operator) → IsRow (row_of operator)
row_stands (Data op) = let r = rows.row_stands op in record { fits = r.fits; some = r.some; least = r.least; most = r.most; side = r.side }
row_stands (Stream f) = stream_stands f

pub level_most : (operator : Operator) → (row_of operator).level ≤ 12
level_most operator = (row_stands operator).most
