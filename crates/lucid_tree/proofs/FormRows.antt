-- What the row of each form says.
use Rattle.std.proofs.Common.{◌≤◌, arith}
use Rattle.lucid_tree.specs.declared.form.Form.TheVariants.{If}
use Rattle.lucid_tree.specs.Forms.{Form, form_row, part_count}

pub few : (form : Form) → (1 ≤ part_count form) × (part_count form ≤ 3)
few If = (omega arith, omega arith)
few _ = (omega arith, omega arith)

pub levelled : (form : Form) → (1 ≤ (form_row form).level) × ((form_row form).level ≤ 12)
levelled If = (omega arith, omega arith)
levelled _ = (omega arith, omega arith)
