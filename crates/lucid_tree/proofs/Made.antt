-- The parts from which a form is made.
use Rattle.lucid_tree.proofs.Common.{◌≡◌, List, [], ◌∷◌, length, refl, arith, PlainTree}
use Rattle.lucid_tree.proofs.FormRows.{few}
use Rattle.lucid_tree.specs.declared.form.Form.{Form}
use Rattle.lucid_tree.specs.Forms.{part_count}

-- Of a form with three parts or more there is no fourth.
pub no_fourth : (which : Form) (a b c : PlainTree) (rest : List PlainTree) → length (a ∷ b ∷ c ∷ rest) ≡ part_count which → (part_count which ≡ 3) × (rest ≡ [])
no_fourth which a b c [] e = (omega (arith, e), refl)
no_fourth which a b c (d ∷ rest) e = absurd (omega (arith, e, (few which).1))
