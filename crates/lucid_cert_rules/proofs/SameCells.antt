-- The derived test of cells is that of the definitions.
use Rattle.lucid_cert_rules.proofs.NeedCommon.{◌≡◌, Bool, true, false, not, List, [], ◌∷◌, ◌||◌, refl, ap, ◌∙◌, list_any}
use Rattle.lucid_cert_rules.specs.declared.cell.Cell.{Cell}
use Rattle.lucid_cert_rules.specs.declared.cell.Cell.TheVariants.{Named, Element}
use Rattle.lucid_cert_rules.specs.contracts.cell.CellPartialEq.TheImpl.{eq-value}
use Rattle.lucid_cert_rules.specs.Cells.{same_cell, is_among}

one_test : (c d : Cell) → eq-value.it c d ≡ same_cell c d
one_test (Named i) (Named j) = refl
one_test (Named i) (Element l u) = refl
one_test (Element k t) (Named j) = refl
one_test (Element k t) (Element l u) = refl

pub is_among-list_any : (cs : List Cell) (c : Cell) → list_any (eq-value.it c) cs ≡ is_among cs c
is_among-list_any [] c = refl
is_among-list_any (d ∷ cs) c = ap (λ b. b || list_any (eq-value.it c) cs) (one_test c d) ∙ ap (λ b. same_cell c d || b) (is_among-list_any cs c)

-- what a set says that it didn't add was there
pub was_there : (b : Bool) → false ≡ not b → b ≡ true
was_there true h = refl
was_there false h = absurd (cc)
