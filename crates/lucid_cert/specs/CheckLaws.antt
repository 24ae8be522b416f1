-- A certificate that is right is found wrong nowhere.
use Rattle.std.specs.Prelude.{ℕ}
use Rattle.lucid_tree.specs.Levels.{Elements}
use Rattle.lucid_equations.specs.declared.table.Table.{Table}
use Rattle.lucid_cert_rules.specs.declared.rows.Why.{Why}
use Rattle.lucid_cert_rules.specs.Follows.{IsRight}
use Rattle.lucid_cert.specs.Checked.{IsWrong}

-- No judgment of a certificate that is right is wrong, by the same elements.
abbrev pub RightIsNotWrong : Type 0
RightIsNotWrong = (T : Table) (b : Elements) (w : Why) (number : ℕ) → IsRight T b w → IsWrong T b w number → ⊥
