-- What is needed, said of single uses: exactly what is reached through judgments that ask for nothing.
use Rattle.std.specs.Prelude.{◌≡◌, ℕ, List, Some, None}
use Rattle.lucid_tree.specs.Members.{In}
use Rattle.lucid_equations.specs.declared.table.Table.{Table}
use Rattle.lucid_cert_rules.specs.Certificates.{PlainJudgment}
use Rattle.lucid_cert_rules.specs.declared.cell.Cell.{Cell}
use Rattle.lucid_cert_rules.specs.Cells.{asked_at}
use Rattle.lucid_cert_rules.specs.Needs.{Needs, uses_at}

-- A judgment that asks is reached from itself, and from one that asks for nothing if it is reached from one of its uses.
pub data Leads (T : Table) (js : List PlainJudgment) : (from to : ℕ) → Type 0 where
  itself : {i : ℕ} → (c : Cell) → asked_at T js i ≡ Some c → Leads T js i i
  through : {i k : ℕ} → asked_at T js i ≡ None → (u : ℕ) → In u (uses_at js i) → Leads T js u k → Leads T js i k

-- one of these asks for the cell
abbrev pub IsAskedBy : Table → List PlainJudgment → (found : List ℕ) → Cell → Type 0
IsAskedBy T js found c = (m : ℕ) × In m found × (asked_at T js m ≡ Some c)

-- What is found to be needed is reached, and whatever is reached asks for what is found to be asked for.
abbrev pub NeedsAreReached : Type 0
NeedsAreReached =
    (T : Table) (js : List PlainJudgment) (i : ℕ) (found : List ℕ) → Needs T js i found
    → ((k : ℕ) → In k found → Leads T js i k) × ((k : ℕ) (c : Cell) → Leads T js i k → asked_at T js k ≡ Some c → IsAskedBy T js found c)
