-- What holds of every source.
use Rattle.std.specs.Prelude.{◌≡◌, ℕ, List}
use Rattle.lucid_tree.specs.Tree.{PlainTree}
use Rattle.lucid_tree.specs.WellMade.{IsWellMade}
use Rattle.lucid_scope.specs.Bindings.{HasNoFault}
use Rattle.lucid_report.specs.declared.refusal.Refusal.{Refusal}
use Rattle.lucid_equations.specs.declared.table.Table.{Table}
use Rattle.lucid_top.specs.Judged.{Spelt, RefusesText, RefusesNames, HasInputs}
use Rattle.lucid_top.specs.Flat.{SpellsTable, RefusesFlat}
use Rattle.lucid_cert_rules.specs.declared.rows.Why.{Why}
use Rattle.lucid_top.specs.Certificates.{HoldsCertificate, RefusesCertificate}

-- A source spells at most one tree, and none where its text is refused; and its text has at most one refusal.
abbrev pub OneTree : Type 0
OneTree = (source : List ℕ) (p q : PlainTree) → Spelt source p → Spelt source q → p ≡ q

abbrev pub TreeIsNotRefused : Type 0
TreeIsNotRefused = (source : List ℕ) (p : PlainTree) (why : Refusal) → Spelt source p → RefusesText source why → ⊥

abbrev pub OneTextRefusal : Type 0
OneTextRefusal = (source : List ℕ) (v w : Refusal) → RefusesText source v → RefusesText source w → v ≡ w

-- The names of a tree are not refused where none is at fault; those of a well-made tree have at most one refusal, and it has one list of
-- free names.
abbrev pub NamesAreNotRefused : Type 0
NamesAreNotRefused = (p : PlainTree) (why : Refusal) → HasNoFault p → RefusesNames p why → ⊥

abbrev pub OneNameRefusal : Type 0
OneNameRefusal = (p : PlainTree) (v w : Refusal) → IsWellMade p → RefusesNames p v → RefusesNames p w → v ≡ w

abbrev pub OneListOfInputs : Type 0
OneListOfInputs = (p : PlainTree) (a b : List (List ℕ)) → IsWellMade p → HasInputs p a → HasInputs p b → a ≡ b

-- A flat source is the text of at most one sound table, and none where it is refused; and it has at most one refusal.
abbrev pub OneFlatTable : Type 0
OneFlatTable = (source : List ℕ) (t u : Table) → SpellsTable source t → SpellsTable source u → t ≡ u

abbrev pub TableIsNotRefused : Type 0
TableIsNotRefused = (source : List ℕ) (t : Table) (why : Refusal) → SpellsTable source t → RefusesFlat source why → ⊥

abbrev pub OneFlatRefusal : Type 0
OneFlatRefusal = (source : List ℕ) (v w : Refusal) → RefusesFlat source v → RefusesFlat source w → v ≡ w

-- Bytes hold at most one certificate, and none where they are refused; and they have at most one refusal.
abbrev pub OneCertificate : Type 0
OneCertificate = (bytes : List ℕ) (v w : Why) → HoldsCertificate bytes v → HoldsCertificate bytes w → v ≡ w

abbrev pub CertificateIsNotRefused : Type 0
CertificateIsNotRefused = (bytes : List ℕ) (w : Why) (why : Refusal) → HoldsCertificate bytes w → RefusesCertificate bytes why → ⊥

abbrev pub OneCertificateRefusal : Type 0
OneCertificateRefusal = (bytes : List ℕ) (v w : Refusal) → RefusesCertificate bytes v → RefusesCertificate bytes w → v ≡ w
