-- The stages of a call, in their order, each with what the earlier ones gave; and the first refusal.
use Rattle.std.specs.Prelude.{◌≡◌, ◌≢◌, ℕ, ◌⊎◌, true, List, Some, None}
use Rattle.lucid_tree.specs.Tree.{PlainTree}
use Rattle.lucid_scope.specs.Bindings.{HasNoFault}
use Rattle.lucid_equations.specs.declared.table.Table.{Table}
use Rattle.lucid_words.specs.Plain.{file}
use Rattle.lucid_words.specs.Asked.{PlainWords}
use Rattle.lucid_cert_rules.specs.declared.rows.Why.{Why}
use Rattle.lucid_report.specs.declared.refusal.Refusal.{Refusal}
use Rattle.lucid_report.specs.declared.refusal.Refusal.TheVariants as refusal
use Rattle.lucid_columns.specs.Columns.{AreColumns}
use Rattle.lucid_top.specs.declared.task.Task.{Task}
use Rattle.lucid_top.specs.declared.task.Task.TheVariants as task
use Rattle.lucid_top.specs.declared.task.Form.TheVariants as form
use Rattle.lucid_top.specs.Call.{Call}
use Rattle.lucid_top.specs.Sources.{IsSource}
use Rattle.lucid_top.specs.Certificates.{HeldCertificate, RefusesCertificate}
use Rattle.lucid_top.specs.Tasks.{task_of, form_of, is_certificate}
use Rattle.lucid_print.specs.Canonical.{canonical}
use Rattle.lucid_cycles.specs.Judged.{IsJudged}
use Rattle.lucid_top.specs.Judged.{Spelt, RefusesText, RefusesNames, RefusesColumns, RefusesJudging, HasInputs}
use Rattle.lucid_top.specs.Texts.{IsJudgmentLine, IsFlatForm}
use Rattle.lucid_top.specs.Flat.{SpellsTable, RefusesFlat}
use Rattle.lucid_top.specs.Programs.{Program, of_tree, of_columns, of_table, beside}
use Rattle.lucid_top.specs.Files.{RefusesGiven, FitsGiven}

-- The words are read.
pub record Asks (c : Call) : Type 0 where
  pub words : PlainWords
  pub read : c.asked ≡ Some words

-- The source is read.
pub record HasSource (c : Call) : Type 0 where
  pub asks : Asks c
  pub bytes : List ℕ
  pub is : IsSource asks.words.source c.before bytes

-- It spells a tree.
pub record HasTree (c : Call) : Type 0 where
  pub source : HasSource c
  pub form : form_of source.asks.words ≢ form.Flat
  pub tree : PlainTree
  pub spelt : Spelt source.bytes tree

-- Or it is in the flat form, the text of a sound table.
pub record HasFlat (c : Call) : Type 0 where
  pub source : HasSource c
  pub form : form_of source.asks.words ≡ form.Flat
  pub table : Table
  pub spelt : SpellsTable source.bytes table

-- But for a printing, the names of a tree are looked at, and none is at fault.
pub record HasNames (c : Call) : Type 0 where
  pub program : HasTree c
  pub task : task_of program.source.asks.words ≢ task.Print
  pub no_fault : HasNoFault program.tree
  pub free : List (List ℕ)
  pub are_free : HasInputs program.tree free

-- the columns that the words name
abbrev pub columns_named : {c : Call} → HasNames c → List (List ℕ)
columns_named n = n.program.source.asks.words.columns

-- They are columns of the tree; and these are the free names of the tree with them as its subject.
pub record HasColumns (c : Call) : Type 0 where
  pub names : HasNames c
  pub are : AreColumns names.program.tree (columns_named names)
  pub free : List (List ℕ)
  pub are_free : HasInputs (beside names.program.tree (columns_named names)) free

-- A text is written, and nothing is run: the canonical source; or, where the tree is judged, the line of its judgment; or its flat form.
pub data IsWriting (c : Call) : Type 0 where
  prints : (t : HasTree c) → task_of t.source.asks.words ≡ task.Print → IsWriting c
  judges : (n : HasNames c) → task_of n.program.source.asks.words ≡ task.Cycles → IsJudged n.program.tree → IsWriting c
  flattens : (n : HasNames c) → task_of n.program.source.asks.words ≡ task.Flat → IsWriting c

-- It is such a text.
abbrev pub IsTextFor : {c : Call} → IsWriting c → (text : List ℕ) → Type 0
IsTextFor (prints t task) text = text ≡ canonical t.tree
IsTextFor (judges n task judged) text = IsJudgmentLine n.program.tree text
IsTextFor (flattens n task) text = IsFlatForm n.program.tree text

-- Or there is a program to run: a tree none of whose names is at fault, or columns of it; or a sound table.
pub data HasProgram (c : Call) : Type 0 where
  by_tree : HasNames c → HasProgram c
  by_columns : HasColumns c → HasProgram c
  by_table : HasFlat c → HasProgram c

-- its words, the task that it is for, the program itself, and the names of its inputs
abbrev pub asks_for : {c : Call} → HasProgram c → Asks c
asks_for (by_tree n) = n.program.source.asks
asks_for (by_columns h) = h.names.program.source.asks
asks_for (by_table f) = f.source.asks

abbrev pub task_for : {c : Call} → HasProgram c → Task
task_for (by_tree n) = task.Run
task_for (by_columns h) = task.Columns
task_for (by_table f) = task.Run

abbrev pub program_in : {c : Call} → HasProgram c → Program
program_in (by_tree n) = of_tree n.program.tree
program_in (by_columns h) = of_columns h.names.program.tree (columns_named h.names)
program_in (by_table f) = of_table f.table

abbrev pub inputs_in : {c : Call} → HasProgram c → List (List ℕ)
inputs_in (by_tree n) = n.free
inputs_in (by_columns h) = h.free
inputs_in (by_table f) = f.table.inputs

-- the words ask for it
abbrev pub IsAskedFor : {c : Call} → HasProgram c → Type 0
IsAskedFor p = task_of (asks_for p).words ≡ task_for p

-- or they ask for a certificate of a tree to be made or checked
abbrev pub IsForCertificate : {c : Call} → HasProgram c → Type 0
IsForCertificate (by_tree n) = is_certificate (task_of n.program.source.asks.words) ≡ true
IsForCertificate (by_columns h) = ⊥
IsForCertificate (by_table f) = ⊥

-- its inputs are wanted: for a run or for a certificate
abbrev pub WantsInputs : {c : Call} → HasProgram c → Type 0
WantsInputs p = IsAskedFor p ⊎ IsForCertificate p

-- It is run: the words give each input a file, but for one at most.
pub record IsRun (c : Call) : Type 0 where
  pub program : HasProgram c
  pub task : IsAskedFor program
  pub fits : FitsGiven (inputs_in program) (asks_for program).words.given

-- The words ask for this of a certificate of a tree, and give each input a file, but for one at most.
pub record HasFiles (c : Call) (t : Task) : Type 0 where
  pub names : HasNames c
  pub task : task_of names.program.source.asks.words ≡ t
  pub fits : FitsGiven names.free names.program.source.asks.words.given

-- A certificate is made.
abbrev pub IsMaking : Call → Type 0
IsMaking c = HasFiles c task.Why

-- A certificate may be checked, once it is read.
abbrev pub MayCheck : Call → Type 0
MayCheck c = HasFiles c task.Check

-- the file of the certificate, by its name
abbrev pub certificate_file : {c : Call} → MayCheck c → List ℕ
certificate_file m = m.names.program.source.asks.words.check

-- It is checked: that file holds one.
pub record IsCheck (c : Call) : Type 0 where
  pub may : MayCheck c
  pub why : Why
  pub held : HeldCertificate (certificate_file may) c.before why

-- The call is refused so, by the first stage that refuses it.
pub data Refuses (c : Call) : (why : Refusal) → Type 0 where
  by_words : c.asked ≡ None → Refuses c refusal.Usage
  by_text : {why : Refusal} → (s : HasSource c) → form_of s.asks.words ≢ form.Flat → RefusesText s.bytes why → Refuses c why
  by_flat : {why : Refusal} → (s : HasSource c) → form_of s.asks.words ≡ form.Flat → RefusesFlat s.bytes why → Refuses c why
  by_names : {why : Refusal} → (t : HasTree c) → task_of t.source.asks.words ≢ task.Print → RefusesNames t.tree why → Refuses c why
  by_missing : {why : Refusal} → (n : HasNames c) → task_of n.program.source.asks.words ≡ task.Columns → RefusesColumns n.program.tree (columns_named n) why → Refuses c why
  by_judging : {why : Refusal} → (n : HasNames c) → task_of n.program.source.asks.words ≡ task.Cycles → RefusesJudging n.program.tree why → Refuses c why
  by_given : {why : Refusal} → (p : HasProgram c) → WantsInputs p → RefusesGiven (inputs_in p) (asks_for p).words.given why
      → Refuses c why
  by_certificate : {why : Refusal} → (m : MayCheck c) → (bytes : List ℕ) → IsSource (file (certificate_file m)) c.before bytes → RefusesCertificate bytes why
      → Refuses c why
