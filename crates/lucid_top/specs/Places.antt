-- What the places tell while the source is read and the inputs are reached.
use Rattle.std.specs.Prelude.{◌≡◌, ℕ, ◌+◌, ◌<◌, ◌≤◌, ◌⊎◌, List, ◌++◌, length, Option, Some, take, IfSome, Result, OnOk, IsErrOf, slice_get}
use Rattle.lucid_ports.specs.World.{World, IsFresh}
use Rattle.lucid_ports.specs.Faults.{Rises, AsksNoneLate, CountsNoFaultUnless}
use Rattle.lucid_ports.specs.declared.fault.PortFault.{PortFault}
use Rattle.lucid_ports.specs.declared.fault.PortFault.TheVariants.{Failed, NoMemory}
use Rattle.lucid_make.specs.Source.{made_source}
use Rattle.lucid_tree.specs.Tree.{PlainTree}
use Rattle.lucid_tree.specs.WellMade.{places, IsWellMade}
use Rattle.lucid_scan.specs.Refusals.{most_source_bytes}
use Rattle.lucid_scope.specs.Bindings.{HasNoFault}
use Rattle.lucid_words.specs.Plain.{PlainSource, file, made}
use Rattle.lucid_equations.specs.declared.table.Table.{Table}
use Rattle.lucid_report.specs.declared.refusal.Refusal.{Refusal}
use Rattle.lucid_report.specs.declared.stop.Stop.{Stop}
use Rattle.lucid_report.specs.declared.stop.Stop.TheVariants as stop
use Rattle.lucid_top.specs.Judged.{Spelt, RefusesText, RefusesNames, RefusesColumns, StandsBeside, HasInputs}
use Rattle.lucid_top.specs.declared.task.Form.{Form}
use Rattle.lucid_top.specs.declared.task.Form.TheVariants as form
use Rattle.lucid_top.specs.Flat.{most_flat_bytes, SpellsTable}
use Rattle.lucid_top.specs.Sources.{IsSource, first_place}
use Rattle.lucid_top.specs.Names.{source_names, AsksFront}
use Rattle.lucid_top.specs.Certificates.{most_certificate_bytes}
use Rattle.lucid_words.specs.Asked.{PlainWords}
use Rattle.lucid_top.specs.declared.task.Task.TheVariants as task
use Rattle.lucid_top.specs.Tasks.{task_of}

-- no name holds anything else, and faults are only counted
pub record KeepsNames (old new : World) : Type 0 where
  pub names : (name : List ℕ) → new.holds name ≡ old.holds name
  pub faults : old.faults ≤ new.faults

-- The count of faults of the places is as it was, unless the answer is a read fault; that of the output, unless it is a write fault.
abbrev pub CountsNoRead : {T : Type 0} → Result T Stop → (old new : World) → Type 0
CountsNoRead result v w = CountsNoFaultUnless (IsErrOf result stop.ReadFault) v.faults w.faults

abbrev pub CountsNoWrite : {T : Type 0} → Result T Stop → (old new : ℕ) → Type 0
CountsNoWrite result f g = CountsNoFaultUnless (IsErrOf result stop.WriteFault) f g

-- The source, but of a file at most so many of its first bytes.
abbrev pub IsSourceFront : (most : ℕ) → PlainSource → World → List ℕ → Type 0
IsSourceFront most (file name) w bytes = IfSome (w.holds name) (λ held. bytes ≡ take most held)
IsSourceFront most (made n) w bytes = bytes ≡ made_source n

-- A call on the places failed, which is counted, or there was no memory.
abbrev pub IsReadStop : (old new : World) → Stop → Type 0
IsReadStop old new stop.ReadFault = Rises old.faults new.faults
IsReadStop old new stop.NoMemory = Unit {0}
IsReadStop old new _ = ⊥

-- The tree is that of the source.
pub record SpeltBySource (source : PlainSource) (w : World) (p : PlainTree) : Type 0 where
  pub bytes : List ℕ
  pub is : IsSource source w bytes
  pub spelt : Spelt bytes p

-- The table is that of the source.
pub record FlatBySource (source : PlainSource) (w : World) (t : Table) : Type 0 where
  pub bytes : List ℕ
  pub is : IsSource source w bytes
  pub spelt : SpellsTable bytes t

-- The source is refused so, as a text or as a flat form; or it can't be read; or there was no memory.
abbrev pub IsSourceStop : (Refused : List ℕ → Refusal → Type 0) → PlainSource → (old new : World) → Stop → Type 0
IsSourceStop Refused source old new (stop.Refused why) = (bytes : List ℕ) × IsSource source old bytes × Refused bytes why
IsSourceStop Refused source old new stop.ReadFault = Rises old.faults new.faults
IsSourceStop Refused source old new stop.NoMemory = Unit {0}
IsSourceStop Refused source old new _ = ⊥

-- The tree is that of the source and no name of it is at fault; it is well made, and has no more nodes than a source may have bytes.
pub record IsAccepted (source : PlainSource) (w : World) (p : PlainTree) : Type 0 where
  pub spelt : SpeltBySource source w p
  pub no_fault : HasNoFault p
  pub well_made : IsWellMade p
  pub few : length (places p) ≤ most_source_bytes

-- The tree of the source is accepted, and this is the tree with its columns as the subject, with its free names.
pub record IsAcceptedBeside (source : PlainSource) (w : World) (columns : List (List ℕ)) (q : PlainTree) (inputs : List (List ℕ)) : Type 0 where
  pub tree : PlainTree
  pub accepted : IsAccepted source w tree
  pub beside : StandsBeside tree columns q inputs

-- The source stops the call, or the names of its tree are refused.
abbrev pub IsProgramStop : PlainSource → (old new : World) → Stop → Type 0
IsProgramStop source old new (stop.Refused why) =
    IsSourceStop RefusesText source old new (stop.Refused why) ⊎ ((p : PlainTree) × SpeltBySource source old p × IsWellMade p × RefusesNames p why)
IsProgramStop source old new s = IsSourceStop RefusesText source old new s

-- Or the names that are asked for are no columns of it.
abbrev pub IsColumnsStop : PlainSource → (columns : List (List ℕ)) → (old new : World) → Stop → Type 0
IsColumnsStop source columns old new (stop.Refused why) =
    IsProgramStop source old new (stop.Refused why)
    ⊎ ((p : PlainTree) × IsAccepted source old p × ((free : List (List ℕ)) × HasInputs p free) × RefusesColumns p columns why)
IsColumnsStop source columns old new s = IsProgramStop source old new s

-- how many bytes of a source may be read: one more than it may have, as a text and in the flat form
abbrev pub most_read : Form → ℕ
most_read form.Flat = most_flat_bytes + 1
most_read _ = most_source_bytes + 1

-- Of what is read at a place, once it is reached, at most so many bytes are consumed, where it tells them.
abbrev pub ReadsPlace : (most place : ℕ) → World → Type 0
ReadsPlace most q w = q < w.reached → IfSome (w.place q).contents (λ s. length s.consumed ≤ most)

-- so it is of a file that the source is read from
abbrev pub ReadsSource : (most : ℕ) → PlainSource → World → Type 0
ReadsSource most (file name) w = ReadsPlace most 0 w
ReadsSource most (made n) w = Unit {0}

-- and of the file of a certificate that is checked, whose place comes behind the source's: one byte more than it may have
abbrev pub ReadsCertificate : PlainWords → World → Type 0
ReadsCertificate w v = task_of w ≡ task.Check → ReadsPlace (most_certificate_bytes + 1) (first_place w.source) v

-- How the source is read, whatever comes of it: at most its name is asked for and its place reached, at most so many bytes of it are read, no
-- name holds anything else, a fault is counted only where it is told, and nothing is asked after one.
pub record HasRead {T : Type 0} (most : ℕ) (source : PlainSource) (old new : World) (result : Result T Stop) : Type 0 where
  pub reached : OnOk result (new.reached ≡ first_place source)
  pub few : new.reached ≤ first_place source
  pub asks : AsksFront (source_names source) old new
  pub asked : OnOk result (new.asked ≡ old.asked ++ source_names source)
  pub within : ReadsSource most source new
  pub keeps : KeepsNames old new
  pub counts_no_read : CountsNoRead result old new
  pub late : AsksNoneLate old new

-- no place that was reached changes
abbrev pub AreKept : (old new : World) → Type 0
AreKept old new = (q : ℕ) → q < old.reached → new.place q ≡ old.place q

-- How one file more is reached and read, whatever comes of it.
pub record HasReached {T : Type 0} (most : ℕ) (old new : World) (result : Result T Stop) : Type 0 where
  pub reached : OnOk result (new.reached ≡ old.reached + 1)
  pub few : new.reached ≤ old.reached + 1
  pub others : AreKept old new
  pub within : ReadsPlace most old.reached new
  pub keeps : KeepsNames old new
  pub counts_no_read : CountsNoRead result old new
  pub late : AsksNoneLate old new

-- Each of the places that are newly reached, in the order of the files, is a fresh place of its file.
abbrev pub AreFresh : (files : List (List ℕ)) → (old new : World) → Type 0
AreFresh files old new = (k : ℕ) (file : List ℕ) → slice_get files k ≡ Some file → old.reached + k < new.reached → IsFresh (old.holds file) (new.place (old.reached + k))

-- nothing is read of the places with these numbers, which are reached
abbrev pub AreUnread : (numbers : List ℕ) → World → Type 0
AreUnread numbers w = (k : ℕ) (q : ℕ) → slice_get numbers k ≡ Some q → (q < w.reached) × ((bytes : Option (List ℕ)) × IsFresh bytes (w.place q))

-- a refusal of the places, as what stops a call
abbrev pub read_stop : PortFault → Stop
read_stop Failed = stop.ReadFault
read_stop NoMemory = stop.NoMemory
