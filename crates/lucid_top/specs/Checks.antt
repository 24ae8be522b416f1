-- A check of a certificate, from outside: what is written, which judgment is wrong, which input is too large, and what is consumed.
use Rattle.std.specs.Prelude.{◌≡◌, ℕ, ◌+◌, ◌<◌, ◌≤◌, ◌⊎◌, List, ◌++◌, length, Some, codes, Ok, Err, slice_get}
use Rattle.lucid_value.specs.ValueText.{value_text}
use Rattle.lucid_value.specs.Lines.{end_of_line, IsOverlong}
use Rattle.lucid_tree.specs.Tree.{PlainTree}
use Rattle.lucid_tree.specs.Levels.{Elements}
use Rattle.lucid_ports.specs.World.{Contents}
use Rattle.lucid_ports.specs.Faults.{Rises}
use Rattle.lucid_inputs.specs.Streams.{all_bytes}
use Rattle.lucid_equations.specs.declared.table.Table.{Table}
use Rattle.lucid_compile.specs.Settled.{table_of as tree_table}
use Rattle.lucid_cert_rules.specs.Certificates.{PlainJudgment}
use Rattle.lucid_cert_rules.specs.declared.rows.Why.{Why}
use Rattle.lucid_cert_rules.specs.Follows.{contexts, AllFollow, IsRight}
use Rattle.lucid_cert.specs.Checked.{IsWrong}
use Rattle.lucid_cert.specs.CheckReads.{TellsElement}
use Rattle.lucid_cert.specs.declared.fault.CheckFault.{CheckFault}
use Rattle.lucid_cert.specs.declared.fault.CheckFault.TheVariants as fault
use Rattle.lucid_session.specs.Subject.{OneStream, StreamMeans, tree_stream}
use Rattle.lucid_session.specs.Runs.{RunView, IsInput, HasElements, ReadsWithin}
use Rattle.lucid_report.specs.declared.stop.Done.TheVariants as done
use Rattle.lucid_report.specs.declared.stop.Stop.{Stop}
use Rattle.lucid_report.specs.declared.stop.Stop.TheVariants as stop
use Rattle.lucid_report.specs.Status.{Outcome}
use Rattle.lucid_report.specs.Lines.{line_at}
use Rattle.lucid_top.specs.Running.{IsLargeStop}
use Rattle.lucid_top.specs.Tables.{HasSoundTable}
use Rattle.lucid_top.specs.Writing.{WritesSome, WritesOnly}

-- the last judgment of a certificate
abbrev pub IsLast : Why → PlainJudgment → Type 0
IsLast w j = (before : ℕ) × (length w.judgments ≡ before + 1) × (slice_get w.judgments before ≡ Some j)

-- The line is that of the last judgment: its value and its time.
abbrev pub IsLastLine : Why → (line : List ℕ) → Type 0
IsLastLine w line = (j : PlainJudgment) × IsLast w j × (line ≡ value_text j.value ++ line_at (codes " at ") j.time)

-- The certificate is right, and so the stream means the value of its last judgment at its time.
pub record Proves (T : Table) (x : OneStream) (b : Elements) (w : Why) : Type 0 where
  pub right : IsRight T b w
  pub means : (j : PlainJudgment) → IsLast w j → StreamMeans x b j.time j.value

-- the line of a certificate that proves its value
abbrev pub IsProvedLine : Table → OneStream → Elements → Why → (line : List ℕ) → Type 0
IsProvedLine T x b w line = Proves T x b w × IsLastLine w line

-- the element of an input lies past the bytes that may be read
abbrev pub LiesPast : RunView → (input index : ℕ) → Type 0
LiesPast r k j = (n : List ℕ) × (q : ℕ) × (c : Contents) × IsInput r k n q × ((r.before.place q).contents ≡ Some c) × IsOverlong (all_bytes c) j r.most

-- A judgment tells an element of the input that lies past them, and all judgments before it follow.
pub record TellsPast (T : Table) (b : Elements) (w : Why) (r : RunView) (input : ℕ) : Type 0 where
  pub number : ℕ
  pub index : ℕ
  pub follow : AllFollow T b w number
  pub tells : TellsElement T (contexts T w) w.judgments number input index
  pub past : LiesPast r input index

-- no judgment below a number tells one that lies past them
abbrev pub NoneTellsPast : Table → Why → RunView → (below : ℕ) → Type 0
NoneTellsPast T w r n = (i k j : ℕ) → i < n → TellsElement T (contexts T w) w.judgments i k j → LiesPast r k j → ⊥

-- Of each input no more is consumed than was, or through the end of an element that a judgment below a number tells.
abbrev pub ConsumesFor : Table → Why → RunView → (below : ℕ) → Type 0
ConsumesFor T w r n = (k : ℕ) (name : List ℕ) (q : ℕ) → IsInput r k name q
    → (old new : Contents) → (r.before.place q).contents ≡ Some old → (r.after.place q).contents ≡ Some new
    → (length new.consumed ≤ length old.consumed)
    ⊎ ((i : ℕ) × (j : ℕ) × (i < n) × TellsElement T (contexts T w) w.judgments i k j × (length new.consumed ≤ end_of_line (all_bytes old) j))

-- it is refused, or can't be read
abbrev pub IsStopped : Outcome → Type 0
IsStopped (Err (stop.Wrong n)) = Unit {0}
IsStopped (Err (stop.TooLarge k name)) = Unit {0}
IsStopped (Err stop.ReadFault) = Unit {0}
IsStopped o = ⊥

-- How a check ends, by the elements of the inputs. The value and the time of the last judgment are written only where the certificate is right
-- and all that it tells may be read; less than that line, where a write failed or there was no memory. It is wrong at a judgment exactly where
-- that is the first wrong one, and an input is too large exactly where a judgment that stands behind none that is wrong tells an element past
-- what may be read.
abbrev pub EndsSo : Table → OneStream → Elements → Why → RunView → Outcome → Type 0
EndsSo T x b w r (Ok done.Written) = WritesSome (IsProvedLine T x b w) r.out_before r.out_after × NoneTellsPast T w r (length w.judgments)
EndsSo T x b w r (Err (stop.Wrong n)) = IsWrong T b w n × NoneTellsPast T w r (n + 1)
EndsSo T x b w r (Err (stop.TooLarge k name)) = TellsPast T b w r k
EndsSo T x b w r (Err stop.ReadFault) = Unit {0}
EndsSo T x b w r o = WritesOnly (IsProvedLine T x b w) r.out_before r.out_after o

-- the judgments that a check looked at: those through the wrong one, where there is one
abbrev pub looked_at : Why → Outcome → ℕ
looked_at w (Err (stop.Wrong n)) = n + 1
looked_at w o = length w.judgments

-- What a check does, by a table whose root is this stream.
pub record Checks (T : Table) (x : OneStream) (w : Why) (r : RunView) (o : Outcome) : Type 0 where
  pub ends : (b : Elements) → HasElements r b → EndsSo T x b w r o
  -- where it is refused or can't be read, nothing is written
  pub silent : IsStopped o → r.out_after.bytes ≡ r.out_before.bytes
  -- no input is consumed past what a judgment tells that is looked at, or past the bytes that may be read
  pub consumed : ConsumesFor T w r (looked_at w o)
  pub within : ReadsWithin r

-- It is a check by the table of the tree.
abbrev pub ChecksTree : PlainTree → Why → RunView → Outcome → Type 0
ChecksTree p w r o = HasSoundTable p r.names × Checks (tree_table p r.names) (tree_stream p) w r o

-- A check over inputs of these names has such outcomes alone. The counts of faults are those of the places and of the output.
abbrev pub CheckComesOnly : (inputs : List (List ℕ)) → (faults faults' out_faults out_faults' : ℕ) → Outcome → Type 0
CheckComesOnly names f f' g g' (Ok done.Written) = Unit {0}
CheckComesOnly names f f' g g' (Err (stop.Wrong n)) = Unit {0}
CheckComesOnly names f f' g g' (Err (stop.TooLarge stream name)) = slice_get names stream ≡ Some name
CheckComesOnly names f f' g g' (Err stop.ReadFault) = Rises f f'
CheckComesOnly names f f' g g' (Err stop.WriteFault) = Rises g g'
CheckComesOnly names f f' g g' (Err stop.NoMemory) = Unit {0}
CheckComesOnly names f f' g g' o = ⊥

-- why a check stopped, as what stops the call
abbrev pub IsCheckStop : (inputs : List (List ℕ)) → CheckFault → Stop → Type 0
IsCheckStop names (fault.Wrong n) s = s ≡ stop.Wrong n
IsCheckStop names fault.ReadFault s = s ≡ stop.ReadFault
IsCheckStop names (fault.TooLarge stream) s = IsLargeStop names stream s
IsCheckStop names fault.NoMemory s = s ≡ stop.NoMemory
