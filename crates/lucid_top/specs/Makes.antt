-- A certificate of the value at a time, from outside: what is written, when it is too deep, which input is too large, and what is consumed.
use Rattle.std.specs.Prelude.{◌≡◌, ℕ, ◌≤◌, ◌⊎◌, false, List, length, None, Some, Ok, Err, slice_get}
use Rattle.lucid_value.specs.Lines.{end_of_line}
use Rattle.lucid_tree.specs.Tree.{PlainTree}
use Rattle.lucid_tree.specs.Levels.{Elements}
use Rattle.lucid_tree.specs.Members.{In}
use Rattle.lucid_ports.specs.World.{Contents}
use Rattle.lucid_ports.specs.Faults.{Rises}
use Rattle.lucid_inputs.specs.Streams.{all_bytes}
use Rattle.lucid_equations.specs.declared.table.Table.{Table}
use Rattle.lucid_compile.specs.Settled.{table_of as tree_table}
use Rattle.lucid_demand_steps.specs.declared.fault.DemandFault.{DemandFault}
use Rattle.lucid_demand_steps.specs.declared.fault.DemandFault.TheVariants as fault
use Rattle.lucid_cert_rules.specs.Certificates.{PlainJudgment}
use Rattle.lucid_cert_rules.specs.WhyTexts.{IsTextOf}
use Rattle.lucid_cert_rules.specs.declared.rows.Why.{Why}
use Rattle.lucid_cert.specs.Certified.{AreApart}
use Rattle.lucid_session.specs.Subject.{OneStream, tree_stream}
use Rattle.lucid_session.specs.Runs.{RunView, IsInput, HasElements, ReadsWithin}
use Rattle.lucid_report.specs.declared.stop.Done.TheVariants as done
use Rattle.lucid_report.specs.declared.stop.Stop.{Stop}
use Rattle.lucid_report.specs.declared.stop.Stop.TheVariants as stop
use Rattle.lucid_report.specs.Status.{Outcome}
use Rattle.lucid_top.specs.Running.{IsLargeStop}
use Rattle.lucid_top.specs.Writing.{WritesOnly}
use Rattle.lucid_top.specs.Checks.{IsLast, Proves, LiesPast}
use Rattle.lucid_top.specs.Tables.{HasSoundTable}

-- it holds for each added number from some on
abbrev pub ForSomeAdded : (ℕ → Type 0) → Type 0
ForSomeAdded P = (a : ℕ) × ((d : ℕ) → a ≤ d → P d)

-- A certificate that proves the stream's value at the time; no two of its judgments are of one node in one context at one point.
pub record IsWhy (T : Table) (x : OneStream) (b : Elements) (time : ℕ) (w : Why) : Type 0 where
  pub proves : Proves T x b w
  pub apart : AreApart T w
  pub at_time : (j : PlainJudgment) → IsLast w j → j.time ≡ time

-- The text of such a certificate, which is read again as it.
abbrev pub IsWhyText : Table → OneStream → Elements → (time : ℕ) → (text : List ℕ) → Type 0
IsWhyText T x b t text = (w : Why) × IsWhy T x b t w × IsTextOf text w

-- At the time the limit's approximation consults the element; its choices are those of the approximation that is greater by the added number.
abbrev pub IsConsultedAt : OneStream → Elements → RunView → (time added : ℕ) → (name : List ℕ) → (index : ℕ) → Type 0
IsConsultedAt x b r t d n j = In (n, j) (x.pairs b r.depth d t)

-- At the time an element of the input is consulted that lies past the bytes that may be read.
pub record ConsultsPast (x : OneStream) (b : Elements) (r : RunView) (time input : ℕ) : Type 0 where
  pub name : List ℕ
  pub named : slice_get r.names input ≡ Some name
  pub index : ℕ
  pub consulted : ForSomeAdded (λ d. IsConsultedAt x b r time d name index)
  pub past : LiesPast r input index

-- Of each input no more is consumed than was, or through the end of an element that is consulted at the time.
abbrev pub ConsumesAt : OneStream → Elements → RunView → (time added : ℕ) → Type 0
ConsumesAt x b r t d = (k : ℕ) (n : List ℕ) (q : ℕ) → IsInput r k n q
    → (old new : Contents) → (r.before.place q).contents ≡ Some old → (r.after.place q).contents ≡ Some new
    → (length new.consumed ≤ length old.consumed) ⊎ ((j : ℕ) × IsConsultedAt x b r t d n j × (length new.consumed ≤ end_of_line (all_bytes old) j))

-- none is made: the value is too deep, or an input is too large or can't be read
abbrev pub IsNotMade : Outcome → Type 0
IsNotMade (Err (stop.TooDeep time lost cleared stats)) = Unit {0}
IsNotMade (Err (stop.TooLarge k name)) = Unit {0}
IsNotMade (Err stop.ReadFault) = Unit {0}
IsNotMade o = ⊥

-- How the making ends, by the elements of the inputs. The text is written; less than the whole, where a write failed or there was no memory.
-- It is too deep only where the limit's approximation is undefined at the time, and an input is too large only where that consults an
-- element of it past what may be read.
abbrev pub MakesSo : Table → OneStream → Elements → RunView → (time : ℕ) → Outcome → Type 0
MakesSo T x b r t (Err (stop.TooDeep time lost cleared stats)) = x.value b r.depth t ≡ None
MakesSo T x b r t (Err (stop.TooLarge k name)) = ConsultsPast x b r t k
MakesSo T x b r t (Err stop.ReadFault) = Unit {0}
MakesSo T x b r t o = WritesOnly (IsWhyText T x b t) r.out_before r.out_after o

-- What making one does, by a table whose root is this stream.
pub record Makes (T : Table) (x : OneStream) (r : RunView) (time : ℕ) (o : Outcome) : Type 0 where
  pub ends : (b : Elements) → HasElements r b → MakesSo T x b r time o
  -- where none is made, nothing is written
  pub silent : IsNotMade o → r.out_after.bytes ≡ r.out_before.bytes
  -- no input is consumed past the last element that is consulted at the time, or past the bytes that may be read
  pub consumed : (b : Elements) → HasElements r b → ForSomeAdded (ConsumesAt x b r time)
  pub within : ReadsWithin r

-- It is made by the table of the tree.
abbrev pub MakesTree : PlainTree → RunView → (time : ℕ) → Outcome → Type 0
MakesTree p r t o = HasSoundTable p r.names × Makes (tree_table p r.names) (tree_stream p) r t o

-- Making one at a time over inputs of these names has such outcomes alone. The counts of faults are those of the places and of the output.
abbrev pub MakingComesOnly : (inputs : List (List ℕ)) → (time faults faults' out_faults out_faults' : ℕ) → Outcome → Type 0
MakingComesOnly names t f f' g g' (Ok done.Written) = Unit {0}
MakingComesOnly names t f f' g g' (Err (stop.TooDeep time lost cleared stats)) = (time ≡ t) × (stats ≡ false)
MakingComesOnly names t f f' g g' (Err (stop.TooLarge stream name)) = slice_get names stream ≡ Some name
MakingComesOnly names t f f' g g' (Err stop.ReadFault) = Rises f f'
MakingComesOnly names t f f' g g' (Err stop.WriteFault) = Rises g g'
MakingComesOnly names t f f' g g' (Err stop.NoMemory) = Unit {0}
MakingComesOnly names t f f' g g' o = ⊥

-- why none was made at the time, as what stops the call
abbrev pub IsMakingStop : (inputs : List (List ℕ)) → (time : ℕ) → DemandFault → Stop → Type 0
IsMakingStop names t fault.TooDeep s = s ≡ stop.TooDeep t 0 0 false
IsMakingStop names t fault.ReadFault s = s ≡ stop.ReadFault
IsMakingStop names t (fault.TooLarge stream) s = IsLargeStop names stream s
IsMakingStop names t fault.NoMemory s = s ≡ stop.NoMemory
