-- The headline on one page, for a program in source form: what is asked of a call, all of it told; and what is promised of its lines, of how
-- it stops, and of what it consumes. What a program has at a time is what the seven rules of the meaning derive (`Derives`); approximations are
-- spoken of only where a depth limit is.
--
-- It is said of a call, whatever its policy drops at each turn, and whoever picks the task that steps next: `lucid_under` promises it of every
-- `R: Retire` and every `S: Pick` (src/top.rt), and `lucid` is that call with the policy of its words and the pick `Newest`.
--
-- What is read from is told by a `World` (`lucid_ports`), of which the page takes
--   holds name  the bytes that the name holds, where that is told
--   reached     how many places are reached; they have the numbers below
--   place q     the place of that number; its `contents`, where told, are the bytes that were consumed, in order, and those that are left
--   faults      how often a call failed
-- and what is written to by its bytes and its faults (`Told`).
use Rattle.std.specs.Prelude.{◌≡◌, ℕ, zero, suc, ◌+◌, ◌<◌, ◌≤◌, ◌⊎◌, List, [], ◌++◌, length, take, Option, Some, None, IsSome, false, slice_get, unwrap_or, codes}
use Rattle.lucid_value.specs.Plain.{PlainValue, eod}
use Rattle.lucid_value.specs.Lines.{end_of_line, IsOverlong}
use Rattle.lucid_value.specs.Elements.{element}
use Rattle.lucid_tree.specs.Tree.{PlainTree}
use Rattle.lucid_tree.specs.Levels.{Elements}
use Rattle.lucid_tree.specs.Env.{empty}
use Rattle.lucid_tree.specs.Meaning.{val}
use Rattle.lucid_tree.specs.Demand.{consults}
use Rattle.lucid_tree.specs.Members.{In}
use Rattle.lucid_tree.specs.Output.{line}
use Rattle.lucid_fixed_point.specs.Rules.{Derives}
use Rattle.lucid_scope.specs.Bindings.{HasNoFault}
use Rattle.lucid_words.specs.Plain.{file}
use Rattle.lucid_words.specs.Asked.{PlainWords}
use Rattle.lucid_ports.specs.World.{Contents}
use Rattle.lucid_ports.specs.Told.{Told}
use Rattle.lucid_report.specs.declared.status.Status.{Status}
use Rattle.lucid_report.specs.declared.status.Status.TheVariants as status
use Rattle.lucid_top.specs.declared.task.Task.TheVariants as task
use Rattle.lucid_top.specs.Call.{Call}
use Rattle.lucid_top.specs.Tasks.{task_of}
use Rattle.lucid_top.specs.Files.{FitsGiven, file_given}
use Rattle.lucid_top.specs.Judged.{Spelt, HasInputs}
use Rattle.lucid_top.specs.Runs.{most_input_bytes}
use Rattle.lucid_top.specs.Makes.{ForSomeAdded}
use Rattle.lucid_top.specs.Clauses.{ReadFails, WriteFails, MeetsClauses}

-- A call that asks for a run of a program in source form, of which all is told: the words; the bytes of the source and the tree that they
-- spell, none of whose names is at fault; the names of its inputs and the bytes of each one's file; and what the output has already.
pub record RunsProgram (c : Call) : Type 0 where
  pub words : PlainWords
  pub name : List ℕ
  pub source : List ℕ
  pub program : PlainTree
  pub inputs : List (List ℕ)
  pub bytes_of : (input : List ℕ) → List ℕ
  pub already : List ℕ
  pub asked : c.asked ≡ Some words
  pub run : (task_of words ≡ task.Run) × (words.source ≡ file name) × (words.from_flat ≡ false)
  pub held : c.before.holds name ≡ Some source
  pub spelt : Spelt source program
  pub no_fault : HasNoFault program
  pub has_inputs : HasInputs program inputs
  pub given : FitsGiven inputs words.given
  pub inputs_held : (k : ℕ) (n : List ℕ) → slice_get inputs k ≡ Some n → c.before.holds (unwrap_or (file_given words.given n) (codes "-")) ≡ Some (bytes_of n)
  pub told : c.out_before.bytes ≡ Some already

-- the elements of its inputs: those of the lines of the bytes
abbrev pub elements : {c : Call} → RunsProgram c → Elements
elements r n j = Some (element (r.bytes_of n) j)

-- The program has the value at the time: the rules derive it.
abbrev pub Has : {c : Call} → RunsProgram c → (time : ℕ) → PlainValue → Type 0
Has r t v = Derives (elements r) r.program empty t 0 v

-- The first k lines: at each time below k the program has a value that isn't end of data, and its text is the line.
pub data Lines {c : Call} (r : RunsProgram c) : (k : ℕ) → (bytes : List ℕ) → Type 0 where
  no_lines : Lines r zero []
  one_line_more : {k : ℕ} {bytes : List ℕ} → Lines r k bytes → (v : PlainValue) → Has r k v → (v ≡ eod → ⊥) → Lines r (suc k) (bytes ++ line v)

-- Lines. What is written are the first lines of the program, in order and without gaps; where a write failed or there was no memory, also a
-- front of the next, without its end.
pub record WritesLines {c : Call} (r : RunsProgram c) (s : Status) : Type 0 where
  pub whole : ℕ
  pub lines : List ℕ
  pub front : List ℕ
  pub within : whole ≤ r.words.count
  pub are_lines : Lines r whole lines
  pub begun : (front ≡ []) ⊎ (((s ≡ status.WriteFault) ⊎ (s ≡ status.NoMemory)) × (whole < r.words.count)
      × ((v : PlainValue) × (n : ℕ) × Has r whole v × (v ≡ eod → ⊥) × (n < length (line v)) × (front ≡ take n (line v))))
  pub written : c.out_after.bytes ≡ Some (r.already ++ (lines ++ front))

-- the approximation of a limit at the time
abbrev pub at_limit : {c : Call} → RunsProgram c → (limit time : ℕ) → Option PlainValue
at_limit r m t = val (elements r) m r.program empty t 0

-- At a time below the count, the one after the whole lines at most, the approximation of the depth limit consults the element of the input;
-- its choices are those of the approximation that is greater by the added number.
abbrev pub IsConsulted : {c : Call} → RunsProgram c → (whole added : ℕ) → (input : List ℕ) → (index : ℕ) → Type 0
IsConsulted r whole d n j = (t : ℕ) × (t < r.words.count) × (t ≤ whole) × In (n, j) (consults (elements r) r.words.depth d r.program empty t 0)

-- an element of an input that is consulted lies past the bytes of it that may be read
abbrev pub ConsultsOverlong : {c : Call} → RunsProgram c → (whole : ℕ) → Type 0
ConsultsOverlong r whole = (k : ℕ) × (n : List ℕ) × (j : ℕ) × (slice_get r.inputs k ≡ Some n) × ForSomeAdded (λ d. IsConsulted r whole d n j) × IsOverlong (r.bytes_of n) j most_input_bytes

-- Stops. How a call stops, at the time after so many whole lines.
pub record Stops {c : Call} (r : RunsProgram c) (whole : ℕ) (s : Status) : Type 0 where
  -- Done: as many lines as the count, or up to the first end of data.
  pub done : s ≡ status.Done → (whole ≡ r.words.count) ⊎ ((whole < r.words.count) × Has r whole eod)
  -- Too deep: the approximation of the depth limit is undefined there.
  pub too_deep : s ≡ status.TooDeep → (whole < r.words.count) × (at_limit r r.words.depth whole ≡ None)
  -- Complete: where the approximation of a limit is defined there, and the depth limit is no less, no call failed and nothing overlong is
  -- consulted, the end of data stands there, or there was no memory. For a greater limit defines no less.
  pub complete : whole < r.words.count → (m : ℕ) → m ≤ r.words.depth → IsSome (at_limit r m whole) → (ReadFails c → ⊥) → (WriteFails c → ⊥)
      → (ConsultsOverlong r whole → ⊥) → (s ≡ status.Done) ⊎ (s ≡ status.NoMemory)
  -- An input too large, a failed read and a failed write come with their causes alone, and no refusal comes; want of memory may come at any time.
  pub too_large : s ≡ status.TooLarge → ConsultsOverlong r whole
  pub read_fault : s ≡ status.ReadFault → ReadFails c
  pub write_fault : s ≡ status.WriteFault → WriteFails c
  pub accepted : (s ≡ status.Refused) ⊎ (s ≡ status.Usage) → ⊥

-- Of each input that was reached, what is consumed and what is left are together the bytes of its file; and no more is consumed than through
-- the end of the line of an element that is consulted.
abbrev pub ConsumesWithin : {c : Call} → RunsProgram c → (whole added : ℕ) → Type 0
ConsumesWithin {c} r whole d = (k : ℕ) (n : List ℕ) (new : Contents) → slice_get r.inputs k ≡ Some n → 1 + k < c.after.reached → (c.after.place (1 + k)).contents ≡ Some new
    → (new.consumed ++ new.left ≡ r.bytes_of n)
    × ((new.consumed ≡ []) ⊎ ((j : ℕ) × IsConsulted r whole d n j × (length new.consumed ≤ end_of_line (r.bytes_of n) j)))

-- Consumes. No input is consumed past the last element that is consulted.
abbrev pub Consumes : {c : Call} → RunsProgram c → (whole : ℕ) → Type 0
Consumes r whole = ForSomeAdded (ConsumesWithin r whole)

-- The headline.
pub record Headline {c : Call} (r : RunsProgram c) (s : Status) : Type 0 where
  pub lines : WritesLines r s
  pub stops : Stops r lines.whole s
  pub consumed : Consumes r lines.whole

-- So it is of a call that runs a program.
abbrev pub HasHeadline : Call → Status → Type 0
HasHeadline c s = (r : RunsProgram c) → Headline r s

-- It follows from the clauses of the call.
abbrev pub HeadlineFollows : Type 0
HeadlineFollows = (c : Call) (report_before report_after : Told) (s : Status) → MeetsClauses c report_before report_after s → HasHeadline c s
