-- What holds of a run, whatever its policy drops and whoever picks. It is said over a subject, from outside: by what the places and the
-- output tell before and after.
use Rattle.std.specs.Prelude.{◌≡◌, ◌≢◌, ℕ, ◌+◌, ◌<◌, ◌≤◌, ◌⊎◌, Bool, true, false, List, [], ◌++◌, length, take, Option, Some, IsTrue, IfSome, Result, Ok, Err, IfOk, IfErr, IsErrOf, slice_get}
use Rattle.lucid_value.specs.Lines.{end_of_line, IsOverlong}
use Rattle.lucid_value.specs.Elements.{element}
use Rattle.lucid_tree.specs.Levels.{Elements}
use Rattle.lucid_ports.specs.World.{World, Contents}
use Rattle.lucid_ports.specs.Faults.{Rises, AsksNoneLate, CountsNoFaultUnless}
use Rattle.lucid_ports.specs.Told.{Told, WritesNoneLate}
use Rattle.lucid_ports.specs.Writing.{with_all}
use Rattle.lucid_ports.specs.declared.run.Options.{Options}
use Rattle.lucid_ports.specs.declared.run.Summary.{Summary}
use Rattle.lucid_ports.specs.declared.run.RunFault.{RunFault}
use Rattle.lucid_ports.specs.declared.run.RunFault.TheVariants.{TooDeep, ReadFault, WriteFault, TooLarge, NoMemory}
use Rattle.lucid_inputs.specs.Streams.{all_bytes}
use Rattle.lucid_inputs.specs.Inputs.{streams, most_bytes}
use Rattle.lucid_inputs.specs.declared.on_demand.Inputs.{Inputs}
use Rattle.lucid_equations.specs.declared.table.Table.{Table}
use Rattle.lucid_demand_steps.specs.Engine.{places_of}
use Rattle.lucid_session.specs.Subject.{Subject, Output}

-- what a policy is said to do: to drop nothing, to drop all, and how many it leaves at most
pub record PolicyView : Type 0 where
  pub keeps : Bool
  pub empties : Bool
  pub room : Option ℕ

-- the same of a policy of any kind
abbrev pub policy_view : {R : Type 0} → (keeps empties : R → Bool) → (most : R → Option ℕ) → R → PolicyView
policy_view keeps empties most policy = record { keeps = keeps policy; empties = empties policy; room = most policy }

-- A run from outside: how many lines it may write and how deep its values may be, its policy, the names of its inputs and their places,
-- how many bytes of each may be read, and what the places and the output tell before and after.
pub record RunView : Type 0 where
  pub count : ℕ
  pub depth : ℕ
  pub policy : PolicyView
  pub names : List (List ℕ)
  pub places : List ℕ
  pub most : ℕ
  pub before : World
  pub after : World
  pub out_before : Told
  pub out_after : Told

-- the run of a table over its inputs
abbrev pub run_view : Options → PolicyView → Table → Inputs → (before after : World) → (out_before out_after : Told) → RunView
run_view options policy T inputs w v o p = record {
  count = options.count;
  depth = options.depth;
  policy = policy;
  names = T.inputs;
  places = places_of (streams inputs);
  most = most_bytes inputs;
  before = w;
  after = v;
  out_before = o;
  out_after = p;
}

-- the input of that number has this name and this place
abbrev pub IsInput : RunView → (number : ℕ) → (name : List ℕ) → (place : ℕ) → Type 0
IsInput r k n q = (slice_get r.names k ≡ Some n) × (slice_get r.places k ≡ Some q)

-- The place of each input tells its bytes, and these are the elements of its lines.
abbrev pub HasElements : RunView → Elements → Type 0
HasElements r b = (k : ℕ) (n : List ℕ) (q : ℕ) → IsInput r k n q
    → (c : Contents) × ((r.before.place q).contents ≡ Some c) × ((j : ℕ) → b n j ≡ Some (element (all_bytes c) j))

-- The front of a line that stands next, without the line's end; nothing, where no further line was begun.
abbrev pub IsBegun : Subject → Elements → (count whole : ℕ) → List ℕ → Type 0
IsBegun S b c w front = (front ≡ []) ⊎ ((w < c) × ((next : List ℕ) × S.line b w next × ((n : ℕ) × (n < length next) × (front ≡ take n next))))

-- What is written: so many whole lines, which are the subject's output, and a front of the next.
pub record Written (S : Subject) (b : Elements) (r : RunView) : Type 0 where
  pub whole : ℕ
  pub within : whole ≤ r.count
  pub bytes : List ℕ
  pub output : Output S b whole bytes
  pub front : List ℕ
  pub begun : IsBegun S b r.count whole front
  pub written : r.out_after.bytes ≡ with_all (bytes ++ front) r.out_before.bytes

-- The times attempted are those below the count, through the one after the whole lines.
abbrev pub IsAttempted : RunView → (whole time : ℕ) → Type 0
IsAttempted r w t = (t < r.count) × (t ≤ w)

-- At some time attempted the limit's approximation consults the pair.
abbrev pub IsConsulted : Subject → Elements → RunView → (whole added : ℕ) → List ℕ × ℕ → Type 0
IsConsulted S b r w d pair = (t : ℕ) × IsAttempted r w t × S.consults b r.depth d t pair

-- an added number, 0 under a policy that empties, from which on this holds
pub record ForSomeAdded (r : RunView) (P : ℕ → Type 0) : Type 0 where
  pub added : ℕ
  pub none : IsTrue r.policy.empties → added ≡ 0
  pub holds : (d : ℕ) → added ≤ d → P d

-- Of each input no more is consumed than was, or through the end of an element that is consulted at a time attempted.
abbrev pub ConsumesWithin : Subject → Elements → RunView → (whole added : ℕ) → Type 0
ConsumesWithin S b r w d = (k : ℕ) (n : List ℕ) (q : ℕ) → IsInput r k n q
    → (old new : Contents) → (r.before.place q).contents ≡ Some old → (r.after.place q).contents ≡ Some new
    → (length new.consumed ≤ length old.consumed) ⊎ ((j : ℕ) × IsConsulted S b r w d (n, j) × (length new.consumed ≤ end_of_line (all_bytes old) j))

-- Of each input no more is consumed than was, or than may be read.
abbrev pub ReadsWithin : RunView → Type 0
ReadsWithin r = (k : ℕ) (n : List ℕ) (q : ℕ) → IsInput r k n q
    → (old new : Contents) → (r.before.place q).contents ≡ Some old → (r.after.place q).contents ≡ Some new
    → (length new.consumed ≤ length old.consumed) ⊎ (length new.consumed ≤ r.most)

-- An element of this input is consulted at a time attempted that lies past the bytes that may be read.
pub record ConsultsOverlong (S : Subject) (b : Elements) (r : RunView) (whole number : ℕ) : Type 0 where
  pub name : List ℕ
  pub place : ℕ
  pub is : IsInput r number name place
  pub index : ℕ
  pub consulted : ForSomeAdded r (λ d. IsConsulted S b r whole d (name, index))
  pub overlong : IfSome (r.before.place place).contents (λ c. IsOverlong (all_bytes c) index r.most)

-- how a run that is done ended: by the subject's end, below the count; or by the count
abbrev pub EndsAt : Subject → Elements → RunView → (ended : Bool) → (whole : ℕ) → Type 0
EndsAt S b r true w = (w < r.count) × S.ends b w
EndsAt S b r false w = w ≡ r.count

-- Of a run that is done as many whole lines are written as the summary says, to the end or to the count.
pub record IsDone (S : Subject) (b : Elements) (r : RunView) (out : Written S b r) (s : Summary) : Type 0 where
  pub lines : s.lines ≡ out.whole
  pub ends : EndsAt S b r s.ended out.whole

-- Where the run is too deep at a time, the limit's approximation is undefined then, and the whole lines are those of the times before.
pub record IsTooDeep (S : Subject) (b : Elements) (r : RunView) (out : Written S b r) (time : ℕ) : Type 0 where
  pub lines : time ≡ out.whole
  pub within : time < r.count
  pub undefined : S.undefined b r.depth time

-- what is said of the time, where the run was too deep; of the input, where one was too large
abbrev pub OnTooDeep : RunFault → (ℕ → Type 0) → Type 0
OnTooDeep (TooDeep time lost cleared) P = P time
OnTooDeep _ P = Unit {0}

abbrev pub OnTooLarge : RunFault → (ℕ → Type 0) → Type 0
OnTooLarge (TooLarge number) P = P number
OnTooLarge _ P = Unit {0}

-- the subject ended the run, by the summary
abbrev pub IsEnded : Result Summary RunFault → Type 0
IsEnded (Ok s) = s.ended ≡ true
IsEnded (Err e) = ⊥

-- Something is shown of a time: its line is written, or begun, or the end stood there and ended the run.
abbrev pub IsShown : (whole : ℕ) → (front : List ℕ) → Result Summary RunFault → (time : ℕ) → Type 0
IsShown w front result t = (t < w) ⊎ ((t ≡ w) × (IsEnded result ⊎ (front ≢ [])))

-- a write failed, or there was no memory
abbrev pub IsWriteFaultOrNoMemory : Result Summary RunFault → Type 0
IsWriteFaultOrNoMemory (Ok s) = ⊥
IsWriteFaultOrNoMemory (Err e) = (e ≡ WriteFault) ⊎ (e ≡ NoMemory)

-- No call on the places or the output failed, and at the times attempted nothing overlong is consulted.
pub record IsUndisturbed (S : Subject) (b : Elements) (r : RunView) (whole : ℕ) : Type 0 where
  pub no_read_failed : Rises r.before.faults r.after.faults → ⊥
  pub no_write_failed : Rises r.out_before.faults r.out_after.faults → ⊥
  pub none_overlong : (k : ℕ) → ConsultsOverlong S b r whole k → ⊥

-- the subject ended the run, or there was no memory
abbrev pub IsEndedOrNoMemory : Result Summary RunFault → Type 0
IsEndedOrNoMemory (Ok s) = s.ended ≡ true
IsEndedOrNoMemory (Err e) = e ≡ NoMemory

-- The approximation of the limit is defined at each time below the count, through the first end.
abbrev pub IsDeepEnough : Subject → Elements → RunView → Type 0
IsDeepEnough S b r = (t : ℕ) → t < r.count → ((u : ℕ) → u < t → S.ends b u → ⊥) → S.defined b r.depth t

-- a summary, or the one answer that may come in place of it: want of memory
abbrev pub IsOkOrNoMemory : Result Summary RunFault → Type 0
IsOkOrNoMemory (Ok s) = Unit {0}
IsOkOrNoMemory (Err e) = e ≡ NoMemory

-- The headline of a run.
pub record Ran (S : Subject) (b : Elements) (r : RunView) (result : Result Summary RunFault) : Type 0 where
  -- What is written are the lines of the subject, in order and without gaps. A line is begun only where its write failed, or for want of memory.
  pub out : Written S b r
  pub cut_off : (out.front ≡ []) ⊎ IsWriteFaultOrNoMemory result
  -- Done: to the count, or to the first end.
  pub done : IfOk result (IsDone S b r out)
  -- Too deep comes only where the approximation of the limit is undefined. Under a policy that empties, a line is written or begun, and an
  -- end ends the run, only where that is defined.
  pub deep : IfErr result (λ e. OnTooDeep e (IsTooDeep S b r out))
  pub exact : IsTrue r.policy.empties → (t : ℕ) → IsShown out.whole out.front result t → S.defined b r.depth t
  -- What the limit's approximation defines is written: where it is defined at the time behind the whole lines, below the count, and nothing
  -- disturbs the run, that time has the end, or there was no memory.
  pub stops : out.whole < r.count → S.defined b r.depth out.whole → IsUndisturbed S b r out.whole → IsEndedOrNoMemory result
  -- Complete: where the limit is deep enough and nothing disturbs the run, it is done.
  pub complete : IsDeepEnough S b r → IsUndisturbed S b r out.whole → IsOkOrNoMemory result
  -- No input is consumed past what is consulted, or past the bytes that may be read; one is too large only where an element past these is consulted.
  pub consumed : ForSomeAdded r (ConsumesWithin S b r out.whole)
  pub within : ReadsWithin r
  pub too_large : IfErr result (λ e. OnTooLarge e (ConsultsOverlong S b r out.whole))

-- The causes of faults, which input is too large, and the most that is held, whatever the places and the output tell.
pub record Causes (r : RunView) (result : Result Summary RunFault) : Type 0 where
  -- A read fault comes exactly where a call on the places failed, and a write fault where one on the output did: a count of faults rises
  -- then, and is else as it was.
  pub read : IsErrOf result ReadFault → Rises r.before.faults r.after.faults
  pub write : IsErrOf result WriteFault → Rises r.out_before.faults r.out_after.faults
  pub no_other_read : CountsNoFaultUnless (IsErrOf result ReadFault) r.before.faults r.after.faults
  pub no_other_write : CountsNoFaultUnless (IsErrOf result WriteFault) r.out_before.faults r.out_after.faults
  -- A fault ends it: after one nothing is asked of the places, or written to the output.
  pub read_late : AsksNoneLate r.before r.after
  pub write_late : WritesNoneLate r.out_before r.out_after
  pub read_count : r.before.faults ≤ r.after.faults
  pub write_count : r.out_before.faults ≤ r.out_after.faults
  -- an input that is too large is one of the program's, by its number
  pub too_large : IfErr result (λ e. OnTooLarge e (λ number. number < length r.names))
  -- where the policy leaves at most so many, at most one more is held
  pub held : IfOk result (λ s. IfSome r.policy.room (λ most. s.held ≤ most + 1))
