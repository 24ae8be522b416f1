-- The clauses of the command: what holds of a call and its status.
use Rattle.std.specs.Prelude.{◌≡◌, ℕ, ◌≤◌, ◌⊎◌, List, length, Some, None, Ok, Err, false, slice_get}
use Rattle.lucid_ports.specs.Faults.{Rises, AsksNoneLate}
use Rattle.lucid_words.specs.Asked.{PlainWords}
use Rattle.lucid_words.specs.Plain.{file}
use Rattle.lucid_ports.specs.World.{Contents}
use Rattle.lucid_session.specs.Runs.{RunView, IsInput}
use Rattle.lucid_ports.specs.Told.{Told, WritesNoneLate}
use Rattle.lucid_top.specs.declared.task.Task.TheVariants as task
use Rattle.lucid_report.specs.declared.refusal.Refusal.{Refusal}
use Rattle.lucid_report.specs.declared.refusal.Refusal.TheVariants as refusal
use Rattle.lucid_report.specs.declared.status.Status.{Status}
use Rattle.lucid_report.specs.declared.stop.Done.TheVariants as done
use Rattle.lucid_report.specs.declared.stop.Stop.TheVariants as stop
use Rattle.lucid_report.specs.Status.{Outcome}
use Rattle.lucid_top.specs.Call.{Call}
use Rattle.lucid_top.specs.Tasks.{task_of, form_of, time_asked, wants_figures}
use Rattle.lucid_report.specs.Telling.{Tells}
use Rattle.lucid_top.specs.Writing.{WritesSome, WritesSomeFront}
use Rattle.lucid_top.specs.Sources.{IsTold, first_place}
use Rattle.lucid_top.specs.Names.{source_names, names_for, AsksFront}
use Rattle.lucid_top.specs.Stages.{Asks, IsWriting, IsTextFor, IsRun, IsMaking, IsCheck, Refuses, by_certificate}
use Rattle.lucid_top.specs.Places.{CountsNoRead, CountsNoWrite, ReadsSource, ReadsCertificate, most_read}
use Rattle.lucid_top.specs.Runs.{most_places, first_input, run_places, run_of, certificate_of, view_of, under, RanSo, GivesBytes}
use Rattle.lucid_top.specs.Checks.{ChecksTree}
use Rattle.lucid_top.specs.Makes.{MakesTree}
use Rattle.lucid_top.specs.Running.{HoldsWithin}

-- a call on the places failed
abbrev pub ReadFails : Call → Type 0
ReadFails c = Rises c.before.faults c.after.faults

-- a write on the output failed
abbrev pub WriteFails : Call → Type 0
WriteFails c = Rises c.out_before.faults c.out_after.faults

-- nothing is written to the output
abbrev pub WritesNothing : Call → Type 0
WritesNothing c = c.out_after.bytes ≡ c.out_before.bytes

-- The source that the words name is told, and so is the file of a certificate that is checked.
abbrev pub TellsFiles : Call → Type 0
TellsFiles c = (a : Asks c) → IsTold a.words.source c.before × (task_of a.words ≡ task.Check → IsTold (file a.words.check) c.before)

-- Each outcome comes only where this holds.
abbrev pub ComesOnly : Call → Outcome → Type 0
ComesOnly c (Ok (done.Ran summary stats)) =
    (r : IsRun c) × (stats ≡ wants_figures (run_of r).words) × HoldsWithin c.policy summary.held
ComesOnly c (Ok done.Written) = IsWriting c ⊎ (IsCheck c ⊎ IsMaking c)
ComesOnly c (Err (stop.Refused why)) = Refuses c why × WritesNothing c
ComesOnly c (Err stop.ReadFault) = ReadFails c
ComesOnly c (Err stop.WriteFault) = WriteFails c
ComesOnly c (Err (stop.TooDeep time lost cleared stats)) =
    ((r : IsRun c) × (stats ≡ wants_figures (run_of r).words)) ⊎ ((m : IsMaking c) × (time ≡ time_asked (certificate_of m).words) × (stats ≡ false) × WritesNothing c)
ComesOnly c (Err (stop.TooLarge stream name)) =
    ((r : IsRun c) × (slice_get (run_of r).inputs stream ≡ Some name))
    ⊎ (((k : IsCheck c) × (slice_get k.may.names.free stream ≡ Some name)) ⊎ ((m : IsMaking c) × (slice_get m.names.free stream ≡ Some name)))
ComesOnly c (Err (stop.Wrong judgment)) = IsCheck c × WritesNothing c
ComesOnly c (Err stop.NoMemory) = Unit {0}

-- the outcome is that refusal, or there was no memory
abbrev pub IsRefusedSo : Outcome → Refusal → Type 0
IsRefusedSo o why = (o ≡ Err (stop.Refused why)) ⊎ (o ≡ Err stop.NoMemory)

-- A refusal comes wherever it is the first: that of the words at once; any other where the source is told and no call on the places fails.
pub record RefusedWhere (c : Call) (o : Outcome) : Type 0 where
  pub usage : c.asked ≡ None → IsRefusedSo o refusal.Usage
  pub first : (why : Refusal) → Refuses c why → TellsFiles c → (ReadFails c → ⊥) → IsRefusedSo o why
  -- However such a call ends, it writes nothing.
  pub silent : (why : Refusal) → Refuses c why → TellsFiles c → WritesNothing c

-- A text of a kind is written: whole, or a front of it, or nothing. Less than the whole is written only where a call failed or there was no
-- memory.
pub record Writes (c : Call) (o : Outcome) (IsText : List ℕ → Type 0) : Type 0 where
  pub front : WritesNothing c ⊎ WritesSomeFront IsText c.out_before c.out_after
  pub whole : o ≡ Ok done.Written → WritesSome IsText c.out_before c.out_after
  pub complete : (ReadFails c → ⊥) → (WriteFails c → ⊥) → (o ≡ Ok done.Written) ⊎ (o ≡ Err stop.NoMemory)

-- nothing is consumed of any input
abbrev pub ConsumesNothing : RunView → Type 0
ConsumesNothing r = (k : ℕ) (n : List ℕ) (q : ℕ) → IsInput r k n q → (old new : Contents) → (r.before.place q).contents ≡ Some old → (r.after.place q).contents ≡ Some new
    → length new.consumed ≤ length old.consumed

-- How a check ends: by the certificate; or a call on the places failed before, which is told, or there was no memory.
pub data EndsCheck {c : Call} (k : IsCheck c) (o : Outcome) : Type 0 where
  by_checking : ChecksTree k.may.names.program.tree k.why (view_of c (certificate_of k.may)) o → EndsCheck k o
  before_checking : (o ≡ Err stop.ReadFault) ⊎ (o ≡ Err stop.NoMemory) → WritesNothing c → ConsumesNothing (view_of c (certificate_of k.may)) → EndsCheck k o

-- How the making of a certificate ends: at the time that is asked for; or a call on the places failed before, which is told, or there was
-- no memory.
pub data EndsMaking {c : Call} (m : IsMaking c) (o : Outcome) : Type 0 where
  by_making : MakesTree m.names.program.tree (view_of c (certificate_of m)) (time_asked (certificate_of m).words) o → EndsMaking m o
  before_making : (o ≡ Err stop.ReadFault) ⊎ (o ≡ Err stop.NoMemory) → WritesNothing c → ConsumesNothing (view_of c (certificate_of m)) → EndsMaking m o

-- A read fault and a write fault come wherever a call failed: a count of faults is as it was, unless the outcome is that fault.
pub record TellsFaults (c : Call) (o : Outcome) : Type 0 where
  pub reads : CountsNoRead o c.before c.after
  pub writes : CountsNoWrite o c.out_before.faults c.out_after.faults

-- A fault ends it: after one nothing is asked of the places, and nothing is written to the output.
pub record EndsAtFaults (c : Call) : Type 0 where
  pub reads : AsksNoneLate c.before c.after
  pub writes : WritesNoneLate c.out_before c.out_after

-- the outcome of a run that came to evaluate its program
abbrev pub IsEvaluated : Outcome → Type 0
IsEvaluated (Ok (done.Ran summary stats)) = Unit {0}
IsEvaluated (Err stop.WriteFault) = Unit {0}
IsEvaluated (Err (stop.TooDeep time lost cleared stats)) = Unit {0}
IsEvaluated (Err (stop.TooLarge stream name)) = Unit {0}
IsEvaluated _ = ⊥

-- what is reached of a call that is refused: of the source at most, and of the certificate where that is refused
abbrev pub places_before : {c : Call} {why : Refusal} → PlainWords → Refuses c why → ℕ
places_before w (by_certificate m bytes is refused) = first_input w
places_before w r = first_place w.source

-- How many places are reached: none where the words are refused; that of the source alone where the call is refused or writes a text, and of a
-- certificate that is refused; in a run, a check or a making of a certificate those and one for each input, so that no input is read
-- through a second place; and in a run all of them before the program is evaluated.
pub record ReachesOnly (c : Call) (o : Outcome) : Type 0 where
  pub unasked : (Asks c → ⊥) → c.after.reached ≡ 0
  pub refused : (a : Asks c) (why : Refusal) (r : Refuses c why) → TellsFiles c → c.after.reached ≤ places_before a.words r
  pub written : (a : Asks c) → IsWriting c → TellsFiles c → c.after.reached ≤ first_place a.words.source
  pub run : (r : IsRun c) → TellsFiles c → c.after.reached ≤ run_places (run_of r)
  pub checked : (k : IsCheck c) → TellsFiles c → c.after.reached ≤ run_places (certificate_of k.may)
  pub made : (m : IsMaking c) → TellsFiles c → c.after.reached ≤ run_places (certificate_of m)
  pub evaluated : (r : IsRun c) → TellsFiles c → IsEvaluated o → c.after.reached ≡ run_places (run_of r)

-- The names that are asked for are, in order, a front of these: that of the source, that of a certificate that is checked, and the files of the
-- inputs. None is asked for where the words are refused, and that of the source alone where a text is written. In a run, a check or a making of a
-- certificate the inputs are those of the program.
pub record AsksNames (c : Call) : Type 0 where
  pub unasked : c.asked ≡ None → c.after.asked ≡ c.before.asked
  pub asked : (a : Asks c) → (free : List (List ℕ)) × AsksFront (names_for a.words free) c.before c.after
  pub written : (a : Asks c) → IsWriting c → AsksFront (source_names a.words.source) c.before c.after
  pub run : (r : IsRun c) → TellsFiles c → AsksFront (names_for (run_of r).words (run_of r).inputs) c.before c.after
  pub checked : (k : IsCheck c) → TellsFiles c → AsksFront (names_for (certificate_of k.may).words (certificate_of k.may).inputs) c.before c.after
  pub made : (m : IsMaking c) → TellsFiles c → AsksFront (names_for (certificate_of m).words (certificate_of m).inputs) c.before c.after

-- The clauses of a call and of how it ended.
pub record MeetsOutcome (c : Call) (outcome : Outcome) : Type 0 where
  -- When each outcome comes; that a fault comes wherever a call failed, and a refusal wherever it is the first.
  pub comes_only : ComesOnly c outcome
  pub tells_faults : TellsFaults c outcome
  -- No failed call is tried again or passed over.
  pub late : EndsAtFaults c
  pub refused_where : RefusedWhere c outcome
  -- Nothing is written but by a run or a check, or where a text or a certificate is asked for.
  pub silent : WritesNothing c ⊎ (IsRun c ⊎ (IsWriting c ⊎ (IsCheck c ⊎ IsMaking c)))
  -- The headline: a program that is accepted is run, be it a tree, columns of it or a table. What is written are the values of its least fixed point, in order and without gaps.
  pub headline : (r : IsRun c) → TellsFiles c → RanSo (run_of r).program (under c.policy (view_of c (run_of r))) outcome
  -- What a run consumes of an input and leaves of it are the bytes of its file.
  pub gives : (r : IsRun c) → TellsFiles c → GivesBytes (view_of c (run_of r))
  -- Where a text is asked for, of the tree that the source spells, that text is written.
  pub written : (x : IsWriting c) → TellsFiles c → Writes c outcome (IsTextFor x)
  -- Where a certificate is checked, its value and time are written only where it is right, and so only what the program has; and it is refused
  -- only where it is wrong.
  pub checked : (k : IsCheck c) → TellsFiles c → EndsCheck k outcome
  -- Where a certificate is asked for, what is written is the text of one that proves the value at the time.
  pub made : (m : IsMaking c) → TellsFiles c → EndsMaking m outcome
  -- Only what the stages of the call need is reached, and never more places than a source and its inputs can need.
  pub reaches : ReachesOnly c outcome
  -- No name is asked for but those.
  pub names : AsksNames c
  -- Of the source's file no more is consumed than one byte more than a source may have.
  pub source_within : (a : Asks c) → ReadsSource (most_read (form_of a.words)) a.words.source c.after
  -- So it is of the certificate's.
  pub certificate_within : (a : Asks c) → ReadsCertificate a.words c.after
  pub few_places : c.after.reached ≤ most_places

-- The clauses, of a call, what its report tells before and after, and its status. They are said of one outcome, of which the status and
-- the line of the report are told; and after a fault of the report nothing is written to it.
pub record MeetsClauses (c : Call) (report_before report_after : Told) (s : Status) : Type 0 where
  pub outcome : Outcome
  pub met : MeetsOutcome c outcome
  pub report : Tells outcome s report_before report_after
  pub report_late : WritesNoneLate report_before report_after
