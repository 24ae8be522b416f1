-- The headline said of any solution of the program's equations: what was written are the first lines of its stream. And the solution that a program
-- has: what its names mean.
use Rattle.std.specs.Prelude.{◌≡◌, ◌⊎◌, ℕ, List, ◌↔◌}
use Rattle.lucid_value.specs.Plain.{PlainValue, eod}
use Rattle.lucid_tree.specs.Env.{empty}
use Rattle.lucid_fixed_point.specs.Streams.{Stream, least}
use Rattle.lucid_fixed_point.specs.Order.{IsSingle}
use Rattle.lucid_fixed_point.specs.Denotation.{equations, meanings}
use Rattle.lucid_fixed_point.specs.Families.{Family, by_family, Solves, LinesOf}
use Rattle.lucid_report.specs.declared.status.Status.{Status}
use Rattle.lucid_report.specs.declared.status.Status.TheVariants as status
use Rattle.lucid_top.specs.Call.{Call}
use Rattle.lucid_top.specs.Headline.{RunsProgram, Headline, Has, elements}

-- The family solves the equations of the program that the call runs, over the elements of its inputs.
abbrev pub SolvesProgram : {c : Call} → RunsProgram c → Family → Type 1
SolvesProgram r F = Solves F r.program (meanings (elements r) empty)

-- the program's stream by the family
abbrev pub stream_by : {c : Call} → RunsProgram c → Family → Stream
stream_by r F = by_family F r.program (meanings (elements r) empty)

-- Of the program's stream by the family: at each time of a whole line that was written it has the line's value, and where it has at most one value at a
-- point, it has no other lines. A run that is done before the count stopped where it has end of data.
pub record WritesItsLines {c : Call} (r : RunsProgram c) (s : Status) (h : Headline r s) (F : Family) : Type 0 where
  pub lines : LinesOf (stream_by r F) h.lines.whole h.lines.lines
  pub only : IsSingle (stream_by r F) → (bytes : List ℕ) → LinesOf (stream_by r F) h.lines.whole bytes → bytes ≡ h.lines.lines
  pub done : s ≡ status.Done → (h.lines.whole ≡ r.words.count) ⊎ stream_by r F h.lines.whole 0 eod

-- What the names of each block mean: the union of the iterates of its equations from nothing.
abbrev pub least_family : Family
least_family ds z r = least (equations ds z r)

-- By it the program's stream has exactly what the program has.
abbrev pub HasItsStream : {c : Call} → RunsProgram c → Type 0
HasItsStream r = (t : ℕ) (v : PlainValue) → stream_by r least_family t 0 v ↔ Has r t v
