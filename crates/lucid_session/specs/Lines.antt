-- The writing of one line.
use Rattle.std.specs.Prelude.{◌≡◌, ℕ, ◌≤◌, List, length, ◌⊎◌, Result, OnOk, IfErr, IsErrOf}
use Rattle.lucid_ports.specs.Faults.{Rises, CountsNoFaultUnless}
use Rattle.lucid_ports.specs.Writing.{with_front, with_all}
use Rattle.lucid_ports.specs.declared.run.RunFault.{RunFault}
use Rattle.lucid_ports.specs.declared.run.RunFault.TheVariants.{WriteFault, NoMemory}
use Rattle.lucid_ports.specs.Told.{Told, WritesNoneLate}

-- The first bytes of a line are written, and nothing else: all of them, unless a write failed or there was no memory.
pub record WritesLine (line : List ℕ) (before after : Told) (result : Result (Unit {0}) RunFault) : Type 0 where
  pub whole : OnOk result (after.bytes ≡ with_all line before.bytes)
  pub count : ℕ
  pub within : count ≤ length line
  pub front : after.bytes ≡ with_front count line before.bytes
  pub refused : IfErr result (λ e. (e ≡ WriteFault) ⊎ (e ≡ NoMemory))
  pub failed : IsErrOf result WriteFault → Rises before.faults after.faults
  pub counts_no_fault : CountsNoFaultUnless (IsErrOf result WriteFault) before.faults after.faults
  pub late : WritesNoneLate before after
  pub faults : before.faults ≤ after.faults
