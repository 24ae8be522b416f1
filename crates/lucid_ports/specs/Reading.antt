-- What the calls of a reader of places do.
use Rattle.std.specs.Prelude.{◌≡◌, ℕ, List, length, Result, IfOk, OnErr, IsErrOf}
use denote.Ref.{Bor}
use Rattle.lucid_ports.specs.declared.fault.PortFault.{PortFault}
use Rattle.lucid_ports.specs.declared.fault.PortFault.TheVariants.{Failed}
use Rattle.lucid_ports.specs.Faults.{Rises, CountsLate, CountsNoFaultUnless}
use Rattle.lucid_ports.specs.World.{World, IsShown, KeepsOthers}

-- What stands once the piece is given back: the place shows it, and a refusal changes nothing but the counts.
pub record Fills (old : World) (number : ℕ) (result : Result (Bor (List ℕ)) PortFault) (new : World) : Type 0 where
  pub others : KeepsOthers number old new
  pub reached : new.reached ≡ old.reached
  pub shown : IfOk result (λ piece. IsShown (length piece.now) (old.place number) (new.place number))
  pub refused : OnErr result (new.place number ≡ old.place number)
  pub failed : IsErrOf result Failed → Rises old.faults new.faults
  pub counts_no_fault : CountsNoFaultUnless (IsErrOf result Failed) old.faults new.faults
  pub counts_late : CountsLate old.faults old.late new.late
