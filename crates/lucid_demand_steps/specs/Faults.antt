-- What an input's refusal makes of a demand, and which answers count faults.
use Rattle.std.specs.Prelude.{ℕ, Result, IsErrOf}
use Rattle.lucid_ports.specs.Faults.{CountsNoFaultUnless}
use Rattle.lucid_ports.specs.World.{World}
use Rattle.lucid_inputs.specs.declared.fault.InputFault.{InputFault}
use Rattle.lucid_inputs.specs.declared.fault.InputFault.TheVariants as input
use Rattle.lucid_demand_steps.specs.declared.fault.DemandFault.{DemandFault}
use Rattle.lucid_demand_steps.specs.declared.fault.DemandFault.TheVariants.{ReadFault, TooLarge, NoMemory}

-- the refusal of a demand by that of an input: by the same name
abbrev pub fault_of : InputFault → DemandFault
fault_of input.ReadFault = ReadFault
fault_of (input.TooLarge stream) = TooLarge stream
fault_of input.NoMemory = NoMemory

-- the count of faults of the places is as it was, unless the answer is the read fault
abbrev pub CountsReadFaults : {T : Type 0} → Result T DemandFault → World → World → Type 0
CountsReadFaults result before after = CountsNoFaultUnless (IsErrOf result ReadFault) before.faults after.faults

-- what a refusal says of the stream that is too large
abbrev pub OnTooLarge : DemandFault → (ℕ → Type 0) → Type 0
OnTooLarge (TooLarge stream) P = P stream
OnTooLarge _ P = Unit {0}
