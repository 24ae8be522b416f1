-- Faults of inputs.
use Rattle.std.specs.Prelude.{ℕ, ⊤, Bool, true, false}
use Rattle.lucid_value.specs.declared.Value.{Value}
use Rattle.lucid_value.specs.declared.Value.TheVariants.{Eod}
use Rattle.lucid_ports.specs.declared.fault.PortFault.{PortFault}
use Rattle.lucid_ports.specs.declared.fault.PortFault.TheVariants.{Failed, NoMemory}
use Rattle.lucid_inputs.specs.declared.fault.InputFault.{InputFault}
use Rattle.lucid_inputs.specs.declared.fault.InputFault.TheVariants.{ReadFault, TooLarge, NoMemory as NoRoom}

-- the fault that a refused call on the outside is to an input
abbrev pub fault_of : PortFault → InputFault
fault_of Failed = ReadFault
fault_of NoMemory = NoRoom

-- a fact of the stream that is too large
abbrev pub OnTooLarge : InputFault → (ℕ → Type 0) → Type 0
OnTooLarge ReadFault P = ⊤
OnTooLarge (TooLarge stream) P = P stream
OnTooLarge NoRoom P = ⊤

-- the value is the end of data
abbrev pub is_eod : Value → Bool
is_eod Eod = true
is_eod _ = false
