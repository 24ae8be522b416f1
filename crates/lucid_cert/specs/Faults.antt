-- What an input's refusal makes of a check.
use Rattle.lucid_inputs.specs.declared.fault.InputFault.{InputFault}
use Rattle.lucid_inputs.specs.declared.fault.InputFault.TheVariants as input
use Rattle.lucid_cert.specs.declared.fault.CheckFault.{CheckFault}
use Rattle.lucid_cert.specs.declared.fault.CheckFault.TheVariants.{ReadFault, TooLarge, NoMemory}

-- the refusal of a check by that of an input: by the same name
abbrev pub fault_of : InputFault → CheckFault
fault_of input.ReadFault = ReadFault
fault_of (input.TooLarge stream) = TooLarge stream
fault_of input.NoMemory = NoMemory
