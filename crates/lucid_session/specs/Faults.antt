-- How a refused demand or write ends a run.
use Rattle.std.specs.Prelude.{ℕ}
use Rattle.lucid_ports.specs.declared.fault.PortFault.{PortFault}
use Rattle.lucid_ports.specs.declared.fault.PortFault.TheVariants as port
use Rattle.lucid_ports.specs.declared.run.RunFault.{RunFault}
use Rattle.lucid_ports.specs.declared.run.RunFault.TheVariants.{TooDeep, ReadFault, WriteFault, TooLarge, NoMemory}
use Rattle.lucid_demand_steps.specs.declared.fault.DemandFault.{DemandFault}
use Rattle.lucid_demand_steps.specs.declared.fault.DemandFault.TheVariants as demand

-- a refused demand at a time, with the counts of lost values and of clearings: by the same name
abbrev pub of_demand : (time lost cleared : ℕ) → DemandFault → RunFault
of_demand t l c demand.TooDeep = TooDeep t l c
of_demand t l c demand.ReadFault = ReadFault
of_demand t l c (demand.TooLarge number) = TooLarge number
of_demand t l c demand.NoMemory = NoMemory

-- a refused write
abbrev pub of_write : PortFault → RunFault
of_write port.Failed = WriteFault
of_write port.NoMemory = NoMemory
