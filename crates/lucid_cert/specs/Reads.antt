-- What is read of the inputs for a judgment, and what a walk has read.
use Rattle.std.specs.Prelude.{◌≡◌, ℕ, ◌-◌, ◌<◌, Some, Result, IfErr, IsErrOf, length}
use Rattle.lucid_ports.specs.World.{World}
use Rattle.lucid_ports.specs.Faults.{Rises, AsksNoneLate, CountsNoFaultUnless}
use Rattle.lucid_inputs.specs.declared.on_demand.Inputs.{Inputs}
use Rattle.lucid_inputs.specs.Inputs.{ReadsStream, streams, stream_at, most_bytes}
use Rattle.lucid_equations.specs.MoreElements.{Extends}
use Rattle.lucid_equations.specs.Rows.{row_at}
use Rattle.lucid_equations.specs.declared.rows.Node.TheVariants.{Input}
use Rattle.lucid_equations.specs.declared.table.Table.{Table}
use Rattle.lucid_demand_steps.specs.Elements.{elements_read}
use Rattle.lucid_demand_steps.specs.Engine.{AreAskable, ReadsOnly, places_of}
use Rattle.lucid_demand_steps.specs.Faults.{OnTooLarge}
use Rattle.lucid_demand_steps.specs.declared.fault.DemandFault.{DemandFault}
use Rattle.lucid_demand_steps.specs.declared.fault.DemandFault.TheVariants.{TooDeep, ReadFault, NoMemory}
use Rattle.lucid_cert_rules.specs.declared.passing.Position.{Position}
use Rattle.lucid_cert.specs.CheckReads.{LiesPast}
use Rattle.lucid_cert.specs.Makers.{Wants}
use Rattle.lucid_cert.specs.declared.making.Making.{Making}

-- The stream is read on for an element, and what a refusal says.
pub record ReadsElement (A : Type 0) (old new : Inputs) (stream index : ℕ) (before after : World) (result : Result A DemandFault) : Type 0 where
  pub there : stream < length (streams old)
  pub reads : ReadsStream old stream index new before after
  pub too_large : IfErr result (λ e. OnTooLarge e (λ k. (k ≡ stream) × LiesPast old before stream index × ((stream_at new stream).consumed ≡ most_bytes old)))
  pub failed : IsErrOf result ReadFault → Rises before.faults after.faults
  pub counts : CountsNoFaultUnless (IsErrOf result ReadFault) before.faults after.faults
  pub late : AsksNoneLate before after
  pub deep : IsErrOf result TooDeep → ⊥

-- a refusal that isn't one of the inputs
abbrev pub IsOwn : DemandFault → Type 0
IsOwn TooDeep = Unit {0}
IsOwn NoMemory = Unit {0}
IsOwn _ = ⊥

-- What beginning a judgment reads of the inputs: nothing, or its element, where it is of an input and the limit allows it.
pub data ReadsFor (T : Table) (at : Position) (limit : ℕ) (old new : Inputs) (before after : World) (result : Result (Unit {0}) DemandFault) : Type 0 where
  nothing_read : new ≡ old → after ≡ before → IfErr result IsOwn → ReadsFor T at limit old new before after result
  element_read : (stream : ℕ) → row_at T at.node ≡ Some (Input stream) → 0 < limit → ReadsElement (Unit {0}) old new stream at.time before after result → ReadsFor T at limit old new before after result

-- What a walk has read, before it is refused: elements that were read stay, the inputs may be asked on, they have the places and the bound that
-- they had, and no place but theirs is touched.
pub record HasRead (T : Table) (old now : Inputs) (before mid : World) : Type 0 where
  pub elements : Extends (elements_read T.inputs (streams old)) (elements_read T.inputs (streams now))
  pub askable : AreAskable (streams now) mid
  pub reads_only : ReadsOnly (places_of (streams old)) before mid
  pub places : places_of (streams now) ≡ places_of (streams old)
  pub most : most_bytes now ≡ most_bytes old
  pub count : length (streams now) ≡ length (streams old)

-- What a step of a waiting judgment reads: what it wants next, if that isn't made, begins.
pub record ReadsNext (T : Table) (w : Making) (old new : Inputs) (before after : World) (result : Result (Unit {0}) DemandFault) : Type 0 where
  pub at : Position
  pub space : ℕ
  pub references : ℕ
  pub wants : Wants T w at space references
  pub reads : ReadsFor T at (w.limit - references) old new before after result
