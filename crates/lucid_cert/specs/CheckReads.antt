-- What the check of a judgment reads of the inputs.
use Rattle.std.specs.Prelude.{◌≡◌, ℕ, ◌<◌, ◌≤◌, ◌↔◌, ◌⊎◌, Bool, true, List, [], Option, Some, IfSome, Result, IfOk, OnOk, IfErr, IsErrOf, length, slice_get}
use Rattle.lucid_value.specs.Plain.{PlainValue}
use Rattle.lucid_value.specs.Lines.{end_of_line, IsOverlong}
use Rattle.lucid_tags.specs.Contexts.{Context}
use Rattle.lucid_ports.specs.World.{World}
use Rattle.lucid_ports.specs.Faults.{Rises, AsksNoneLate, CountsNoFaultUnless}
use Rattle.lucid_inputs.specs.declared.on_demand.Inputs.{Inputs}
use Rattle.lucid_inputs.specs.Inputs.{ReadsStream, streams, stream_at, most_bytes}
use Rattle.lucid_inputs.specs.Reading.{GivesElement}
use Rattle.lucid_inputs.specs.Streams.{all_bytes}
use Rattle.lucid_equations.specs.Rows.{row_at}
use Rattle.lucid_equations.specs.declared.rows.Node.TheVariants.{Input}
use Rattle.lucid_equations.specs.declared.table.Table.{Table}
use Rattle.lucid_cert_rules.specs.Certificates.{PlainJudgment}
use Rattle.lucid_cert_rules.specs.Follows.{HasForm}
use Rattle.lucid_cert.specs.declared.fault.CheckFault.{CheckFault}
use Rattle.lucid_cert.specs.declared.fault.CheckFault.TheVariants.{Wrong, ReadFault, TooLarge, NoMemory}

-- what a refusal says of a judgment that is wrong, and of a stream that is too large
abbrev pub OnWrong : CheckFault → (ℕ → Type 0) → Type 0
OnWrong (Wrong i) P = P i
OnWrong _ P = Unit {0}

abbrev pub OnTooLarge : CheckFault → (ℕ → Type 0) → Type 0
OnTooLarge (TooLarge k) P = P k
OnTooLarge _ P = Unit {0}

-- the element of an index of a stream lies past the bytes that may be read, where its place tells them
abbrev pub LiesPast : Inputs → World → (stream index : ℕ) → Type 0
LiesPast inputs w k j = IfSome (w.place (stream_at inputs k).place).contents (λ c. IsOverlong (all_bytes c) j (most_bytes inputs))

abbrev pub LiesWithin : Inputs → World → (stream index : ℕ) → Type 0
LiesWithin inputs w k j = IfSome (w.place (stream_at inputs k).place).contents (λ c. IsOverlong (all_bytes c) j (most_bytes inputs) → ⊥)

-- The stream is read on for an element, and it is too large exactly where that lies past the bytes that may be read. These are consumed then,
-- whatever its place tells.
pub record ReadsElement (old new : Inputs) (stream index : ℕ) (before after : World) (result : Result Bool CheckFault) : Type 0 where
  pub there : stream < length (streams old)
  pub reads : ReadsStream old stream index new before after
  pub too_large : IfErr result (λ e. OnTooLarge e (λ k. (k ≡ stream) × LiesPast old before stream index × ((stream_at new stream).consumed ≡ most_bytes old)))
  pub within : OnOk result (LiesWithin old before stream index)
  pub right : IfErr result (λ e. OnWrong e (λ i. ⊥))
  pub failed : IsErrOf result ReadFault → Rises before.faults after.faults
  pub counts : CountsNoFaultUnless (IsErrOf result ReadFault) before.faults after.faults
  pub late : AsksNoneLate before after

-- It is told whether the element is this value.
abbrev pub TellsSame : (new : Inputs) (stream index : ℕ) → PlainValue → Result Bool CheckFault → Type 0
TellsSame new k j value result = IfOk result (λ same. (v : PlainValue) × GivesElement (stream_at new k) j v × ((same ≡ true) ↔ (v ≡ value)))

-- The judgment of a number is one of an input at a time: it has all that it has to have but its value.
pub record TellsElement (T : Table) (cs : List (Option Context)) (js : List PlainJudgment) (number stream time : ℕ) : Type 0 where
  pub judgment : PlainJudgment
  pub there : slice_get js number ≡ Some judgment
  pub context : Context
  pub form : HasForm T cs judgment context
  pub row : row_at T judgment.node ≡ Some (Input stream)
  pub no_uses : judgment.uses ≡ []
  pub is_time : judgment.time ≡ time

-- Of each stream no more is consumed than was, or through the end of an element that a judgment below a number tells.
abbrev pub DrawsFor : (T : Table) (cs : List (Option Context)) (js : List PlainJudgment) (below : ℕ) → (old new : Inputs) → World → Type 0
DrawsFor T cs js n old new w =
    (k : ℕ) → k < length (streams old) → IfSome (w.place (stream_at new k).place).contents (λ c. ((stream_at new k).consumed ≤ (stream_at old k).consumed)
    ⊎ ((i : ℕ) × (j : ℕ) × (i < n) × TellsElement T cs js i k j × ((stream_at new k).consumed ≤ end_of_line (all_bytes c) j)))

-- What looking at one judgment does to the inputs: nothing where it tells no element; else its element is read.
pub data ReadsFor (T : Table) (cs : List (Option Context)) (js : List PlainJudgment) (number : ℕ) (old new : Inputs) (before after : World) (result : Result Bool CheckFault) : Type 0 where
  nothing_read : ((k j : ℕ) → TellsElement T cs js number k j → ⊥) → new ≡ old → after ≡ before → IfErr result (λ e. e ≡ NoMemory) → ReadsFor T cs js number old new before after result
  element_read : (k j : ℕ) → TellsElement T cs js number k j → ReadsElement old new k j before after result → ReadsFor T cs js number old new before after result
