-- What making a certificate promises.
use Rattle.std.specs.Prelude.{◌≡◌, ℕ, ◌+◌, Some, Result, IfOk, IsErrOf, length, slice_get}
use Rattle.lucid_tree.specs.Levels.{Elements}
use Rattle.lucid_ports.specs.World.{World}
use Rattle.lucid_ports.specs.Faults.{Rises, AsksNoneLate}
use Rattle.lucid_inputs.specs.declared.on_demand.Inputs.{Inputs}
use Rattle.lucid_inputs.specs.Inputs.{streams, most_bytes}
use Rattle.lucid_equations.specs.MoreElements.{Extends}
use Rattle.lucid_equations.specs.declared.table.Table.{Table}
use Rattle.lucid_demand_steps.specs.Elements.{elements_read}
use Rattle.lucid_demand_steps.specs.Engine.{AreAskable, ReadsOnly, places_of}
use Rattle.lucid_demand_steps.specs.Faults.{CountsReadFaults}
use Rattle.lucid_demand_steps.specs.declared.fault.DemandFault.{DemandFault}
use Rattle.lucid_demand_steps.specs.declared.fault.DemandFault.TheVariants.{ReadFault}
use Rattle.lucid_cert_rules.specs.Certificates.{PlainJudgment}
use Rattle.lucid_cert_rules.specs.WhyTexts.{MayBeShown}
use Rattle.lucid_cert_rules.specs.declared.rows.Why.{Why}
use Rattle.lucid_cert_rules.specs.Follows.{context_in, contexts, IsRight}
use Rattle.lucid_cert.specs.Checked.{MayBe}

-- No two judgments are of one node in one context at one point.
abbrev pub AreApart : Table → Why → Type 0
AreApart T w =
    (i k : ℕ) (j l : PlainJudgment) → slice_get w.judgments i ≡ Some j → slice_get w.judgments k ≡ Some l → j.node ≡ l.node
    → context_in (contexts T w) j.context ≡ context_in (contexts T w) l.context → j.time ≡ l.time → j.space ≡ l.space → i ≡ k

-- A certificate of the root's value at a time: it is right, no judgment stands twice, and it may be shown.
pub record IsCertificate (T : Table) (b : Elements) (w : Why) (time : ℕ) : Type 0 where
  pub right : IsRight T b w
  pub at_time : (i : ℕ) (j : PlainJudgment) → length w.judgments ≡ i + 1 → slice_get w.judgments i ≡ Some j → j.time ≡ time
  pub apart : AreApart T w
  pub shown : MayBeShown w

-- What is made, by all elements that there may be, and what making it does to the inputs, whatever the answer: elements that were read stay,
-- the inputs may be asked on, they have the places and the bound that they had, no place but theirs is touched, faults are counted by the
-- read fault alone, and nothing is asked after one.
pub record Made (T : Table) (old new : Inputs) (before after : World) (time : ℕ) (result : Result Why DemandFault) : Type 0 where
  pub made : IfOk result (λ w. (b : Elements) → MayBe T new b → IsCertificate T b w time)
  pub failed : IsErrOf result ReadFault → Rises before.faults after.faults
  pub counts : CountsReadFaults result before after
  pub late : AsksNoneLate before after
  pub elements : Extends (elements_read T.inputs (streams old)) (elements_read T.inputs (streams new))
  pub askable : AreAskable (streams new) after
  pub places : places_of (streams new) ≡ places_of (streams old)
  pub most : most_bytes new ≡ most_bytes old
  pub reads_only : ReadsOnly (places_of (streams old)) before after
