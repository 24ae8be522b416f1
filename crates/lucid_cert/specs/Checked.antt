-- What a check promises.
use Rattle.std.specs.Prelude.{◌≡◌, ℕ, ◌+◌, ◌<◌, Result, IfOk, IfErr, IsErrOf, length}
use Rattle.lucid_tree.specs.Levels.{Elements}
use Rattle.lucid_equations.specs.MoreElements.{Extends}
use Rattle.lucid_equations.specs.declared.table.Table.{Table}
use Rattle.lucid_ports.specs.World.{World}
use Rattle.lucid_ports.specs.Faults.{Rises, AsksNoneLate, CountsNoFaultUnless}
use Rattle.lucid_inputs.specs.declared.on_demand.Inputs.{Inputs}
use Rattle.lucid_inputs.specs.Inputs.{streams, stream_at, most_bytes}
use Rattle.lucid_demand_steps.specs.Elements.{elements_read}
use Rattle.lucid_demand_steps.specs.Engine.{AreAskable, ReadsOnly, places_of}
use Rattle.lucid_cert_rules.specs.declared.rows.Why.{Why}
use Rattle.lucid_cert_rules.specs.Follows.{contexts, Follows, AllFollow, IsOfRoot, IsRight}
use Rattle.lucid_cert.specs.CheckReads.{OnWrong, OnTooLarge, LiesPast, LiesWithin, TellsElement, DrawsFor}
use Rattle.lucid_cert.specs.declared.fault.CheckFault.{CheckFault}
use Rattle.lucid_cert.specs.declared.fault.CheckFault.TheVariants.{ReadFault}

-- The judgment of a number is wrong: it is the first that doesn't follow; or all follow, and it is the last and not the root's.
pub data IsWrong (T : Table) (b : Elements) (w : Why) (number : ℕ) : Type 0 where
  not_following : number < length w.judgments → AllFollow T b w number → (Follows T b w number → ⊥) → IsWrong T b w number
  not_of_root : length w.judgments ≡ number + 1 → AllFollow T b w (length w.judgments) → (IsOfRoot T (contexts T w) w.judgments number → ⊥) → IsWrong T b w number

-- elements that there may be, where these are read
abbrev pub MayBe : Table → Inputs → Elements → Type 0
MayBe T inputs b = Extends (elements_read T.inputs (streams inputs)) b

-- A judgment tells an element past the bytes that may be read, and all before it follow.
pub record TellsPast (T : Table) (b : Elements) (w : Why) (inputs : Inputs) (before : World) (stream : ℕ) : Type 0 where
  pub number : ℕ
  pub index : ℕ
  pub follow : AllFollow T b w number
  pub tells : TellsElement T (contexts T w) w.judgments number stream index
  pub past : LiesPast inputs before stream index

-- no judgment below a number tells one
abbrev pub NoneTellsPast : Table → Why → Inputs → World → (below : ℕ) → Type 0
NoneTellsPast T w inputs before n = (i k j : ℕ) → i < n → TellsElement T (contexts T w) w.judgments i k j → LiesWithin inputs before k j

-- What a check does to the inputs, whatever the answer: elements that were read stay, the inputs may be asked on, they have the places and the
-- bound that they had, no place but theirs is touched, and no stream is consumed past what was, or past the end of an element that a judgment
-- tells.
pub record HasLooked (T : Table) (w : Why) (old new : Inputs) (before after : World) : Type 0 where
  pub drawn : DrawsFor T (contexts T w) w.judgments (length w.judgments) old new after
  pub elements : Extends (elements_read T.inputs (streams old)) (elements_read T.inputs (streams new))
  pub askable : AreAskable (streams new) after
  pub places : places_of (streams new) ≡ places_of (streams old)
  pub most : most_bytes new ≡ most_bytes old
  pub reads_only : ReadsOnly (places_of (streams old)) before after

-- What a check promises, whoever made the certificate, by all elements that there may be.
pub record Checked (T : Table) (w : Why) (old new : Inputs) (before after : World) (result : Result (Unit {0}) CheckFault) : Type 0 where
  pub right : IfOk result (λ _. (b : Elements) → MayBe T new b → IsRight T b w)
  pub wrong : IfErr result (λ e. OnWrong e (λ i. (b : Elements) → MayBe T new b → IsWrong T b w i))
  pub too_large : IfErr result (λ e. OnTooLarge e (λ k. (b : Elements) → MayBe T new b → TellsPast T b w old before k))
  -- as many bytes of the stream are consumed then as may be, whatever its place tells
  pub full : IfErr result (λ e. OnTooLarge e (λ k. (stream_at new k).consumed ≡ most_bytes old))
  -- it yields to no other answer: through the last judgment that was looked at no element lies past
  pub within : IfOk result (λ _. NoneTellsPast T w old before (length w.judgments)) × IfErr result (λ e. OnWrong e (λ i. NoneTellsPast T w old before (i + 1)))
  pub failed : IsErrOf result ReadFault → Rises before.faults after.faults
  pub counts : CountsNoFaultUnless (IsErrOf result ReadFault) before.faults after.faults
  pub late : AsksNoneLate before after
  pub looked : HasLooked T w old new before after
  -- through the wrong judgment, where there is one, and none behind it
  pub drawn : IfErr result (λ e. OnWrong e (λ i. DrawsFor T (contexts T w) w.judgments (i + 1) old new after))
