-- What is made is found right.
use Rattle.std.specs.Prelude.{◌≡◌, ℕ, ◌<◌, ◌⊎◌, Option, Some, Result, Ok, IfErr, length}
use Rattle.lucid_tree.specs.Members.{AllDiffer}
use Rattle.lucid_ports.specs.World.{Contents, World}
use Rattle.lucid_inputs.specs.declared.on_demand.Inputs.{Inputs}
use Rattle.lucid_inputs.specs.Inputs.{streams, stream_at, most_bytes}
use Rattle.lucid_inputs.specs.Streams.{all_bytes}
use Rattle.lucid_equations.specs.Ranges.{IsInRange}
use Rattle.lucid_equations.specs.declared.table.Table.{Table}
use Rattle.lucid_cert_rules.specs.declared.rows.Why.{Why}
use Rattle.lucid_cert.specs.Checked.{Checked}
use Rattle.lucid_cert.specs.declared.fault.CheckFault.{CheckFault}
use Rattle.lucid_cert.specs.declared.fault.CheckFault.TheVariants as check
use Rattle.lucid_cert.specs.Certified.{Made}

-- two places tell the same bytes, however many of them are consumed
abbrev pub TellSame : Option Contents → Option Contents → Type 0
TellSame (Some c) (Some d) = all_bytes c ≡ all_bytes d
TellSame _ _ = ⊥

-- Two inputs hold the same: as many streams, each from a place with the same bytes, and as many of these may be read.
pub record HoldTheSame (one : Inputs) (v : World) (other : Inputs) (w : World) : Type 0 where
  pub count : length (streams other) ≡ length (streams one)
  pub most : most_bytes other ≡ most_bytes one
  pub bytes : (k : ℕ) → k < length (streams one) → TellSame (v.place (stream_at one k).place).contents (w.place (stream_at other k).place).contents

-- What is made is found right over inputs that hold the same, as those over which it was made: a check of it is refused only where a call on the
-- places fails, or there is no memory.
abbrev pub MadeIsFoundRight : Type 0
MadeIsFoundRight =
    (T : Table) → IsInRange T → AllDiffer T.inputs → (first made : Inputs) → length (streams made) ≡ length T.inputs → (start mid : World) (time : ℕ) (w : Why)
    → Made T first made start mid time (Ok w) → (old new : Inputs) (before after : World) → HoldTheSame made mid old before
    → (result : Result (Unit {0}) CheckFault) → Checked T w old new before after result → IfErr result (λ e. (e ≡ check.ReadFault) ⊎ (e ≡ check.NoMemory))
