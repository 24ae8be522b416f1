-- What reading an element does to what an evaluation owns.
use Rattle.std.specs.Prelude.{◌≡◌, ◌≢◌, ℕ, Some, IfSome, Result, Err, IfOk, IfErr, length, slice_get, option_map}
use Rattle.lucid_value.specs.declared.Value.{Value}
use Rattle.lucid_value.specs.View.{plain}
use Rattle.lucid_value.specs.Lines.{IsOverlong}
use Rattle.lucid_ports.specs.World.{World}
use Rattle.lucid_ports.specs.Faults.{Rises}
use Rattle.lucid_inputs.specs.Streams.{Stream, all_bytes}
use Rattle.lucid_inputs.specs.Reading.{ReadsOn, GivesElement}
use Rattle.lucid_demand_steps.specs.Engine.{EngineView}
use Rattle.lucid_demand_steps.specs.Faults.{OnTooLarge, CountsReadFaults}
use Rattle.lucid_demand_steps.specs.declared.fault.DemandFault.{DemandFault}
use Rattle.lucid_demand_steps.specs.declared.fault.DemandFault.TheVariants.{TooDeep, ReadFault}

-- The stream of that number is read on for an element, and nothing else changes. The element is the one that the stream gives. It is too
-- large only where as many bytes are consumed as may be, and it lies past them.
pub record ReadsElement (old new : EngineView) (number index : ℕ) (before after : World) (result : Result Value DemandFault) : Type 0 where
  pub only : new ≡ record old { streams = new.streams }
  pub from : Stream
  pub to : Stream
  pub there : slice_get old.streams number ≡ Some from
  pub now : slice_get new.streams number ≡ Some to
  pub reads : ReadsOn index from to before after
  pub others : (k : ℕ) → k ≢ number → slice_get new.streams k ≡ slice_get old.streams k
  pub count : length new.streams ≡ length old.streams
  pub bytes : (k : ℕ) → option_map all_bytes (after.place k).contents ≡ option_map all_bytes (before.place k).contents
  pub element : IfOk result (λ v. GivesElement to index (plain v))
  pub too_large : IfErr result (λ e. OnTooLarge e (λ k. (k ≡ number) × (to.consumed ≡ old.most) × IfSome (before.place from.place).contents (λ c. IsOverlong (all_bytes c) index old.most)))
  pub failed : result ≡ Err ReadFault → Rises before.faults after.faults
  pub counts : CountsReadFaults result before after
  pub not_deep : result ≡ Err TooDeep → ⊥
