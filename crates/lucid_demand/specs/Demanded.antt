-- When a demand may be made, and what it promises.
use Rattle.std.specs.Prelude.{◌≡◌, ℕ, ◌<◌, ◌≤◌, ◌^◌, IsTrue, Result, IfOk, IfErr, IsErrOf, None, Some, length}
use Rattle.lucid_value.specs.declared.Value.{Value}
use Rattle.lucid_value.specs.View.{plain}
use Rattle.lucid_tree.specs.Levels.{Elements}
use Rattle.lucid_ports.specs.World.{World}
use Rattle.lucid_ports.specs.Faults.{AsksNoneLate, Rises}
use Rattle.lucid_demand_steps.specs.Elements.{elements_told}
use Rattle.lucid_demand_steps.specs.Engine.{EngineView, IsSoundEngine, MayHave, RootMeans, root_val, root_hval, holding, DrawsWithin, ReadsWithin, ConsultsOverlong, VisitsNew, HoldsFew, StillHolds, HoldsNeeded, AreAskable, GoesOn, ReadsOnly, places_of}
use Rattle.lucid_demand_steps.specs.Faults.{OnTooLarge, CountsReadFaults}
use Rattle.lucid_demand_steps.specs.declared.fault.DemandFault.{DemandFault}
use Rattle.lucid_demand_steps.specs.declared.fault.DemandFault.TheVariants.{TooDeep, ReadFault}

-- The most contexts that may be known when a demand is made, the empty one included.
abbrev pub most_known : ℕ
most_known = 1000000

-- A demand may be made: its point and its limit are in range, each stream may be read on, and few contexts are known.
pub record MayDemand (e : EngineView) (w : World) (time space limit : ℕ) : Type 0 where
  pub time_in_range : time < 2 ^ 63
  pub space_in_range : space < 2 ^ 63
  pub some_limit : 0 < limit
  pub inputs : AreAskable e.streams w
  pub few_known : length e.known ≤ most_known

-- What a demand promises, whatever was held, whatever is dropped at each turn and whatever is picked, by all elements that there may be.
pub record Demanded (old new : EngineView) (before after : World) (time space limit : ℕ) (result : Result Value DemandFault) : Type 0 where
  -- The value is the one that the root means at the point. Under a policy that empties it is that of the limit's approximation.
  pub value : IfOk result (λ v. (b : Elements) → MayHave new b → RootMeans new b time space (plain v))
  pub exact : IsTrue old.empties → IfOk result (λ v. (b : Elements) → MayHave new b → root_val new b limit time space ≡ Some (plain v))
  -- Too deep comes only where the limit's approximation is undefined there; under a policy that keeps, also that with what was held.
  pub deep : IsErrOf result TooDeep → (b : Elements) → MayHave new b → root_val new b limit time space ≡ None
  pub kept : IsTrue old.keeps → IsErrOf result TooDeep → (b : Elements) → MayHave new b → root_hval new b (holding old) limit time space ≡ None
  -- No stream is consumed past what it was, or past the last element that the limit's approximation consults. Too large comes only where
  -- that consults an element past the bytes that may be read. A read fault comes only where a call on the places failed, and after any other
  -- answer their count of faults is as it was. Nothing is asked of them after a fault.
  pub drawn : (b : Elements) → MayHave new b → DrawsWithin old new b after limit time space
  pub too_large : IfErr result (λ e. OnTooLarge e (λ k. (b : Elements) → MayHave new b → ConsultsOverlong new b after k limit time space))
  pub failed : IsErrOf result ReadFault → Rises before.faults after.faults
  pub counts : CountsReadFaults result before after
  pub late : AsksNoneLate before after
  -- Whatever the places tell, of no stream more is consumed than may be read.
  pub within : ReadsWithin new
  -- What is newly held and newly known is visited; at most one more is held than the policy leaves.
  pub visited : (b : Elements) → MayHave new b → VisitsNew old new b limit time space
  pub few_held : HoldsFew old.room old.stored → HoldsFew old.room new.stored
  -- Under a policy that keeps, what was held is held; after a value, and with nothing lost, besides it exactly what the value needs.
  pub still_held : IsTrue old.keeps → StillHolds old new
  pub needed : IsTrue old.keeps → new.stored.lost ≡ 0 → IfOk result (λ v. (b : Elements) → MayHave new b → HoldsNeeded old new b time space)
  -- What the type keeps; each stream fits its place, whose elements are among those that there may be; nothing that was read is forgotten,
  -- and no other place changes.
  pub sound : IsSoundEngine new
  pub fits : AreAskable new.streams after
  pub told : MayHave new (elements_told new.table.inputs new.streams after)
  pub goes_on : GoesOn old new
  pub reads_only : ReadsOnly (places_of old.streams) before after
