-- What a walk has read is within what the root consults.
use Rattle.std.specs.Prelude.{◌≡◌, ℕ, false, None, [], ◌∷◌, Result, IfErr, IsErrOf}
use Rattle.lucid_tree.specs.Levels.{Elements}
use Rattle.lucid_tags.specs.Contexts.{root}
use Rattle.lucid_ports.specs.World.{World}
use Rattle.lucid_store.specs.Entries.{empty_warehouse}
use Rattle.lucid_search.specs.Noted.{nothing_noted}
use Rattle.lucid_inputs.specs.declared.on_demand.Inputs.{Inputs}
use Rattle.lucid_inputs.specs.Inputs.{streams, most_bytes}
use Rattle.lucid_equations.specs.declared.table.Table.{Table}
use Rattle.lucid_demand_steps.specs.Engine.{EngineView, root_val, DrawsWithin, ConsultsOverlong}
use Rattle.lucid_demand_steps.specs.Tasks.{PlainTask}
use Rattle.lucid_demand_steps.specs.Faults.{OnTooLarge}
use Rattle.lucid_demand_steps.specs.declared.fault.DemandFault.{DemandFault}
use Rattle.lucid_demand_steps.specs.declared.fault.DemandFault.TheVariants.{TooDeep}
use Rattle.lucid_cert_rules.specs.declared.rows.Why.{Why}
use Rattle.lucid_cert.specs.Checked.{MayBe}

-- a program over inputs as an engine sees it that holds nothing, and may hold anything
abbrev pub view_of : Table → Inputs → EngineView
view_of T inputs = record {
  table = T;
  known = root ∷ [];
  stored = empty_warehouse;
  noted = nothing_noted;
  streams = streams inputs;
  most = most_bytes inputs;
  keeps = false;
  empties = false;
  room = None;
}

-- the root of a table at a time, at space 0
abbrev pub root_task : Table → (limit time : ℕ) → PlainTask
root_task T m t = record { node = T.root; context = root; time = t; space = 0; limit = m }

-- By all elements that there may be, no stream is drawn past an element that the root consults.
abbrev pub HasDrawn : Table → (first now : Inputs) → World → (limit time : ℕ) → Type 0
HasDrawn T first now w m t = (b : Elements) → MayBe T now b → DrawsWithin (view_of T first) (view_of T now) b w m t 0

-- Making a certificate is refused as a demand of the root is, and reads no more: too deep comes only where the root's approximation is
-- undefined, too large only where it consults an element past the bytes that may be read, and no stream is drawn past what it consults.
pub record AsDemanded (T : Table) (old new : Inputs) (after : World) (time limit : ℕ) (result : Result Why DemandFault) : Type 0 where
  pub deep : IsErrOf result TooDeep → (b : Elements) → MayBe T new b → root_val (view_of T new) b limit time 0 ≡ None
  pub too_large : IfErr result (λ e. OnTooLarge e (λ k. (b : Elements) → MayBe T new b → ConsultsOverlong (view_of T new) b after k limit time 0))
  pub drawn : HasDrawn T old new after limit time
