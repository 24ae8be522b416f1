-- All that is true while a demand runs, over what an engine owns.
use Rattle.std.specs.Prelude.{◌≡◌, ℕ, ◌≤◌, List, Option, IfSome, length}
use Rattle.lucid_store.specs.Entries.{count_of}
use Rattle.lucid_store.specs.Stored.{Stored}
use Rattle.lucid_tags.specs.Known.{IsOneForOne}
use Rattle.lucid_tree.specs.Members.{AllDiffer}
use Rattle.lucid_ports.specs.World.{World}
use Rattle.lucid_equations.specs.Ranges.{IsInRange}
use Rattle.lucid_tasks.specs.Rows.{TaskRow}
use Rattle.lucid_demand_steps.specs.Tasks.{PlainRows, plain_rows, AreRowsKnown}
use Rattle.lucid_demand_steps.specs.Parts.{IsTask}
use Rattle.lucid_demand_steps.specs.Held.{AreKeysKnown}
use Rattle.lucid_demand_steps.specs.Engine.{EngineView, known_elements, holding, places_of, GoesOn, ReadsOnly, HoldsFew}
use Rattle.lucid_demand_steps.specs.Demands.{Demand, table_of, demand_of}
use Rattle.lucid_demand_steps.specs.Rows.{Work}
use Rattle.lucid_demand_steps.specs.Stock.{Stock, IsEmptied}

-- What is true of a demand itself.
pub record IsDemand (d : Demand) : Type 0 where
  pub in_range : IsInRange (table_of d)
  pub names : AllDiffer (table_of d).inputs
  pub places : AllDiffer (places_of d.first.streams)
  pub streams : length d.first.streams ≡ length (table_of d).inputs
  pub there : IsTask (table_of d) d.root
  -- it is of the table's root, in the empty context
  pub of_root : demand_of d.first d.world d.root.time d.root.space d.root.limit ≡ d

-- What has stayed, and what has only grown, since a demand began; and that few are held, if few were.
pub record Since (d : Demand) (now : EngineView) (w : World) : Type 0 where
  pub goes_on : GoesOn d.first now
  pub reads_only : ReadsOnly (places_of d.first.streams) d.world w
  pub few : HoldsFew d.first.room d.first.stored → HoldsFew d.first.room now.stored

-- What is true of what an engine owns besides its rows.
pub record Owns (d : Demand) (now : EngineView) (w : World) : Type 0 where
  pub stock : Stock d now w
  pub keys : AreKeysKnown now.known now.stored
  pub contexts : IsOneForOne now.known
  pub since : Since d now w

-- The invariant of a demand's loop, over plain rows.
pub record Going (d : Demand) (now : EngineView) (w : World) (rows : PlainRows) : Type 0 where
  pub work : Work d (known_elements now) (holding now) now.stored.lost rows
  pub owns : Owns d now w

-- at most so many are held as the policy leaves
abbrev pub WithinRoom : Option ℕ → Stored → Type 0
WithinRoom room w = IfSome room (λ r. count_of w ≤ r)

-- And after the policy's turn, before the step.
pub record Stepping (d : Demand) (now : EngineView) (w : World) (rows : PlainRows) : Type 0 where
  pub going : Going d now w rows
  pub emptied : IsEmptied d (holding now) now.noted
  pub within : WithinRoom d.first.room now.stored

-- The invariant over rows that have tags: these are known.
pub record Waits (d : Demand) (now : EngineView) (w : World) (rows : List (Option TaskRow)) : Type 0 where
  pub going : Going d now w (plain_rows now.known rows)
  pub known : AreRowsKnown now.known rows
