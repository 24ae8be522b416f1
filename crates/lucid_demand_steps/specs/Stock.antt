-- What is true of the store, of the noted positions, of the known contexts and of the inputs at each turn.
use Rattle.std.specs.Prelude.{◌≡◌, ℕ, IsTrue, List, Some, None, IsSome, ◌⊎◌}
use Rattle.lucid_value.specs.Plain.{PlainValue}
use Rattle.lucid_tree.specs.Members.{In}
use Rattle.lucid_tree.specs.Levels.{Elements}
use Rattle.lucid_tags.specs.Contexts.{Context}
use Rattle.lucid_tags.specs.declared.Tag.{Tag}
use Rattle.lucid_search.specs.Noted.{Noted, number_at}
use Rattle.lucid_ports.specs.World.{World}
use Rattle.lucid_equations.specs.Datons.{Daton}
use Rattle.lucid_equations.specs.Rows.{equations_of}
use Rattle.lucid_demand_steps.specs.Stands.{Holding}
use Rattle.lucid_demand_steps.specs.Held.{HoldsRight, IsClosed, AllNotedRight, AllNotedClosed}
use Rattle.lucid_demand_steps.specs.Engine.{EngineView, holding, MayHave, DrawsWithin, AreAskable}
use Rattle.lucid_demand_steps.specs.Demands.{Demand, table_of, stays, IsVisited, IsEntered}

-- The facts of what is held and noted, over elements that extend those read.
pub record StockFacts (d : Demand) (b : Elements) (known : List Context) (h : Holding) (lost : ℕ) (noted : Noted) : Type 0 where
  pub right : HoldsRight (equations_of (table_of d)) b h
  pub stays : (k : Daton) (s : ℕ) (v : PlainValue) → stays d k s ≡ Some v → h k s ≡ Some v
  pub traced : (k : Daton) (s : ℕ) → IsSome (h k s) → IsSome (holding d.first k s) ⊎ IsVisited d b (k, s)
  pub closed : IsTrue d.first.keeps → lost ≡ 0 → IsClosed (equations_of (table_of d)) b h
  pub noted_right : AllNotedRight (table_of d) b known noted
  pub noted_closed : IsTrue d.first.keeps → lost ≡ 0 → AllNotedClosed (table_of d) b known noted h
  pub contexts : (c : Context) → In c known → In c d.first.known ⊎ IsEntered d b c

-- Between a policy's turn and the step after it, under a policy that empties: nothing is held, and no position is noted.
pub record IsEmptied (d : Demand) (h : Holding) (noted : Noted) : Type 0 where
  pub nothing : IsTrue d.first.empties → (k : Daton) (s : ℕ) → h k s ≡ None
  pub unnoted : IsTrue d.first.empties → (node : ℕ) (tag : Tag) (key : ℕ) → number_at noted node tag key ≡ None

-- What is true of all that an engine owns besides its rows, by any elements that there may be.
pub record Stock (d : Demand) (now : EngineView) (w : World) : Type 0 where
  pub stock : (b : Elements) → MayHave now b → StockFacts d b now.known (holding now) now.stored.lost now.noted
  pub drawn : (b : Elements) → MayHave now b → DrawsWithin d.first now b w d.root.limit d.root.time d.root.space
  pub askable : AreAskable now.streams w
