-- When a row may be made for a task, or for the body of a reference, and when a value may be given in its place.
use Rattle.std.specs.Prelude.{◌≡◌, ℕ, ◌<◌, Option, Some, None, IfSome, option_map}
use Rattle.lucid_value.specs.declared.Value.{Value}
use Rattle.lucid_value.specs.View.{plain}
use Rattle.lucid_tree.specs.Levels.{Elements}
use Rattle.lucid_tags.specs.Known.{IsKnown, space_of}
use Rattle.lucid_tags.specs.declared.Key.{Key}
use Rattle.lucid_tasks.specs.declared.Part.{Part}
use Rattle.lucid_tasks.specs.declared.Task.{Task}
use Rattle.lucid_ports.specs.World.{World}
use Rattle.lucid_demand_steps.specs.Tasks.{plain_task, plain_key, key_list}
use Rattle.lucid_demand_steps.specs.Parts.{node_of, rank, moved, aim_of_task, IsReference}
use Rattle.lucid_demand_steps.specs.Stands.{StandsFor}
use Rattle.lucid_demand_steps.specs.Engine.{MayHave, holding}
use Rattle.lucid_demand_steps.specs.Demands.{Demand, table_of, Answers}
use Rattle.lucid_demand_steps.specs.Rows.{IsWanted, Remembers}
use Rattle.lucid_demand_steps.specs.Aims.{plain_aim, IsAim}
use Rattle.lucid_demand_steps.specs.declared.aim.Aim.{Aim}
use Rattle.lucid_demand.specs.Evaluating.{Evaluating}
use Rattle.lucid_demand.specs.Asking.{MayAskFor}

-- The task is a name, and goes on with the aim.
pub record IsNamedAim (e : Evaluating) (y : Task) (a : Aim) : Type 0 where
  pub reference : IsReference (node_of e.engine.table (plain_task e.engine.known y))
  pub leads : plain_aim e.engine.table e.engine.known (Some a) ≡ aim_of_task e.engine.table (plain_task e.engine.known y)
  pub there : IsAim e.engine.table e.engine.known (space_of y.tag) a

-- The task x may be asked for, and y stands for it, after all its moves: its own task, or its body, whose row would remember the key of the
-- daton, which isn't held.
pub record MayHaveRow (d : Demand) (e : Evaluating) (w : World) (part : Option Part) (x y : Task) (key : Option Key) : Type 0 where
  pub least : ℕ
  pub may : MayAskFor d e w part x least
  pub stands : StandsFor (table_of d) (key_list (option_map (plain_key e.engine.known) key)) (plain_task e.engine.known y) (plain_task e.engine.known x)
  pub still : moved (table_of d) (plain_task e.engine.known y) ≡ None
  pub lower : rank (table_of d) (plain_task e.engine.known y) < least
  pub tag : IsKnown e.engine.known y.tag
  pub key_tag : IfSome key (λ k. IsKnown e.engine.known k.tag)
  pub wanted : (b : Elements) → MayHave e.engine b → IsWanted d b (plain_task e.engine.known y)
  pub remembers : (b : Elements) → MayHave e.engine b → IfSome key (λ k. Remembers d b (plain_task e.engine.known y) (plain_key e.engine.known k))

-- a reference with a key, and its body
abbrev pub MayAskBody : Demand → Evaluating → World → Option Part → (x y : Task) → Key → Type 0
MayAskBody d e w part x y key = MayHaveRow d e w part x y (Some key)

-- The value answers a task.
abbrev pub AnswersTask : Demand → Evaluating → Task → Value → Type 0
AnswersTask d e x v = (b : Elements) → MayHave e.engine b → Answers d b (holding e.engine) e.engine.stored.lost (plain_task e.engine.known x) (plain v)

-- And the value answers y.
pub record MayGiveAtOnce (d : Demand) (e : Evaluating) (w : World) (part : Option Part) (x y : Task) (key : Option Key) (v : Value) : Type 0 where
  pub row : MayHaveRow d e w part x y key
  pub answers : AnswersTask d e y v

-- the same of a reference with a key
abbrev pub MayGiveBody : Demand → Evaluating → World → Option Part → (x y : Task) → Key → Value → Type 0
MayGiveBody d e w part x y key v = MayGiveAtOnce d e w part x y (Some key) v
