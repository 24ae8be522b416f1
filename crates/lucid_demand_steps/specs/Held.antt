-- What a store holds, by datons in place of keys; what is needed; what is noted of searches.
use Rattle.std.specs.Prelude.{◌≡◌, ℕ, ◌<◌, Bool, true, false, ◌==◌, ◌&&◌, List, Some, IsSome, option_map}
use Rattle.std.specs.Map.{lookup}
use Rattle.lucid_value.specs.Plain.{PlainValue}
use Rattle.lucid_value.specs.View.{plain}
use Rattle.lucid_tree.specs.Tree.{Head, whenever, asa, upon}
use Rattle.lucid_tree.specs.Rests.{count_below}
use Rattle.lucid_tree.specs.Levels.{Elements, goes_to}
use Rattle.lucid_tags.specs.Contexts.{Context, same_context}
use Rattle.lucid_tags.specs.Known.{IsKnown, context_of, space_of}
use Rattle.lucid_tags.specs.declared.Tag.{Tag}
use Rattle.lucid_tags.specs.declared.Key.{Key}
use Rattle.lucid_store.specs.Stored.{Stored}
use Rattle.lucid_store.specs.Entries.{IsHeld}
use Rattle.lucid_search.specs.Noted.{Noted, number_at}
use Rattle.lucid_equations.specs.Nodes.{PlainNode, row, PlainNodes, Equations}
use Rattle.lucid_equations.specs.Datons.{Daton, NodePosition, daton_aim}
use Rattle.lucid_equations.specs.Values.{node_val, NodeMeans}
use Rattle.lucid_equations.specs.Visits.{IsNeeded}
use Rattle.lucid_equations.specs.Rows.{node_at, equations_of, part_number}
use Rattle.lucid_equations.specs.declared.table.Table.{Table}
use Rattle.lucid_tasks.specs.declared.Cursor.{Cursor}
use Rattle.lucid_demand_steps.specs.Tasks.{DatonAt}
use Rattle.lucid_demand_steps.specs.Stands.{Holding}

-- the key is that of a daton at a space
abbrev pub is_key_of : List Context → Daton → (space : ℕ) → Key → Bool
is_key_of known d s k = (k.name == d.name) && (same_context (context_of known k.tag) d.context && ((space_of k.tag == s) && (k.time == d.time)))

-- the value that a store holds of a daton
abbrev pub held_in : List Context → Stored → Holding
held_in known w d s = option_map (λ e. plain e.value) (lookup (is_key_of known d s) w.entries)

-- every key that is held has a known tag
abbrev pub AreKeysKnown : List Context → Stored → Type 0
AreKeysKnown known w = (k : Key) → IsHeld w k → IsKnown known k.tag

-- the daton goes on with a node that means the value
pub record DatonMeans (p : Equations) (b : Elements) (k : DatonAt) (v : PlainValue) : Type 0 where
  pub position : NodePosition
  pub time : ℕ
  pub aim : daton_aim p k.0 ≡ goes_to k.0 position time
  pub means : NodeMeans p b position.node position.context time k.1 v

-- each value that is held is the one that its daton means
abbrev pub HoldsRight : Equations → Elements → Holding → Type 0
HoldsRight p b h = (d : Daton) (s : ℕ) (v : PlainValue) → h d s ≡ Some v → DatonMeans p b (d, s) v

-- every daton that is needed for what a node means is held
abbrev pub NeedsHeld : Equations → Elements → Holding → PlainNode → Context → (time space : ℕ) → Type 0
NeedsHeld p b h e c t s = (k : DatonAt) → IsNeeded p b e c t s k → IsSome (h k.0 k.1)

-- what each daton that is held needs is held
abbrev pub IsClosed : Equations → Elements → Holding → Type 0
IsClosed p b h = (d : Daton) (x : NodePosition) (u s : ℕ) → IsSome (h d s) → daton_aim p d ≡ goes_to d x u → NeedsHeld p b h x.node x.context u s

-- a search's form
abbrev pub is_search : Head → Bool
is_search whenever = true
is_search asa = true
is_search upon = true
is_search _ = false

-- Where a search stands by what is noted: the key of `whenever` and `asa` is a count and the number a time, that of `upon` a time and
-- the number a count.
abbrev pub cursor_noted : Head → (key number : ℕ) → Cursor
cursor_noted upon key number = record { time = key; count = number }
cursor_noted _ key number = record { time = number; count = key }

-- the pair that is noted where a search stands at a cursor
abbrev pub key_noted : Head → Cursor → ℕ × ℕ
key_noted upon c = (c.time, c.count)
key_noted _ c = (c.count, c.time)

-- By some approximation, the node has truths at all times below one, and so many are true.
abbrev pub Counted : Equations → Elements → PlainNode → Context → (space : ℕ) → (time count : ℕ) → Type 0
Counted p b e c s t n = (m : ℕ) × (count_below (λ u. node_val p b m e c u s) t ≡ Some n)

-- A noted position is of a search, in a known context; its stream has truths at all earlier times, and so many are true.
pub record NotedRight (T : Table) (b : Elements) (known : List Context) (node : ℕ) (tag : Tag) (key number : ℕ) : Type 0 where
  pub form : Head
  pub nodes : PlainNodes
  pub is : node_at T node ≡ row form nodes
  pub search : is_search form ≡ true
  pub known_tag : IsKnown known tag
  pub stream : ℕ
  pub part : part_number T node 1 ≡ Some stream
  pub counted : Counted (equations_of T) b (node_at T stream) (context_of known tag) (space_of tag) (cursor_noted form key number).time (cursor_noted form key number).count

abbrev pub AllNotedRight : Table → Elements → List Context → Noted → Type 0
AllNotedRight T b known noted = (node : ℕ) (tag : Tag) (key number : ℕ) → number_at noted node tag key ≡ Some number → NotedRight T b known node tag key number

-- what the looks before a noted position need is held
abbrev pub AllNotedClosed : Table → Elements → List Context → Noted → Holding → Type 0
AllNotedClosed T b known noted h =
    (node : ℕ) (tag : Tag) (key number : ℕ) → number_at noted node tag key ≡ Some number → (f : Head) (es : PlainNodes) → node_at T node ≡ row f es
    → (stream : ℕ) → part_number T node 1 ≡ Some stream → (u : ℕ) → u < (cursor_noted f key number).time
    → NeedsHeld (equations_of T) b h (node_at T stream) (context_of known tag) u (space_of tag)
