-- What an approximation of a node visits: the elements that it consults, the datons that it goes to, the contexts that it enters.
use Rattle.std.specs.Prelude.{◌≡◌, ℕ, zero, suc, ◌+◌, List, [], ◌∷◌, ◌++◌, Some}
use Rattle.std.specs.List.{filter_map}
use Rattle.lucid_value.specs.Plain.{PlainValue}
use Rattle.lucid_tree.specs.Rows.{plan, trace}
use Rattle.lucid_tree.specs.Members.{In}
use Rattle.lucid_tree.specs.Levels.{element_of, goes_to, nowhere, Elements, Given, nothing_held, below, Event, entered, deeper, look_up_of, reference_of, entered_of, valued_of}
use Rattle.lucid_tags.specs.Contexts.{Context, root, frozen_frame}
use Rattle.lucid_equations.specs.Nodes.{PlainNode, row, freeze, reference, invoke, PlainNodes, no_nodes, node, Equations}
use Rattle.lucid_equations.specs.Datons.{Daton, NodePosition, NodeAim, reference_aim, call_aim}
use Rattle.lucid_equations.specs.Values.{part_at, node_value, node_val}

-- what a walk of nodes meets, in order
abbrev pub NodeEvents : Type 0
NodeEvents = List (Event Daton NodePosition Context)

-- the context that a call enters: its daton's, which has the call's own frame, wherever the call goes on
abbrev pub context_of : NodeAim → NodeEvents
context_of (element_of n j) = []
context_of (goes_to d x u) = entered d.context ∷ []
context_of nowhere = []

-- The walk at m, where choices are those of the approximation m + d, and `deep` is what references meet.
abbrev mutual
  pub walk_at : Equations → Given Daton → (m d : ℕ) → (deep : NodeAim → ℕ → NodeEvents) → PlainNode → Context → (time space : ℕ) → NodeEvents
  walk_at p g m d deep (row f es) c t s =
      trace m (plan (m + d) f t s) (λ i u r. part_at p (m + d) (below (node_value p) g (m + d)) es c i u r) (λ i u r. walk_part p g m d deep es c i u r)
  walk_at p g m d deep (freeze e) c t s = entered (frozen_frame t c) ∷ walk_at p g m d deep e (frozen_frame t c) t s
  walk_at p g m d deep (reference r) c t s = deep (reference_aim p r c t) s
  walk_at p g m d deep (invoke n at l) c t s = context_of (call_aim p n at l c t) ++ deep (call_aim p n at l c t) s

  -- that of a part, by its number
  pub walk_part : Equations → Given Daton → (m d : ℕ) → (deep : NodeAim → ℕ → NodeEvents) → PlainNodes → Context → (part time space : ℕ) → NodeEvents
  walk_part p g m d deep no_nodes c i t s = []
  walk_part p g m d deep (node e es) c zero t s = walk_at p g m d deep e c t s
  walk_part p g m d deep (node e es) c (suc i) t s = walk_part p g m d deep es c i t s

-- the walk from a position
abbrev pub node_walk : Equations → Given Daton → (m d : ℕ) → (deep : NodeAim → ℕ → NodeEvents) → NodePosition → (time space : ℕ) → NodeEvents
node_walk p g m d deep x t s = walk_at p g m d deep x.node x.context t s

-- All that the walk from a node meets on paths of at most m references, where the approximation m + d decides the choices.
abbrev pub node_visits : Equations → Elements → (m d : ℕ) → PlainNode → Context → (time space : ℕ) → NodeEvents
node_visits p b m d e c t s = walk_at p (nothing_held b) m d (deeper (node_walk p (nothing_held b)) m d) e c t s

-- and all that it meets from the root in the empty context
abbrev pub visits : Equations → Elements → (m d : ℕ) → (time space : ℕ) → NodeEvents
visits p b m d t s = node_visits p b m d p.root root t s

-- The pairs of an input and an index that are looked up.
abbrev pub consults_on_nodes : Equations → Elements → (m d : ℕ) → (time space : ℕ) → List (List ℕ × ℕ)
consults_on_nodes p b m d t s = filter_map look_up_of (visits p b m d t s)

-- The datons that are gone to, each at its space.
abbrev pub visited_datons : Equations → Elements → (m d : ℕ) → (time space : ℕ) → List (Daton × ℕ)
visited_datons p b m d t s = filter_map reference_of (visits p b m d t s)

-- The datons that the m-th approximation itself goes to, each at its space and with its value at m.
abbrev pub visited_values : Equations → Elements → ℕ → (time space : ℕ) → List (Daton × ℕ × PlainValue)
visited_values p b m t s = filter_map (valued_of (λ x u r. node_val p b m x.node x.context u r)) (visits p b m 0 t s)

-- The contexts that frozen times and calls enter.
abbrev pub visited_contexts : Equations → Elements → (m d : ℕ) → (time space : ℕ) → List Context
visited_contexts p b m d t s = filter_map entered_of (visits p b m d t s)

-- The daton, at a space, is needed for the value of a node: an approximation that gives the node a value goes to it.
abbrev pub IsNeeded : Equations → Elements → PlainNode → Context → (time space : ℕ) → Daton × ℕ → Type 0
IsNeeded p b e c t s d = (m : ℕ) × (v : PlainValue) × (node_val p b m e c t s ≡ Some v) × In d (filter_map reference_of (node_visits p b m 0 e c t s))
