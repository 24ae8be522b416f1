-- The approximations of nodes, and what nodes mean. The rows of forms and the levels of references are those of trees.
use Rattle.std.specs.Prelude.{◌≡◌, ℕ, zero, suc, Option, Some, None}
use Rattle.lucid_value.specs.Plain.{PlainValue}
use Rattle.lucid_tree.specs.Rows.{plan, run}
use Rattle.lucid_tree.specs.Levels.{Elements, Given, nothing_held, Below, approximation}
use Rattle.lucid_tags.specs.Contexts.{Context, root, frozen_frame}
use Rattle.lucid_equations.specs.Nodes.{PlainNode, row, freeze, reference, invoke, PlainNodes, no_nodes, node, Equations}
use Rattle.lucid_equations.specs.Datons.{Daton, NodePosition, reference_aim, call_aim}

-- The value of a node at m, where the references have the values `b`.
abbrev mutual
  pub value_at : Equations → (m : ℕ) → Below Daton NodePosition → PlainNode → Context → (time space : ℕ) → Option PlainValue
  value_at p m b (row f es) c t s = run (plan m f t s) (λ i u r. part_at p m b es c i u r)
  value_at p m b (freeze e) c t s = value_at p m b e (frozen_frame t c) t s
  value_at p m b (reference r) c t s = b (reference_aim p r c t) s
  value_at p m b (invoke n at l) c t s = b (call_aim p n at l c t) s

  -- that of a part, by its number
  pub part_at : Equations → (m : ℕ) → Below Daton NodePosition → PlainNodes → Context → (part time space : ℕ) → Option PlainValue
  part_at p m b no_nodes c i t s = None
  part_at p m b (node e es) c zero t s = value_at p m b e c t s
  part_at p m b (node e es) c (suc i) t s = part_at p m b es c i t s

-- the value at a position
abbrev pub node_value : Equations → (m : ℕ) → Below Daton NodePosition → NodePosition → (time space : ℕ) → Option PlainValue
node_value p m b x t s = value_at p m b x.node x.context t s

-- The approximation m of a node with held datons: a reference whose daton is held has its held value at any m, 0 too.
abbrev pub node_hval : Equations → Given Daton → ℕ → PlainNode → Context → (time space : ℕ) → Option PlainValue
node_hval p g m e c t s = approximation (node_value p) g m (record { node = e; context = c }) t s

-- the approximation m of a node: nothing is held
abbrev pub node_val : Equations → Elements → ℕ → PlainNode → Context → (time space : ℕ) → Option PlainValue
node_val p b m e c t s = node_hval p (nothing_held b) m e c t s

-- The approximations of the root in the empty context.
abbrev pub eqhval : Equations → Given Daton → ℕ → (time space : ℕ) → Option PlainValue
eqhval p g m t s = node_hval p g m p.root root t s

abbrev pub eqval : Equations → Elements → ℕ → (time space : ℕ) → Option PlainValue
eqval p b m t s = eqhval p (nothing_held b) m t s

-- The node means the value at a point: some approximation gives it there.
abbrev pub NodeMeans : Equations → Elements → PlainNode → Context → (time space : ℕ) → PlainValue → Type 0
NodeMeans p b e c t s v = (m : ℕ) × (node_val p b m e c t s ≡ Some v)
