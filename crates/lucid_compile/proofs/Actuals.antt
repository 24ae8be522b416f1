-- The actuals of a call place, one by one.
use Rattle.lucid_compile.proofs.Common.{◌≡◌, ℕ, zero, suc, List, [], ◌∷◌, Option, Some, None, slice_get, refl, option_map, PlainTrees, no_trees, tree, tree_at, PlainNode, PlainNodes, no_nodes, node, at, all_at, PlaceRow, Numbers, node_for, nodes_for, actuals_of}
use Rattle.lucid_compile.specs.Static.{Static}

-- the node of that index among some nodes
abbrev pub at_number : PlainNodes → ℕ → Option PlainNode
at_number no_nodes i = None
at_number (node e es) zero = Some e
at_number (node e es) (suc i) = at_number es i

abbrev pub at_number_of : Option PlainNodes → ℕ → Option PlainNode
at_number_of None i = None
at_number_of (Some es) i = at_number es i

pub at_number-all_at : (ts : List PlainNode) (js : List ℕ) (i : ℕ) → option_map (at ts) (slice_get js i) ≡ at_number (all_at ts js) i
at_number-all_at ts [] i = refl
at_number-all_at ts (j ∷ js) zero = refl
at_number-all_at ts (j ∷ js) (suc i) = at_number-all_at ts js i

pub at_number-nodes_for : (nu : Numbers) (k : Static) (es : PlainTrees) (i : ℕ)
    → option_map (λ e. node_for nu k e) (tree_at es i) ≡ at_number (nodes_for nu k es) i
at_number-nodes_for nu k no_trees i = refl
at_number-nodes_for nu k (tree e es) zero = refl
at_number-nodes_for nu k (tree e es) (suc i) = at_number-nodes_for nu k es i

pub actuals-read : (ts : List PlainNode) (o : Option PlaceRow) (i : ℕ)
    → option_map (at ts) (slice_get (actuals_of o) i) ≡ at_number_of (option_map (λ r. all_at ts r.actuals) o) i
actuals-read ts None i = refl
actuals-read ts (Some r) i = at_number-all_at ts r.actuals i
