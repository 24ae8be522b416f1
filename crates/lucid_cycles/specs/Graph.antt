-- The references of a judged program as a graph: its nodes are the plain names, and its edges have delays. The test of cycles by sums
-- of delays is this language's own.
use Rattle.std.specs.Prelude.{ℕ, max, List, [], ◌∷◌, ◌++◌, map, count_by, nat_lt, Option, Some, None, option_map, ℤ, pos, ◌+ℤ◌, ◌-ℤ◌}
use Rattle.lucid_tree.specs.declared.form.Delay.{Delay}
use Rattle.lucid_tree.specs.Forms.{form_row}
use Rattle.lucid_tree.specs.declared.form.Delay.TheVariants.{Zero, Less, More}
use Rattle.lucid_tree.specs.Tree.{Head, stream, PlainTree, form, name, call, block, PlainTrees, no_trees, tree, PlainDefs, no_defs, defines, defines_function, defines_current}
use Rattle.lucid_scope.specs.declared.scoped.Binding.{Binding}
use Rattle.lucid_scope.specs.declared.scoped.Binding.TheVariants.{Plain}
use Rattle.lucid_cycles.specs.declared.edge.Edge.{Edge}
use Rattle.lucid_cycles.specs.Judged.{plain_names}

-- what the name at each place belongs to
abbrev pub Bindings : Type 0
Bindings = ℕ → Option Binding

-- the edge of a reference, where it is one of a plain name
abbrev pub edge_to : (from : Option ℕ) → (delay : ℤ) → Option Binding → List Edge
edge_to x w (Some (Plain d)) = record { from = x; to = d; delay = w } ∷ []
edge_to x w _ = []

-- The delay at which the first part of a form is met, where the form is met at w, and that at which its later parts are, as its row says: it
-- becomes 0 in `first`, falls by 1 in `next`, and rises by 1 in the right part of `fby`.
abbrev pub first_by : Delay → ℤ → ℤ
first_by Zero w = pos 0
first_by Less w = w -ℤ pos 1
first_by _ w = w

abbrev pub later_by : Delay → ℤ → ℤ
later_by More w = w +ℤ pos 1
later_by d w = first_by d w

abbrev pub first_delay : Head → ℤ → ℤ
first_delay (stream f) w = first_by (form_row f).delay w
first_delay _ w = w

abbrev pub later_delay : Head → ℤ → ℤ
later_delay (stream f) w = later_by (form_row f).delay w
later_delay _ w = w

-- The edges of a tree's references, names being told by the places of their definitions. An edge goes from the name in whose right
-- side the reference stands, or from the program (none) where it stands in no right side; a block's subject belongs to what the block
-- stands in. The delay begins at 0 in a right side and is followed inwards to the reference. A judged program has no functions and no
-- current names; elsewhere their right sides count as those of names do.
abbrev mutual
  pub edges : Bindings → (from : Option ℕ) → (delay : ℤ) → PlainTree → List Edge
  edges b x w (form at f es) = edges_in b x (first_delay f w) (later_delay f w) es
  edges b x w (name at n) = edge_to x w (b at)
  edges b x w (call at n es) = edges_in b x w w es
  edges b x w (block at e ds) = edges b x w e ++ edges_in_defs b ds

  -- those of parts, the first of which has one delay, and the later ones another
  pub edges_in : Bindings → (from : Option ℕ) → (delay later : ℤ) → PlainTrees → List Edge
  edges_in b x w v no_trees = []
  edges_in b x w v (tree e es) = edges b x w e ++ edges_in b x v v es

  pub edges_in_defs : Bindings → PlainDefs → List Edge
  edges_in_defs b no_defs = []
  edges_in_defs b (defines at n e ds) = edges b (Some at) (pos 0) e ++ edges_in_defs b ds
  edges_in_defs b (defines_function at n ns ats e ds) = edges b (Some at) (pos 0) e ++ edges_in_defs b ds
  edges_in_defs b (defines_current at n e ds) = edges b (Some at) (pos 0) e ++ edges_in_defs b ds

-- The number of a name: how many plain names are defined at lesser places.
abbrev pub number : (names : List ℕ) → (def : ℕ) → ℕ
number ds d = count_by (λ x. nat_lt x d) ds

-- an edge, its names by their numbers
abbrev pub numbered : (names : List ℕ) → Edge → Edge
numbered ds e = record { from = option_map (number ds) e.from; to = number ds e.to; delay = e.delay }

-- The graph of a program: its edges, names by their numbers.
abbrev pub graph : PlainTree → Bindings → List Edge
graph e b = map (numbered (plain_names e)) (edges b None (pos 0) e)

-- how many plain names a program has, but at least 1
abbrev pub factor_of : (names : ℕ) → ℕ
factor_of n = max 1 n
