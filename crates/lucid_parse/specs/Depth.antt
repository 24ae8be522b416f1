-- The places of the nodes at a depth, and how they are found among the nodes of a tree.
use Rattle.std.specs.Prelude.{ℕ, zero, suc, pred, ◌≤◌, List, [], ◌∷◌, ◌++◌, Option, Some, None, min, cond, nat_eq, All, Contains}
use Rattle.lucid_tree.specs.Tree.{PlainTree, form, name, call, block, PlainTrees, no_trees, tree, PlainDefs, no_defs, defines, defines_function, defines_current}
use Rattle.lucid_parse.specs.declared.state.Item.{Item}
use Rattle.lucid_parse.specs.declared.state.Item.TheVariants as item
use Rattle.lucid_parse.specs.declared.state.Defines.TheVariants as kind
use Rattle.lucid_parse.specs.Grammar.{arity_of}

-- the place, where the depth is 1
abbrev pub here : ℕ → ℕ → List ℕ
here sought at = cond (nat_eq sought 1) (at ∷ []) []

-- The places of a tree's nodes at a depth; the root has depth 1, and a part of a node has one more than the node.
unfoldable mutual
  pub at_depth : ℕ → PlainTree → List ℕ
  at_depth sought (form at head parts) = at_depth_in (pred sought) parts ++ here sought at
  at_depth sought (name at n) = here sought at
  at_depth sought (call at n args) = at_depth_in (pred sought) args ++ here sought at
  at_depth sought (block at subject defs) = at_depth (pred sought) subject ++ (at_depth_in_defs (pred sought) defs ++ here sought at)

  pub at_depth_in : ℕ → PlainTrees → List ℕ
  at_depth_in sought no_trees = []
  at_depth_in sought (tree one more) = at_depth sought one ++ at_depth_in sought more

  pub at_depth_in_defs : ℕ → PlainDefs → List ℕ
  at_depth_in_defs sought no_defs = []
  at_depth_in_defs sought (defines at n right_side more) = at_depth sought right_side ++ at_depth_in_defs sought more
  at_depth_in_defs sought (defines_function at n names places right_side more) = at_depth sought right_side ++ at_depth_in_defs sought more
  at_depth_in_defs sought (defines_current at n right_side more) = at_depth sought right_side ++ at_depth_in_defs sought more

-- The least of the places.
pub record IsLeast (places : List ℕ) (at : ℕ) : Type 0 where
  pub among : Contains places at
  pub least : All (λ place. at ≤ place) places

-- the lesser of a place and what was found
abbrev pub lesser : ℕ → Option ℕ → Option ℕ
lesser at None = Some at
lesser at (Some other) = Some (min at other)

abbrev pub least_in : Option ℕ → List ℕ → Option ℕ
least_in best [] = best
least_in best (one ∷ more) = lesser one (least_in best more)

-- what the node finds
abbrev pub found : {N V : Type 0} → Item N V → ℕ → Option ℕ → Option ℕ
found (item.Const at value) sought best = least_in best (here sought at)
found (item.Name at n) sought best = least_in best (here sought at)
found (item.Operator operator at) sought best = least_in best (here sought at)
found (item.Call at n) sought best = least_in best (here sought at)
found (item.Block at) sought best = least_in best (here sought at)
found _ sought best = best

-- so many times the number, in front of the list
abbrev pub copies : ℕ → ℕ → List ℕ → List ℕ
copies zero sought rest = rest
copies (suc n) sought rest = sought ∷ copies n sought rest

-- the depths of its parts, the last first
abbrev pub below : {N V : Type 0} → Item N V → ℕ → List ℕ → List ℕ
below (item.Operator operator at) sought rest = copies (arity_of operator) (pred sought) rest
below (item.Call at n) sought rest = copies 1 (pred sought) rest
below (item.Block at) sought rest = copies 2 (pred sought) rest
below item.More sought rest = copies 2 sought rest
below (item.Def kind.Function at n) sought rest = copies 3 sought rest
below (item.Def what at n) sought rest = copies 2 sought rest
below (item.Param at n) sought rest = copies 1 sought rest
below _ sought rest = rest

-- from the last node to the first, with the depths that are sought from each
abbrev pub search_from : {N V : Type 0} → List (Item N V) → List ℕ → Option ℕ → Option ℕ
search_from [] rest best = best
search_from (last ∷ earlier) [] best = best
search_from (last ∷ earlier) (sought ∷ rest) best = search_from earlier (below last sought rest) (found last sought best)
