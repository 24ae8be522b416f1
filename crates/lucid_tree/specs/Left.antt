-- The parts of a node, or the definitions of a block, that are still to come; and what taking the first of them gives.
use Rattle.std.specs.Prelude.{◌≡◌, Option, MatchOption}
use Rattle.std.specs.Borrow.{Bor}
use Rattle.lucid_tree.specs.Tree.{PlainTree, PlainTrees, no_trees, tree, PlainDefs, no_defs}
use Rattle.lucid_tree.specs.Lists.{trees_of}
use Rattle.lucid_tree.specs.DefsView.{one_def}
use Rattle.lucid_tree.specs.declared.tree.Def.{Def}
use Rattle.lucid_tree.specs.declared.parts.Left.{Left}
use Rattle.lucid_tree.specs.declared.parts.Left.TheVariants.{One, Two, Three, Slice}

-- the parts that are still to come, as one plain form
abbrev pub left_of : Left → PlainTrees
left_of (One a) = tree a.now no_trees
left_of (Two a b) = tree a.now (tree b.now no_trees)
left_of (Three a b c) = tree a.now (tree b.now (tree c.now no_trees))
left_of (Slice es) = trees_of es.now

-- The first part is taken, and those after it are left; or none is left.
abbrev pub TakesPart : PlainTrees → Option (Bor PlainTree) → PlainTrees → Type 0
TakesPart es r fs = MatchOption r ((es ≡ no_trees) × (fs ≡ no_trees)) (λ x. es ≡ tree x.now fs)

-- the same of definitions
abbrev pub TakesDef : PlainDefs → Option (Bor Def) → PlainDefs → Type 0
TakesDef ds r es = MatchOption r ((ds ≡ no_defs) × (es ≡ no_defs)) (λ d. ds ≡ one_def d.now es)
