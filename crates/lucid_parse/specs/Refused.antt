-- What a refusal says of the terminals.
use Rattle.std.specs.Prelude.{ℕ, ◌+◌, List, ◌<◌}
use Rattle.lucid_tree.specs.Tree.{PlainTree}
use Rattle.lucid_tree.specs.WellMade.{depth, most_tree_depth}
use Rattle.lucid_parse.specs.declared.refusal.ParseRefusal.{ParseRefusal}
use Rattle.lucid_parse.specs.declared.refusal.ParseRefusal.TheVariants as refusal
use Rattle.lucid_parse.specs.Grammar.{PlacedTerminal, Spells}
use Rattle.lucid_parse.specs.Depth.{at_depth, IsLeast}
use Rattle.lucid_parse.specs.Verdict.{SpellsNone, IsFault}

-- Syntax: the terminals spell no tree, and the place is that of the fault. TooNested: they spell a tree that is too deep, and the
-- place is the least of a node at the first depth that is. For want of memory any terminals may be refused.
abbrev pub AreRefused : ParseRefusal → List PlacedTerminal → (end : ℕ) → Type 0
AreRefused (refusal.Syntax at) terminals end = SpellsNone terminals × IsFault terminals end at
AreRefused (refusal.TooNested at) terminals end = (tree : PlainTree) × Spells 0 terminals tree × (most_tree_depth < depth tree) × IsLeast (at_depth (most_tree_depth + 1) tree) at
AreRefused refusal.NoMemory terminals end = Unit {0}
