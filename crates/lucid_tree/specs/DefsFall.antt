-- No tree in a block's definitions has as many nodes as these together.
use Rattle.std.specs.Prelude.{ℕ, ◌≤◌, ◌+◌, ◌*◌, max, List, [], ◌∷◌}
use Rattle.std.proofs.Common.{arith}
use denote.Param.Weighed.{most}
use Rattle.lucid_tree.specs.Tree.{PlainDefs}
use Rattle.lucid_tree.specs.Size.{nodes_in_defs}
use Rattle.lucid_tree.specs.DefsView.{defs_of, def_of}
use Rattle.lucid_tree.specs.declared.tree.Defs.TheDeep.{deep-Def, deep-DefKind}
use Rattle.lucid_tree.specs.declared.tree.Def.{Def}
use Rattle.lucid_tree.specs.declared.tree.DefKind.{DefKind}
use Rattle.lucid_tree.specs.declared.tree.DefKind.TheVariants.{Plain, Function, Current}

deep_le-def : (at : ℕ) (x : List ℕ) (k : DefKind) (ds : PlainDefs) (n : ℕ) → n ≤ 2 * nodes_in_defs ds + 1 → max (max (deep-DefKind k) 0) n ≤ 2 * nodes_in_defs (def_of at x k ds) + 1
deep_le-def at x (Plain e) ds n h = omega arith
deep_le-def at x (Function ps ats e) ds n h = omega arith
deep_le-def at x (Current e) ds n h = omega arith

pub most_le-nodes_in_defs : (ds : List Def) → most deep-Def ds ≤ 2 * nodes_in_defs (defs_of ds) + 1
most_le-nodes_in_defs [] = omega arith
most_le-nodes_in_defs (d ∷ ds) = omega (arith, deep_le-def d.at d.name d.kind (defs_of ds) (most deep-Def ds) (most_le-nodes_in_defs ds))
