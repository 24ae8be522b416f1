use Rattle.lucid_tree.proofs.Common.{arith}
use Rattle.lucid_tree.proofs.Depths.{nodes_le-places}
use Rattle.lucid_tree.proofs.tree.Tree.depth.Goals as goal

pub depth_of-requires : goal.depth_of-requires
depth_of-requires c = omega (arith, nodes_le-places c.args.self.now, c.requires.few)
