use Rattle.lucid_tree.proofs.Common.{ap, arith, nodes, depths, depths_in_defs}
use Rattle.lucid_tree.proofs.Depths.{depth_le-nodes, depths_le-nodes, def_depths_le-nodes}
use Rattle.lucid_tree.proofs.depth.+depth.Goals as goal

pub depth_of-overflow_add-result : goal.depth_of-overflow_add-result
depth_of-overflow_add-result t c = omega (arith, depths_le-nodes c.in-Form.parts, ap nodes c.in-Form.ensures.tree, c.requires, c.depth_of_parts.ensures)

pub depth_of-overflow_add-result-in-Call : goal.depth_of-overflow_add-result-in-Call
depth_of-overflow_add-result-in-Call t c = omega
    (arith, depths_le-nodes c.in-Call.args.now, ap nodes c.in-Call.ensures.tree, c.requires, c.depth_of_parts-in-Call.ensures, ap depths c.parts.ensures)

pub depth_of-overflow_add-result-in-Scope : goal.depth_of-overflow_add-result-in-Scope
depth_of-overflow_add-result-in-Scope t c =
    omega (
      arith,
      depth_le-nodes c.in-Scope.subject.now,
      def_depths_le-nodes c.in-Scope.defs.now,
      ap nodes c.in-Scope.ensures.tree,
      c.requires,
      c.depth_of.ensures,
      c.depth_of_defs.ensures,
      ap depths_in_defs c.definitions.ensures,
    )
