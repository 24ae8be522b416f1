-- A tree is no deeper than it has nodes, and has no more nodes than places.
use Rattle.lucid_tree.proofs.Common.{◌≤◌, ◌++◌, length, arith, PlainTree, form, name, call, block, PlainTrees, no_trees, tree, PlainDefs, no_defs, defines, defines_function, defines_current, nodes, nodes_in, nodes_in_defs, depths, depths_in_defs, length-append}
use Rattle.lucid_tree.specs.WellMade.{depth, places, places_in, places_in_defs}

mutual
  pub depth_le-nodes : (e : PlainTree) → depth e ≤ nodes e
  depth_le-nodes (form at f es) = omega (arith, depths_le-nodes es)
  depth_le-nodes (name at n) = omega arith
  depth_le-nodes (call at n es) = omega (arith, depths_le-nodes es)
  depth_le-nodes (block at e ds) = omega (arith, depth_le-nodes e, def_depths_le-nodes ds)

  pub depths_le-nodes : (es : PlainTrees) → depths es ≤ nodes_in es
  depths_le-nodes no_trees = omega arith
  depths_le-nodes (tree e es) = omega (arith, depth_le-nodes e, depths_le-nodes es)

  pub def_depths_le-nodes : (ds : PlainDefs) → depths_in_defs ds ≤ nodes_in_defs ds
  def_depths_le-nodes no_defs = omega arith
  def_depths_le-nodes (defines at x e ds) = omega (arith, depth_le-nodes e, def_depths_le-nodes ds)
  def_depths_le-nodes (defines_function at x ns ats e ds) = omega (arith, depth_le-nodes e, def_depths_le-nodes ds)
  def_depths_le-nodes (defines_current at x e ds) = omega (arith, depth_le-nodes e, def_depths_le-nodes ds)

mutual
  pub nodes_le-places : (e : PlainTree) → nodes e ≤ length (places e)
  nodes_le-places (form at f es) = omega (arith, nodes_in_le-places es)
  nodes_le-places (name at n) = omega arith
  nodes_le-places (call at n es) = omega (arith, nodes_in_le-places es)
  nodes_le-places (block at e ds) =
      omega (arith, nodes_le-places e, nodes_in_defs_le-places ds, length-append (places e) (places_in_defs ds))

  nodes_in_le-places : (es : PlainTrees) → nodes_in es ≤ length (places_in es)
  nodes_in_le-places no_trees = omega arith
  nodes_in_le-places (tree e es) = omega (arith, nodes_le-places e, nodes_in_le-places es, length-append (places e) (places_in es))

  nodes_in_defs_le-places : (ds : PlainDefs) → nodes_in_defs ds ≤ length (places_in_defs ds)
  nodes_in_defs_le-places no_defs = omega arith
  nodes_in_defs_le-places (defines at x e ds) =
      omega (arith, nodes_le-places e, nodes_in_defs_le-places ds, length-append (places e) (places_in_defs ds))
  nodes_in_defs_le-places (defines_function at x ns ats e ds) =
      omega (arith, nodes_le-places e, nodes_in_defs_le-places ds, length-append (ats ++ places e) (places_in_defs ds), length-append ats (places e))
  nodes_in_defs_le-places (defines_current at x e ds) =
      omega (arith, nodes_le-places e, nodes_in_defs_le-places ds, length-append (places e) (places_in_defs ds))
