-- The operators of a tree that is well made have their numbers of arguments.
use Rattle.lucid_test_programs.proofs.Common.{◌≡◌, length, true, arith, nat_tests, apply, PlainTree, form, PlainTrees, no_trees, tree, PlainDefs, no_defs, defines, defines_function, defines_current, Applies, AllApply, DefsApply, ◌&&◌, nat_eq, nat_lt, and_parts}
use Rattle.lucid_tree.specs.Tree.{Head, name, call, block}
use Rattle.lucid_tree.specs.WellMade.{fits_arity, is_shaped, are_shaped, defs_are_shaped}
use Rattle.lucid_test_programs.specs.Small.{FitsArity}

fits : (f : Head) (es : PlainTrees) → fits_arity f es ≡ true → FitsArity f es
fits (apply op n) es h = grind (arith, nat_tests)
fits _ es h = tt

mutual
  pub shaped_applies : (e : PlainTree) → is_shaped e ≡ true → Applies e
  shaped_applies (form at f es) h = let p = and_parts (fits_arity f es) (are_shaped es) h in (fits f es p.0, all_apply es p.1)
  shaped_applies (name at n) h = tt
  shaped_applies (call at n es) h = all_apply es h
  shaped_applies (block at e ds) h = let p = and_parts (is_shaped e) (defs_are_shaped ds) h in (shaped_applies e p.0, defs_apply ds p.1)

  all_apply : (es : PlainTrees) → are_shaped es ≡ true → AllApply es
  all_apply no_trees h = tt
  all_apply (tree e es) h = let p = and_parts (is_shaped e) (are_shaped es) h in (shaped_applies e p.0, all_apply es p.1)

  defs_apply : (ds : PlainDefs) → defs_are_shaped ds ≡ true → DefsApply ds
  defs_apply no_defs h = tt
  defs_apply (defines at x e ds) h = let p = and_parts (is_shaped e) (defs_are_shaped ds) h in (shaped_applies e p.0, defs_apply ds p.1)
  defs_apply (defines_function at x ns ats e ds) h =
      let p = and_parts (nat_lt 0 (length ns) && nat_eq (length ats) (length ns) && is_shaped e) (defs_are_shaped ds) h in
      let q = and_parts (nat_lt 0 (length ns) && nat_eq (length ats) (length ns)) (is_shaped e) p.0 in (shaped_applies e q.1, defs_apply ds p.1)
  defs_apply (defines_current at x e ds) h = let p = and_parts (is_shaped e) (defs_are_shaped ds) h in (shaped_applies e p.0, defs_apply ds p.1)
