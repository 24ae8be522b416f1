-- What a descent has still to do: the marks that it will note, and how much that is.
use Rattle.std.specs.Prelude.{ℕ, ◌+◌, List, [], ◌∷◌, ◌++◌}
use Rattle.lucid_tree.specs.Tree.{PlainTree, form, name, call, block, PlainTrees, no_trees, tree, PlainDefs, no_defs, defines, defines_function, defines_current}
use Rattle.lucid_tree.specs.declared.tree.DefKind.{DefKind}
use Rattle.lucid_tree.specs.declared.tree.DefKind.TheVariants.{Plain, Function, Current as CurrentKind}
use Rattle.lucid_scope.specs.Sites.{no_names}
use Rattle.lucid_scope.specs.Owners.{look, put_back}
use Rattle.lucid_scope.specs.Walks.{Owned, in_block_owned, marks, marks_in, outside_marks, inside_marks, is_seen}
use Rattle.lucid_scope.specs.declared.marks.Mark.{Mark}
use Rattle.lucid_scope.specs.declared.steps.Step.{Step}
use Rattle.lucid_scope.specs.declared.steps.Step.TheVariants.{Parts, Outside, Open, Inside, Close}
use Rattle.lucid_scope.specs.declared.walk.Walk.{Walk}

-- the marks that steps will note, the next step first, where names have these owners
abbrev pub pending : Owned → List Step → List Mark
pending f [] = []
pending f (Parts es ∷ st) = marks_in f es ++ pending f st
pending f (Outside ds ∷ st) = outside_marks f ds ++ pending f st
pending f (Open e ds ∷ st) = marks (in_block_owned ds.now f) e.now ++ (inside_marks (in_block_owned ds.now f) no_names ds.now ++ pending f st)
pending f (Inside ds seen ∷ st) = inside_marks f (is_seen seen) ds ++ pending f st
pending f (Close saved ∷ st) = pending (put_back saved.items f) st

-- the marks that are noted, and those that will be
abbrev pub told : Walk → List Step → List Mark
told w st = w.marks.items ++ pending (look w.table) st

-- How many steps a tree takes, its own beginning not counted.
abbrev mutual
  pub work : PlainTree → ℕ
  work (form at h es) = work_in es
  work (name at x) = 0
  work (call at x es) = work_in es
  work (block at e ds) = work_outside ds + (work e + work_inside ds + 2)

  pub work_in : PlainTrees → ℕ
  work_in no_trees = 1
  work_in (tree e es) = work e + work_in es + 1

  pub work_outside : PlainDefs → ℕ
  work_outside no_defs = 1
  work_outside (defines at x e ds) = work_outside ds + 1
  work_outside (defines_function at x ns ats e ds) = work_outside ds + 1
  work_outside (defines_current at x e ds) = work e + work_outside ds + 1

  pub work_inside : PlainDefs → ℕ
  work_inside no_defs = 1
  work_inside (defines at x e ds) = work e + work_inside ds + 1
  work_inside (defines_function at x ns ats e ds) = work e + work_inside ds + 2
  work_inside (defines_current at x e ds) = work_inside ds + 1

-- how many steps a definition's right side takes outside its block
abbrev pub outer_work : DefKind → ℕ
outer_work (Plain e) = 0
outer_work (Function ps ats e) = 0
outer_work (CurrentKind e) = work e

-- and inside it
abbrev pub inner_work : DefKind → ℕ
inner_work (Plain e) = work e
inner_work (Function ps ats e) = work e + 1
inner_work (CurrentKind e) = 0

-- how many steps are left
abbrev pub work_left : List Step → ℕ
work_left [] = 0
work_left (Parts es ∷ st) = work_in es + work_left st
work_left (Outside ds ∷ st) = work_outside ds + work_left st
work_left (Open e ds ∷ st) = work e.now + work_inside ds.now + 2 + work_left st
work_left (Inside ds seen ∷ st) = work_inside ds + work_left st
work_left (Close saved ∷ st) = 1 + work_left st
