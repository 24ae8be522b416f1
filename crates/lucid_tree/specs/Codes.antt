-- How the logic stores a plain tree: as a tree of numbers that gives it back.
use Rattle.std.proofs.Common.{◌≡◌, ℕ, zero, suc, List, [], ◌∷◌, refl, ap, ◌∙◌, get_or}
use Rattle.std.specs.Option.{unwrap_or}
use Rattle.std.specs.Coded.{Coded, code_by}
use base.Stored.{Gv, gnil, gnum, gcons}
use denote.Struct.Codes.{itself}
use Rattle.lucid_value.specs.Codes.{value_code, value_back, value_there, bytes_code, bytes_back, bytes_there}
use Rattle.lucid_ops.specs.declared.op.Op.TheVariants.{Add}
use Rattle.lucid_ops.specs.Codes.{operators, operator_number, operator_there}
use Rattle.lucid_tree.specs.Forms.{form_row, spelled, found}
use Rattle.lucid_tree.specs.declared.form.Form.TheVariants.{If}
use Rattle.lucid_tree.specs.Tree.{Head, const, apply, stream, PlainTree, form, name, call, block, PlainTrees, no_trees, tree, PlainDefs, no_defs, defines, defines_function, defines_current}

-- a form over streams by its word
abbrev head_code : Head → Gv
head_code (const v) = gcons gnil (value_code v)
head_code (apply op n) = gcons (gnum (operator_number op)) (gnum n)
head_code (stream f) = gcons (gcons gnil gnil) (bytes_code (form_row f).spelling)

abbrev head_back : Gv → Head
head_back (gcons (gnum o) (gnum n)) = apply (get_or operators o Add) n
head_back (gcons gnil v) = const (value_back v)
head_back (gcons (gcons a b) w) = stream (unwrap_or (spelled (bytes_back w)) If)
head_back _ = stream If

head_there : (f : Head) → head_back (head_code f) ≡ f
head_there (const v) = ap const (value_there v)
head_there (apply op n) = ap (λ o. apply o n) (operator_there op)
head_there (stream f) = ap (λ w. stream (unwrap_or (spelled w) If)) (bytes_there (form_row f).spelling) ∙ ap (λ o. stream (unwrap_or o If)) (found f)

abbrev names_code : List (List ℕ) → Gv
names_code [] = gnil
names_code (n ∷ ns) = gcons (bytes_code n) (names_code ns)

abbrev names_back : Gv → List (List ℕ)
names_back (gcons n more) = bytes_back n ∷ names_back more
names_back _ = []

names_there : (ns : List (List ℕ)) → names_back (names_code ns) ≡ ns
names_there [] = refl
names_there (n ∷ ns) = λ i. bytes_there n i ∷ names_there ns i

abbrev mutual
  pub tree_code : PlainTree → Gv
  tree_code (form at f es) = gcons (gnum 0) (gcons (gnum at) (gcons (head_code f) (trees_code es)))
  tree_code (name at n) = gcons (gnum 1) (gcons (gnum at) (bytes_code n))
  tree_code (call at n es) = gcons (gnum 2) (gcons (gnum at) (gcons (bytes_code n) (trees_code es)))
  tree_code (block at e ds) = gcons (gnum 3) (gcons (gnum at) (gcons (tree_code e) (defs_code ds)))

  pub trees_code : PlainTrees → Gv
  trees_code no_trees = gnil
  trees_code (tree e es) = gcons (tree_code e) (trees_code es)

  pub defs_code : PlainDefs → Gv
  defs_code no_defs = gnil
  defs_code (defines at x e ds) = gcons (gnum 0) (gcons (gnum at) (gcons (bytes_code x) (gcons gnil (gcons (tree_code e) (defs_code ds)))))
  defs_code (defines_function at x ns ats e ds) = gcons (gnum 1) (gcons (gnum at) (gcons (bytes_code x) (gcons (gcons (names_code ns) (bytes_code ats)) (gcons (tree_code e) (defs_code ds)))))
  defs_code (defines_current at x e ds) = gcons (gnum 2) (gcons (gnum at) (gcons (bytes_code x) (gcons gnil (gcons (tree_code e) (defs_code ds)))))

abbrev no_tree : PlainTree
no_tree = name 0 []

abbrev front : Gv → Gv
front (gcons a b) = a
front _ = gnil

abbrev back : Gv → Gv
back (gcons a b) = b
back _ = gnil

abbrev def_back : ℕ → ℕ → (x ps : Gv) → PlainTree → PlainDefs → PlainDefs
def_back zero at x ps e ds = defines at (bytes_back x) e ds
def_back (suc zero) at x ps e ds = defines_function at (bytes_back x) (names_back (front ps)) (bytes_back (back ps)) e ds
def_back (suc (suc n)) at x ps e ds = defines_current at (bytes_back x) e ds

abbrev mutual
  pub tree_back : Gv → PlainTree
  tree_back (gcons (gnum zero) (gcons (gnum at) (gcons x es))) = form at (head_back x) (trees_back es)
  tree_back (gcons (gnum (suc zero)) (gcons (gnum at) n)) = name at (bytes_back n)
  tree_back (gcons (gnum (suc (suc zero))) (gcons (gnum at) (gcons x es))) = call at (bytes_back x) (trees_back es)
  tree_back (gcons (gnum (suc (suc (suc k)))) (gcons (gnum at) (gcons e ds))) = block at (tree_back e) (defs_back ds)
  tree_back _ = no_tree

  pub trees_back : Gv → PlainTrees
  trees_back (gcons e es) = tree (tree_back e) (trees_back es)
  trees_back _ = no_trees

  pub defs_back : Gv → PlainDefs
  defs_back (gcons (gnum k) (gcons (gnum at) (gcons x (gcons ps (gcons e ds))))) = def_back k at x ps (tree_back e) (defs_back ds)
  defs_back _ = no_defs

mutual
  pub tree_there : (e : PlainTree) → tree_back (tree_code e) ≡ e
  tree_there (form at f es) = λ i. form at (head_there f i) (trees_there es i)
  tree_there (name at n) = λ i. name at (bytes_there n i)
  tree_there (call at n es) = λ i. call at (bytes_there n i) (trees_there es i)
  tree_there (block at e ds) = λ i. block at (tree_there e i) (defs_there ds i)

  pub trees_there : (es : PlainTrees) → trees_back (trees_code es) ≡ es
  trees_there no_trees = refl
  trees_there (tree e es) = λ i. tree (tree_there e i) (trees_there es i)

  pub defs_there : (ds : PlainDefs) → defs_back (defs_code ds) ≡ ds
  defs_there no_defs = refl
  defs_there (defines at x e ds) = λ i. defines at (bytes_there x i) (tree_there e i) (defs_there ds i)
  defs_there (defines_function at x ns ats e ds) = λ i. defines_function at (bytes_there x i) (names_there ns i) (bytes_there ats i) (tree_there e i) (defs_there ds i)
  defs_there (defines_current at x e ds) = λ i. defines_current at (bytes_there x i) (tree_there e i) (defs_there ds i)

abbrev pub coded_tree : Coded PlainTree
coded_tree = code_by Gv itself tree_code tree_back tree_there

abbrev pub coded_trees : Coded PlainTrees
coded_trees = code_by Gv itself trees_code trees_back trees_there

abbrev pub coded_defs : Coded PlainDefs
coded_defs = code_by Gv itself defs_code defs_back defs_there
