-- What the code finds in a tree are the pieces that its table's nodes come from.
use Rattle.std.proofs.Common.{◌≡◌, ℕ, suc, Bool, true, false, List, [], ◌∷◌, ◌++◌, map, refl, ap, ◌∙◌, append_assoc}
use Rattle.std.specs.Prelude.{filter, if◌then◌else◌}
use Rattle.std.proofs.lemmas.List.{map-append}
use Rattle.std.proofs.lemmas.List.Elements.{filter-append}
use Rattle.lucid_tree.specs.Tree.{PlainTree, form, name, call, block, PlainTrees, no_trees, tree, PlainDefs, no_defs, defines, defines_function, defines_current}
use Rattle.lucid_compile.specs.Static.{Static, outermost, in_block, in_body, freezes}
use Rattle.lucid_compile.specs.Notes.{Note, note, opening, piece, plain_right, current_right, parameter_notes, block_opens, block_piece, notes, notes_in, notes_in_defs, is_piece, noted_tree}
use Rattle.lucid_show_outline.specs.Pieces.{found, found_in, found_in_defs, itself_if, node_pieces}

-- the pieces among notes
abbrev pieces_among : List Note → List PlainTree
pieces_among ns = map (λ n. noted_tree n.kind) (filter (λ n. is_piece n.kind) ns)

among_append : (ns ms : List Note) → pieces_among (ns ++ ms) ≡ pieces_among ns ++ pieces_among ms
among_append ns ms =
    ap (λ (l : List Note). map (λ n. noted_tree n.kind) l) (filter-append (λ (n : Note). is_piece n.kind) ns ms)
    ∙ map-append (λ (n : Note). noted_tree n.kind) (filter (λ n. is_piece n.kind) ns) (filter (λ n. is_piece n.kind) ms)

opens_none : (at : ℕ) (k : Static) (b : Bool) → pieces_among (if b then note at k opening ∷ [] else []) ≡ []
opens_none at k true = refl
opens_none at k false = refl

block_found : (at : ℕ) (k : Static) (e : PlainTree) (ds : PlainDefs) (b : Bool)
    → pieces_among (if b then note at k (piece (block at e ds)) ∷ [] else []) ≡ itself_if b (block at e ds)
block_found at k e ds true = refl
block_found at k e ds false = refl

parameters_none : (k : Static) (i : ℕ) (ats : List ℕ) → pieces_among (parameter_notes k i ats) ≡ []
parameters_none k i [] = refl
parameters_none k i (at ∷ ats) = parameters_none k (suc i) ats

mutual
  tree_found : (k : Static) (e : PlainTree) → pieces_among (notes k e) ≡ found e
  tree_found k (form at f es) = among_append (notes_in k es) (note at k (piece (form at f es)) ∷ []) ∙ ap (λ l. l ++ form at f es ∷ []) (trees_found k es)
  tree_found k (name at x) = refl
  tree_found k (call at x es) = among_append (notes_in k es) (note at k (piece (call at x es)) ∷ []) ∙ ap (λ l. l ++ call at x es ∷ []) (trees_found k es)
  tree_found k (block at e ds) =
      let y : Static = in_block ds k in
      among_append (block_opens ds at k ++ notes y e ++ notes_in_defs y k ds) (block_piece e ds at k)
      ∙ ap (λ l. l ++ pieces_among (block_piece e ds at k)) (among_append (block_opens ds at k ++ notes y e) (notes_in_defs y k ds)
      ∙ ap (λ l. l ++ pieces_among (notes_in_defs y k ds)) (among_append (block_opens ds at k) (notes y e)))
      ∙ (λ j. opens_none at y (freezes ds) j ++ tree_found y e j ++ defs_found y k ds j ++ block_found at k e ds (freezes ds) j)
      ∙ append_assoc (found e) (found_in_defs ds) (itself_if (freezes ds) (block at e ds))

  trees_found : (k : Static) (es : PlainTrees) → pieces_among (notes_in k es) ≡ found_in es
  trees_found k no_trees = refl
  trees_found k (tree e es) = among_append (notes k e) (notes_in k es) ∙ (λ j. tree_found k e j ++ trees_found k es j)

  defs_found : (k o : Static) (ds : PlainDefs) → pieces_among (notes_in_defs k o ds) ≡ found_in_defs ds
  defs_found k o no_defs = refl
  defs_found k o (defines at x e ds) =
      among_append (notes k e) (note at k (plain_right e) ∷ notes_in_defs k o ds) ∙ (λ j. tree_found k e j ++ defs_found k o ds j)
  defs_found k o (defines_function at x ns ats e ds) =
      let y : Static = in_body ns ats k in
      among_append (note at y opening ∷ parameter_notes y 0 ats ++ notes y e) (notes_in_defs k o ds)
      ∙ ap (λ l. l ++ pieces_among (notes_in_defs k o ds)) (among_append (parameter_notes y 0 ats) (notes y e))
      ∙ (λ j. parameters_none y 0 ats j ++ tree_found y e j ++ defs_found k o ds j)
  defs_found k o (defines_current at x e ds) =
      among_append (notes o e) (note at k (current_right e) ∷ notes_in_defs k o ds) ∙ (λ j. tree_found o e j ++ defs_found k o ds j)

pub pieces_found : (e : PlainTree) → node_pieces e ≡ found e
pieces_found e = tree_found outermost e
