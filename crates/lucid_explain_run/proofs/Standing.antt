-- A piece that the walk notes is a part of the tree, and stands at the place at which it is noted.
use Rattle.std.proofs.Common.{◌≡◌, ℕ, suc, List, [], ◌∷◌, ◌++◌, Bool, true, false, if◌then◌else◌, filter, Some, inl, inr, refl, sym, ap, ◌∙◌, subst}
use Rattle.std.specs.Prelude.{slice_get}
use Rattle.std.specs.Option.{option_map, option_and_then}
use Rattle.std.proofs.lemmas.List.Elements.{filter-append}
use Rattle.std.proofs.lemmas.Option.{slice_get-map}
use Rattle.lucid_tree.specs.Tree.{PlainTree, form, name, call, block, PlainTrees, no_trees, tree, PlainDefs, no_defs, defines, defines_function, defines_current}
use Rattle.lucid_tree.specs.WellMade.{In, IsWellMade}
use Rattle.lucid_tree.proofs.Members.{in_left, in_right, in_either, found_in}
use Rattle.lucid_explain_run.specs.Parts.{own_place, all_parts, parts_in, parts_in_defs, part_at}
use Rattle.lucid_explain_run.proofs.Finding.{part-found}
use Rattle.lucid_compile.specs.Static.{Static, outermost, in_block, in_body, freezes}
use Rattle.lucid_compile.specs.Notes.{Note, note, opening, piece, plain_right, current_right, parameter_notes, block_opens, block_piece, notes, notes_in, notes_in_defs, is_piece, noted_tree}
use Rattle.lucid_compile.specs.Settled.{pieces}
use Rattle.lucid_compile.specs.Origins.{origins_of}
use Rattle.lucid_explain_run.specs.Pieces.{piece_of}

abbrev noted_pieces : List Note → List Note
noted_pieces ns = filter (λ n. is_piece n.kind) ns

-- what is noted is one of these trees, at its own place
pub record IsOneOf (xs : List PlainTree) (n : Note) : Type 0 where
  pub there : In (noted_tree n.kind) xs
  pub place : own_place (noted_tree n.kind) ≡ n.at

abbrev AreOf : List PlainTree → List Note → Type 0
AreOf xs ns = (n : Note) → In n (noted_pieces ns) → IsOneOf xs n

in-front : (xs ys : List PlainTree) (ns : List Note) → AreOf xs ns → AreOf (xs ++ ys) ns
in-front xs ys ns h n i = let s = h n i in record { there = in_left (noted_tree n.kind) xs ys s.there; place = s.place }

behind : (xs ys : List PlainTree) (ns : List Note) → AreOf ys ns → AreOf (xs ++ ys) ns
behind xs ys ns h n i = let s = h n i in record { there = in_right (noted_tree n.kind) xs ys s.there; place = s.place }

later : (x : PlainTree) (xs : List PlainTree) (ns : List Note) → AreOf xs ns → AreOf (x ∷ xs) ns
later x xs ns h n i = let s = h n i in record { there = inr s.there; place = s.place }

both : (xs : List PlainTree) (ns ms : List Note) → AreOf xs ns → AreOf xs ms → AreOf xs (ns ++ ms)
both xs ns ms h g n i =
    elim (in_either n (noted_pieces ns) (noted_pieces ms) (subst (In n) (filter-append (λ n. is_piece n.kind) ns ms) i)) [ inl a ↦ h n a | inr b ↦ g n b ]

itself : (xs : List PlainTree) (at : ℕ) (k : Static) (e : PlainTree) → own_place e ≡ at → AreOf (e ∷ xs) (note at k (piece e) ∷ [])
itself xs at k e p n (inl q) = subst (IsOneOf (e ∷ xs)) (sym q) (record { there = inl refl; place = p })
itself xs at k e p n (inr i) = absurd i

opens-none : (xs : List PlainTree) (at : ℕ) (k : Static) (b : Bool) → AreOf xs (if b then note at k opening ∷ [] else [])
opens-none xs at k true n i = absurd i
opens-none xs at k false n i = absurd i

block-itself : (xs : List PlainTree) (at : ℕ) (k : Static) (e : PlainTree) (ds : PlainDefs) (b : Bool)
    → AreOf (block at e ds ∷ xs) (if b then note at k (piece (block at e ds)) ∷ [] else [])
block-itself xs at k e ds true n i = itself xs at k (block at e ds) refl n i
block-itself xs at k e ds false n i = absurd i

parameters-none : (xs : List PlainTree) (k : Static) (i : ℕ) (ats : List ℕ) → AreOf xs (parameter_notes k i ats)
parameters-none xs k i [] n h = absurd h
parameters-none xs k i (at ∷ ats) n h = parameters-none xs k (suc i) ats n h

mutual
  tree-parts : (k : Static) (e : PlainTree) → AreOf (all_parts e) (notes k e)
  tree-parts k (form at f es) =
      both (form at f es ∷ parts_in es) (notes_in k es) (note at k (piece (form at f es)) ∷ [])
      (later (form at f es) (parts_in es) (notes_in k es) (trees-parts k es)) (itself (parts_in es) at k (form at f es) refl)
  tree-parts k (name at x) = itself [] at k (name at x) refl
  tree-parts k (call at x es) =
      both (call at x es ∷ parts_in es) (notes_in k es) (note at k (piece (call at x es)) ∷ [])
      (later (call at x es) (parts_in es) (notes_in k es) (trees-parts k es)) (itself (parts_in es) at k (call at x es) refl)
  tree-parts k (block at e ds) =
      let y : Static = in_block ds k in
      let own : List PlainTree = all_parts e ++ parts_in_defs ds in
      let xs : List PlainTree = block at e ds ∷ own in
      both xs (block_opens ds at k ++ notes y e ++ notes_in_defs y k ds) (block_piece e ds at k)
      (both xs (block_opens ds at k ++ notes y e) (notes_in_defs y k ds)
      (both xs (block_opens ds at k) (notes y e) (opens-none xs at y (freezes ds))
      (later (block at e ds) own (notes y e) (in-front (all_parts e) (parts_in_defs ds) (notes y e) (tree-parts y e))))
      (later (block at e ds) own (notes_in_defs y k ds) (behind (all_parts e) (parts_in_defs ds) (notes_in_defs y k ds) (defs-parts y k ds))))
      (block-itself own at k e ds (freezes ds))

  trees-parts : (k : Static) (es : PlainTrees) → AreOf (parts_in es) (notes_in k es)
  trees-parts k no_trees = λ n i. absurd i
  trees-parts k (tree e es) =
      both (all_parts e ++ parts_in es) (notes k e) (notes_in k es) (in-front (all_parts e) (parts_in es) (notes k e) (tree-parts k e))
      (behind (all_parts e) (parts_in es) (notes_in k es) (trees-parts k es))

  defs-parts : (k o : Static) (ds : PlainDefs) → AreOf (parts_in_defs ds) (notes_in_defs k o ds)
  defs-parts k o no_defs = λ n i. absurd i
  defs-parts k o (defines at x e ds) =
      both (all_parts e ++ parts_in_defs ds) (notes k e) (note at k (plain_right e) ∷ notes_in_defs k o ds)
      (in-front (all_parts e) (parts_in_defs ds) (notes k e) (tree-parts k e))
      (behind (all_parts e) (parts_in_defs ds) (notes_in_defs k o ds) (defs-parts k o ds))
  defs-parts k o (defines_function at x ns ats e ds) =
      let y : Static = in_body ns ats k in
      let xs : List PlainTree = all_parts e ++ parts_in_defs ds in
      both xs (note at y opening ∷ parameter_notes y 0 ats ++ notes y e) (notes_in_defs k o ds)
      (both xs (note at y opening ∷ parameter_notes y 0 ats) (notes y e) (parameters-none xs y 0 ats)
      (in-front (all_parts e) (parts_in_defs ds) (notes y e) (tree-parts y e)))
      (behind (all_parts e) (parts_in_defs ds) (notes_in_defs k o ds) (defs-parts k o ds))
  defs-parts k o (defines_current at x e ds) =
      both (all_parts e ++ parts_in_defs ds) (notes o e) (note at k (current_right e) ∷ notes_in_defs k o ds)
      (in-front (all_parts e) (parts_in_defs ds) (notes o e) (tree-parts o e))
      (behind (all_parts e) (parts_in_defs ds) (notes_in_defs k o ds) (defs-parts k o ds))

pub own-piece : (e : PlainTree) → IsWellMade e → (node : ℕ) (n : Note) → slice_get (pieces e) node ≡ Some n → piece_of e node ≡ Some (noted_tree n.kind)
own-piece e made node n there =
    let s = tree-parts outermost e n (found_in (pieces e) node n there) in
    let at : slice_get (origins_of e).nodes node ≡ Some n.at = slice_get-map (λ (m : Note). m.at) (pieces e) node ∙ ap (option_map (λ (m : Note). m.at)) there in
    ap (option_and_then (part_at e)) at ∙ ap (part_at e) (sym s.place) ∙ part-found e (noted_tree n.kind) made s.there
