-- The nodes of a tree's table mean their pieces.
use Rattle.lucid_compile.proofs.Common.{◌≡◌, ℕ, suc, List, [], ◌∷◌, ◌++◌, Bool, true, false, if◌then◌else◌, Some, slice_get, inl, inr, refl, sym, ap, ◌∙◌, subst, PlainTree, form, name, call, block, PlainTrees, no_trees, tree, PlainDefs, no_defs, defines, defines_function, defines_current, In, in_left, in_right, in_either, IsWellMade, Env, Elements, Context, Equations, equations_of, Table, Numbers, Origin, Source, static_of, node_for, node_val, node_hval, val, Daton, Referent, PlainValue, Option, Compiles, place_of, freezes, in_body, Note, note, opening, piece, plain_right, current_right, parameter_notes, block_piece, noted_tree}
use Rattle.std.proofs.lemmas.List.Elements.{filter-append}
use Rattle.lucid_tree.specs.Meaning as of_trees
use Rattle.lucid_tree.proofs.Members.{found_in}
use Rattle.lucid_equations.specs.Rows.{node_at}
use Rattle.lucid_compile.specs.Static.{Static, outermost, in_block}
use Rattle.lucid_compile.specs.Notes.{block_opens, notes, notes_in, notes_in_defs, is_piece}
use Rattle.lucid_compile.specs.Settled.{pieces, numbers_of}
use Rattle.lucid_compile.specs.Meant.{Matches, AreHeldOverPoints, NodesMeanTheirPieces}
use Rattle.lucid_compile.proofs.Walking.{pieces_of}
use Rattle.lucid_compile.proofs.Spots.{spots_for, all_spots, def_spots, spots}
use Rattle.lucid_compile.proofs.Evaluated.{IsMet, kept-place, evaluated-met, environment-one}
use Rattle.lucid_compile.proofs.Numbers.{value-same}
use Rattle.lucid_compile.proofs.Same.{HeldAlike, hval-same}
use Rattle.lucid_compile.proofs.Held.{points-alike}

-- a piece that is noted stands among the places of the tree's nodes
pub record IsSpot (os : List Origin) (n : Note) : Type 0 where
  pub there : In (record { at = n.at; home = n.home }) os
  pub place : place_of (noted_tree n.kind) ≡ n.at

abbrev AreSpots : List Origin → List Note → Type 0
AreSpots os ns = (n : Note) → In n (pieces_of ns) → IsSpot os n

in-front : (os ps : List Origin) (ns : List Note) → AreSpots os ns → AreSpots (os ++ ps) ns
in-front os ps ns h n i = let s = h n i in record { there = in_left _ os ps s.there; place = s.place }

behind : (os ps : List Origin) (ns : List Note) → AreSpots ps ns → AreSpots (os ++ ps) ns
behind os ps ns h n i = let s = h n i in record { there = in_right _ os ps s.there; place = s.place }

later : (o : Origin) (os : List Origin) (ns : List Note) → AreSpots os ns → AreSpots (o ∷ os) ns
later o os ns h n i = let s = h n i in record { there = inr s.there; place = s.place }

both : (os : List Origin) (ns ms : List Note) → AreSpots os ns → AreSpots os ms → AreSpots os (ns ++ ms)
both os ns ms h g n i =
    elim (in_either n (pieces_of ns) (pieces_of ms) (subst (In n) (filter-append (λ n. is_piece n.kind) ns ms) i)) [ inl a ↦ h n a | inr b ↦ g n b ]

abbrev spot : (at : ℕ) → Static → Origin
spot at k = record { at = at; home = k }

itself : (os : List Origin) (at : ℕ) (k : Static) (e : PlainTree) → place_of e ≡ at → AreSpots (spot at k ∷ os) (note at k (piece e) ∷ [])
itself os at k e p n (inl q) = subst (IsSpot (spot at k ∷ os)) (sym q) (record { there = inl refl; place = p })
itself os at k e p n (inr i) = absurd i

opens-none : (os : List Origin) (at : ℕ) (k : Static) (b : Bool) → AreSpots os (if b then note at k opening ∷ [] else [])
opens-none os at k true n i = absurd i
opens-none os at k false n i = absurd i

block-itself : (os : List Origin) (at : ℕ) (k : Static) (e : PlainTree) (ds : PlainDefs) (b : Bool)
    → AreSpots (spot at k ∷ os) (if b then note at k (piece (block at e ds)) ∷ [] else [])
block-itself os at k e ds true n i = itself os at k (block at e ds) refl n i
block-itself os at k e ds false n i = absurd i

parameters-none : (os : List Origin) (k : Static) (i : ℕ) (ats : List ℕ) → AreSpots os (parameter_notes k i ats)
parameters-none os k i [] n h = absurd h
parameters-none os k i (at ∷ ats) n h = parameters-none os k (suc i) ats n h

mutual
  tree-spots : (k : Static) (e : PlainTree) → AreSpots (spots_for k e) (notes k e)
  tree-spots k (form at f es) =
      both (spot at k ∷ all_spots k es) (notes_in k es) (note at k (piece (form at f es)) ∷ [])
      (later (spot at k) (all_spots k es) (notes_in k es) (trees-spots k es)) (itself (all_spots k es) at k (form at f es) refl)
  tree-spots k (name at x) = itself [] at k (name at x) refl
  tree-spots k (call at x es) =
      both (spot at k ∷ all_spots k es) (notes_in k es) (note at k (piece (call at x es)) ∷ [])
      (later (spot at k) (all_spots k es) (notes_in k es) (trees-spots k es)) (itself (all_spots k es) at k (call at x es) refl)
  tree-spots k (block at e ds) =
      let y : Static = in_block ds k in
      let own : List Origin = spots_for y e ++ def_spots y k ds in
      let os : List Origin = spot at k ∷ own in
      both os (block_opens ds at k ++ notes y e ++ notes_in_defs y k ds) (block_piece e ds at k)
      (both os (block_opens ds at k ++ notes y e) (notes_in_defs y k ds)
      (both os (block_opens ds at k) (notes y e) (opens-none os at y (freezes ds))
      (later (spot at k) own (notes y e) (in-front (spots_for y e) (def_spots y k ds) (notes y e) (tree-spots y e))))
      (later (spot at k) own (notes_in_defs y k ds) (behind (spots_for y e) (def_spots y k ds) (notes_in_defs y k ds) (defs-spots y k ds))))
      (block-itself own at k e ds (freezes ds))

  trees-spots : (k : Static) (es : PlainTrees) → AreSpots (all_spots k es) (notes_in k es)
  trees-spots k no_trees = λ n i. absurd i
  trees-spots k (tree e es) =
      both (spots_for k e ++ all_spots k es) (notes k e) (notes_in k es) (in-front (spots_for k e) (all_spots k es) (notes k e) (tree-spots k e))
      (behind (spots_for k e) (all_spots k es) (notes_in k es) (trees-spots k es))

  defs-spots : (k o : Static) (ds : PlainDefs) → AreSpots (def_spots k o ds) (notes_in_defs k o ds)
  defs-spots k o no_defs = λ n i. absurd i
  defs-spots k o (defines at x e ds) =
      both (spots_for k e ++ def_spots k o ds) (notes k e) (note at k (plain_right e) ∷ notes_in_defs k o ds)
      (in-front (spots_for k e) (def_spots k o ds) (notes k e) (tree-spots k e))
      (behind (spots_for k e) (def_spots k o ds) (notes_in_defs k o ds) (defs-spots k o ds))
  defs-spots k o (defines_function at x ns ats e ds) =
      let y : Static = in_body ns ats k in
      let os : List Origin = spots_for y e ++ def_spots k o ds in
      both os (note at y opening ∷ parameter_notes y 0 ats ++ notes y e) (notes_in_defs k o ds)
      (both os (note at y opening ∷ parameter_notes y 0 ats) (notes y e) (parameters-none os y 0 ats)
      (in-front (spots_for y e) (def_spots k o ds) (notes y e) (tree-spots y e)))
      (behind (spots_for y e) (def_spots k o ds) (notes_in_defs k o ds) (defs-spots k o ds))
  defs-spots k o (defines_current at x e ds) =
      both (spots_for o e ++ def_spots k o ds) (notes o e) (note at k (current_right e) ∷ notes_in_defs k o ds)
      (in-front (spots_for o e) (def_spots k o ds) (notes o e) (tree-spots o e))
      (behind (spots_for o e) (def_spots k o ds) (notes_in_defs k o ds) (defs-spots k o ds))

module _ (e : PlainTree) (t : Table) (so : Source) (made : IsWellMade e) (c : Compiles (numbers_of e) so (equations_of t) e)
    (homes : (o : Origin) → In o (spots e) → so.scope_at o.at ≡ o.home)
    (becomes : (i : ℕ) (n : Note) → slice_get (pieces e) i ≡ Some n → node_at t i ≡ node_for (numbers_of e) n.home (noted_tree n.kind)) where
  abbrev nu : Numbers
  nu = numbers_of e

  abbrev p : Equations
  p = equations_of t

  -- in an environment in which the piece is evaluated
  node-there : (i : ℕ) (n : Note) → slice_get (pieces e) i ≡ Some n → (env : Env) → IsMet nu so p (noted_tree n.kind) env
      → node_at t i ≡ node_for nu (static_of env) (noted_tree n.kind)
  node-there i n there env m =
      let s = tree-spots outermost e n (found_in (pieces e) i n there) in
      let home : n.home ≡ static_of env = sym (homes (record { at = n.at; home = n.home }) s.there) ∙ ap so.scope_at (sym s.place)
      ∙ kept-place nu so p (static_of env) (noted_tree n.kind) m.1 in
      becomes i n there ∙ ap (λ k. node_for nu k (noted_tree n.kind)) home

  values-there : (i : ℕ) (n : Note) → slice_get (pieces e) i ≡ Some n → (env : Env) (x : Context) → Matches e n env x → (b : Elements) (m u s : ℕ)
      → node_val p b m (node_at t i) x u s ≡ val b m (noted_tree n.kind) env u s
  values-there i n there env x g b m u s =
      let r : IsMet nu so p (noted_tree n.kind) env = evaluated-met nu so p e c (noted_tree n.kind) env g.evaluated in
      (λ j. node_val p b m (node-there i n there env r j) (sym g.context j) u s)
      ∙ value-same nu so p e c b m (record { tree = noted_tree n.kind; env = env }) u s r.0 r.1

  -- with held values too
  held-there : (i : ℕ) (n : Note) → slice_get (pieces e) i ≡ Some n → (env : Env) (x : Context) → Matches e n env x → (b : Elements)
      (held : Referent → ℕ → Option PlainValue) (kept : Daton → ℕ → Option PlainValue) → AreHeldOverPoints e p b held kept → (m u s : ℕ)
      → node_hval p (record { element = b; held = kept }) m (node_at t i) x u s
      ≡ of_trees.hval (record { element = b; held = held }) m (noted_tree n.kind) env u s
  held-there i n there env x g b held kept h m u s =
      let r : IsMet nu so p (noted_tree n.kind) env = evaluated-met nu so p e c (noted_tree n.kind) env g.evaluated in
      let alike : HeldAlike nu so p held kept = points-alike nu so p e c b h.limit h.points held kept h.of_tree h.of_table in
      (λ j. node_hval p (record { element = b; held = kept }) m (node-there i n there env r j) (sym g.context j) u s)
      ∙ sym (hval-same nu so p b held kept alike m (noted_tree n.kind) env u s r.0 r.1)

  pub pieces-mean : NodesMeanTheirPieces e p (node_at t)
  pieces-mean i n there env x g = (
    values-there i n there env x g,
    held-there i n there env x g,
    λ f h. environment-one nu so p e c (noted_tree n.kind) (noted_tree n.kind) f env h.evaluated g.evaluated refl (h.context ∙ sym g.context),
  )
