-- Scopes that are open stay where they are while more is added.
use Rattle.lucid_compile.proofs.Common.{◌≡◌, ℕ, suc, ◌+◌, length, List, [], ◌∷◌, ◌++◌, slice_get, refl, sym, ap, ◌∙◌, subst, arith, PlainTree, form, name, call, block, PlainTrees, no_trees, tree, PlainDefs, no_defs, defines, defines_function, defines_current, freezes, frame, in_body, Log, block_scopes, with_scopes, with_parameters, added, added_all, added_defs, IsOpen, StandsAt, Here}
use Rattle.lucid_lists.proofs.Lists.{slice_get-append_left as some-left}
use Rattle.lucid_compile.specs.Static.{Static, in_block}

pub slice-past : {A : Type 0} (xs ys : List A) (i : ℕ) → slice_get (xs ++ ys) (length xs + i) ≡ slice_get ys i
slice-past [] ys i = ap (slice_get ys) (omega arith)
slice-past (x ∷ xs) ys i =
    let e : length (x ∷ xs) + i ≡ suc (length xs + i) = omega arith in
    ap (slice_get (x ∷ (xs ++ ys))) e ∙ slice-past xs ys i

pub parameters-scopes : (k : Static) (i : ℕ) (ats : List ℕ) (l : Log) → (with_parameters k i ats l).scopes ≡ l.scopes
parameters-scopes k i [] l = refl
parameters-scopes k i (at ∷ ats) l = parameters-scopes k (suc i) ats _

pub scope-parameters : (k : Static) (i : ℕ) (ats : List ℕ) (l : Log) (n : ℕ) (q : Static) → IsOpen l.scopes n q → IsOpen (with_parameters k i ats l).scopes n q
scope-parameters k i ats l n q h = subst (λ ks. IsOpen ks n q) (sym (parameters-scopes k i ats l)) h

module _ (n : ℕ) (q : Static) where
  mutual
    pub scope-tree : (k : Static) (e : PlainTree) (l : Log) → IsOpen l.scopes n q → IsOpen (added k e l).scopes n q
    scope-tree k (form at f es) l h = scope-trees k es l h
    scope-tree k (name at x) l h = h
    scope-tree k (call at x es) l h = scope-trees k es l h
    scope-tree k (block at e ds) l h =
        let own : List Static = block_scopes (freezes ds) (in_block ds k) in
        scope-defs (in_block ds k) k ds _ (scope-tree (in_block ds k) e (with_scopes own l) (some-left l.scopes own n (frame q) h))

    pub scope-trees : (k : Static) (es : PlainTrees) (l : Log) → IsOpen l.scopes n q → IsOpen (added_all k es l).scopes n q
    scope-trees k no_trees l h = h
    scope-trees k (tree e es) l h = scope-trees k es (added k e l) (scope-tree k e l h)

    pub scope-defs : (k o : Static) (ds : PlainDefs) (l : Log) → IsOpen l.scopes n q → IsOpen (added_defs k o ds l).scopes n q
    scope-defs k o no_defs l h = h
    scope-defs k o (defines at x e ds) l h = scope-defs k o ds _ (scope-tree k e l h)
    scope-defs k o (defines_function at x ns ats e ds) l h =
        let y : Static = in_body ns ats k in
        let b : Log = with_scopes (y ∷ []) l in
        scope-defs k o ds _ (scope-tree y e (with_parameters y 0 ats b) (scope-parameters y 0 ats b n q (some-left l.scopes (y ∷ []) n (frame q) h)))
    scope-defs k o (defines_current at x e ds) l h = scope-defs k o ds _ (scope-tree o e l h)

-- what is in scope stays at its level and scope
module _ (q : Static) (d : Here) where
  pub here-tree : (k : Static) (e : PlainTree) (l : Log) → StandsAt l q d → StandsAt (added k e l) q d
  here-tree k e l h = (h.0, scope-tree d.scope q k e l h.1)

  pub here-trees : (k : Static) (es : PlainTrees) (l : Log) → StandsAt l q d → StandsAt (added_all k es l) q d
  here-trees k es l h = (h.0, scope-trees d.scope q k es l h.1)

  pub here-defs : (k o : Static) (ds : PlainDefs) (l : Log) → StandsAt l q d → StandsAt (added_defs k o ds l) q d
  here-defs k o ds l h = (h.0, scope-defs d.scope q k o ds l h.1)

  pub here-parameters : (k : Static) (i : ℕ) (ats : List ℕ) (l : Log) → StandsAt l q d → StandsAt (with_parameters k i ats l) q d
  here-parameters k i ats l h = (h.0, scope-parameters k i ats l d.scope q h.1)

  pub here-scopes : (ks : List Static) (l : Log) → StandsAt l q d → StandsAt (with_scopes ks l) q d
  here-scopes ks l h = (h.0, some-left l.scopes ks d.scope (frame q) h.1)
