-- No place has more sites than the tree has places: whatever places weigh, the sites weigh no more than the places of the tree.
use Rattle.lucid_scope.proofs.Common.{◌≡◌, ℕ, ◌+◌, ◌≤◌, Bool, true, false, List, [], ◌∷◌, ◌++◌, sum_by, arith, sum_by-cons, PlainTree, form, name, call, block, PlainTrees, no_trees, tree, PlainDefs, no_defs, defines, defines_function, defines_current, count, places, places_in, places_in_defs, Static, in_block, in_function, Site, site_at, sites, sites_in, outside_sites, inside_sites, repeats, again_if, also, no_names, Earlier, sum_by-append}
use Rattle.lucid_scope.specs.Sites.{called}

module _ (f : ℕ → ℕ) where
  abbrev pub weight : List Site → ℕ
  weight ss = sum_by (λ s. f (site_at s)) ss

  weight-append : (xs ys : List Site) → weight (xs ++ ys) ≡ weight xs + weight ys
  weight-append xs ys = sum_by-append (λ s. f (site_at s)) xs ys

  again-weight : (b : Bool) (at : ℕ) → weight (again_if b at) ≤ f at
  again-weight true at = omega arith
  again-weight false at = omega arith

  repeats-weight : (earlier : Earlier) (ns : List (List ℕ)) (ats : List ℕ) → weight (repeats earlier ns ats) ≤ sum_by f ats
  repeats-weight earlier [] ats = omega arith
  repeats-weight earlier (n ∷ ns) [] = omega arith
  repeats-weight earlier (n ∷ ns) (at ∷ ats) =
      omega (
        arith,
        sum_by-cons f at ats,
        weight-append (again_if (earlier n) at) (repeats (also n earlier) ns ats),
        again-weight (earlier n) at,
        repeats-weight
            (also n earlier) ns ats,
      )

  mutual
    pub sites-weight : (k : Static) (e : PlainTree) → weight (sites k e) ≤ sum_by f (places e)
    sites-weight k (form at h es) = omega (arith, sum_by-cons f at (places_in es), all-weight k es)
    sites-weight k (name at x) = omega arith
    sites-weight k (call at x es) =
        omega (arith, sum_by-cons f at (places_in es), sum_by-cons (λ s. f (site_at s)) (called at x (count es) k) (sites_in k es), all-weight k es)
    sites-weight k (block at e ds) =
        omega (
          arith,
          sum_by-cons f at (places e ++ places_in_defs ds),
          weight-append (outside_sites k ds) (sites (in_block ds k) e ++ inside_sites (in_block ds k) no_names ds),
          weight-append (sites (in_block ds k) e) (inside_sites (in_block ds k) no_names ds),
          sum_by-append f (places e) (places_in_defs ds),
          sites-weight (in_block ds k) e,
          defs-weight k (in_block ds k) no_names ds,
        )

    all-weight : (k : Static) (es : PlainTrees) → weight (sites_in k es) ≤ sum_by f (places_in es)
    all-weight k no_trees = omega arith
    all-weight k (tree e es) =
        omega (arith, weight-append (sites k e) (sites_in k es), sum_by-append f (places e) (places_in es), sites-weight k e, all-weight k es)

    pub defs-weight : (o k : Static) (earlier : Earlier) (ds : PlainDefs)
        → weight (outside_sites o ds) + weight (inside_sites k earlier ds) ≤ sum_by f (places_in_defs ds)
    defs-weight o k earlier no_defs = omega arith
    defs-weight o k earlier (defines at x e ds) =
        omega (
          arith,
          sum_by-cons f at (places e ++ places_in_defs ds),
          weight-append (again_if (earlier x) at) (sites k e ++ inside_sites k (also x earlier) ds),
          weight-append (sites k e) (inside_sites k (also x earlier) ds),
          again-weight (earlier x) at,
          sum_by-append f (places e) (places_in_defs ds),
          sites-weight k e,
          defs-weight o k (also x earlier) ds,
        )
    defs-weight o k earlier (defines_function at x ns ats e ds) =
        let inner : List Site = sites (in_function at ns ats k) e in
        let rest : List Site = inside_sites k (also x earlier) ds in
        omega (
          arith,
          sum_by-cons f at (ats ++ places e ++ places_in_defs ds),
          weight-append (again_if (earlier x) at) ((repeats no_names ns ats ++ inner) ++ rest),
          weight-append (repeats no_names ns ats ++ inner) rest,
          weight-append (repeats no_names ns ats) inner,
          again-weight (earlier x) at,
          repeats-weight no_names ns ats,
          sum_by-append f (ats ++ places e) (places_in_defs ds),
          sum_by-append f ats (places e),
          sites-weight (in_function at ns ats k) e,
          defs-weight o k (also x earlier) ds,
        )
    defs-weight o k earlier (defines_current at x e ds) =
        omega (
          arith,
          sum_by-cons f at (places e ++ places_in_defs ds),
          weight-append (sites o e) (outside_sites o ds),
          weight-append (again_if (earlier x) at) (inside_sites k (also x earlier) ds),
          again-weight (earlier x) at,
          sum_by-append f (places e) (places_in_defs ds),
          sites-weight o e,
          defs-weight o k (also x earlier) ds,
        )
