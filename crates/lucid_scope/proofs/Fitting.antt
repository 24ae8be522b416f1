-- In a well-made tree the numbers of parameters and arguments fit their type.
use Rattle.lucid_scope.proofs.Common.{◌≡◌, ℕ, ◌<◌, ◌≤◌, ◌^◌, Bool, true, false, cond, List, [], ◌∷◌, ◌++◌, length, length-append, None, nat_lt, nat_eq, refl, sym, subst, arith, zero, suc, All, position_or_len, PlainTree, form, name, call, block, PlainTrees, no_trees, tree, PlainDefs, no_defs, defines, defines_function, defines_current, count, Found, plain_def, function_def, current_def, definition, param, same_name, places, places_in, places_in_defs, Static, in_block, in_function, meaning, Site, sites, sites_in, outside_sites, inside_sites, repeats, again_if, also, no_names, Earlier, owner_of, definition_owner, parameter_owner, or_outer, mark, Fits, Owner, ◌&&◌}
use Rattle.std.proofs.Common.{Option, Some}
use Rattle.std.proofs.lemmas.Bool.{and_parts as both}
use Rattle.lucid_tree.specs.WellMade.{is_shaped, are_shaped, defs_are_shaped, fits_arity}
use Rattle.lucid_scope.specs.Settled.{OwnerFits}
use Rattle.lucid_scope.proofs.Noting.{Opens, block-opens, function-opens}

-- each item has the property
abbrev pub Each : {X : Type 0} → (X → Type 0) → List X → Type 0
Each P [] = Unit {0}
Each P (x ∷ xs) = P x × Each P xs

each-append : {X : Type 0} (P : X → Type 0) (xs ys : List X) → Each P xs → Each P ys → Each P (xs ++ ys)
each-append P [] ys a b = b
each-append P (x ∷ xs) ys a b = (a.0, each-append P xs ys a.1 b)

pub each-all : {X : Type 0} (P : X → Type 0) (xs : List X) → Each P xs → All P xs
each-all P [] e k d h = absurd (omega arith)
each-all P (x ∷ xs) e zero d h = e.0
each-all P (x ∷ xs) e (suc k) d h = each-all P xs e.1 k d (omega arith)

-- what is in scope fits
abbrev pub ScopeFits : Static → Type 0
ScopeFits k = (n : List ℕ) → OwnerFits (owner_of (meaning n k))

outer-fits : (a b : Option Owner) → OwnerFits a → OwnerFits b → OwnerFits (or_outer a b)
outer-fits None b x y = y
outer-fits (Some o) b x y = x

opened-fits : (own : List ℕ → Option Owner) (open_scope : Static → Static) → Opens own open_scope → ((n : List ℕ) → OwnerFits (own n)) → (k : Static)
    → ScopeFits k → ScopeFits (open_scope k)
opened-fits own open_scope o fits k f n = subst OwnerFits (sym (o.opens k n)) (outer-fits (own n) (owner_of (meaning n k)) (fits n) (f n))

found-fits : (b : Bool) (x y : Found) → OwnerFits (definition_owner x) → OwnerFits (definition_owner y) → OwnerFits (definition_owner (cond b x y))
found-fits true x y f g = f
found-fits false x y f g = g

definitions-fit : (ds : PlainDefs) → defs_are_shaped ds ≡ true → length (places_in_defs ds) < 2147483648 → (n : List ℕ)
    → OwnerFits (definition_owner (definition n ds))
definitions-fit no_defs s l n = tt
definitions-fit (defines at x e ds) s l n =
    found-fits (same_name n x) (plain_def at e) (definition n ds) tt
    (definitions-fit ds (both (is_shaped e) (defs_are_shaped ds) s).1 (omega (arith, l, length-append (places e) (places_in_defs ds))) n)
definitions-fit (defines_function at x ns ats e ds) s l n =
    let a = both (nat_lt 0 (length ns) && nat_eq (length ats) (length ns) && is_shaped e) (defs_are_shaped ds) s in
    let b = both (nat_lt 0 (length ns) && nat_eq (length ats) (length ns)) (is_shaped e) a.0 in
    let c = both (nat_lt 0 (length ns)) (nat_eq (length ats) (length ns)) b.0 in
    let long = length-append (ats ++ places e) (places_in_defs ds) in
    let long' = length-append ats (places e) in
    let few : length ns < 2 ^ 32 = grind (arith, c.1, long, long', l) in
    found-fits (same_name n x) (function_def at ns ats e) (definition n ds) few
    (definitions-fit ds a.1 (omega (arith, l, long)) n)
definitions-fit (defines_current at x e ds) s l n =
    found-fits (same_name n x) (current_def at e) (definition n ds) tt
    (definitions-fit ds (both (is_shaped e) (defs_are_shaped ds) s).1 (omega (arith, l, length-append (places e) (places_in_defs ds))) n)

position-fits : (d p len : ℕ) → len < 2 ^ 32 → (b : Bool) → nat_lt p len ≡ b → OwnerFits (parameter_owner d (cond b (Some p) None))
position-fits d p len h true is = grind (arith, is, h)
position-fits d p len h false is = tt

parameters-fit : (d : ℕ) (ns : List (List ℕ)) → length ns < 2 ^ 32 → (n : List ℕ) → OwnerFits (parameter_owner d (param n ns))
parameters-fit d ns h n = position-fits d (position_or_len (λ x. same_name n x) ns) (length ns) h (nat_lt (position_or_len (λ x. same_name n x) ns) (length ns))
    refl

some_places : (e : PlainTree) → 1 ≤ length (places e)
some_places (form at h es) = omega arith
some_places (name at x) = omega arith
some_places (call at x es) = omega arith
some_places (block at e ds) = omega arith

count_le-places : (es : PlainTrees) → count es ≤ length (places_in es)
count_le-places no_trees = omega arith
count_le-places (tree e es) = omega (arith, count_le-places es, length-append (places e) (places_in es), some_places e)

abbrev pub SiteFits : Site → Type 0
SiteFits s = Fits (mark s)

again-fits : (b : Bool) (at : ℕ) → Each SiteFits (again_if b at)
again-fits true at = (tt, tt)
again-fits false at = tt

repeats-fit : (earlier : Earlier) (ns : List (List ℕ)) (ats : List ℕ) → Each SiteFits (repeats earlier ns ats)
repeats-fit earlier [] ats = tt
repeats-fit earlier (n ∷ ns) [] = tt
repeats-fit earlier (n ∷ ns) (at ∷ ats) =
    each-append SiteFits (again_if (earlier n) at) (repeats (also n earlier) ns ats) (again-fits (earlier n) at) (repeats-fit (also n earlier) ns ats)

abbrev N : ℕ
N = 2147483648

mutual
  pub sites-fit : (k : Static) → ScopeFits k → (e : PlainTree) → is_shaped e ≡ true → length (places e) < N → Each SiteFits (sites k e)
  sites-fit k f (form at h es) s l = all-fit k f es (both (fits_arity h es) (are_shaped es) s).1 (omega (arith, l))
  sites-fit k f (name at x) s l = (f x, tt)
  sites-fit k f (call at x es) s l = ((f x, grind (arith, l, count_le-places es)), all-fit k f es s (omega (arith, l)))
  sites-fit k f (block at e ds) s l =
      let b = both (is_shaped e) (defs_are_shaped ds) s in
      let long = length-append (places e) (places_in_defs ds) in
      let few : length (places_in_defs ds) < N = omega (arith, l, long) in
      let g = opened-fits (λ n. definition_owner (definition n ds)) (in_block ds) (block-opens ds) (definitions-fit ds b.1 few) k f in
      each-append SiteFits (outside_sites k ds) (sites (in_block ds k) e ++ inside_sites (in_block ds k) no_names ds)
      (outside-fit k f ds b.1 few)
      (each-append SiteFits (sites (in_block ds k) e) (inside_sites (in_block ds k) no_names ds)
      (sites-fit (in_block ds k) g e b.0 (omega (arith, l, long)))
      (inside-fit (in_block ds k) g no_names ds b.1 few))

  all-fit : (k : Static) → ScopeFits k → (es : PlainTrees) → are_shaped es ≡ true → length (places_in es) < N → Each SiteFits (sites_in k es)
  all-fit k f no_trees s l = tt
  all-fit k f (tree e es) s l =
      let b = both (is_shaped e) (are_shaped es) s in
      let long = length-append (places e) (places_in es) in
      each-append SiteFits (sites k e) (sites_in k es) (sites-fit k f e b.0 (omega (arith, l, long))) (all-fit k f es b.1 (omega (arith, l, long)))

  outside-fit : (k : Static) → ScopeFits k → (ds : PlainDefs) → defs_are_shaped ds ≡ true → length (places_in_defs ds) < N → Each SiteFits (outside_sites k ds)
  outside-fit k f no_defs s l = tt
  outside-fit k f (defines at x e ds) s l = outside-fit k f ds (both (is_shaped e) (defs_are_shaped ds) s).1
      (omega (arith, l, length-append (places e) (places_in_defs ds)))
  outside-fit k f (defines_function at x ns ats e ds) s l =
      outside-fit k f ds (both (nat_lt 0 (length ns) && nat_eq (length ats) (length ns) && is_shaped e) (defs_are_shaped ds) s).1
      (omega (arith, l, length-append (ats ++ places e) (places_in_defs ds)))
  outside-fit k f (defines_current at x e ds) s l =
      let b = both (is_shaped e) (defs_are_shaped ds) s in
      let long = length-append (places e) (places_in_defs ds) in
      each-append SiteFits (sites k e) (outside_sites k ds) (sites-fit k f e b.0 (omega (arith, l, long))) (outside-fit k f ds b.1 (omega (arith, l, long)))

  inside-fit : (k : Static) → ScopeFits k → (earlier : Earlier) (ds : PlainDefs) → defs_are_shaped ds ≡ true → length (places_in_defs ds) < N
      → Each SiteFits (inside_sites k earlier ds)
  inside-fit k f earlier no_defs s l = tt
  inside-fit k f earlier (defines at x e ds) s l =
      let b = both (is_shaped e) (defs_are_shaped ds) s in
      let long = length-append (places e) (places_in_defs ds) in
      each-append SiteFits (again_if (earlier x) at) (sites k e ++ inside_sites k (also x earlier) ds) (again-fits (earlier x) at)
      (each-append SiteFits (sites k e) (inside_sites k (also x earlier) ds) (sites-fit k f e b.0 (omega (arith, l, long)))
      (inside-fit k f (also x earlier) ds b.1 (omega (arith, l, long))))
  inside-fit k f earlier (defines_function at x ns ats e ds) s l =
      let a = both (nat_lt 0 (length ns) && nat_eq (length ats) (length ns) && is_shaped e) (defs_are_shaped ds) s in
      let b = both (nat_lt 0 (length ns) && nat_eq (length ats) (length ns)) (is_shaped e) a.0 in
      let c = both (nat_lt 0 (length ns)) (nat_eq (length ats) (length ns)) b.0 in
      let long = length-append (ats ++ places e) (places_in_defs ds) in
      let long' = length-append ats (places e) in
      let few : length ns < 2 ^ 32 = grind (arith, c.1, long, long', l) in
      let g = opened-fits (λ n. parameter_owner at (param n ns)) (in_function at ns ats) (function-opens at ns ats) (parameters-fit at ns few) k f in
      each-append SiteFits (again_if (earlier x) at) ((repeats no_names ns ats ++ sites (in_function at ns ats k) e) ++ inside_sites k (also x earlier) ds)
      (again-fits (earlier x) at)
      (each-append SiteFits (repeats no_names ns ats ++ sites (in_function at ns ats k) e) (inside_sites k (also x earlier) ds)
      (each-append SiteFits (repeats no_names ns ats) (sites (in_function at ns ats k) e) (repeats-fit no_names ns ats)
      (sites-fit (in_function at ns ats k) g e b.1 (omega (arith, l, long, long'))))
      (inside-fit k f (also x earlier) ds a.1 (omega (arith, l, long))))
  inside-fit k f earlier (defines_current at x e ds) s l =
      each-append SiteFits (again_if (earlier x) at) (inside_sites k (also x earlier) ds) (again-fits (earlier x) at)
      (inside-fit k f (also x earlier) ds (both (is_shaped e) (defs_are_shaped ds) s).1 (omega (arith, l, length-append (places e) (places_in_defs ds))))
