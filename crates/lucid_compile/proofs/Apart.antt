-- The scopes of a resolved tree differ: a block has the place of its first definition, and a function that of its first parameter.
use Rattle.lucid_compile.proofs.Common.{◌≡◌, ℕ, zero, suc, ◌+◌, ◌<◌, ◌≤◌, Bool, true, false, ◌&&◌, IsTrue, length, List, [], ◌∷◌, ◌++◌, map, get_or, slice_get, nat_eq, nat_lt, Some, inl, inr, refl, ap, ◌∙◌, subst, arith, nat_tests, map-append, none-some, PlainTree, form, name, call, block, PlainTrees, no_trees, tree, PlainDefs, no_defs, defines, defines_function, defines_current, In, AllDiffer, places, places_in_defs, is_shaped, are_shaped, defs_are_shaped, IsWellMade, times, times-append, once-differ, differ-once, freezes, in_body, Note, block_scopes, FunctionStand, Log, no_log, with_stand, with_function, opened_block, opened_function, with_parameters, added, added_all, added_defs, first_true, second_true, current_right, note, plain_right}
use Rattle.std.proofs.lemmas.List.{append-nil}
use Rattle.lucid_tree.specs.WellMade.{places_in}
use Rattle.lucid_compile.specs.Static.{Static, outermost, in_block}
use Rattle.lucid_compile.specs.Settled.{definition_place, own}
use Rattle.lucid_compile.proofs.Opening.{parameters-scopes}

abbrev front_of : PlainDefs → List ℕ
front_of no_defs = []
front_of (defines at x e ds) = at ∷ []
front_of (defines_function at x ns ats e ds) = at ∷ []
front_of (defines_current at x e ds) = at ∷ []

abbrev pub owns : Log → List ℕ
owns l = map own l.scopes

-- how often a number is one more than a place
abbrev taken : ℕ → List ℕ → ℕ
taken x ps = times x (map suc ps)

taken-append : (x : ℕ) (xs ys : List ℕ) → taken x (xs ++ ys) ≡ taken x xs + taken x ys
taken-append x xs ys = ap (times x) (map-append suc xs ys) ∙ times-append x (map suc xs) (map suc ys)

no-front : (x : ℕ) (ds : PlainDefs) → freezes ds ≡ true → times x (suc (definition_place ds) ∷ []) ≤ taken x (front_of ds)
no-front x no_defs e =
    let q : false ≡ true = e in
    absurd (cc)
no-front x (defines at n e ds) q = omega arith
no-front x (defines_function at n ns ats e ds) q = omega arith
no-front x (defines_current at n e ds) q = omega arith

block-owns : (x : ℕ) (ds : PlainDefs) (k : Static) (l : Log) (b : Bool) → freezes ds ≡ b
    → times x (map own (l.scopes ++ block_scopes b (in_block ds k))) ≤ times x (owns l) + taken x (front_of ds)
block-owns x ds k l true e =
    omega (arith, ap (times x) (map-append own l.scopes (in_block ds k ∷ [])), times-append x (owns l) (suc (definition_place ds) ∷ []), no-front x ds e)
block-owns x ds k l false e = omega (arith, ap (λ xs. times x (map own xs)) (append-nil l.scopes))

front-taken : (x : ℕ) (ats : List ℕ) → 0 < length ats → times x (suc (get_or ats 0 0) ∷ []) ≤ taken x ats
front-taken x [] h = absurd (omega (arith, h))
front-taken x (at ∷ ats) h = omega arith

function-owns : (x : ℕ) (ns : List (List ℕ)) (ats : List ℕ) (k : Static) (l : Log) → 0 < length ats
    → times x (owns (with_parameters (in_body ns ats k) 0 ats (opened_function ns ats k l))) ≤ times x (owns l) + taken x ats
function-owns x ns ats k l h =
    let y : Static = in_body ns ats k in
    omega (
      arith,
      ap (λ xs. times x (map own xs)) (parameters-scopes y 0 ats (opened_function ns ats k l)),
      ap (times x) (map-append own l.scopes (y ∷ [])),
      times-append x (owns l) (suc (get_or ats 0 0) ∷ []),
      front-taken x ats h,
    )

has-first : (n m : ℕ) → IsTrue (nat_lt 0 n && nat_eq m n) → 0 < m
has-first n m h =
    let a : IsTrue (nat_lt 0 n) = first_true (nat_lt 0 n) _ h in
    let b : IsTrue (nat_eq m n) = second_true (nat_lt 0 n) _ h in
    grind (arith, nat_tests, a, b)

module _ (x : ℕ) where
  mutual
    owns-tree : (k : Static) (e : PlainTree) (l : Log) → IsTrue (is_shaped e) → times x (owns (added k e l)) ≤ times x (owns l) + taken x (places e)
    owns-tree k (form at f es) l t = omega (arith, owns-trees k es l (second_true _ (are_shaped es) t))
    owns-tree k (name at n) l t = omega arith
    owns-tree k (call at n es) l t = omega (arith, owns-trees k es l t)
    owns-tree k (block at e ds) l t =
        let u : Log = opened_block ds k l in
        let b : Log = added (in_block ds k) e u in
        omega (
          arith,
          taken-append x (places e) (places_in_defs ds),
          block-owns x ds k l (freezes ds) refl,
          owns-tree (in_block ds k) e u
              (first_true (is_shaped e) _ t),
          owns-defs (in_block ds k) k ds b (second_true (is_shaped e) _ t),
        )

    owns-trees : (k : Static) (es : PlainTrees) (l : Log) → IsTrue (are_shaped es)
        → times x (owns (added_all k es l)) ≤ times x (owns l) + taken x (places_in es)
    owns-trees k no_trees l t = omega arith
    owns-trees k (tree e es) l t =
        omega (
          arith,
          taken-append x (places e) (places_in es),
          owns-tree k e l (first_true (is_shaped e) _ t),
          owns-trees k es (added k e l)
              (second_true (is_shaped e) _ t),
        )

    owns-defs : (k o : Static) (ds : PlainDefs) (l : Log) → IsTrue (defs_are_shaped ds)
        → times x (owns (added_defs k o ds l)) + taken x (front_of ds) ≤ times x (owns l) + taken x (places_in_defs ds)
    owns-defs k o no_defs l t = omega arith
    owns-defs k o (defines at n e ds) l t =
        let s : Note = note at k (plain_right e) in
        omega (
          arith,
          taken-append x (places e) (places_in_defs ds),
          owns-tree k e l (first_true (is_shaped e) _ t),
          owns-defs k o ds
              (with_stand s (added k e l)) (second_true (is_shaped e) _ t),
        )
    owns-defs k o (defines_function at n ns ats e ds) l t =
        let y : Static = in_body ns ats k in
        let front : IsTrue ((nat_lt 0 (length ns) && nat_eq (length ats) (length ns)) && is_shaped e) = first_true _ (defs_are_shaped ds) t in
        let first : 0 < length ats = has-first (length ns) (length ats) (first_true _ (is_shaped e) front) in
        let shape : IsTrue (is_shaped e) = second_true (nat_lt 0 (length ns) && nat_eq (length ats) (length ns)) _ front in
        let rest : IsTrue (defs_are_shaped ds) = second_true ((nat_lt 0 (length ns) && nat_eq (length ats) (length ns)) && is_shaped e) _ t in
        let f : FunctionStand = record { at = at; first = length l.names; names = ns; places = ats; right = e; home = k } in
        let b : Log = with_parameters y 0 ats (opened_function ns ats k l) in
        omega (
          arith,
          taken-append x (ats ++ places e) (places_in_defs ds),
          taken-append x ats (places e),
          function-owns x ns ats k l first,
          owns-tree y e b
              shape,
          owns-defs k o ds (with_function f (added y e b)) rest,
        )
    owns-defs k o (defines_current at n e ds) l t =
        let s : Note = note at k (current_right e) in
        omega (
          arith,
          taken-append x (places e) (places_in_defs ds),
          owns-tree o e l (first_true (is_shaped e) _ t),
          owns-defs k o ds
              (with_stand s (added o e l)) (second_true (is_shaped e) _ t),
        )

-- numbers that differ differ when each is one more
not-zero : (xs : List ℕ) → In 0 (map suc xs) → ⊥
not-zero [] i = i
not-zero (x ∷ xs) (inl e) = absurd (omega (arith, e))
not-zero (x ∷ xs) (inr i) = not-zero xs i

one-less : (x : ℕ) (xs : List ℕ) → In (suc x) (map suc xs) → In x xs
one-less x [] i = i
one-less x (y ∷ ys) (inl e) = inl (omega (arith, e))
one-less x (y ∷ ys) (inr i) = inr (one-less x ys i)

one-more : (xs : List ℕ) → AllDiffer xs → AllDiffer (map suc xs)
one-more [] h = tt
one-more (x ∷ xs) h = ((λ i. h.0 (one-less x xs i)), one-more xs h.1)

pub owns-differ : (e : PlainTree) → IsWellMade e → AllDiffer (owns (added outermost e no_log))
owns-differ e made =
    let all : AllDiffer (0 ∷ map suc (places e)) = (not-zero (places e), one-more (places e) made.placed) in
    once-differ (owns (added outermost e no_log))
    (λ x. omega (arith, owns-tree x outermost e no_log made.shaped, differ-once (0 ∷ map suc (places e)) all x))

-- what differs stands at one index
module _ {A : Type 0} (f : A → ℕ) where
  in-image : (xs : List A) (j : ℕ) (x : A) → slice_get xs j ≡ Some x → In (f x) (map f xs)
  in-image [] j x e = absurd (none-some x e)
  in-image (y ∷ xs) zero x e =
      let same : x ≡ y = cc in
      inl (ap f same)
  in-image (y ∷ xs) (suc j) x e = inr (in-image xs j x e)

  one-index : (xs : List A) (i j : ℕ) (x : A) → AllDiffer (map f xs) → slice_get xs i ≡ Some x → slice_get xs j ≡ Some x → i ≡ j
  one-index [] i j x d a b = absurd (none-some x a)
  one-index (y ∷ xs) zero zero x d a b = refl
  one-index (y ∷ xs) zero (suc j) x d a b =
      let same : x ≡ y = cc in
      absurd (d.0 (subst (λ v. In (f v) (map f xs)) same (in-image xs j x b)))
  one-index (y ∷ xs) (suc i) zero x d a b =
      let same : x ≡ y = cc in
      absurd (d.0 (subst (λ v. In (f v) (map f xs)) same (in-image xs i x a)))
  one-index (y ∷ xs) (suc i) (suc j) x d a b = ap suc (one-index xs i j x d.1 a b)

-- each scope has one number
abbrev pub AreApart : List Static → Type 0
AreApart ks = (i j : ℕ) (k : Static) → slice_get ks i ≡ Some k → slice_get ks j ≡ Some k → i ≡ j

pub scopes-apart : (e : PlainTree) → IsWellMade e → AreApart (added outermost e no_log).scopes
scopes-apart e made i j k = one-index own (added outermost e no_log).scopes i j k (owns-differ e made)
