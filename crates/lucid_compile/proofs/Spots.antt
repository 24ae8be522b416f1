-- The places of a tree's nodes, each with what is in scope there: in a well made tree they differ.
use Rattle.lucid_compile.proofs.Common.{◌≡◌, ℕ, suc, ◌+◌, ◌≤◌, false, List, [], ◌∷◌, ◌++◌, map, Some, slice_get, nat_eq, if◌then◌else◌, inl, inr, sym, ap, ◌∙◌, subst, arith, nat_tests, map-append, PlainTree, form, name, call, block, PlainTrees, no_trees, tree, PlainDefs, no_defs, defines, defines_function, defines_current, In, AllDiffer, places, places_in_defs, IsWellMade, times, times-append, once-differ, differ-once, in_map, Origin, in_body}
use Rattle.std.proofs.lemmas.Bool.{eq-eqb as eq-true}
use Rattle.lucid_tree.specs.WellMade.{places_in}
use Rattle.lucid_compile.specs.Static.{Static, outermost, in_block}

-- the places of a tree's nodes, each with what is in scope there
abbrev mutual
  pub spots_for : Static → PlainTree → List Origin
  spots_for k (form at f es) = record { at = at; home = k } ∷ all_spots k es
  spots_for k (name at x) = record { at = at; home = k } ∷ []
  spots_for k (call at x es) = record { at = at; home = k } ∷ all_spots k es
  spots_for k (block at e ds) = record { at = at; home = k } ∷ (spots_for (in_block ds k) e ++ def_spots (in_block ds k) k ds)

  pub all_spots : Static → PlainTrees → List Origin
  all_spots k no_trees = []
  all_spots k (tree e es) = spots_for k e ++ all_spots k es

  pub def_spots : (inside outside : Static) → PlainDefs → List Origin
  def_spots k o no_defs = []
  def_spots k o (defines at x e ds) = spots_for k e ++ def_spots k o ds
  def_spots k o (defines_function at x ns ats e ds) = spots_for (in_body ns ats k) e ++ def_spots k o ds
  def_spots k o (defines_current at x e ds) = spots_for o e ++ def_spots k o ds

abbrev keys : List Origin → List ℕ
keys os = map (λ o. o.at) os

keys-append : (x : ℕ) (os ps : List Origin) → times x (keys (os ++ ps)) ≡ times x (keys os) + times x (keys ps)
keys-append x os ps = ap (times x) (map-append (λ o. o.at) os ps) ∙ times-append x (keys os) (keys ps)

-- each stands at most as often as its place
module _ (x : ℕ) where
  mutual
    spots-times : (k : Static) (e : PlainTree) → times x (keys (spots_for k e)) ≤ times x (places e)
    spots-times k (form at f es) = omega (arith, all_spots-times k es)
    spots-times k (name at n) = omega arith
    spots-times k (call at n es) = omega (arith, all_spots-times k es)
    spots-times k (block at e ds) =
        let i : Static = in_block ds k in
        omega (arith, keys-append x (spots_for i e) (def_spots i k ds), times-append x (places e) (places_in_defs ds), spots-times i e, def_spots-times i k ds)

    all_spots-times : (k : Static) (es : PlainTrees) → times x (keys (all_spots k es)) ≤ times x (places_in es)
    all_spots-times k no_trees = omega arith
    all_spots-times k (tree e es) = omega (
      arith,
      keys-append x (spots_for k e) (all_spots k es),
      times-append x (places e) (places_in es),
      spots-times k e,
      all_spots-times k es,
    )

    def_spots-times : (k o : Static) (ds : PlainDefs) → times x (keys (def_spots k o ds)) ≤ times x (places_in_defs ds)
    def_spots-times k o no_defs = omega arith
    def_spots-times k o (defines at n e ds) = omega
        (arith, keys-append x (spots_for k e) (def_spots k o ds), times-append x (places e) (places_in_defs ds), spots-times k e, def_spots-times k o ds)
    def_spots-times k o (defines_function at n ns ats e ds) =
        let f : Static = in_body ns ats k in
        omega (
          arith,
          keys-append x (spots_for f e) (def_spots k o ds),
          times-append x (ats ++ places e) (places_in_defs ds),
          times-append x ats (places e),
          spots-times f e,
          def_spots-times k o ds,
        )
    def_spots-times k o (defines_current at n e ds) =
        omega (arith, keys-append x (spots_for o e) (def_spots k o ds), times-append x (places e) (places_in_defs ds), spots-times o e, def_spots-times k o ds)

-- the index of a key, or the number of all keys
abbrev pub index : List ℕ → ℕ → ℕ
index [] a = 0
index (k ∷ ks) a = if nat_eq k a then 0 else suc (index ks a)

pub eq-false : (a b : ℕ) → (a ≡ b → ⊥) → nat_eq a b ≡ false
eq-false a b h = grind (arith, nat_tests)

module _ {A : Type 0} (f : A → ℕ) where
  -- an item stands where the index of its key says
  get-index : (xs : List A) (x : A) → AllDiffer (map f xs) → In x xs → slice_get xs (index (map f xs) (f x)) ≡ Some x
  get-index [] x h i = absurd i
  get-index (y ∷ ys) x h (inl e) = rw (eq-true (f y) (f x) (ap f (sym e))) (ap Some (sym e))
  get-index (y ∷ ys) x h (inr i) =
      rw (eq-false (f y) (f x) (λ q. h.0 (subst (λ z. In z (map f ys)) (sym q) (in_map f x ys i)))) (get-index ys x h.1 i)

-- the places of a tree, and where each stands among them
abbrev pub spots : PlainTree → List Origin
spots e = spots_for outermost e

abbrev pub spot_keys : PlainTree → List ℕ
spot_keys e = keys (spots e)

pub spot-at : (e : PlainTree) → IsWellMade e → (o : Origin) → In o (spots e) → slice_get (spots e) (index (spot_keys e) o.at) ≡ Some o
spot-at e made o i =
    let differ : AllDiffer (spot_keys e) = once-differ (spot_keys e) (λ x. omega (arith, spots-times x outermost e, differ-once (places e) made.placed x)) in
    get-index (λ o. o.at) (spots e) o differ i
