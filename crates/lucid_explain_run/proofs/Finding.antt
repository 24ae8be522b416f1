-- What is found at a place, and that each part of a tree that is well made is found.
use Rattle.std.proofs.Common.{◌≡◌, ℕ, ◌+◌, ◌≤◌, Bool, true, false, true≢false, List, [], ◌∷◌, ◌++◌, map, Option, Some, None, refl, sym, ap, subst, ◌∙◌, inl, inr, arith}
use Rattle.std.specs.Prelude.{nat_eq, cond, is_some}
use Rattle.std.specs.Borrow.{Bor}
use Rattle.std.specs.List.{find}
use Rattle.std.specs.Option.{option_or, option_copied}
use Rattle.std.proofs.lemmas.List.Folds.{find-append}
use Rattle.std.proofs.lemmas.Bool.{eqb-true, eq-eqb, ne_eqb}
use Rattle.std.proofs.lemmas.List.{map-append}
use Rattle.std.proofs.lemmas.Option.{none-some}
use Rattle.lucid_tree.specs.Tree.{PlainTree, form, name, call, block, PlainTrees, no_trees, tree, PlainDefs, no_defs, defines, defines_function, defines_current}
use Rattle.lucid_tree.specs.DefsView.{def_of, one_def}
use Rattle.lucid_tree.specs.Rights.{right_of}
use Rattle.lucid_tree.specs.Size.{nodes_in_defs}
use Rattle.lucid_tree.specs.declared.tree.Def.{Def}
use Rattle.lucid_tree.specs.declared.tree.DefKind.{DefKind}
use Rattle.lucid_tree.specs.declared.tree.DefKind.TheVariants.{Plain, Function, Current}
use Rattle.lucid_tree.specs.WellMade.{In, AllDiffer, IsWellMade, places, places_in, places_in_defs}
use Rattle.lucid_tree.proofs.Members.{in_map}
use Rattle.lucid_tree.proofs.Times.{times, times-append, once-differ, differ-once}
use Rattle.lucid_explain_run.specs.Parts.{own_place, all_parts, parts_in, parts_in_defs, stands_at, part_at}

-- it is found among the first, or among the others
pub find_in_both : (at : ℕ) (xs ys : List PlainTree) → find (stands_at at) (xs ++ ys) ≡ option_or (find (stands_at at) xs) (find (stands_at at) ys)
find_in_both at xs ys = find-append (stands_at at) xs ys

-- what is found in the first of some, and what isn't
pub found-first : (at : ℕ) (e : PlainTree) (xs : List PlainTree) (o : Option (Bor PlainTree)) → option_copied o ≡ part_at e at → is_some o ≡ true
    → option_copied o ≡ find (stands_at at) (all_parts e ++ xs)
found-first at e xs None is there =
    let no : false ≡ true = there in absurd (true≢false (sym no))
found-first at e xs (Some x) is there = ap (λ (r : Option PlainTree). option_or r (find (stands_at at) xs)) is ∙ sym (find_in_both at (all_parts e) xs)

pub not-first : (at : ℕ) (e : PlainTree) (xs : List PlainTree) (o : Option (Bor PlainTree)) → option_copied o ≡ part_at e at → is_some o ≡ false
    → find (stands_at at) (all_parts e ++ xs) ≡ find (stands_at at) xs
not-first at e xs None is none = find_in_both at (all_parts e) xs ∙ ap (λ (r : Option PlainTree). option_or r (find (stands_at at) xs)) (sym is)
not-first at e xs (Some x) is none = absurd (true≢false none)

-- a definition's parts are those of its right side
parts-of-kind : (at : ℕ) (n : List ℕ) (k : DefKind) (ds : PlainDefs) → parts_in_defs (def_of at n k ds) ≡ all_parts (right_of k) ++ parts_in_defs ds
parts-of-kind at n (Plain e) ds = refl
parts-of-kind at n (Function ps ats e) ds = refl
parts-of-kind at n (Current e) ds = refl

pub parts-of-def : (d : Def) (ds : PlainDefs) → parts_in_defs (one_def d ds) ≡ all_parts (right_of d.kind) ++ parts_in_defs ds
parts-of-def d ds = parts-of-kind d.at d.name d.kind ds

-- and its nodes and the others' are those of both
nodes-of-kind : (at : ℕ) (n : List ℕ) (k : DefKind) (ds : PlainDefs) → nodes_in_defs ds ≤ nodes_in_defs (def_of at n k ds)
nodes-of-kind at n (Plain e) ds = omega arith
nodes-of-kind at n (Function ps ats e) ds = omega arith
nodes-of-kind at n (Current e) ds = omega arith

pub def-nodes : (d : Def) (ds : PlainDefs) → nodes_in_defs ds ≤ nodes_in_defs (one_def d ds)
def-nodes d ds = nodes-of-kind d.at d.name d.kind ds

-- what is found is there, and has the place
stands-by : (at : ℕ) (xs : List PlainTree) (y x : PlainTree) → (find (stands_at at) xs ≡ Some x → In x xs × (own_place x ≡ at)) → (b : Bool)
    → nat_eq (own_place y) at ≡ b → cond b (Some y) (find (stands_at at) xs) ≡ Some x → In x (y ∷ xs) × (own_place x ≡ at)
stands-by at xs y x more true is e =
    let same : x ≡ y = cc in
    (inl same, ap own_place same ∙ eqb-true (own_place y) at is)
stands-by at xs y x more false is e = let there = more e in (inr there.0, there.1)

pub found-stands : (at : ℕ) (xs : List PlainTree) (x : PlainTree) → find (stands_at at) xs ≡ Some x → In x xs × (own_place x ≡ at)
found-stands at [] x h = absurd (none-some x h)
found-stands at (y ∷ xs) x h = stands-by at xs y x (found-stands at xs x) (stands_at at y) refl h

-- what is there is found, where no two have one place
pub stands-found : (xs : List PlainTree) (x : PlainTree) → AllDiffer (map own_place xs) → In x xs → find (stands_at (own_place x)) xs ≡ Some x
stands-found [] x differ there = absurd there
stands-found (y ∷ xs) x differ (inl same) = rw (eq-eqb (own_place y) (own_place x) (ap own_place (sym same))) (ap Some (sym same))
stands-found (y ∷ xs) x differ (inr there) =
    rw (ne_eqb (own_place y) (own_place x) (λ e. differ.0 (subst (λ at. In at (map own_place xs)) (sym e) (in_map own_place x xs there))))
    (stands-found xs x differ.1 there)

-- a part's own place is one of the tree's
abbrev owned : ℕ → List PlainTree → ℕ
owned p xs = times p (map own_place xs)

owned-append : (p : ℕ) (xs ys : List PlainTree) → owned p (xs ++ ys) ≡ owned p xs + owned p ys
owned-append p xs ys = ap (times p) (map-append own_place xs ys) ∙ times-append p (map own_place xs) (map own_place ys)

module _ (p : ℕ) where
  mutual
    owned-tree : (e : PlainTree) → owned p (all_parts e) ≤ times p (places e)
    owned-tree (form at f es) = let there = owned-trees es in omega (arith, there)
    owned-tree (name at n) = omega arith
    owned-tree (call at n es) = let there = owned-trees es in omega (arith, there)
    owned-tree (block at e ds) =
        omega (arith, owned-append p (all_parts e) (parts_in_defs ds), times-append p (places e) (places_in_defs ds), owned-tree e, owned-defs ds)

    owned-trees : (es : PlainTrees) → owned p (parts_in es) ≤ times p (places_in es)
    owned-trees no_trees = omega arith
    owned-trees (tree e es) =
        omega (arith, owned-append p (all_parts e) (parts_in es), times-append p (places e) (places_in es), owned-tree e, owned-trees es)

    owned-defs : (ds : PlainDefs) → owned p (parts_in_defs ds) ≤ times p (places_in_defs ds)
    owned-defs no_defs = omega arith
    owned-defs (defines at n e ds) =
        omega (arith, owned-append p (all_parts e) (parts_in_defs ds), times-append p (places e) (places_in_defs ds), owned-tree e, owned-defs ds)
    owned-defs (defines_function at n ns ats e ds) =
        omega (
          arith,
          owned-append p (all_parts e) (parts_in_defs ds),
          times-append p (ats ++ places e) (places_in_defs ds),
          times-append p ats (places e),
          owned-tree e,
          owned-defs ds,
        )
    owned-defs (defines_current at n e ds) =
        omega (arith, owned-append p (all_parts e) (parts_in_defs ds), times-append p (places e) (places_in_defs ds), owned-tree e, owned-defs ds)

own-places-differ : (e : PlainTree) → IsWellMade e → AllDiffer (map own_place (all_parts e))
own-places-differ e made = once-differ (map own_place (all_parts e)) (λ p. omega (arith, owned-tree p e, differ-once (places e) made.placed p))

pub part-found : (e x : PlainTree) → IsWellMade e → In x (all_parts e) → part_at e (own_place x) ≡ Some x
part-found e x made there = stands-found (all_parts e) x (own-places-differ e made) there
