-- Notes of a descent: what it notes are the marks of the sites.
use Rattle.lucid_scope.proofs.Common.{◌≡◌, ℕ, suc, ◌<◌, List, [], ◌∷◌, ◌++◌, length, drop, get_or, map, append_assoc, None, ◌⊎◌, inl, inr, refl, sym, ap, ◌∙◌, drop-cons, ◌+◌, ◌≤◌, append-nil, drop_all, PlainTree, form, name, call, block, PlainTrees, no_trees, tree, PlainDefs, no_defs, defines, defines_function, defines_current, Found, plain_def, function_def, current_def, definition, param, count, Static, in_block, in_function, Meaning, meaning, defined_in, parameter_in, Site, sites, sites_in, inside_sites, outside_sites, again_if, also, no_names, repeats, Earlier, owner_of, definition_owner, parameter_owner, or_outer, look, mark, Owned, in_block_owned, in_function_owned, marks, marks_in, outside_marks, inside_marks, Owner, Mark, Walk, add-one, map-append}
use Rattle.std.proofs.Common.{Option, Some}
use Rattle.lucid_tree.specs.Env.{absent}
use Rattle.lucid_scope.specs.Sites.{called}
use Rattle.lucid_scope.specs.Walks.{Notes}

-- marks are noted, and others after them
pub noted-then : (v w : Walk) (found : List Mark) (rest : Owned → List Mark) → Notes v w found
    → w.marks.items ++ rest (look w.table) ≡ v.marks.items ++ (found ++ rest (look v.table))
noted-then v w found rest n =
    ap (λ l. l ++ rest (look w.table)) n.marks_are ∙ append_assoc v.marks.items found (rest (look w.table))
    ∙ ap (λ t. v.marks.items ++ (found ++ rest (look t))) n.names

-- the marks of some sites are noted, the first ones of those that are left
pub noted-first : (v w : Walk) (some rest whole : List Site) (all : List Mark) → whole ≡ some ++ rest → Notes v w (map mark some)
    → v.marks.items ++ map mark whole ≡ all → w.marks.items ++ map mark rest ≡ all
noted-first v w some rest whole all e n h =
    noted-then v w (map mark some) (λ f. map mark rest) n ∙ ap (λ l. v.marks.items ++ l) (sym (map-append mark some rest) ∙ ap (map mark) (sym e)) ∙ h

-- and none is left
pub noted-all : (w : Walk) (rest : List Site) (all : List Mark) → rest ≡ [] → w.marks.items ++ map mark rest ≡ all → w.marks.items ≡ all
noted-all w rest all e h = sym (append-nil w.marks.items) ∙ ap (λ l. w.marks.items ++ map mark l) (sym e) ∙ h

-- A scope that is opened: its own names, and those of the scope outside.
pub record Opens (own : List ℕ → Option Owner) (open_scope : Static → Static) : Type 0 where
  pub opens : (k : Static) (n : List ℕ) → owner_of (meaning n (open_scope k)) ≡ or_outer (own n) (owner_of (meaning n k))

defined : (f : Found) (h k : Static) (m : Meaning) → owner_of (defined_in f h k m) ≡ or_outer (definition_owner f) (owner_of m)
defined absent h k m = refl
defined (plain_def at e) h k m = refl
defined (function_def at ns ats e) h k m = refl
defined (current_def at e) h k m = refl

pub block-opens : (ds : PlainDefs) → Opens (λ n. definition_owner (definition n ds)) (in_block ds)
block-opens ds = record { opens = λ k n. defined (definition n ds) (in_block ds k) k (meaning n k) }

a_parameter : (q : Option ℕ) (d : ℕ) (ats : List ℕ) (h : Static) (m : Meaning)
    → owner_of (parameter_in q d ats h m) ≡ or_outer (parameter_owner d q) (owner_of m)
a_parameter None d ats h m = refl
a_parameter (Some i) d ats h m = refl

pub function-opens : (d : ℕ) (ns : List (List ℕ)) (ats : List ℕ) → Opens (λ n. parameter_owner d (param n ns)) (in_function d ns ats)
function-opens d ns ats = record { opens = λ k n. a_parameter (param n ns) d ats (in_function d ns ats k) (meaning n k) }

-- the owners of names where this is in scope
abbrev pub shown : Static → Owned
shown k n = owner_of (meaning n k)

shown-block : (ds : PlainDefs) (k : Static) → in_block_owned ds (shown k) ≡ shown (in_block ds k)
shown-block ds k = λ j n. sym ((block-opens ds).opens k n) j

shown-function : (d : ℕ) (ns : List (List ℕ)) (ats : List ℕ) (k : Static) → in_function_owned d ns (shown k) ≡ shown (in_function d ns ats k)
shown-function d ns ats k = λ j n. sym ((function-opens d ns ats).opens k n) j

joined : (ms ns : List Mark) (ss ts : List Site) → ms ≡ map mark ss → ns ≡ map mark ts → ms ++ ns ≡ map mark (ss ++ ts)
joined ms ns ss ts p q = ap (λ l. l ++ ns) p ∙ ap (λ l. map mark ss ++ l) q ∙ sym (map-append mark ss ts)

-- The marks of a tree are those of its sites.
mutual
  pub marks-sites : (k : Static) (e : PlainTree) → marks (shown k) e ≡ map mark (sites k e)
  marks-sites k (form at h es) = marks-sites-in k es
  marks-sites k (name at x) = refl
  marks-sites k (call at x es) = ap (λ l. mark (called at x (count es) k) ∷ l) (marks-sites-in k es)
  marks-sites k (block at e ds) =
      joined _ _ (outside_sites k ds) (sites (in_block ds k) e ++ inside_sites (in_block ds k) no_names ds) (marks-outside k ds)
      (joined _ _ (sites (in_block ds k) e) (inside_sites (in_block ds k) no_names ds)
      (ap (λ f. marks f e) (shown-block ds k) ∙ marks-sites (in_block ds k) e)
      (ap (λ f. inside_marks f no_names ds) (shown-block ds k) ∙ marks-inside (in_block ds k) no_names ds))

  marks-sites-in : (k : Static) (es : PlainTrees) → marks_in (shown k) es ≡ map mark (sites_in k es)
  marks-sites-in k no_trees = refl
  marks-sites-in k (tree e es) = joined _ _ (sites k e) (sites_in k es) (marks-sites k e) (marks-sites-in k es)

  marks-outside : (k : Static) (ds : PlainDefs) → outside_marks (shown k) ds ≡ map mark (outside_sites k ds)
  marks-outside k no_defs = refl
  marks-outside k (defines at x e ds) = marks-outside k ds
  marks-outside k (defines_function at x ns ats e ds) = marks-outside k ds
  marks-outside k (defines_current at x e ds) = joined _ _ (sites k e) (outside_sites k ds) (marks-sites k e) (marks-outside k ds)

  marks-inside : (k : Static) (earlier : Earlier) (ds : PlainDefs) → inside_marks (shown k) earlier ds ≡ map mark (inside_sites k earlier ds)
  marks-inside k earlier no_defs = refl
  marks-inside k earlier (defines at x e ds) =
      joined _ _ (again_if (earlier x) at) (sites k e ++ inside_sites k (also x earlier) ds) refl
      (joined _ _ (sites k e) (inside_sites k (also x earlier) ds) (marks-sites k e) (marks-inside k (also x earlier) ds))
  marks-inside k earlier (defines_function at x ns ats e ds) =
      let inner : List Site = sites (in_function at ns ats k) e in
      joined _ _ (again_if (earlier x) at) ((repeats no_names ns ats ++ inner) ++ inside_sites k (also x earlier) ds) refl
      (joined _ _ (repeats no_names ns ats ++ inner) (inside_sites k (also x earlier) ds)
      (joined _ _ (repeats no_names ns ats) inner refl (ap (λ f. marks f e) (shown-function at ns ats k) ∙ marks-sites (in_function at ns ats k) e))
      (marks-inside k (also x earlier) ds))
  marks-inside k earlier (defines_current at x e ds) =
      joined _ _ (again_if (earlier x) at) (inside_sites k (also x earlier) ds) refl (marks-inside k (also x earlier) ds)

repeats-after : (xs : List (List ℕ)) (ats : List ℕ) (i : ℕ) (x : List ℕ) (earlier later : Earlier) → i < length xs → i < length ats → x ≡ get_or xs i x
    → ((n : List ℕ) → later n ≡ also x earlier n)
    → repeats earlier (drop i xs) (drop i ats) ≡ again_if (earlier x) (get_or ats i 0) ++ repeats later (drop (suc i) xs) (drop (suc i) ats)
repeats-after xs ats i x earlier later h h' is e =
    let alike : later ≡ also x earlier = λ j n. e n j in
    ap (λ l. repeats earlier l (drop i ats)) (drop-cons xs i x h ∙ ap (λ y. y ∷ drop (suc i) xs) (sym is))
    ∙ ap (λ l. repeats earlier (x ∷ drop (suc i) xs) l) (drop-cons ats i 0 h')
    ∙ ap (λ l. again_if (earlier x) (get_or ats i 0) ++ repeats l (drop (suc i) xs) (drop (suc i) ats)) (sym alike)

-- one name further along a list
pub repeats-next : (xs : List (List ℕ)) (ats : List ℕ) (i : ℕ) (x : List ℕ) (earlier later : Earlier) → i < length xs → i < length ats → x ≡ get_or xs i x
    → ((n : List ℕ) → later n ≡ also x earlier n)
    → repeats earlier (drop i xs) (drop i ats) ≡ again_if (earlier x) (get_or ats i 0) ++ repeats later (drop (i + 1) xs) (drop (i + 1) ats)
repeats-next xs ats i x earlier later h h' is e = rw (add-one i) (repeats-after xs ats i x earlier later h h' is e)

no-places : (xs : List (List ℕ)) (earlier : Earlier) → repeats earlier xs [] ≡ []
no-places [] earlier = refl
no-places (x ∷ xs) earlier = refl

pub repeats-end : (xs : List (List ℕ)) (ats : List ℕ) (i : ℕ) (earlier : Earlier) → (length xs ≤ i) ⊎ (length ats ≤ i)
    → repeats earlier (drop i xs) (drop i ats) ≡ []
repeats-end xs ats i earlier (inl h) = ap (λ l. repeats earlier l (drop i ats)) (drop_all i xs h)
repeats-end xs ats i earlier (inr h) = ap (λ l. repeats earlier (drop i xs) l) (drop_all i ats h) ∙ no-places (drop i xs) earlier
