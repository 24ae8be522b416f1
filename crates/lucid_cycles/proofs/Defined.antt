-- The definitions of a tree's plain names: their places, the nodes by their parts, and the one with a number.
use Rattle.lucid_cycles.proofs.Common.{◌≡◌, ℕ, ◌<◌, ◌≤◌, List, [], ◌∷◌, ◌++◌, length, get_or, map, ◌⊎◌, inl, inr, refl, sym, ap, ◌∙◌, arith, nat_eq, count_by, filter, flat_map, join_by, IsPermutation, IsNonDecreasingBy, append-nil, get_or_default, map-append, cases_lt, PlainTree, form, name, call, block, PlainTrees, no_trees, tree, PlainDefs, no_defs, defines, defines_function, defines_current, AllDiffer, places, places_in, places_in_defs, plain_names, plain_names_in, plain_names_in_defs, definitions, definition_text, name_text, Definition, text_at}
use Rattle.std.specs.Prelude.{nat_lt}
use Rattle.lucid_tree.proofs.Times.{times, times-append, times-counted, differ-once}
use Rattle.lucid_cycles.specs.JudgmentLine.{definitions_in, definitions_in_defs}
use Rattle.lucid_cycles.proofs.Ordered.{Once, count-map, one-at, none-at}
use Rattle.lucid_cycles.proofs.Found.{text-in, text-out}

-- the places of the definitions are those of the plain names
both-parts : (xs ys : List Definition) (ns ms : List ℕ) → ns ≡ map (λ (d : Definition). d.at) xs → ms ≡ map (λ (d : Definition). d.at) ys
    → ns ++ ms ≡ map (λ (d : Definition). d.at) (xs ++ ys)
both-parts xs ys ns ms p q = ap (λ z. z ++ ms) p ∙ ap (λ z. map (λ (d : Definition). d.at) xs ++ z) q ∙ sym (map-append (λ (d : Definition). d.at) xs ys)

mutual
  pub names-places : (e : PlainTree) → plain_names e ≡ map (λ (d : Definition). d.at) (definitions e)
  names-places (form at f es) = names-places-in es
  names-places (name at n) = refl
  names-places (call at n es) = names-places-in es
  names-places (block at e ds) = both-parts (definitions e) (definitions_in_defs ds) (plain_names e) (plain_names_in_defs ds) (names-places e)
      (names-places-defs ds)

  names-places-in : (es : PlainTrees) → plain_names_in es ≡ map (λ (d : Definition). d.at) (definitions_in es)
  names-places-in no_trees = refl
  names-places-in (tree e es) = both-parts (definitions e) (definitions_in es) (plain_names e) (plain_names_in es) (names-places e) (names-places-in es)

  names-places-defs : (ds : PlainDefs) → plain_names_in_defs ds ≡ map (λ (d : Definition). d.at) (definitions_in_defs ds)
  names-places-defs no_defs = refl
  names-places-defs (defines at x e ds) = ap (λ z. at ∷ z)
      (both-parts (definitions e) (definitions_in_defs ds) (plain_names e) (plain_names_in_defs ds) (names-places e) (names-places-defs ds))
  names-places-defs (defines_function at x ns ats e ds) =
      both-parts (definitions e) (definitions_in_defs ds) (plain_names e) (plain_names_in_defs ds) (names-places e) (names-places-defs ds)
  names-places-defs (defines_current at x e ds) =
      both-parts (definitions e) (definitions_in_defs ds) (plain_names e) (plain_names_in_defs ds) (names-places e) (names-places-defs ds)

-- and a plain name's place stands no more often among the names than among all places
mutual
  few : (x : ℕ) (e : PlainTree) → times x (plain_names e) ≤ times x (places e)
  few x (form at f es) = omega (arith, few-in x es)
  few x (name at n) = omega arith
  few x (call at n es) = omega (arith, few-in x es)
  few x (block at e ds) = omega (
    arith,
    few x e,
    few-defs x ds,
    times-append x (plain_names e) (plain_names_in_defs ds),
    times-append x (places e)
        (places_in_defs ds),
  )

  few-in : (x : ℕ) (es : PlainTrees) → times x (plain_names_in es) ≤ times x (places_in es)
  few-in x no_trees = omega arith
  few-in x (tree e es) = omega (arith, few x e, few-in x es, times-append x (plain_names e) (plain_names_in es), times-append x (places e) (places_in es))

  few-defs : (x : ℕ) (ds : PlainDefs) → times x (plain_names_in_defs ds) ≤ times x (places_in_defs ds)
  few-defs x no_defs = omega arith
  few-defs x (defines at n e ds) = omega (
    arith,
    few x e,
    few-defs x ds,
    times-append x (plain_names e) (plain_names_in_defs ds),
    times-append x (places e)
        (places_in_defs ds),
  )
  few-defs x (defines_function at n ns ats e ds) =
      omega (
        arith,
        few x e,
        few-defs x ds,
        times-append x (plain_names e) (plain_names_in_defs ds),
        times-append x (ats ++ places e) (places_in_defs ds),
        times-append x ats (places e),
      )
  few-defs x (defines_current at n e ds) = omega (
    arith,
    few x e,
    few-defs x ds,
    times-append x (plain_names e) (plain_names_in_defs ds),
    times-append x
        (places e) (places_in_defs ds),
  )

pub defined-once : (e : PlainTree) → AllDiffer (places e) → Once (λ (d : Definition). d.at) (definitions e)
defined-once e h x =
    let same : times x (map (λ (d : Definition). d.at) (definitions e)) ≡ count_by (λ (d : Definition). nat_eq x d.at) (definitions e) =
    times-counted x (map (λ (d : Definition). d.at) (definitions e)) ∙ count-map (λ (d : Definition). d.at) (λ y. nat_eq x y) (definitions e) in
    omega (arith, same, ap (λ l. times x l) (names-places e), few x e, differ-once (places e) h x)

-- the text of a name is that of the definition at the place of its number
text-of : (e : PlainTree) (k : ℕ) (l : List Definition)
    → filter (λ (d : Definition). nat_eq (count_by (λ x. nat_lt x d.at) (map (λ (z : Definition). z.at) (definitions e))) k) (definitions e) ≡ l
    → name_text e k ≡ flat_map definition_text l
text-of e k l h =
    ap (λ ns. flat_map definition_text (filter (λ (d : Definition). nat_eq (count_by (λ x. nat_lt x d.at) ns) k) (definitions e))) (names-places e)
    ∙ ap (λ l. flat_map definition_text l) h

named-at : (e : PlainTree) (x : Definition) (ds : List Definition) → AllDiffer (places e) → IsPermutation (definitions e) ds
    → IsNonDecreasingBy (λ (d : Definition). d.at) ds → (k : ℕ)
    → (k < length ds) ⊎ (length ds ≤ k) → text_at ds k ≡ name_text e k
named-at e x ds h p s k (inl l) =
    let one = one-at (λ (d : Definition). d.at) (definitions e) ds p s (defined-once e h) k x l in
    text-in ds k (get_or ds k x) l (get_or_default ds k x (get_or ds k x) l) ∙ sym (append-nil (definition_text (get_or ds k x))) ∙ sym (text-of e k _ one)
named-at e x ds h p s k (inr l) = text-out ds k l ∙ sym (text-of e k _ (none-at (λ (d : Definition). d.at) (definitions e) ds p s (defined-once e h) k l))

pub named : (e : PlainTree) (ds : List Definition) → AllDiffer (places e) → IsPermutation (definitions e) ds → IsNonDecreasingBy (λ (d : Definition). d.at) ds
    → (k : ℕ) → text_at ds k ≡ name_text e k
named e [] h p s k = sym (text-of e k _ (none-at (λ (d : Definition). d.at) (definitions e) [] p s (defined-once e h) k (omega arith)))
named e (x ∷ ds) h p s k = named-at e x (x ∷ ds) h p s k (cases_lt k (length (x ∷ ds)))

-- lists of texts that are the same one by one are joined to the same
flat-same : (f g : ℕ → List ℕ) (sep xs : List ℕ) → ((k : ℕ) → f k ≡ g k) → flat_map (λ y. sep ++ f y) xs ≡ flat_map (λ y. sep ++ g y) xs
flat-same f g sep [] h = refl
flat-same f g sep (x ∷ xs) h = ap (λ z. (sep ++ z) ++ flat_map (λ y. sep ++ f y) xs) (h x) ∙ ap (λ z. (sep ++ g x) ++ z) (flat-same f g sep xs h)

pub join-same : (f g : ℕ → List ℕ) (sep xs : List ℕ) → ((k : ℕ) → f k ≡ g k) → join_by f sep xs ≡ join_by g sep xs
join-same f g sep [] h = refl
join-same f g sep (x ∷ xs) h = ap (λ z. z ++ flat_map (λ y. sep ++ f y) xs) (h x) ∙ ap (λ z. g x ++ z) (flat-same f g sep xs h)
