-- Rows with numbers for places, one by one and in lists.
use Rattle.lucid_compile.proofs.Common.{◌≡◌, ℕ, zero, suc, ◌+◌, ◌<◌, length, List, [], ◌∷◌, ◌++◌, map, take, drop, get_or, refl, sym, ap, ◌∙◌, arith, map-append, length-map, Head, const, ScopeRow, NodeRow, PlaceRow, Key, Numbered, with_call_key, Lists, with_place, OneScope, OneNode, node_of, HasFirst, linked_node, linked_row, linked_place, link, slice_set}
use Rattle.lucid_tree.specs.Tree.{stream}
use Rattle.lucid_tree.specs.declared.form.Form.TheVariants as forms

-- the item at an index, where those before it were overwritten
get-over : {A : Type 0} (f : A → A) (xs : List A) (i : ℕ) (d : A) → i < length xs → get_or (map f (take i xs) ++ drop i xs) i d ≡ get_or xs i d
get-over f [] i d h = absurd (omega (arith, h))
get-over f (x ∷ xs) zero d h = refl
get-over f (x ∷ xs) (suc i) d h = get-over f xs i d (omega (arith, h))

set-over : {A : Type 0} (f : A → A) (xs : List A) (i : ℕ) (y d : A) → i < length xs → y ≡ f (get_or xs i d)
    → slice_set (map f (take i xs) ++ drop i xs) i y ≡ map f (take (suc i) xs) ++ drop (suc i) xs
set-over f [] i y d h e = absurd (omega (arith, h))
set-over f (x ∷ xs) zero y d h e = ap (λ z. z ∷ xs) e
set-over f (x ∷ xs) (suc i) y d h e = ap (λ zs. f x ∷ zs) (set-over f xs i y d (omega (arith, h)) e)

-- and one item more
pub over-more : {A : Type 0} (f : A → A) (xs ys : List A) (i : ℕ) (y d : A) → ys ≡ map f (take i xs) ++ drop i xs → i < length xs → y ≡ f (get_or ys i d)
    → slice_set ys i y ≡ map f (take (i + 1) xs) ++ drop (i + 1) xs
over-more f xs ys i y d is within made =
    let here : get_or ys i d ≡ get_or xs i d = ap (λ l. get_or l i d) is ∙ get-over f xs i d within in
    let more : suc i ≡ i + 1 = omega arith in
    ap (λ l. slice_set l i y) is ∙ set-over f xs i y d within (made ∙ ap f here) ∙ ap (λ k. map f (take k xs) ++ drop k xs) more

-- the node of a form has no places
pub form-linked : (w : Numbered) (f : Head) (a b c : ℕ) → linked_node w (node_of f a b c) ≡ node_of f a b c
form-linked w (const v) a b c = refl
form-linked w (stream forms.If) a b c = refl
form-linked w f a b c = refl

module _ (w : Numbered) (o n : Lists) where
  pub scope-linked : (r : ScopeRow) (id : ℕ) → OneScope o n r id → OneScope (link w o) (link w n) r id
  scope-linked r id s = record { lists = ap (link w) s.lists; number = s.number }

  pub first-linked : (f : Head) (ids : List ℕ) (a : ℕ) → HasFirst o n f ids a → HasFirst (link w o) (link w n) f ids a
  first-linked (const v) ids a s = record { lists = ap (link w) s.lists; number = s.number }
  first-linked f ids a s = (ap (link w) s.0, s.1)

  pub node-linked : (r : NodeRow) (id : ℕ) → OneNode o n r id → OneNode (link w o) (link w n) (linked_row w r) id
  node-linked r id s = record {
    lists = ap (link w) s.lists
        ∙ (λ j. record {
          scopes = o.scopes;
          constants = o.constants;
          nodes = map-append (linked_row w) o.nodes (r ∷ []) j;
          names = o.names;
          places = map (linked_place w) o.places;
          bodies = o.bodies;
          keys = o.keys;
        });
    number = s.number ∙ sym (length-map o.nodes (linked_row w));
  }

  pub place-linked : (k c : Key) (p : PlaceRow) → n ≡ with_place k c p o → link w n ≡ with_place k c (linked_place w p) (link w o)
  place-linked k c p s =
      ap (link w) s
      ∙ (λ j. record {
        scopes = o.scopes;
        constants = o.constants;
        nodes = map (linked_row w) o.nodes;
        names = o.names;
        places = map-append (linked_place w) o.places (p ∷ []) j;
        bodies = o.bodies;
        keys = with_call_key k c o.keys;
      })
