-- What the nodes say of the terminals.
use Rattle.lucid_parse.proofs.Common.{◌≡◌, ℕ, ◌<◌, ◌≤◌, List, [], ◌∷◌, ◌++◌, map, reverse, Option, Some, None, option_and_then, refl, sym, ◌∙◌, ap, subst, arith, map-append, reverse-append, Bor, Value, PlainTree, depth, Item, PlacedTerminal, Spells, PlainState, PlainItem, start, feeds, finish, nodes, fill_item, items_of, name_now, value_now, written, at_depth, IsLeast, least_in, search_from, lit≤}
use Rattle.lucid_parse.proofs.Sound.{sound}
use Rattle.lucid_parse.proofs.Deep.{search_finds, least_in-none, least_in-some, filled, deep, search_from-filled}

reverse-map : {A B : Type 0} (f : A → B) (xs : List A) → reverse (map f xs) ≡ map f (reverse xs)
reverse-map f [] = refl
reverse-map f (x ∷ xs) =
    reverse-append (f x ∷ []) (map f xs) ∙ ap (λ l. l ++ f x ∷ []) (reverse-map f xs)
    ∙ sym (map-append f (reverse xs) (x ∷ [])) ∙ ap (map f) (sym (reverse-append (x ∷ []) xs))

-- the terminals spell a tree, and these are its nodes
pub record Spelling (ws : List PlacedTerminal) (items : List PlainItem) : Type 0 where
  pub tree : PlainTree
  pub spells : Spells 0 ws tree
  pub nodes_are : items ≡ written [] tree

reached : (ws : List PlacedTerminal) (items : List PlainItem) (o : Option PlainState) → feeds start ws ≡ o → option_and_then finish o ≡ Some items
    → Spelling ws items
reached ws items None s e = cc
reached ws items (Some g) s e = let h = sound ws g items s e in record { tree = h.0; spells = h.1; nodes_are = h.2 }

pub spelling_of : (ws : List PlacedTerminal) (items : List PlainItem) → nodes ws ≡ Some items → Spelling ws items
spelling_of ws items e = reached ws items (feeds start ws) refl e

abbrev CodeItem : Type 0
CodeItem = Item (Bor (List ℕ)) (Bor Value)

-- What was found in the same nodes, for the terminals whose nodes these are.
module _ (ws : List PlacedTerminal) (items seen : List CodeItem) (e : nodes ws ≡ Some (items_of items)) (same : seen ≡ items) (r : Option ℕ)
    (f : r ≡ search_from (reverse seen) (401 ∷ []) None) where
  abbrev pub spelling : Spelling ws (items_of items)
  spelling = spelling_of ws (items_of items) e

  finds : r ≡ least_in None (at_depth 401 spelling.tree)
  finds =
      f ∙ ap (λ l. search_from (reverse l) (401 ∷ []) None) same
      ∙ sym (search_from-filled name_now value_now (reverse items) (401 ∷ []) None)
      ∙ ap (λ l. search_from l (401 ∷ []) None) (sym (reverse-map (fill_item name_now value_now) items))
      ∙ ap (λ l. search_from (reverse l) (401 ∷ []) None) spelling.nodes_are
      ∙ search_finds spelling.spells 401

  pub too_nested : (at : ℕ) → r ≡ Some at → (t : PlainTree) × Spells 0 ws t × (400 < depth t) × IsLeast (at_depth 401 t) at
  too_nested at is =
      let least = least_in-some (at_depth 401 spelling.tree) at (sym finds ∙ is) in
      let enough : 401 ≤ depth spelling.tree = deep spelling.tree 401 at least.among in
      (spelling.tree, spelling.spells, omega (arith, enough), least)

  pub not_nested : r ≡ None → (t : PlainTree) → t ≡ spelling.tree → depth t ≤ 400
  not_nested is t one =
      let shallow : depth spelling.tree < 401 = filled spelling.tree 401 (least_in-none (at_depth 401 spelling.tree) (sym finds ∙ is)) (lit≤ tt) in
      let there : depth t < 401 = subst (λ x. depth x < 401) (sym one) shallow in
      omega (arith, there)

-- there is a tree with these nodes, which isn't too deep where none of them was found to be
pub have_tree : (ws : List PlacedTerminal) (items again : List CodeItem) → nodes ws ≡ Some (items_of items) → again ≡ items
    → (seen : List CodeItem) → seen ≡ items → (r : Option ℕ) → r ≡ search_from (reverse seen) (401 ∷ []) None → r ≡ None
    → (us : List PlacedTerminal) × (t : PlainTree) × Spells 0 us t × (items_of again ≡ written [] t) × (depth t ≤ 400)
have_tree ws items again e k seen same r f is =
    let s = spelling_of ws (items_of items) e in (ws, s.tree, s.spells, ap items_of k ∙ s.nodes_are, not_nested ws items seen e same r f is s.tree refl)

-- and what was built of them is that tree
abbrev IsBuilt : List CodeItem → PlainTree → Type 0
IsBuilt items tree = (us : List PlacedTerminal) → (t : PlainTree) → Spells 0 us t → items_of items ≡ written [] t → tree ≡ t

module _ (ws : List PlacedTerminal) (items again : List CodeItem) (e : nodes ws ≡ Some (items_of items)) (k : again ≡ items) (tree : PlainTree)
    (built : IsBuilt again tree) where
  pub built_is : tree ≡ (spelling_of ws (items_of items) e).tree
  built_is = let s = spelling_of ws (items_of items) e in built ws s.tree s.spells (ap items_of k ∙ s.nodes_are)

  pub spelled_as : Spells 0 ws tree
  spelled_as = subst (Spells 0 ws) (sym built_is) (spelling_of ws (items_of items) e).spells

  pub shallow_as : (seen : List CodeItem) → seen ≡ items → (r : Option ℕ) → r ≡ search_from (reverse seen) (401 ∷ []) None → r ≡ None → depth tree ≤ 400
  shallow_as seen same r f is = not_nested ws items seen e same r f is tree built_is
