-- As many datons as entries, with the same values, and at most as many contexts as environments.
use Rattle.lucid_compile.proofs.Common.{◌≡◌, ℕ, ◌≤◌, List, [], ◌∷◌, ◌++◌, map, Option, Some, None, refl, sym, ap, ◌∙◌, subst, option_map, map-append, PlainValue, PlainTree, empty, Referent, Position, Events, Elements, looked_up, referred, entered, Equations, Daton, NodePosition, node_val, HasDistinct, Points, valued_datons, valued_entries, Numbers, Source, static_of, context_for, daton_of, position_for, event_of, Kept, Good, Compiles, filter_map, flat_map, cons_option, val, seen, consults, refers, refers_with_values, enters, nothing_held, look_up_of, entered_of, valued_of, consults_on_nodes, visited_datons, visited_values, visited_contexts, datons, contexts}
use Rattle.lucid_tree.specs.Levels.{reference_of}
use Rattle.lucid_compile.specs.Counts.{entries, environments}
use Rattle.lucid_compile.proofs.Targets.{Placed}
use Rattle.lucid_compile.proofs.Same.{hval-same, visits-same}
use Rattle.lucid_compile.proofs.One.{daton-one}
use Rattle.lucid_compile.proofs.Placed.{Each, each-append, each-at, Met, seen-met}
use Rattle.lucid_compile.proofs.Distinct.{OneOn, map-distinct, distinct-before_map, image-fewer}

flat_same : {X B : Type 0} (f f' : X → List B) → ((x : X) → f x ≡ f' x) → (xs : List X) → flat_map f xs ≡ flat_map f' xs
flat_same f f' h xs = λ i. flat_map (λ x. h x i) xs

flat_map_map : {X A B : Type 0} (f : A → B) (g : X → List A) (xs : List X) → flat_map (λ x. map f (g x)) xs ≡ map f (flat_map g xs)
flat_map_map f g [] = refl
flat_map_map f g (x ∷ xs) = ap (λ zs. map f (g x) ++ zs) (flat_map_map f g xs) ∙ sym (map-append f (g x) (flat_map g xs))

each-flat : {X A : Type 0} (P : A → Type 0) (g : X → List A) → ((x : X) → Each P (g x)) → (xs : List X) → Each P (flat_map g xs)
each-flat P g h [] = tt
each-flat P g h (x ∷ xs) = each-append P (g x) (flat_map g xs) (h x) (each-flat P g h xs)

module _ (nu : Numbers) where
  -- the daton of an entry, at its space, and with its value
  abbrev pub entry_daton : Referent × ℕ → Daton × ℕ
  entry_daton x = (daton_of nu x.0, x.1)

  abbrev pub valued_daton : Referent × ℕ × PlainValue → Daton × ℕ × PlainValue
  valued_daton x = (daton_of nu x.0, x.1, x.2)

  pub look-ups-met : (es : Events) → filter_map look_up_of (map (event_of nu) es) ≡ filter_map look_up_of es
  look-ups-met [] = refl
  look-ups-met (looked_up n j ∷ es) = ap (λ zs. (n, j) ∷ zs) (look-ups-met es)
  look-ups-met (referred k x u s ∷ es) = look-ups-met es
  look-ups-met (entered f ∷ es) = look-ups-met es

  datons-met : (es : Events) → filter_map reference_of (map (event_of nu) es) ≡ map entry_daton (filter_map reference_of es)
  datons-met [] = refl
  datons-met (looked_up n j ∷ es) = datons-met es
  datons-met (referred k x u s ∷ es) = ap (λ zs. (daton_of nu k, s) ∷ zs) (datons-met es)
  datons-met (entered f ∷ es) = datons-met es

  contexts-met : (es : Events) → filter_map entered_of (map (event_of nu) es) ≡ map (context_for nu) (filter_map entered_of es)
  contexts-met [] = refl
  contexts-met (looked_up n j ∷ es) = contexts-met es
  contexts-met (referred k x u s ∷ es) = contexts-met es
  contexts-met (entered f ∷ es) = ap (λ zs. context_for nu f ∷ zs) (contexts-met es)

  valued-cons : (k : Referent) (s : ℕ) (o : Option PlainValue) (xs : List (Referent × ℕ × PlainValue))
      → cons_option (option_map (λ v. (daton_of nu k, s, v)) o) (map valued_daton xs) ≡ map valued_daton (cons_option (option_map (λ v. (k, s, v)) o) xs)
  valued-cons k s None xs = refl
  valued-cons k s (Some v) xs = refl

module _ (nu : Numbers) (so : Source) (p : Equations) (e : PlainTree) (c : Compiles nu so p e) (b : Elements) where
  abbrev pub PlacedEntry : Referent × ℕ → Type 0
  PlacedEntry x = Placed nu so p x.0

  abbrev pub PlacedValue : Referent × ℕ × PlainValue → Type 0
  PlacedValue x = Placed nu so p x.0

  all-met : (m d t s : ℕ) → Each (Met nu so p) (seen b m d e empty t s)
  all-met m d t s = seen-met nu so p (nothing_held b) m d e empty t s tt c.kept

  placed-met : (es : Events) → Each (Met nu so p) es → Each PlacedEntry (filter_map reference_of es)
  placed-met [] h = tt
  placed-met (looked_up n j ∷ es) h = placed-met es h.1
  placed-met (referred k x u s ∷ es) h = (h.0.0, placed-met es h.1)
  placed-met (entered f ∷ es) h = placed-met es h.1

  entries-placed : (m d : ℕ) (points : Points) → Each PlacedEntry (entries b m d e points)
  entries-placed m d points =
      each-flat PlacedEntry (λ x. refers b m d e empty x.0 x.1) (λ x. placed-met (seen b m d e empty x.0 x.1) (all-met m d x.0 x.1)) points

  placed-cons : (k : Referent) (s : ℕ) (o : Option PlainValue) (xs : List (Referent × ℕ × PlainValue)) → Placed nu so p k → Each PlacedValue xs
      → Each PlacedValue (cons_option (option_map (λ v. (k, s, v)) o) xs)
  placed-cons k s None xs h r = r
  placed-cons k s (Some v) xs h r = (h, r)

  -- an entry goes on with the same value on trees and in the table
  abbrev tree_values : ℕ → Position → (t s : ℕ) → Option PlainValue
  tree_values m x t s = val b m x.tree x.env t s

  abbrev node_values : ℕ → NodePosition → (t s : ℕ) → Option PlainValue
  node_values m x t s = node_val p b m x.node x.context t s

  pub value-same : (m : ℕ) (x : Position) (u s : ℕ) → Good nu so p x.env → Kept nu so p (static_of x.env) x.tree
      → node_values m (position_for nu x) u s ≡ tree_values m x u s
  value-same m x u s g k = sym (hval-same nu so p b (λ j r. None) (λ j r. None) (λ j r i. refl) m x.tree x.env u s g k)

  values-met : (m : ℕ) (es : Events) → Each (Met nu so p) es
      → filter_map (valued_of (node_values m)) (map (event_of nu) es) ≡ map (valued_daton nu) (filter_map (valued_of (tree_values m)) es)
  values-met m [] h = refl
  values-met m (looked_up n j ∷ es) h = values-met m es h.1
  values-met m (referred k x u s ∷ es) h =
      (λ i. cons_option (option_map (λ v. (daton_of nu k, s, v)) (value-same m x u s h.0.1 h.0.2 i)) (values-met m es h.1 i))
      ∙ valued-cons nu k s (tree_values m x u s) (filter_map (valued_of (tree_values m)) es)
  values-met m (entered f ∷ es) h = values-met m es h.1

  placed-values : (m : ℕ) (es : Events) → Each (Met nu so p) es → Each PlacedValue (filter_map (valued_of (tree_values m)) es)
  placed-values m [] h = tt
  placed-values m (looked_up n j ∷ es) h = placed-values m es h.1
  placed-values m (referred k x u s ∷ es) h = placed-cons k s (tree_values m x u s) (filter_map (valued_of (tree_values m)) es) h.0.0 (placed-values m es h.1)
  placed-values m (entered f ∷ es) h = placed-values m es h.1

  pub values-placed : (m : ℕ) (points : Points) → Each PlacedValue (valued_entries b m e points)
  values-placed m points =
      each-flat PlacedValue (λ x. refers_with_values b m e empty x.0 x.1) (λ x. placed-values m (seen b m 0 e empty x.0 x.1) (all-met m 0 x.0 x.1)) points

  -- what is consulted is the same, in the same order
  pub consults-are : (m d t s : ℕ) → consults_on_nodes p b m d t s ≡ consults b m d e empty t s
  consults-are m d t s = ap (filter_map look_up_of) (visits-same nu so p e c b m d t s) ∙ look-ups-met nu (seen b m d e empty t s)

  -- the datons are those of the entries, one by one
  pub datons-are : (m d : ℕ) (points : Points) → datons p b m d points ≡ map (entry_daton nu) (entries b m d e points)
  datons-are m d points =
      flat_same (λ x. visited_datons p b m d x.0 x.1) (λ x. map (entry_daton nu) (refers b m d e empty x.0 x.1))
      (λ x. ap (filter_map reference_of) (visits-same nu so p e c b m d x.0 x.1) ∙ datons-met nu (seen b m d e empty x.0 x.1)) points
      ∙ flat_map_map (entry_daton nu) (λ x. refers b m d e empty x.0 x.1) points

  -- and have the same values
  pub valued_datons-are : (m : ℕ) (points : Points) → valued_datons p b m points ≡ map (valued_daton nu) (valued_entries b m e points)
  valued_datons-are m points =
      flat_same (λ x. visited_values p b m x.0 x.1) (λ x. map (valued_daton nu) (refers_with_values b m e empty x.0 x.1))
      (λ x. ap (filter_map (valued_of (node_values m))) (visits-same nu so p e c b m 0 x.0 x.1)
      ∙ values-met m (seen b m 0 e empty x.0 x.1) (all-met m 0 x.0 x.1)) points
      ∙ flat_map_map (valued_daton nu) (λ x. refers_with_values b m e empty x.0 x.1) points

  -- the contexts are those of the environments, one by one
  pub contexts-are : (m d : ℕ) (points : Points) → contexts p b m d points ≡ map (context_for nu) (environments b m d e points)
  contexts-are m d points =
      flat_same (λ x. visited_contexts p b m d x.0 x.1) (λ x. map (context_for nu) (enters b m d e empty x.0 x.1))
      (λ x. ap (filter_map entered_of) (visits-same nu so p e c b m d x.0 x.1) ∙ contexts-met nu (seen b m d e empty x.0 x.1)) points
      ∙ flat_map_map (context_for nu) (λ x. enters b m d e empty x.0 x.1) points

  entry-one : (x y : Referent × ℕ) → PlacedEntry x → PlacedEntry y → entry_daton nu x ≡ entry_daton nu y → x ≡ y
  entry-one x y h g q = λ i. (daton-one nu so p x.0 y.0 h g (ap (λ z. z.0) q) i, (q i).1)

  one-on : (xs : List (Referent × ℕ)) → Each PlacedEntry xs → OneOn (entry_daton nu) xs
  one-on xs h x y i j q = entry-one x y (each-at PlacedEntry xs x h i) (each-at PlacedEntry xs y h j) q

  -- as many different datons as different entries
  pub as_many : (m d : ℕ) (points : Points) (n : ℕ) → HasDistinct (entries b m d e points) n → HasDistinct (datons p b m d points) n
  as_many m d points n h =
      rw (datons-are m d points) (map-distinct (entry_daton nu) (entries b m d e points) n (one-on (entries b m d e points) (entries-placed m d points)) h)

  pub no_more : (m d : ℕ) (points : Points) (n : ℕ) → HasDistinct (datons p b m d points) n → HasDistinct (entries b m d e points) n
  no_more m d points n h =
      distinct-before_map (entry_daton nu) (entries b m d e points) n (one-on (entries b m d e points) (entries-placed m d points))
      (subst (λ z. HasDistinct z n) (datons-are m d points) h)

  -- at most as many different contexts as different environments
  pub no_more_contexts : (m d : ℕ) (points : Points) (n k : ℕ) → HasDistinct (environments b m d e points) n → HasDistinct (contexts p b m d points) k → k ≤ n
  no_more_contexts m d points n k h g =
      image-fewer (context_for nu) (environments b m d e points) n k h (subst (λ z. HasDistinct z k) (contexts-are m d points) g)
