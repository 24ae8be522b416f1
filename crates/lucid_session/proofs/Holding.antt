-- How many values an engine holds: as many as different datons are needed, where exactly these are held.
use Rattle.lucid_session.proofs.Common.{◌≡◌, ℕ, ◌≤◌, Bool, true, false, cond, List, map, Option, None, refl, sym, ap, ◌∙◌, subst, arith, ◌⊎◌, inl, inr, true≢false, IsTrue, IsSome, option_map, ◌↔◌, length-map, PlainValue, plain, In, AllDiffer, Elements, in_map, Context, root, IsOneForOne, IsOneForEach, count_of, empty_warehouse, eqval, visited_datons, HasDistinct, Points, equations_of, needed-visited, EngineView, IsSoundEngine, HoldsNeeded, holding, table_counted, IsDefinedAt, Start, of_run, IsNeededSoFar, Holds, with_point, is_some, IsDistinct, AllByRecursion, lookup, keys_of, IsDistinct-head, IsDistinct-tail}
use Rattle.std.proofs.Common.{[], ◌∷◌, Some}
use Rattle.lucid_lists.proofs.Options.{value_there as some_value, some_still}
use Rattle.lucid_tags.specs.Known.{IsKnown}
use Rattle.lucid_tags.specs.Keys.{same_key}
use Rattle.lucid_tags.specs.EqualityDecides.{same_key_is_equality, same_key_equiv}
use Rattle.lucid_tags.specs.declared.Key.{Key}
use Rattle.lucid_store.specs.Stored.{Stored, Entry}
use Rattle.lucid_store.specs.Entries.{held, entry_at, IsHeld}
use Rattle.lucid_equations.specs.Visits.{IsNeeded}
use Rattle.lucid_equations.specs.Counts.{datons}
use Rattle.lucid_demand_steps.specs.Tasks.{DatonAt, plain_key}
use Rattle.lucid_demand_steps.specs.Held.{held_in, AreKeysKnown}
use Rattle.lucid_demand_steps.proofs.HeldByKey.{key_of_held, held_of_key}
use Rattle.lucid_session.proofs.Lists.{some_is, from_flat, in_flat, from_map}

-- the datons of entries, each at its space
abbrev datons_of : List Context → List (Key × Entry) → List DatonAt
datons_of known es = map (λ (e : Key × Entry). plain_key known e.0) es

-- keys with known tags are equal where their datons are
keys_alike : (known : List Context) → IsOneForOne known → (k q : Key) → IsKnown known k.tag → IsKnown known q.tag → plain_key known k ≡ plain_key known q
    → k ≡ q
keys_alike known one k q h j e =
    let tags = (one.tags k.tag q.tag h j).1 (ap (λ z. z.0.context) e, ap (λ z. z.1) e) in
    λ i. record { name = ap (λ z. z.0.name) e i; tag = tags i; time = ap (λ z. z.0.time) e i }

is_found : (es : List (Key × Entry)) (x : Key × Entry) → In x es → IsSome (lookup (same_key x.0) es)
is_found [] x i = absurd i
is_found (e ∷ es) x (inl h) = ap (λ t. is_some (cond t (Some e.1) (lookup (same_key x.0) es)))
    (ap (λ k. same_key k e.0) (ap (λ z. z.0) h) ∙ same_key_equiv.refl e.0)
is_found (e ∷ es) x (inr i) = some_still (same_key x.0 e.0) e.1 (lookup (same_key x.0) es) (is_found es x i)

-- a key that is found is an entry's
found_is : (es : List (Key × Entry)) (k : Key) → IsSome (lookup (same_key k) es) → (x : Key × Entry) × In x es × (k ≡ x.0)
found_is [] k h = absurd (true≢false (sym h))
found_is (e ∷ es) k h = by (found_is es k) (same_key k e.0) refl h
  where
    by : (IsSome (lookup (same_key k) es) → (x : Key × Entry) × In x es × (k ≡ x.0)) → (t : Bool) → same_key k e.0 ≡ t
        → IsSome (cond t (Some e.1) (lookup (same_key k) es))
        → (x : Key × Entry) × In x (e ∷ es) × (k ≡ x.0)
    by more true same i = (e, inl refl, (same_key_is_equality k e.0).0 same)
    by more false other i = let r = more i in (r.0, inr r.1, r.2)

-- no key like this one is among those of entries
other_key : (k : Key) (es : List (Key × Entry)) → AllByRecursion (λ q. same_key k q ≡ false) (keys_of es) → (x : Key × Entry) → In x es → same_key k x.0 ≡ false
other_key k [] all x i = absurd i
other_key k (e ∷ es) all x (inl h) = ap (λ q. same_key k q) (ap (λ z. z.0) h) ∙ all.0
other_key k (e ∷ es) all x (inr i) = other_key k es all.1 x i

module _ (known : List Context) (one : IsOneForOne known) where
  datons_differ : (es : List (Key × Entry)) → ((x : Key × Entry) → In x es → IsKnown known x.0.tag) → IsDistinct same_key (keys_of es)
      → AllDiffer (datons_of known es)
  datons_differ [] all distinct = tt
  datons_differ (e ∷ es) all distinct = (
    λ i.
        let r = from_map (λ (x : Key × Entry). plain_key known x.0) (plain_key known e.0) es i in
        let same : e.0 ≡ r.item.0 = keys_alike known one e.0 r.item.0 (all e (inl refl)) (all r.item (inr r.among)) r.is in
        absurd (true≢false (sym ((same_key_is_equality e.0 r.item.0).1 same)
        ∙ other_key e.0 es (IsDistinct-head same_key e.0 (keys_of es) distinct) r.item r.among)),
    datons_differ es (λ x i. all x (inr i)) (IsDistinct-tail same_key e.0 (keys_of es) distinct),
  )

  module _ (w : Stored) (keys : AreKeysKnown known w) where
    value_there : (k : Key) → IsHeld w k → (v : PlainValue) × (held w k ≡ Some v)
    value_there k h = let r = some_value (entry_at w k) h in (plain r.0.value, ap (λ o. option_map plain (option_map (λ e. e.value) o)) r.1)

    is_there : (o : Option Entry) (v : PlainValue) → option_map plain (option_map (λ e. e.value) o) ≡ Some v → IsSome o
    is_there None v e = cc
    is_there (Some x) v e = refl

    -- the daton of an entry is held
    pub listed_is_held : (x : DatonAt) → In x (datons_of known w.entries) → (v : PlainValue) × (held_in known w x.0 x.1 ≡ Some v)
    listed_is_held x i =
        let r = from_map (λ (e : Key × Entry). plain_key known e.0) x w.entries i in
        let there : IsHeld w r.item.0 = is_found w.entries r.item r.among in
        let v = value_there r.item.0 there in
        (v.0, held_of_key known w x.0 x.1 v.0 one keys (record { key = r.item.0; known_tag = keys r.item.0 there; is = sym r.is; value = v.1 }))

    -- and a daton that is held has an entry
    pub held_is_listed : (x : DatonAt) (v : PlainValue) → held_in known w x.0 x.1 ≡ Some v → In x (datons_of known w.entries)
    held_is_listed x v e =
        let r = key_of_held known w x.0 x.1 v one keys e in
        let q = found_is w.entries r.key (is_there (entry_at w r.key) v r.value) in
        subst (λ y. In y (datons_of known w.entries)) (ap (plain_key known) (sym q.2) ∙ r.is)
        (in_map (λ (e : Key × Entry). plain_key known e.0) q.0 w.entries q.1)

    pub held_once : IsOneForEach w → AllDiffer (datons_of known w.entries)
    held_once distinct = datons_differ w.entries (λ x i. keys x.0 (is_found w.entries x i)) distinct

module _ (z : Start) (b : Elements) (D : (time space : ℕ) → Type 0) where
  -- Where exactly what is needed at some points is held, as many values are held as datons are visited by any approximation that is defined
  -- at all of them.
  pub held_count :
      (e : EngineView) (c : ℕ) → IsSoundEngine e → IsOneForEach e.stored → Holds z b D e c → IsTrue z.policy.keeps → e.stored.lost ≡ 0 → c ≡ 0
      → (points : Points) → ((t s : ℕ) → In (t, s) points ↔ D t s) → (m : ℕ) → IsDefinedAt (table_counted z.table) b m points
      → HasDistinct (datons (equations_of z.table) b m 0 points) (count_of e.stored)
  held_count e c sound each holds keeps none again points exactly m defined = record {
    items = datons_of e.known e.stored.entries;
    once = held_once e.known sound.contexts e.stored sound.keys each;
    inside = λ x i. let v = listed_is_held e.known sound.contexts e.stored sound.keys x i in
        visited x ((holds keeps none again x.0 x.1).0 (some_is (holding e x.0 x.1) v.0 v.1));
    outside = λ x i. let v = some_value (holding e x.0 x.1) ((holds keeps none again x.0 x.1).1 (needed x i)) in
        held_is_listed e.known sound.contexts e.stored sound.keys x v.0 v.1;
    size = length-map e.stored.entries (λ (x : Key × Entry). plain_key e.known x.0);
  }
    where
      visited : (x : DatonAt) → IsNeededSoFar z b D x → In x (datons (equations_of z.table) b m 0 points)
      visited x n =
          let i : In (n.0, n.1) points = (exactly n.0 n.1).1 n.2 in
          let v = some_value (eqval (equations_of z.table) b m n.0 n.1) (defined n.0 n.1 i) in
          in_flat (λ (p : ℕ × ℕ). visited_datons (equations_of z.table) b m 0 p.0 p.1) x (n.0, n.1) points i
          (needed-visited (equations_of z.table) b m (equations_of z.table).root root n.0 n.1 v.0 x v.1 n.3)

      needed : (x : DatonAt) → In x (datons (equations_of z.table) b m 0 points) → IsNeededSoFar z b D x
      needed x i =
          let r = from_flat (λ (p : ℕ × ℕ). visited_datons (equations_of z.table) b m 0 p.0 p.1) x points i in
          let v = some_value (eqval (equations_of z.table) b m r.item.0 r.item.1) (defined r.item.0 r.item.1 r.among) in
          (r.item.0, r.item.1, (exactly r.item.0 r.item.1).0 r.among, (m, v.0, v.1, r.gives))

  -- where nothing is held nothing is needed, as long as nothing was demanded
  pub holds_nothing : (e : EngineView) (c : ℕ) → e.stored ≡ empty_warehouse → ((t s : ℕ) → D t s → ⊥) → Holds z b D e c
  holds_nothing e c empty never keeps none again k s = (
    λ h. absurd (true≢false (sym h ∙ ap (λ w. is_some (held_in e.known w k s)) empty)),
    λ n. absurd (never n.0 n.1 n.2),
  )

  -- after a demand with a value, exactly what is needed by then is held
  pub holds_more : (old new : EngineView) (t i c : ℕ) → old.stored.lost ≤ new.stored.lost
      → (IsTrue z.policy.keeps → new.stored.lost ≡ 0 → HoldsNeeded (of_run z old) (of_run z new) b t i) → Holds z b D old c → Holds z b (with_point D t i) new c
  holds_more old new t i c lost more was keeps none again k s =
      let now = more keeps none k s in
      let then = was keeps (omega (arith, lost, none)) again k s in (
        λ h. elim (now.0 h) [ inl j ↦ later (then.0 j) | inr n ↦ (t, i, inr (refl, refl), n) ],
        λ n. now.1 (either n then n.2),
      )
    where
      later : IsNeededSoFar z b D (k, s) → IsNeededSoFar z b (with_point D t i) (k, s)
      later n = (n.0, n.1, inl n.2, n.3)

      either : (n : IsNeededSoFar z b (with_point D t i) (k, s)) → IsSome (holding old k s) ↔ IsNeededSoFar z b D (k, s) → with_point D t i n.0 n.1
          → IsSome (holding old k s) ⊎ IsNeeded (equations_of z.table) b (equations_of z.table).root root t i (k, s)
      either n then (inl was) = inl (then.1 (n.0, n.1, was, n.3))
      either n then (inr at) = inr (subst (λ (p : ℕ × ℕ). IsNeeded (equations_of z.table) b (equations_of z.table).root root p.0 p.1 (k, s))
          (λ j. (at.0 j, at.1 j)) n.3)
