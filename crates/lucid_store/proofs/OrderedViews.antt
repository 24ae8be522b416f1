-- What a warehouse knows of the order of touches, from its entries and the order of their places.
use Rattle.lucid_store.proofs.Common.{◌≡◌, ℕ, ◌+◌, ◌-◌, ◌<◌, ◌≤◌, ◌⊎◌, Bool, true, false, cond, List, [], ◌∷◌, ◌++◌, length, Option, Some, None, IfSome, is_some, slice_get, refl, ap, sym, subst, ◌∙◌, arith, option_map, slice_get-map, swap_remove, IsDistinct, Key, Entry, same_key, keys_of, lookup, position_or_len, not, same_key_equiv, renewed, Sets}
use Rattle.std.proofs.Common.{◌≢◌, inl, inr, take_all}
use Rattle.std.proofs.lemmas.Bool.{both_ways, cases_lt, cond-true, cond-false}
use Rattle.std.proofs.lemmas.Option.{none-some, same_Some}
use Rattle.std.proofs.lemmas.Map.Entries.{length-keys_of}
use Rattle.std.proofs.lemmas.Map.Made.{is_some-lookup}
use Rattle.indexmap.proofs.MapLemmas.{Found-position, some_index, Missing-position}
use Rattle.lucid_store.specs.Beside.{place_of}
use Rattle.lucid_store.specs.Stored.{Stored}
use Rattle.lucid_store.specs.Entries.{touched_if, IsLatestLast, IsOrderOfHeld, IsTouched, IsTouchedFirst, DropsOldest}
use Rattle.lucid_store.specs.Touches.{Touches, IsOrderOf, IsFirstGone, last_item, keys_at, to_end, touched_at, up_to}
use Rattle.lucid_store.specs.Ordered.{ordered_keys, placed, seen, IsEntryHeld, IsOrderOfEntries, HasRoom, MayTouch, IsFirstPlace}
use Rattle.lucid_store.proofs.Besides.{is_some_within, some_from_test, key_placed_at, some_placed}
use Rattle.lucid_store.proofs.PlaceLemmas.{split_ends, order_empty, touched_old, touched_new}
use Rattle.lucid_store.proofs.KeyOrders.{keys_at-first, keys_touched, keys_more, keys_up_to, keys_gone, all_listed, each_once, latest_last, latest_place}

-- ---- places of keys

pub place_within : (es : List (Key × Entry)) (key : Key) (i : ℕ) → place_of es key ≡ Some i → i < length es
place_within es key i at = (Found-position (same_key key) es i at).within

-- the key stands at its place
pub key_at_place : (es : List (Key × Entry)) (key : Key) (i : ℕ) → place_of es key ≡ Some i → slice_get (keys_of es) i ≡ Some key
key_at_place es key i at =
    let within = place_within es key i at in
    let x = some_from_test (slice_get es i) (is_some_within es i within) in
    let here : slice_get (keys_of es) i ≡ Some x.0.0 = slice_get-map (λ (e : Key × Entry). e.0) es i ∙ ap (option_map (λ (e : Key × Entry). e.0)) x.1 in
    here ∙ ap Some (sym (key_placed_at key es i x.0.0 at here))

-- a key that has an entry has a place, which `position_or_len` gives, and any other key the next one
pub place_from : (es : List (Key × Entry)) (key : Key) (i : ℕ) → i ≡ position_or_len (same_key key) (keys_of es) → is_some (lookup (same_key key) es) ≡ true
    → place_of es key ≡ Some i
place_from es key i is had = by (place_of es key) refl
  where
    by : (o : Option ℕ) → place_of es key ≡ o → place_of es key ≡ Some i
    by None e = absurd (both_ways (is_some (lookup (same_key key) es)) (sym (some_index (same_key key) es) ∙ ap is_some e) had)
    by (Some j) e = e ∙ ap Some (sym (Found-position (same_key key) es j e).or_len ∙ sym is)

pub next_from : (es : List (Key × Entry)) (key : Key) (i : ℕ) → i ≡ position_or_len (same_key key) (keys_of es) → is_some (lookup (same_key key) es) ≡ false
    → i ≡ length es
next_from es key i is had = by (place_of es key) refl
  where
    by : (o : Option ℕ) → place_of es key ≡ o → i ≡ length es
    by None e = is ∙ (Missing-position (same_key key) es e).or_len
    by (Some j) e = absurd (both_ways (is_some (lookup (same_key key) es)) had (some_placed key es j e))

-- ---- a touch of a key that has an entry

module _ (es fs : List (Key × Entry)) (key : Key) (i : ℕ) (at : place_of es key ≡ Some i) where
  pub may_touch_old : (o : Option Touches) → IfSome o (IsOrderOfEntries es) → IfSome o (MayTouch i)
  may_touch_old None h = tt
  may_touch_old (Some t) h = inl (let low = place_within es key i at in let count = h.count in omega (arith, low, count))

  pub touched_order : IsDistinct same_key (keys_of es) → keys_of fs ≡ keys_of es → (o : Option Touches)
      → ordered_keys fs (option_map (touched_at i) o) ≡ option_map (to_end key) (ordered_keys es o)
  touched_order distinct same None = refl
  touched_order distinct same (Some t) =
      ap (λ ks. Some (keys_at ks (touched_at i t).places)) same
      ∙ ap Some (keys_touched (keys_of es) i key distinct (key_at_place es key i at) t.places)

  pub touched_entries : length fs ≡ length es → (o : Option Touches) → IfSome o (IsOrderOfEntries es)
      → IfSome (option_map (touched_at i) o) (λ t. IsOrderOf t.count t.places) → IfSome (option_map (touched_at i) o) (IsOrderOfEntries fs)
  touched_entries len None h order = tt
  touched_entries len (Some t) h order = record {
    count = ap (λ (u : Touches). u.count) (touched_old i t (let low = place_within es key i at in let count = h.count in omega (arith, low, count)))
        ∙ h.count ∙ sym len;
    order = order;
  }

-- ---- a key more

module _ (es fs : List (Key × Entry)) (key : Key) (i : ℕ) (next : i ≡ length es) where
  pub may_touch_new : (o : Option Touches) → IfSome o (IsOrderOfEntries es) → IfSome o HasRoom → IfSome o (MayTouch i)
  may_touch_new None h room = tt
  may_touch_new (Some t) h room = inr (next ∙ sym h.count, room)

  pub added_order : is_some (lookup (same_key key) es) ≡ false → keys_of fs ≡ keys_of es ++ key ∷ [] → (o : Option Touches) → IfSome o (IsOrderOfEntries es)
      → ordered_keys fs (option_map (touched_at i) o) ≡ option_map (to_end key) (ordered_keys es o)
  added_order none more None h = refl
  added_order none more (Some t) h =
      let len : i ≡ length (keys_of es) = next ∙ sym (length-keys_of es) in
      ap (λ ks. Some (keys_at ks (touched_at i t).places)) more
      ∙ ap Some (keys_more (keys_of es) key i t.places len (subst (λ n. IsOrderOf n t.places) (h.count ∙ sym next) h.order)
      (sym (is_some-lookup (same_key key) es) ∙ none))

  pub added_entries : length fs ≡ length es + 1 → (o : Option Touches) → IfSome o (IsOrderOfEntries es)
      → IfSome (option_map (touched_at i) o) (λ t. IsOrderOf t.count t.places) → IfSome (option_map (touched_at i) o) (IsOrderOfEntries fs)
  added_entries len None h order = tt
  added_entries len (Some t) h order = record {
    count = ap (λ j. (touched_at j t).count) (next ∙ sym h.count) ∙ ap (λ (u : Touches). u.count) (touched_new t) ∙ ap (λ n. n + 1) h.count ∙ sym len;
    order = order;
  }

-- ---- the same places

pub same_places : (es : List (Key × Entry)) (o p : Option Touches) → option_map placed p ≡ option_map placed o → ordered_keys es p ≡ ordered_keys es o
same_places es None None same = refl
same_places es None (Some u) same = absurd (none-some (placed u) (sym same))
same_places es (Some t) None same = absurd (none-some (placed t) same)
same_places es (Some t) (Some u) same = ap (λ ps. Some (keys_at (keys_of es) ps)) (ap (λ x. x.0) (same_Some (placed u) (placed t) same))

pub same_entries : (es : List (Key × Entry)) (o p : Option Touches) → option_map placed p ≡ option_map placed o → IfSome o (IsOrderOfEntries es) → IfSome p (IsOrderOfEntries es)
same_entries es None None same h = tt
same_entries es None (Some u) same h = absurd (none-some (placed u) (sym same))
same_entries es (Some t) None same h = tt
same_entries es (Some t) (Some u) same h =
    let places = ap (λ x. x.0) (same_Some (placed u) (placed t) same) in
    let count = ap (λ x. x.1) (same_Some (placed u) (placed t) same) in
    record {
      count = count ∙ h.count;
      order = subst (λ n. IsOrderOf n u.places) (sym count) (subst (λ ps. IsOrderOf t.count ps) (sym places) h.order);
    }

-- ---- all places, as they stand

pub begun_order : (es : List (Key × Entry)) (n : ℕ) (o : Touches) → n ≡ length es → o.places ≡ up_to n → ordered_keys es (Some o) ≡ Some (keys_of es)
begun_order es n o len all =
    let few : n ≤ length (keys_of es) = (let same = length-keys_of es in omega (arith, same, len)) in
    let many : length (keys_of es) ≤ n = (let same = length-keys_of es in omega (arith, same, len)) in
    ap Some (ap (keys_at (keys_of es)) all ∙ keys_up_to (keys_of es) n few ∙ take_all n (keys_of es) many)

-- ---- the order's keys are those that are held

pub order_is_of_held : (es : List (Key × Entry)) (lost : ℕ) (touched : Option Key) (o : Option Touches) → IsDistinct same_key (keys_of es) → IfSome o (IsOrderOfEntries es)
    → IfSome (ordered_keys es o) (IsOrderOfHeld (seen es lost touched o))
order_is_of_held es lost touched None distinct h = tt
order_is_of_held es lost touched (Some t) distinct h = record {
  held = λ q. is_some-lookup (same_key q) es ∙ all_listed (keys_of es) t.count t.places (h.count ∙ sym (length-keys_of es)) h.order q;
  distinct = each_once (keys_of es) t.places distinct h.order.apart;
}

-- ---- the first key goes

module _ (es fs : List (Key × Entry)) (place : ℕ) (key : Key) (t u : Touches) (held : IsOrderOfEntries es t) (first : IsFirstPlace place t)
    (at : slice_get (keys_of es) place ≡ Some key) (out : keys_of fs ≡ swap_remove (keys_of es) place key) (gone : IsFirstGone place t u) where
  few : u.count + 1 ≡ length (keys_of es)
  few = gone.count ∙ held.count ∙ sym (length-keys_of es)

  last_there : last_item t.places ≡ Some u.count
  last_there = first.last ∙ ap Some (let c = gone.count in omega (arith, c))

  pub keys_after : keys_at (keys_of es) t.places ≡ key ∷ keys_at (keys_of fs) u.places
  keys_after = elim (split_ends t.places place u.count first.first last_there) [
    | inl one ↦
        ap (keys_at (keys_of es)) one.0 ∙ keys_at-first (keys_of es) place [] key at
        ∙ ap (λ ps. key ∷ keys_at (keys_of fs) ps) (sym (gone.alone one.0))
    | inr more ↦
        let order : IsOrderOf (u.count + 1) (place ∷ more.0 ++ u.count ∷ []) =
        subst (λ ps. IsOrderOf (u.count + 1) ps) more.1 (subst (λ n. IsOrderOf n t.places) (sym gone.count) held.order) in
        ap (keys_at (keys_of es)) more.1 ∙ keys_at-first (keys_of es) place (more.0 ++ u.count ∷ []) key at
        ∙ ap (λ l. key ∷ l) (sym (keys_gone (keys_of es) place u.count key few more.0 order))
        ∙ (λ i. key ∷ keys_at (sym out i) (sym (gone.places more.0 more.1) i))
  ]

-- the key put last is the one touched last exactly where that holds of the places
module _ (es : List (Key × Entry)) (lost : ℕ) (touched : Option Key) (t : Touches) (held : IsOrderOfEntries es t) where
  pub latest_key : (place : ℕ) → IsFirstPlace place t → IsLatestLast (seen es lost touched (Some t)) (keys_at (keys_of es) t.places)
  latest_key place first =
      latest_last (keys_of es) (t.count - 1) t.places
      (let some = first.some in let count = held.count in let same = length-keys_of es in omega (arith, some, count, same)) first.last

  pub latest_place_from : 0 < t.count → IsDistinct same_key (keys_of es) → IsLatestLast (seen es lost touched (Some t)) (keys_at (keys_of es) t.places)
      → last_item t.places ≡ Some (t.count - 1)
  latest_place_from some distinct same =
      let more : t.count - 1 + 1 ≡ t.count = omega (arith, some) in
      let len : t.count - 1 + 1 ≡ length (keys_of es) = more ∙ held.count ∙ sym (length-keys_of es) in
      latest_place (keys_of es) (t.count - 1) t.places len (subst (λ n. IsOrderOf n t.places) (sym more) held.order) distinct same

-- ---- what each call makes of a warehouse

-- a key that has an entry is touched
pub touch_known : (es fs : List (Key × Entry)) (lost : ℕ) (touched : Option Key) (o p : Option Touches) (key : Key) (i : ℕ) → place_of es key ≡ Some i
    → IsDistinct same_key (keys_of es) → keys_of fs ≡ keys_of es → length fs ≡ length es → Sets es fs key (option_map renewed (lookup (same_key key) es))
    → is_some (lookup (same_key key) es) ≡ true → p ≡ option_map (touched_at i) o → IsTouched (seen es lost touched o) (seen fs lost (Some key) p) key
touch_known es fs lost touched o p key i at distinct keys count sets had is = record {
  entries = sets;
  touched = sym (cond-true (is_some (lookup (same_key key) es)) (Some key) touched had);
  order = ap (ordered_keys fs) is ∙ touched_order es fs key i at distinct keys o
      ∙ sym (cond-true (is_some (lookup (same_key key) es)) (option_map (to_end key) (ordered_keys es o)) (ordered_keys es o) had);
  lost = refl;
  count = count;
}

-- a value is put under a key, whose place this is or becomes
module _ (es fs : List (Key × Entry)) (key : Key) (i : ℕ) (o q : Option Touches) (h : IfSome o (IsOrderOfEntries es))
    (same : option_map placed q ≡ option_map placed o) (place : i ≡ position_or_len (same_key key) (keys_of es)) where
  still : IfSome q (IsOrderOfEntries es)
  still = same_entries es o q same h

  pub may_touch_put : (is_some (lookup (same_key key) es) ≡ true) ⊎ IfSome q HasRoom → IfSome q (MayTouch i)
  may_touch_put may = by (is_some (lookup (same_key key) es)) refl
    where
      by : (t : Bool) → is_some (lookup (same_key key) es) ≡ t → IfSome q (MayTouch i)
      by true e = may_touch_old es fs key i (place_from es key i place e) q still
      by false e = may_touch_new es fs key i (next_from es key i place e) q still (elim may [
        | inl had ↦ absurd (both_ways (is_some (lookup (same_key key) es)) e had)
        | inr room ↦ room
      ])

  pub put_order : (p : Option Touches) → IsDistinct same_key (keys_of es)
      → keys_of fs ≡ cond (is_some (lookup (same_key key) es)) (keys_of es) (keys_of es ++ key ∷ []) → p ≡ option_map (touched_at i) q
      → ordered_keys fs p ≡ option_map (to_end key) (ordered_keys es o)
  put_order p distinct keys is = ap (ordered_keys fs) is ∙ by (is_some (lookup (same_key key) es)) refl
      ∙ ap (option_map (to_end key)) (same_places es o q same)
    where
      by : (t : Bool) → is_some (lookup (same_key key) es) ≡ t → ordered_keys fs (option_map (touched_at i) q) ≡ option_map (to_end key) (ordered_keys es q)
      by true e = touched_order es fs key i (place_from es key i place e) distinct (keys ∙ cond-true (is_some (lookup (same_key key) es)) (keys_of es) (keys_of es ++ key ∷ []) e) q
      by false e = added_order es fs key i (next_from es key i place e) e (keys ∙ cond-false (is_some (lookup (same_key key) es)) (keys_of es) (keys_of es ++ key ∷ []) e) q still

  pub put_entries : (p : Option Touches) → length fs ≡ length es + cond (is_some (lookup (same_key key) es)) 0 1 → p ≡ option_map (touched_at i) q
      → IfSome p (λ t. IsOrderOf t.count t.places) → IfSome p (IsOrderOfEntries fs)
  put_entries p len is order = subst (λ x. IfSome x (IsOrderOfEntries fs)) (sym is) (by (is_some (lookup (same_key key) es)) refl)
    where
      ordered : IfSome (option_map (touched_at i) q) (λ t. IsOrderOf t.count t.places)
      ordered = subst (λ x. IfSome x (λ t. IsOrderOf t.count t.places)) is order

      by : (t : Bool) → is_some (lookup (same_key key) es) ≡ t → IfSome (option_map (touched_at i) q) (IsOrderOfEntries fs)
      by true e = touched_entries es fs key i (place_from es key i place e)
          (let none = cond-true {A = ℕ} (is_some (lookup (same_key key) es)) 0 1 e in omega (arith, len, none)) q still ordered
      by false e = added_entries es fs key i (next_from es key i place e)
          (let one = cond-false {A = ℕ} (is_some (lookup (same_key key) es)) 0 1 e in omega (arith, len, one)) q still ordered

pub put_held : (es fs : List (Key × Entry)) (key : Key) (entry : Entry) → Sets es fs key (Some entry) → IsEntryHeld fs key
put_held es fs key entry sets =
    ap is_some (sets key ∙ cond-true (same_key key key) (Some entry) (lookup (same_key key) es) (same_key_equiv.refl key))

-- the order is kept from now on
pub kept_or_not : (es : List (Key × Entry)) (lost : ℕ) (touched : Option Key) (n : ℕ) (o q : Option Touches) → n ≡ length es
    → IfSome o (λ t. (t.places ≡ up_to n) × (t.count ≡ n) × IsOrderOf t.count t.places)
    → (seen es lost touched o ≡ record (seen es lost touched q) { order = Some (keys_of es) }) ⊎ (seen es lost touched o ≡ record (seen es lost touched q) { order = None })
kept_or_not es lost touched n None q len h = inr refl
kept_or_not es lost touched n (Some t) q len h =
    inl (ap (λ ks. let w : Stored = record { entries = es; lost = lost; touched = touched; order = ks } in w) (begun_order es n t len h.0))

pub begun_entries : (es : List (Key × Entry)) (n : ℕ) (o : Option Touches) → n ≡ length es
    → IfSome o (λ t. (t.places ≡ up_to n) × (t.count ≡ n) × IsOrderOf t.count t.places) → IfSome o (IsOrderOfEntries es)
begun_entries es n None len h = tt
begun_entries es n (Some t) len h = record { count = h.1 ∙ len; order = h.2 }

-- the key touched first goes
pub drops_first : (es fs : List (Key × Entry)) (lost : ℕ) (touched after : Option Key) (o : Option Touches) (t u : Touches) (place : ℕ) (key : Key)
    → o ≡ Some t → IsOrderOfEntries es t → IsFirstPlace place t → Sets es fs key None → length fs + 1 ≡ length es
    → keys_at (keys_of es) t.places ≡ key ∷ keys_at (keys_of fs) u.places → after ≡ touched_if (λ q. not (same_key key q)) touched
    → DropsOldest (seen es lost touched o) (seen fs lost after (Some u))
drops_first es fs lost touched after o t u place key is held first sets count keys without = inl (
  key,
  keys_at (keys_of fs) u.places,
  (
    ap (ordered_keys es) is ∙ ap Some keys,
    subst (λ ks. last_item ks ≡ last_item (keys_of es)) keys (latest_key es lost touched t held place first),
  ),
  record {
    entries = sets;
    count = count;
    order = refl;
    touched = without;
    lost = refl;
  },
)

-- where no place is the first of an order whose last place is the latest, no key is
pub none_first : (es : List (Key × Entry)) (lost : ℕ) (touched : Option Key) (o : Option Touches) → IfSome o (IsOrderOfEntries es)
    → IsDistinct same_key (keys_of es) → IfSome o (λ t. 0 < t.count → last_item t.places ≢ Some (t.count - 1)) → (key : Key) (keys : List Key)
    → ¬ IsTouchedFirst (seen es lost touched o) key keys
none_first es lost touched None h distinct none key keys first = none-some (key ∷ keys) first.0
none_first es lost touched (Some t) h distinct none key keys first =
    let same : keys_at (keys_of es) t.places ≡ key ∷ keys = same_Some (keys_at (keys_of es) t.places) (key ∷ keys) first.0 in
    let some : 0 < t.count = elim (cases_lt 0 t.count) [
      | inl more ↦ more
      | inr few ↦
          let empty : [] ≡ key ∷ keys = sym (ap (keys_at (keys_of es)) (order_empty t.count t.places h.order few)) ∙ same in
          cc
    ] in
    none some (latest_place_from es lost touched t h some distinct (subst (λ ks. last_item ks ≡ last_item (keys_of es)) (sym same) first.1))
