-- The keys that stand at places, in the order of touches.
use Rattle.lucid_store.proofs.Common.{◌≡◌, ℕ, zero, suc, ◌+◌, ◌-◌, ◌<◌, ◌≤◌, Bool, true, false, not, List, [], ◌∷◌, ◌++◌, length, take, Option, Some, None, slice_get, refl, ap, sym, subst, ◌∙◌, arith, option_to_list, slice_get_within, slice_set, swap_remove, IsDistinct, Key, same_key, same_key_equiv}
use Rattle.std.proofs.Common.{◌≢◌, inl, inr, slice_index_or}
use Rattle.std.proofs.Common.{◌||◌}
use Rattle.std.proofs.lemmas.Bool.{cases_eq, cases_order, cond-true, cond-false, not_from_true, not_from_false, both_ways, false≢true, or_cases, or_right}
use Rattle.std.proofs.lemmas.Option.{same_Some, none-some, slice_get-get_or, slice_get_cases}
use Rattle.std.proofs.lemmas.List.{append_assoc, get_or-take, get_or-set_same, get_or-set_other, length-set, length-take-le}
use Rattle.std.proofs.lemmas.Map.Keys.{IsDistinct-cons, IsDistinct-from_apart, apart_from_distinct, any_passes_from_place}
use Rattle.std.specs.List.{AllByRecursion, filter, list_any}
use Rattle.futures.specs.LinkedLists.{without, IsIn, IsApart}
use Rattle.futures.proofs.LinkLemmas.{without_head}
use Rattle.lucid_store.specs.Touches.{IsOrderOf, last_item, keys_at, to_end, up_to, place_to_end}
use Rattle.lucid_store.proofs.PlaceLemmas.{without_past, last_push, ends_with, next_to_end, apart_front, IsIn-push_kept, IsIn-push_last}

-- ---- keys at places

pub keys_at-append : (ks : List Key) (xs ys : List ℕ) → keys_at ks (xs ++ ys) ≡ keys_at ks xs ++ keys_at ks ys
keys_at-append ks [] ys = refl
keys_at-append ks (x ∷ xs) ys =
    ap (λ l. option_to_list (slice_get ks x) ++ l) (keys_at-append ks xs ys) ∙ sym (append_assoc (option_to_list (slice_get ks x)) (keys_at ks xs) (keys_at ks ys))

pub keys_at-one : (ks : List Key) (p : ℕ) (k : Key) → slice_get ks p ≡ Some k → keys_at ks (p ∷ []) ≡ k ∷ []
keys_at-one ks p k at = ap (λ o. option_to_list o ++ []) at

pub keys_at-first : (ks : List Key) (p : ℕ) (ps : List ℕ) (k : Key) → slice_get ks p ≡ Some k → keys_at ks (p ∷ ps) ≡ k ∷ keys_at ks ps
keys_at-first ks p ps k at = ap (λ o. option_to_list o ++ keys_at ks ps) at

-- where the same keys stand at the places
pub keys_at-same : (ks js : List Key) (ps : List ℕ) → ((p : ℕ) → IsIn p ps → slice_get js p ≡ slice_get ks p) → keys_at js ps ≡ keys_at ks ps
keys_at-same ks js [] same = refl
keys_at-same ks js (p ∷ ps) same =
    (λ i. option_to_list (same p (inl refl) i) ++ keys_at-same ks js ps (λ q found. same q (inr found)) i)

-- different keys stand at different places
pub other_key_at : (ks : List Key) (p x : ℕ) (k j : Key) → IsDistinct same_key ks → slice_get ks p ≡ Some k → slice_get ks x ≡ Some j → x ≢ p → same_key k j ≡ false
other_key_at ks p x k j distinct at there differs =
    let low = slice_get_within ks p k at in
    let high = slice_get_within ks x j there in
    let here : slice_index_or ks p k ≡ k = same_Some _ _ (sym (slice_get-get_or ks p k low) ∙ at) in
    let other : slice_index_or ks x k ≡ j = same_Some _ _ (sym (slice_get-get_or ks x k high) ∙ there) in
    elim (cases_order p x) [
      | inl same ↦ absurd (differs (sym same))
      | inr less ↦ elim less [
        | inl before ↦ (λ i. same_key (sym here i) (sym other i)) ∙ apart_from_distinct same_key ks p x k distinct before high
        | inr after ↦ (λ i. same_key (sym here i) (sym other i)) ∙ same_key_equiv.symm (slice_index_or ks p k) (slice_index_or ks x k)
            ∙ apart_from_distinct same_key ks x p k distinct after low
      ]
    ]

-- without a place, all keys but its own
module _ (ks : List Key) (p : ℕ) (k : Key) (distinct : IsDistinct same_key ks) (at : slice_get ks p ≡ Some k) where
  pub keys_without : (ps : List ℕ) → keys_at ks (without p ps) ≡ filter (λ q. not (same_key k q)) (keys_at ks ps)
  keys_without [] = refl
  keys_without (x ∷ xs) = let rest = keys_without xs in
      (elim (slice_get ks x) as (λ o. slice_get ks x ≡ o → keys_at ks (without p (x ∷ xs)) ≡ filter (λ q. not (same_key k q)) (option_to_list o ++ keys_at ks xs)) [
        | None ↦ λ none.
            let differs : x ≢ p = λ same. none-some k (sym none ∙ ap (slice_get ks) same ∙ at) in
            ap (keys_at ks) (without_past p x xs differs) ∙ ap (λ o. option_to_list o ++ keys_at ks (without p xs)) none ∙ rest
        | Some j ↦ λ some.
            elim (cases_eq x p) [
              | inl same ↦
                  let own : k ≡ j = same_Some k j (sym at ∙ ap (slice_get ks) (sym same) ∙ some) in
                  let passes : not (same_key k j) ≡ false = not_from_true _ (ap (same_key k) (sym own) ∙ same_key_equiv.refl k) in
                  ap (keys_at ks) (without_head p x xs same) ∙ rest
                  ∙ sym (cond-false (not (same_key k j)) (j ∷ filter (λ q. not (same_key k q)) (keys_at ks xs)) (filter (λ q. not (same_key k q)) (keys_at ks xs)) passes)
              | inr differs ↦
                  let passes : not (same_key k j) ≡ true = not_from_false _ (other_key_at ks p x k j distinct at some differs) in
                  ap (keys_at ks) (without_past p x xs differs)
                  ∙ ap (λ o. option_to_list o ++ keys_at ks (without p xs)) some
                  ∙ ap (λ l. j ∷ l) rest
                  ∙ sym (cond-true (not (same_key k j)) (j ∷ filter (λ q. not (same_key k q)) (keys_at ks xs)) (filter (λ q. not (same_key k q)) (keys_at ks xs)) passes)
            ]
      ]) refl

  -- a place that comes to the end brings its key there
  pub keys_touched : (ps : List ℕ) → keys_at ks (place_to_end p ps) ≡ to_end k (keys_at ks ps)
  keys_touched ps = keys_at-append ks (without p ps) (p ∷ []) ∙ (λ i. keys_without ps i ++ keys_at-one ks p k at i)

-- ---- a key more

slice_get-append : (ks : List Key) (k : Key) (p : ℕ) → p < length ks → slice_get (ks ++ k ∷ []) p ≡ slice_get ks p
slice_get-append [] k p low = absurd (omega (arith, low))
slice_get-append (j ∷ ks) k zero low = refl
slice_get-append (j ∷ ks) k (suc p) low = slice_get-append ks k p (omega (arith, low))

slice_get-last : (ks : List Key) (k : Key) (n : ℕ) → n ≡ length ks → slice_get (ks ++ k ∷ []) n ≡ Some k
slice_get-last [] k zero e = refl
slice_get-last [] k (suc n) e = absurd (omega (arith, e))
slice_get-last (j ∷ ks) k zero e = absurd (omega (arith, e))
slice_get-last (j ∷ ks) k (suc n) e = slice_get-last ks k n (omega (arith, e))

-- keys none of which is the same stay
all_others : (k : Key) (ks : List Key) → list_any (same_key k) ks ≡ false → filter (λ q. not (same_key k q)) ks ≡ ks
all_others k [] none = refl
all_others k (j ∷ ks) none = (elim (same_key k j) as (λ t. same_key k j ≡ t → filter (λ q. not (same_key k q)) (j ∷ ks) ≡ j ∷ ks) [
  | true ↦ λ t. absurd (both_ways (list_any (same_key k) (j ∷ ks)) none (ap (λ b. b || list_any (same_key k) ks) t))
  | false ↦ λ t. cond-true (not (same_key k j)) (j ∷ filter (λ q. not (same_key k q)) ks) (filter (λ q. not (same_key k q)) ks) (not_from_false _ t)
      ∙ ap (λ l. j ∷ l) (all_others k ks (sym (ap (λ b. b || list_any (same_key k) ks) t) ∙ none))
]) refl

-- no key stands at places that isn't there at all
unlisted_at : (ks : List Key) (k : Key) (ps : List ℕ) → list_any (same_key k) ks ≡ false → list_any (same_key k) (keys_at ks ps) ≡ false
unlisted_at ks k [] none = refl
unlisted_at ks k (p ∷ ps) none = let rest = unlisted_at ks k ps none in
    (elim (slice_get ks p) as (λ o. slice_get ks p ≡ o → list_any (same_key k) (option_to_list o ++ keys_at ks ps) ≡ false) [
      | None ↦ λ e. rest
      | Some j ↦ λ e. (elim (same_key k j) as (λ t. same_key k j ≡ t → (t || list_any (same_key k) (keys_at ks ps)) ≡ false) [
        | true ↦ λ t. absurd (both_ways (list_any (same_key k) ks) none (any_passes_from_place (same_key k) ks p j e t))
        | false ↦ λ t. rest
      ]) refl
    ]) refl

pub keys_more : (ks : List Key) (k : Key) (n : ℕ) (ps : List ℕ) → n ≡ length ks → IsOrderOf n ps → list_any (same_key k) ks ≡ false
    → keys_at (ks ++ k ∷ []) (place_to_end n ps) ≡ to_end k (keys_at ks ps)
keys_more ks k n ps len o none =
    let same = keys_at-same ks (ks ++ k ∷ []) ps (λ q found. slice_get-append ks k q (let less = o.within q found in omega (arith, less, len))) in
    ap (keys_at (ks ++ k ∷ [])) (next_to_end n ps o)
    ∙ keys_at-append (ks ++ k ∷ []) ps (n ∷ [])
    ∙ (λ i. same i ++ keys_at-one (ks ++ k ∷ []) n k (slice_get-last ks k n len) i)
    ∙ ap (λ l. l ++ k ∷ []) (sym (all_others k (keys_at ks ps) (unlisted_at ks k ps none)))

-- ---- all keys, as they stand

take_next : (ks : List Key) (n : ℕ) → suc n ≤ length ks → take (suc n) ks ≡ take n ks ++ (option_to_list (slice_get ks n) ++ [])
take_next [] n low = absurd (omega (arith, low))
take_next (k ∷ ks) zero low = refl
take_next (k ∷ ks) (suc n) low = ap (λ l. k ∷ l) (take_next ks n (omega (arith, low)))

pub keys_up_to : (ks : List Key) (n : ℕ) → n ≤ length ks → keys_at ks (up_to n) ≡ take n ks
keys_up_to ks zero low = refl
keys_up_to ks (suc n) low =
    keys_at-append ks (up_to n) (n ∷ []) ∙ ap (λ l. l ++ keys_at ks (n ∷ [])) (keys_up_to ks n (omega (arith, low))) ∙ sym (take_next ks n low)

-- ---- the last key

-- where each place has a key
module _ (ks : List Key) where
  AreWithin : List ℕ → Type 0
  AreWithin ps = (q : ℕ) → IsIn q ps → q < length ks

  pub key_within : (p : ℕ) → p < length ks → (k : Key) × (slice_get ks p ≡ Some k)
  key_within p low = elim (slice_get_cases ks p).1 [ inl h ↦ (h.0, h.2) | inr h ↦ absurd (omega (arith, h.0, low)) ]

  -- the key at the last place stands last
  pub last_key : (ps : List ℕ) (p : ℕ) → last_item ps ≡ Some p → p < length ks → last_item (keys_at ks ps) ≡ slice_get ks p
  last_key ps p last low =
      let front = ends_with ps p last in
      let k = key_within p low in
      ap (λ l. last_item (keys_at ks l)) front.1 ∙ ap last_item (keys_at-append ks front.0 (p ∷ []) ∙ ap (λ l. keys_at ks front.0 ++ l) (keys_at-one ks p k.0 k.1))
      ∙ last_push (keys_at ks front.0) k.0 ∙ sym k.1

  pub last_of_keys : (n : ℕ) → n + 1 ≡ length ks → last_item ks ≡ slice_get ks n
  last_of_keys n len = by ks n len
    where
      by : (js : List Key) (m : ℕ) → m + 1 ≡ length js → last_item js ≡ slice_get js m
      by [] m e = absurd (omega (arith, e))
      by (j ∷ []) zero e = refl
      by (j ∷ []) (suc m) e = absurd (omega (arith, e))
      by (j ∷ i ∷ is) zero e = absurd (omega (arith, e))
      by (j ∷ i ∷ is) (suc m) e = by (i ∷ is) m (omega (arith, e))

-- ---- the first key goes, and the last one takes its place

module _ (ks : List Key) (p m : ℕ) (d : Key) (len : m + 1 ≡ length ks) where
  put : Key
  put = slice_index_or ks (length ks - 1) d

  size : length (swap_remove ks p d) ≡ length ks - 1
  size = let set = length-set ks p (slice_index_or ks (length ks - 1) d) in
      length-take-le (length ks - 1) (slice_set ks p (slice_index_or ks (length ks - 1) d)) (omega (arith, set))

  stays_at : (q : ℕ) → q < m → q ≢ p → slice_get (swap_remove ks p d) q ≡ slice_get ks q
  stays_at q low differs =
      let cut : q < length ks - 1 = omega (arith, len, low) in
      let high : q < length ks = omega (arith, len, low) in
      slice_get-get_or (swap_remove ks p d) q d (omega (arith, size, cut))
      ∙ ap Some (get_or-take (length ks - 1) (slice_set ks p (slice_index_or ks (length ks - 1) d)) q d cut
      ∙ get_or-set_other ks p q (slice_index_or ks (length ks - 1) d) d differs)
      ∙ sym (slice_get-get_or ks q d high)

  moves_to : p < m → slice_get (swap_remove ks p d) p ≡ slice_get ks m
  moves_to low =
      let cut : p < length ks - 1 = omega (arith, len, low) in
      let high : p < length ks = omega (arith, len, low) in
      let last : length ks - 1 ≡ m = omega (arith, len) in
      slice_get-get_or (swap_remove ks p d) p d (omega (arith, size, cut))
      ∙ ap Some (get_or-take (length ks - 1) (slice_set ks p (slice_index_or ks (length ks - 1) d)) p d cut
      ∙ get_or-set_same ks p (slice_index_or ks (length ks - 1) d) d high ∙ ap (λ n. slice_index_or ks n d) last)
      ∙ sym (slice_get-get_or ks m d (omega (arith, len)))

  pub keys_gone : (others : List ℕ) → IsOrderOf (m + 1) (p ∷ others ++ m ∷ [])
      → keys_at (swap_remove ks p d) (others ++ p ∷ []) ≡ keys_at ks (others ++ m ∷ [])
  keys_gone others o =
      let first : p ≢ m = λ same. o.apart.0 (subst (λ x. IsIn x (others ++ m ∷ [])) (sym same) (IsIn-push_last m others)) in
      let before : p < m = (let low = o.within p (inl refl) in omega (arith, low, first)) in
      let same = keys_at-same ks (swap_remove ks p d) others (λ q found.
      let low = o.within q (inr (IsIn-push_kept m q others found)) in
      let last : q ≢ m = λ e. (apart_front others m o.apart.1).1 (subst (λ x. IsIn x others) e found) in
      let other : q ≢ p = λ e. o.apart.0 (IsIn-push_kept m p others (subst (λ x. IsIn x others) e found)) in
      stays_at q (omega (arith, low, last)) other) in
      keys_at-append (swap_remove ks p d) others (p ∷ [])
      ∙ (λ i. same i ++ (option_to_list (moves_to before i) ++ []))
      ∙ sym (keys_at-append ks others (m ∷ []))

-- ---- the keys of an order are all keys, each once

any_place : (test : Key → Bool) (ks : List Key) → list_any test ks ≡ true → (p : ℕ) × (k : Key) × (slice_get ks p ≡ Some k) × (test k ≡ true)
any_place test [] h = absurd (false≢true h)
any_place test (k ∷ ks) h = elim (or_cases (test k) (list_any test ks) h) [
  | inl here ↦ (0, k, refl, here)
  | inr there ↦ (let rest = any_place test ks there in (suc rest.0, rest.1, rest.2, rest.3))
]

any_at : (test : Key → Bool) (ks : List Key) (p : ℕ) (k : Key) (ps : List ℕ) → IsIn p ps → slice_get ks p ≡ Some k → test k ≡ true
    → list_any test (keys_at ks ps) ≡ true
any_at test ks p k [] found at passes = absurd found
any_at test ks p k (x ∷ xs) found at passes = elim found [
  | inl here ↦ ap (λ o. list_any test (option_to_list o ++ keys_at ks xs)) (ap (slice_get ks) here ∙ at) ∙ ap (λ b. b || list_any test (keys_at ks xs)) passes
  | inr there ↦ later (slice_get ks x) (any_at test ks p k xs there at passes)
]
  where
    later : (o : Option Key) → list_any test (keys_at ks xs) ≡ true → list_any test (option_to_list o ++ keys_at ks xs) ≡ true
    later None h = h
    later (Some j) h = or_right (test j) (list_any test (keys_at ks xs)) h

pub all_listed : (ks : List Key) (n : ℕ) (ps : List ℕ) → n ≡ length ks → IsOrderOf n ps → (q : Key) → list_any (same_key q) ks ≡ list_any (same_key q) (keys_at ks ps)
all_listed ks n ps len o q = by (list_any (same_key q) ks) refl
  where
    by : (t : Bool) → list_any (same_key q) ks ≡ t → t ≡ list_any (same_key q) (keys_at ks ps)
    by true h =
        let found = any_place (same_key q) ks h in
        let low = slice_get_within ks found.0 found.1 found.2 in
        sym (any_at (same_key q) ks found.0 found.1 ps (o.whole found.0 (omega (arith, low, len))) found.2 found.3)
    by false h = sym (unlisted_at ks q ps h)

apart_from_all : (ks : List Key) (x : ℕ) (j : Key) (ps : List ℕ) → IsDistinct same_key ks → slice_get ks x ≡ Some j → ¬ IsIn x ps
    → AllByRecursion (λ y. same_key j y ≡ false) (keys_at ks ps)
apart_from_all ks x j [] distinct at absent = tt
apart_from_all ks x j (p ∷ ps) distinct at absent =
    let rest = apart_from_all ks x j ps distinct at (λ found. absent (inr found)) in
    (elim (slice_get ks p) as (λ o. slice_get ks p ≡ o → AllByRecursion (λ y. same_key j y ≡ false) (option_to_list o ++ keys_at ks ps)) [
      | None ↦ λ e. rest
      | Some i ↦ λ e. (other_key_at ks x p j i distinct at e (λ same. absent (inl same)), rest)
    ]) refl

pub each_once : (ks : List Key) (ps : List ℕ) → IsDistinct same_key ks → IsApart ps → IsDistinct same_key (keys_at ks ps)
each_once ks [] distinct apart = IsDistinct-from_apart same_key [] (λ i j d less high. absurd (omega (arith, high)))
each_once ks (p ∷ ps) distinct apart = let rest = each_once ks ps distinct apart.1 in
    (elim (slice_get ks p) as (λ o. slice_get ks p ≡ o → IsDistinct same_key (option_to_list o ++ keys_at ks ps)) [
      | None ↦ λ e. rest
      | Some i ↦ λ e. IsDistinct-cons same_key i (keys_at ks ps) (apart_from_all ks p i ps distinct e apart.0) rest
    ]) refl

-- ---- the latest key stands last exactly where the latest place does

some_last : (q : ℕ) (ps : List ℕ) → IsIn q ps → (x : ℕ) × (last_item ps ≡ Some x) × IsIn x ps
some_last q [] found = absurd found
some_last q (x ∷ []) found = (x, refl, inl refl)
some_last q (x ∷ y ∷ ys) found = let rest = some_last y (y ∷ ys) (inl refl) in (rest.0, rest.1, inr rest.2)

pub latest_last : (ks : List Key) (m : ℕ) (ps : List ℕ) → m + 1 ≡ length ks → last_item ps ≡ Some m → last_item (keys_at ks ps) ≡ last_item ks
latest_last ks m ps len last = last_key ks ps m last (omega (arith, len)) ∙ sym (last_of_keys ks m len)

pub latest_place : (ks : List Key) (m : ℕ) (ps : List ℕ) → m + 1 ≡ length ks → IsOrderOf (m + 1) ps → IsDistinct same_key ks
    → last_item (keys_at ks ps) ≡ last_item ks → last_item ps ≡ Some m
latest_place ks m ps len o distinct same =
    let last = some_last 0 ps (o.whole 0 (omega arith)) in
    let low : last.0 < length ks = (let l = o.within last.0 last.2 in omega (arith, l, len)) in
    let k = key_within ks last.0 low in
    let also : slice_get ks m ≡ Some k.0 = sym (last_of_keys ks m len) ∙ sym same ∙ last_key ks ps last.0 last.1 low ∙ k.1 in
    elim (cases_eq last.0 m) [
      | inl here ↦ last.1 ∙ ap Some here
      | inr differs ↦ absurd (both_ways (same_key k.0 k.0) (other_key_at ks m last.0 k.0 k.0 distinct also k.1 differs) (same_key_equiv.refl k.0))
    ]
