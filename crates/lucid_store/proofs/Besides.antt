-- Values in one list and their ages in another, seen as one list of entries.
use Rattle.lucid_store.proofs.Common.{◌≡◌, ℕ, zero, suc, ◌+◌, ◌-◌, ◌≤◌, ◌<◌, Bool, true, false, cond, List, [], ◌∷◌, ◌++◌, length, map, Option, Some, None, is_some, position, slice_get, refl, ap, sym, subst, ◌∙◌, arith, slice_set, option_map, option_and_then, slice_get-map, AllWithin, swap_remove, lookup, Value, Key, Entry, same_key, beside, ages_of, value_in, Sets, renewed, older, within, swept, same_key_is_equality, same_key_equiv, ◌==◌, nat_le, nat_tests, slice_get_within, IsDistinct, position_or_len, option_to_list, lookup_key, keys_of, values_of}
use Rattle.std.proofs.Common.{◌≢◌, slice_index_or, inl, inr}
use Rattle.std.proofs.lemmas.Bool.{cases_lt}
use Rattle.std.specs.Option.{IsSome}
use Rattle.indexmap.specs.IndexMap.{insert_entry}
use Rattle.indexmap.proofs.SetLemmas.{map-swap_remove}
use Rattle.indexmap.specs.IndexMap.{set_value_at}
use Rattle.indexmap.proofs.MapLemmas.{index-first, swap_remove-default, insert_entry-first, insert_entry-absent, absent_from_lookup, Found-position, some_index, or_len-first}
use Rattle.indexmap.proofs.RemoveLemmas.{own_first, popped_last, swap_out}
use Rattle.lucid_store.specs.Ages.{IsOverAt}
use Rattle.lucid_store.specs.Beside.{place_of}
use Rattle.lucid_store.specs.Entries.{fresh, aged}

pub keys-beside : (es : List (Key × Value)) (ages : List ℕ) → keys_of (beside es ages) ≡ keys_of es
keys-beside [] ages = refl
keys-beside (e ∷ es) [] = ap (λ ks. e.0 ∷ ks) (keys-beside es [])
keys-beside (e ∷ es) (a ∷ ages) = ap (λ ks. e.0 ∷ ks) (keys-beside es ages)

pub length-beside : (es : List (Key × Value)) (ages : List ℕ) → length (beside es ages) ≡ length es
length-beside [] ages = refl
length-beside (e ∷ es) [] = ap suc (length-beside es [])
length-beside (e ∷ es) (a ∷ ages) = ap suc (length-beside es ages)

pub ages-beside : (es : List (Key × Value)) (ages : List ℕ) → length ages ≡ length es → ages_of (beside es ages) ≡ ages
ages-beside [] [] h = refl
ages-beside [] (a ∷ ages) h = absurd (omega (arith, h))
ages-beside (e ∷ es) [] h = absurd (omega (arith, h))
ages-beside (e ∷ es) (a ∷ ages) h = let less : length ages ≡ length es = omega (arith, h) in ap (λ l. a ∷ l) (ages-beside es ages less)

-- an entry without its age
abbrev pub row : Key × Entry → Key × Value
row e = (e.0, e.1.value)

pub rows-beside : (es : List (Key × Value)) (ages : List ℕ) → map row (beside es ages) ≡ es
rows-beside [] ages = refl
rows-beside (e ∷ es) [] = ap (λ ks. e ∷ ks) (rows-beside es [])
rows-beside (e ∷ es) (a ∷ ages) = ap (λ ks. e ∷ ks) (rows-beside es ages)

pub beside-again : (l : List (Key × Entry)) → beside (map row l) (ages_of l) ≡ l
beside-again [] = refl
beside-again (e ∷ l) = ap (λ es. e ∷ es) (beside-again l)

-- ---- look-ups

pub found-beside : (q : Key) (es : List (Key × Value)) (ages : List ℕ) → is_some (lookup (same_key q) (beside es ages)) ≡ is_some (lookup (same_key q) es)
found-beside q [] ages = refl
found-beside q (e ∷ es) [] = let rest = found-beside q es [] in
    elim (same_key q e.0) as (λ t. is_some (cond {A = Option Entry} t (Some (record { value = e.1; age = 0 })) (lookup (same_key q) (beside es []))) ≡ is_some
    (cond t (Some e.1) (lookup (same_key q) es))) [
      | true ↦ refl
      | false ↦ rest
    ]
found-beside q (e ∷ es) (a ∷ ages) = let rest = found-beside q es ages in
    elim (same_key q e.0) as (λ t. is_some (cond {A = Option Entry} t (Some (record { value = e.1; age = a })) (lookup (same_key q) (beside es ages))) ≡ is_some
    (cond t (Some e.1) (lookup (same_key q) es))) [
      | true ↦ refl
      | false ↦ rest
    ]

pub value-beside : (q : Key) (es : List (Key × Value)) (ages : List ℕ)
    → option_map (λ (x : Entry). x.value) (lookup (same_key q) (beside es ages)) ≡ lookup (same_key q) es
value-beside q [] ages = refl
value-beside q (e ∷ es) [] = let rest = value-beside q es [] in
    elim (same_key q e.0) as (λ t. option_map (λ (x : Entry). x.value)
    (cond {A = Option Entry} t (Some (record { value = e.1; age = 0 })) (lookup (same_key q) (beside es []))) ≡ cond t (Some e.1) (lookup (same_key q) es)) [
      | true ↦ refl
      | false ↦ rest
    ]
value-beside q (e ∷ es) (a ∷ ages) = let rest = value-beside q es ages in
    elim (same_key q e.0) as (λ t. option_map (λ (x : Entry). x.value)
    (cond {A = Option Entry} t (Some (record { value = e.1; age = a })) (lookup (same_key q) (beside es ages))) ≡ cond t (Some e.1) (lookup (same_key q) es)) [
      | true ↦ refl
      | false ↦ rest
    ]

-- an entry's value that is read by its place
pub value_in-beside : (es : List (Key × Value)) (ages : List ℕ) (i : ℕ) → value_in (beside es ages) i ≡ option_map (λ e. e.1) (slice_get es i)
value_in-beside [] ages i = refl
value_in-beside (e ∷ es) [] zero = refl
value_in-beside (e ∷ es) [] (suc i) = value_in-beside es [] i
value_in-beside (e ∷ es) (a ∷ ages) zero = refl
value_in-beside (e ∷ es) (a ∷ ages) (suc i) = value_in-beside es ages i

-- ---- an insertion

set_value-beside : (es : List (Key × Value)) (ages : List ℕ) (i : ℕ) (v : Value)
    → beside (set_value_at es i v) (slice_set ages i 0) ≡ set_value_at (beside es ages) i (fresh v)
set_value-beside [] ages i v = refl
set_value-beside (e ∷ es) [] zero v = refl
set_value-beside (e ∷ es) (a ∷ ages) zero v = refl
set_value-beside (e ∷ es) [] (suc i) v = ap (λ l. (e.0, record { value = e.1; age = 0 }) ∷ l) (set_value-beside es [] i v)
set_value-beside (e ∷ es) (a ∷ ages) (suc i) v = ap (λ l. (e.0, record { value = e.1; age = a }) ∷ l) (set_value-beside es ages i v)

-- a key that is there keeps its place, and its age is written there
pub insert-known : (k : Key) (v : Value) (es : List (Key × Value)) (ages : List ℕ) (i : ℕ) → position (same_key k) (keys_of es) ≡ Some i
    → beside (insert_entry same_key es k v) (slice_set ages i 0) ≡ insert_entry same_key (beside es ages) k (fresh v)
insert-known k v es ages i at =
    let there : position (same_key k) (keys_of (beside es ages)) ≡ Some i = ap (position (same_key k)) (keys-beside es ages) ∙ at in
    ap (λ l. beside l (slice_set ages i 0)) (insert_entry-first same_key k v es i (Found-position (same_key k) es i at).first)
    ∙ set_value-beside es ages i v
    ∙ sym (insert_entry-first same_key k (fresh v) (beside es ages) i (Found-position (same_key k) (beside es ages) i there).first)

-- the place at which an insertion finds a key
pub known_place : (test : Key → Bool) (es : List (Key × Value)) (v : Value) → lookup test es ≡ Some v
    → position test (keys_of es) ≡ Some (position_or_len test (keys_of es))
known_place test es v h = by (position test (keys_of es)) refl
  where
    by : (o : Option ℕ) → position test (keys_of es) ≡ o → o ≡ Some (position_or_len test (keys_of es))
    by None p = let some : is_some (position test (keys_of es)) ≡ true = some_index test es ∙ ap is_some h in cc
    by (Some i) p = ap Some (sym (or_len-first test es i (Found-position test es i p).first))

-- a new key goes last, and its age too
pub insert-new : (k : Key) (v : Value) (es : List (Key × Value)) (ages : List ℕ) → lookup (same_key k) es ≡ None → length ages ≡ length es
    → beside (insert_entry same_key es k v) (ages ++ 0 ∷ []) ≡ insert_entry same_key (beside es ages) k (fresh v)
insert-new k v [] [] none h = refl
insert-new k v [] (a ∷ ages) none h = absurd (omega (arith, h))
insert-new k v (e ∷ es) [] none h = absurd (omega (arith, h))
insert-new k v (e ∷ es) (a ∷ ages) none h = let less : length ages ≡ length es = omega (arith, h) in
    (elim (same_key k e.0) as (λ t. same_key k e.0 ≡ t → cond t (Some e.1) (lookup (same_key k) es) ≡ None
    → beside (cond t ((e.0, v) ∷ es) (e ∷ insert_entry same_key es k v)) (a ∷ ages ++ 0 ∷ []) ≡ insert_entry same_key (beside (e ∷ es) (a ∷ ages)) k
    (fresh v)) [
      | true ↦ λ t none. cc
      | false ↦ λ t none. rw t (ap (λ l. (e.0, record { value = e.1; age = a }) ∷ l) (insert-new k v es ages none less))
    ]) refl none

-- a value that is there already
pub insert-same : (k : Key) (v : Value) (es : List (Key × Value)) → lookup (same_key k) es ≡ Some v → insert_entry same_key es k v ≡ es
insert-same k v [] h = cc
insert-same k v (e ∷ es) h =
    (elim (same_key k e.0) as (λ t. cond t (Some e.1) (lookup (same_key k) es) ≡ Some v → cond t ((e.0, v) ∷ es) (e ∷ insert_entry same_key es k v) ≡ e ∷ es) [
      | true ↦ λ h. let same : v ≡ e.1 = cc in ap (λ x. (e.0, x) ∷ es) same
      | false ↦ λ h. ap (λ l. e ∷ l) (insert-same k v es h)
    ]) h

same_test : (x : Entry) (s t : Bool) (o : Option Entry) → s ≡ t → cond s (Some x) o ≡ cond t (Some x) o
same_test x s t o h = ap (λ b. cond b (Some x) o) h

first_test : (x y : Entry) (s t : Bool) (o : Option Entry) → s ≡ t → cond s (Some x) o ≡ cond t (Some x) (cond s (Some y) o)
first_test x y true true o h = refl
first_test x y false false o h = refl
first_test x y true false o h = cc
first_test x y false true o h = cc

-- what an inserted key has, and every other
pub insert-sets : (k : Key) (x : Entry) (l : List (Key × Entry)) → Sets l (insert_entry same_key l k x) k (Some x)
insert-sets k x [] q = same_test x (same_key q k) (same_key k q) None (same_key_equiv.symm q k)
insert-sets k x (e ∷ l) q = let rest = insert-sets k x l q in
    (elim (same_key k e.0) as (λ t. same_key k e.0 ≡ t
    → lookup (same_key q) (cond t ((e.0, x) ∷ l) (e ∷ insert_entry same_key l k x)) ≡ cond (same_key k q) (Some x)
    (cond (same_key q e.0) (Some e.1) (lookup (same_key q) l))) [
      | true ↦ λ t. let here : k ≡ e.0 = (same_key_is_equality k e.0).0 t in
          subst (λ j. cond (same_key q j) (Some x) (lookup (same_key q) l) ≡ cond (same_key k q) (Some x)
          (cond (same_key q j) (Some e.1) (lookup (same_key q) l))) here
          (first_test x e.1 (same_key q k) (same_key k q) (lookup (same_key q) l) (same_key_equiv.symm q k))
      | false ↦ λ t.
          (elim (same_key q e.0) as (λ s. same_key q e.0 ≡ s
          → cond s (Some e.1) (lookup (same_key q) (insert_entry same_key l k x)) ≡ cond (same_key k q) (Some x) (cond s (Some e.1) (lookup (same_key q) l))) [
            | true ↦ λ s. let other : same_key k q ≡ false = subst (λ j. same_key k j ≡ false) (sym ((same_key_is_equality q e.0).0 s)) t in
                sym (ap (λ b. cond b (Some x) (Some e.1)) other)
            | false ↦ λ s. rest
          ]) refl
    ]) refl

-- what a put leaves
module _ (k : Key) (v : Value) (es : List (Key × Value)) (ages : List ℕ) (fs : List (Key × Value)) (bs : List ℕ) (put : fs ≡ insert_entry same_key es k v) where
  pub put-known : (w : Value) (i : ℕ) → lookup (same_key k) es ≡ Some w → i ≡ position_or_len (same_key k) (keys_of es) → bs ≡ slice_set ages i 0
      → Sets (beside es ages) (beside fs bs) k (Some (fresh v))
  put-known w i had index set q =
      let at : position (same_key k) (keys_of es) ≡ Some i = known_place (same_key k) es w had ∙ ap Some (sym index) in
      ap (lookup (same_key q)) ((λ j. beside (put j) (set j)) ∙ insert-known k v es ages i at) ∙ insert-sets k (fresh v) (beside es ages) q

  pub put-new : lookup (same_key k) es ≡ None → length ages ≡ length es → bs ≡ ages ++ 0 ∷ [] → Sets (beside es ages) (beside fs bs) k (Some (fresh v))
  put-new none same pushed q = ap (lookup (same_key q)) ((λ j. beside (put j) (pushed j)) ∙ insert-new k v es ages none same)
      ∙ insert-sets k (fresh v) (beside es ages) q

  -- and what a refused age leaves
  pub put-popped : lookup (same_key k) es ≡ None → (gs : List (Key × Value)) (r : Option (Key × Value)) → fs ≡ gs ++ option_to_list r → IsSome r
      → (r ≡ Some (k, v)) × (gs ≡ es)
  put-popped none gs r off some = popped_last es gs (k, v) r
      (sym (insert_entry-absent same_key k v es (absent_from_lookup (same_key k) es none)) ∙ sym put ∙ off) some

pub count-put : (k : Key) (es fs : List (Key × Value)) (ages bs : List ℕ) (o : Option Value) → o ≡ lookup (same_key k) es
    → length fs ≡ length es + cond (is_some o) 0 1
    → length (beside fs bs) ≡ length (beside es ages) + cond (is_some (lookup (same_key k) (beside es ages))) 0 1
count-put k es fs ages bs o old len =
    let found : is_some (lookup (same_key k) (beside es ages)) ≡ is_some o = found-beside k es ages ∙ ap is_some (sym old) in
    length-beside fs bs ∙ len ∙ (λ j. sym (length-beside es ages) j + cond (sym found j) 0 1)

-- the keys after an insertion
cons_either : (t : Bool) (k : Key) (xs ys : List Key) → k ∷ cond t xs ys ≡ cond t (k ∷ xs) (k ∷ ys)
cons_either true k xs ys = refl
cons_either false k xs ys = refl

keys-insert : (k : Key) (v : Value) (es : List (Key × Value))
    → keys_of (insert_entry same_key es k v) ≡ cond (is_some (lookup (same_key k) es)) (keys_of es) (keys_of es ++ k ∷ [])
keys-insert k v [] = refl
keys-insert k v (e ∷ es) = let rest = keys-insert k v es in
    elim (same_key k e.0) as (λ t. keys_of (cond t ((e.0, v) ∷ es) (e ∷ insert_entry same_key es k v))
    ≡ cond (is_some (cond t (Some e.1) (lookup (same_key k) es))) (e.0 ∷ keys_of es) (e.0 ∷ keys_of es ++ k ∷ [])) [
      | true ↦ refl
      | false ↦ ap (λ l. e.0 ∷ l) rest ∙ cons_either (is_some (lookup (same_key k) es)) e.0 (keys_of es) (keys_of es ++ k ∷ [])
    ]

pub put-keys : (k : Key) (v : Value) (es : List (Key × Value)) (ages : List ℕ) (fs : List (Key × Value)) (bs : List ℕ) → fs ≡ insert_entry same_key es k v
    → keys_of (beside fs bs)
    ≡ cond (is_some (lookup (same_key k) (beside es ages))) (keys_of (beside es ages)) (keys_of (beside es ages) ++ k ∷ [])
put-keys k v es ages fs bs put =
    keys-beside fs bs ∙ ap keys_of put ∙ keys-insert k v es
    ∙ (λ i. cond (sym (found-beside k es ages) i) (sym (keys-beside es ages) i) (sym (keys-beside es ages) i ++ k ∷ []))

-- ---- a look-up that renews

renewed_from : (o : Option Entry) (v : Value) → option_map (λ (x : Entry). x.value) o ≡ Some v → option_map renewed o ≡ Some (fresh v)
renewed_from None v h = cc
renewed_from (Some x) v h = let same : x.value ≡ v = cc in ap (λ w. Some (fresh w)) same

pub renew-sets : (k : Key) (v : Value) (es : List (Key × Value)) (ages : List ℕ) (i : ℕ) → position (same_key k) (keys_of es) ≡ Some i
    → lookup (same_key k) es ≡ Some v
    → (bs : List ℕ) → bs ≡ slice_set ages i 0 → Sets (beside es ages) (beside es bs) k (option_map renewed (lookup (same_key k) (beside es ages)))
renew-sets k v es ages i at h bs set =
    let known = insert-known k v es ages i at in
    let same = insert-same k v es h in
    let now : beside es bs ≡ insert_entry same_key (beside es ages) k (fresh v) = ap (beside es) set ∙ ap (λ l. beside l (slice_set ages i 0)) (sym same)
    ∙ known in
    let entry = renewed_from (lookup (same_key k) (beside es ages)) v (value-beside k es ages ∙ h) in
    λ q. ap (lookup (same_key q)) now ∙ insert-sets k (fresh v) (beside es ages) q
    ∙ ap (λ o. cond (same_key k q) o (lookup (same_key q) (beside es ages))) (sym entry)

-- a key that is not there
pub absent-sets : (k : Key) (l : List (Key × Entry)) (o : Option Entry) → o ≡ None → lookup (same_key k) l ≡ None → Sets l l k o
absent-sets k l o none h q = (elim (same_key k q) as (λ t. same_key k q ≡ t → lookup (same_key q) l ≡ cond t o (lookup (same_key q) l)) [
  | true ↦ λ t. subst (λ j. lookup (same_key j) l ≡ o) ((same_key_is_equality k q).0 t) (h ∙ sym none)
  | false ↦ λ t. refl
]) refl

pub none-beside : (q : Key) (es : List (Key × Value)) (ages : List ℕ) → lookup (same_key q) es ≡ None → lookup (same_key q) (beside es ages) ≡ None
none-beside q es ages h = none_from (lookup (same_key q) (beside es ages)) (found-beside q es ages ∙ ap is_some h)
  where
    none_from : (o : Option Entry) → is_some o ≡ false → o ≡ None
    none_from None e = refl
    none_from (Some x) e = cc

pub none_from_test : {X : Type 0} (o : Option X) → is_some o ≡ false → o ≡ None
none_from_test None e = refl
none_from_test (Some x) e = cc

-- ---- a removal

module _ (es : List (Key × Value)) (ages : List ℕ) (i : ℕ) (k : Key) (v : Value) (distinct : IsDistinct same_key (keys_of es))
    (at : slice_get es i ≡ Some (k, v)) where
  pub place-removed : position (same_key k) (keys_of es) ≡ Some i
  place-removed = index-first (same_key k) es i (own_first same_key same_key_equiv es i k v distinct at)

  removed_from : (p : Option (Key × Entry)) → slice_get (beside es ages) i ≡ p → length ages ≡ length es
      → (fs : List (Key × Value)) (bs : List ℕ) (a : ℕ) → fs ≡ swap_remove es i (k, v) → bs ≡ swap_remove ages i a → Sets (beside es ages) (beside fs bs) k None
  removed_from None e same fs bs a f b =
      let none : slice_get es i ≡ None = ap (λ l. slice_get l i) (sym (rows-beside es ages)) ∙ slice_get-map row (beside es ages) i ∙ ap (option_map row) e in
      cc
  removed_from (Some p) e same fs bs a f b =
      let l = beside es ages in
      let here : Some (row p) ≡ Some (k, v) = sym (ap (option_map row) e) ∙ sym (slice_get-map row l i) ∙ ap (λ r. slice_get r i) (rows-beside es ages) ∙ at in
      let pair : row p ≡ (k, v) = cc in
      let key : p.0 ≡ k = ap (λ r. r.0) pair in
      let within : i < length l = slice_get_within l i p e in
      let some : 0 < length l = omega (arith, within) in
      let many : 0 < length ages = omega (arith, some, same, length-beside es ages) in
      let rows : map row (swap_remove l i p) ≡ fs = map-swap_remove row l i p some ∙ (λ j. swap_remove (rows-beside es ages j) i (pair j)) ∙ sym f in
      let old : ages_of (swap_remove l i p) ≡ bs = map-swap_remove (λ (x : Key × Entry). x.1.age) l i p some
      ∙ ap (λ r. swap_remove r i p.1.age) (ages-beside es ages same) ∙ swap_remove-default ages i p.1.age a many ∙ sym b in
      let new : beside fs bs ≡ swap_remove l i p = (λ j. beside (sym rows j) (sym old j)) ∙ beside-again (swap_remove l i p) in
      let index : position (same_key k) (keys_of l) ≡ Some i = ap (position (same_key k)) (keys-beside es ages) ∙ place-removed in
      let apart : IsDistinct same_key (keys_of l) = subst (IsDistinct same_key) (sym (keys-beside es ages)) distinct in
      let out = swap_out same_key same_key_equiv (same_key k) (same_key_equiv.congr k) l i p index e apart (beside fs bs) new in
      λ q. out.updated.0 q

  pub remove-keys : (fs : List (Key × Value)) (bs : List ℕ) → fs ≡ swap_remove es i (k, v) → keys_of (beside fs bs) ≡ swap_remove (keys_of (beside es ages)) i k
  remove-keys fs bs f =
      let within : i < length es = slice_get_within es i (k, v) at in
      let some : 0 < length es = omega (arith, within) in
      keys-beside fs bs ∙ ap keys_of f ∙ map-swap_remove (λ (e : Key × Value). e.0) es i (k, v) some ∙ ap (λ l. swap_remove l i k) (sym (keys-beside es ages))

  pub remove-sets : length ages ≡ length es → (fs : List (Key × Value)) (bs : List ℕ) (a : ℕ) → fs ≡ swap_remove es i (k, v) → bs ≡ swap_remove ages i a
      → Sets (beside es ages) (beside fs bs) k None
  remove-sets = removed_from (slice_get (beside es ages) i) refl

-- what stands at a removed age's place or later stood later
pub later_stays : (old new : List ℕ) (i m n most : ℕ) → m + 1 ≡ n
    → ((d : ℕ) → i + 1 < n → slice_index_or new i d ≡ slice_index_or old (n - 1) d)
    × ((j : ℕ) (d : ℕ) → j ≢ i → j + 1 < n → slice_index_or new j d ≡ slice_index_or old j d)
    → AllWithin (λ age. age ≤ most) old (i + 1) n → AllWithin (λ age. age ≤ most) new i m
later_stays old new i m n most one moves all j d low high = by (j == i) refl
  where
    by : (t : Bool) → (j == i) ≡ t → slice_index_or new j d ≤ most
    by true t =
        let at : j ≡ i = grind (arith, nat_tests) in
        let more : i + 1 < n = omega (arith, one, high, at) in
        let last = all (n - 1) d (omega (arith, more)) (omega (arith, more)) in
        subst (λ x. slice_index_or new x d ≤ most) (sym at) (subst (λ x. x ≤ most) (sym (moves.0 d more)) last)
    by false t =
        let above : i + 1 ≤ j = grind (arith, nat_tests) in
        let other : j ≢ i = λ e. omega (arith, above, e) in
        let within : j + 1 < n = omega (arith, one, high) in
        subst (λ x. x ≤ most) (sym (moves.1 j d other within)) (all j d above (omega (arith, within)))

-- ---- a sweep

pub raise-beside : (q : Key) (es : List (Key × Value)) (ages : List ℕ) → length ages ≡ length es
    → lookup (same_key q) (beside es (map older ages)) ≡ option_map aged (lookup (same_key q) (beside es ages))
raise-beside q [] ages h = refl
raise-beside q (e ∷ es) [] h = absurd (omega (arith, h))
raise-beside q (e ∷ es) (a ∷ ages) h = let less : length ages ≡ length es = omega (arith, h) in let rest = raise-beside q es ages less in
    elim (same_key q e.0) as (λ t. cond {A = Option Entry} t (Some (record { value = e.1; age = older a }))
    (lookup (same_key q) (beside es (map older ages))) ≡ option_map aged
    (cond t (Some (record { value = e.1; age = a })) (lookup (same_key q) (beside es ages)))) [
      | true ↦ refl
      | false ↦ rest
    ]

pub swept_from : (limit : ℕ) (o : Option Entry) → option_and_then (within limit) (option_map aged o) ≡ option_and_then (swept limit) o
swept_from limit None = refl
swept_from limit (Some e) = refl

-- where no age is over the limit, all stays
pub all_within : (limit : ℕ) (q : Key) (l : List (Key × Entry)) → AllWithin (λ age. age ≤ limit) (ages_of l) 0 (length l)
    → option_and_then (within limit) (lookup (same_key q) l) ≡ lookup (same_key q) l
all_within limit q [] all = refl
all_within limit q (e ∷ l) all =
    let rest = all_within limit q l (λ j d low high. all (suc j) d (omega arith) (omega (arith, high))) in
    let young : e.1.age ≤ limit = all 0 0 (omega arith) (omega arith) in
    let test : nat_le e.1.age limit ≡ true = grind (arith, nat_tests) in
    elim (same_key q e.0) as (λ t. option_and_then (within limit) (cond t (Some e.1) (lookup (same_key q) l)) ≡ cond t (Some e.1) (lookup (same_key q) l)) [
      | true ↦ ap (λ b. cond {A = Option Entry} b (Some e.1) None) test
      | false ↦ rest
    ]

-- an entry over the limit makes no difference
pub over_goes : (limit : ℕ) (old new : List (Key × Entry)) (k : Key) (x : Entry) → Sets old new k None → lookup (same_key k) old ≡ Some x → limit < x.age
    → (q : Key) → option_and_then (within limit) (lookup (same_key q) new) ≡ option_and_then (within limit) (lookup (same_key q) old)
over_goes limit old new k x sets at over q = ap (option_and_then (within limit)) (sets q)
    ∙ (elim (same_key k q) as (λ t. same_key k q ≡ t
    → option_and_then (within limit) (cond t None (lookup (same_key q) old)) ≡ option_and_then (within limit) (lookup (same_key q) old)) [
      | true ↦ λ t.
          let test : nat_le x.age limit ≡ false = grind (arith, nat_tests) in
          let here : lookup (same_key q) old ≡ Some x = subst (λ j. lookup (same_key j) old ≡ Some x) ((same_key_is_equality k q).0 t) at in
          sym (ap (option_and_then (within limit)) here ∙ ap (λ b. cond {A = Option Entry} b (Some x) None) test)
      | false ↦ λ t. refl
    ]) refl

pub is_some_within : {X : Type 0} (xs : List X) (i : ℕ) → i < length xs → is_some (slice_get xs i) ≡ true
is_some_within [] i h = absurd (omega (arith, h))
is_some_within (x ∷ xs) zero h = refl
is_some_within (x ∷ xs) (suc i) h = is_some_within xs i (omega (arith, h))

pub some_from_test : {X : Type 0} (o : Option X) → is_some o ≡ true → (x : X) × (o ≡ Some x)
some_from_test None h = cc
some_from_test (Some x) h = (x, refl)

-- ---- places

passes_key : (test : Key → Bool) (l : List (Key × Entry)) (x : Key) → lookup_key test l ≡ Some x → test x ≡ true
passes_key test [] x h = cc
passes_key test (e ∷ l) x h = (elim (test e.0) as (λ t. test e.0 ≡ t → cond t (Some e.0) (lookup_key test l) ≡ Some x → test x ≡ true) [
  | true ↦ λ t h. let same : e.0 ≡ x = cc in subst (λ j. test j ≡ true) same t
  | false ↦ λ t h. passes_key test l x h
]) refl h

pub key_placed_at : (k : Key) (l : List (Key × Entry)) (i : ℕ) (x : Key) → place_of l k ≡ Some i → slice_get (keys_of l) i ≡ Some x → k ≡ x
key_placed_at k l i x at here = (same_key_is_equality k x).0 (passes_key (same_key k) l x ((Found-position (same_key k) l i at).key ∙ here))

-- one key stands at a place
pub same_place : (a b : Key) (l : List (Key × Entry)) (i : ℕ) → place_of l a ≡ Some i → place_of l b ≡ Some i → a ≡ b
same_place a b l i at also =
    let within : i < length l = (Found-position (same_key a) l i at).within in
    let x = some_from_test (slice_get l i) (is_some_within l i within) in
    let here : slice_get (keys_of l) i ≡ Some x.0.0 = slice_get-map (λ (e : Key × Entry). e.0) l i ∙ ap (option_map (λ (e : Key × Entry). e.0)) x.1 in
    key_placed_at a l i x.0.0 at here ∙ sym (key_placed_at b l i x.0.0 also here)

pub none_placed : (k : Key) (l : List (Key × Entry)) → place_of l k ≡ None → lookup (same_key k) l ≡ None
none_placed k l none = none_from_test (lookup (same_key k) l) (sym (some_index (same_key k) l) ∙ ap is_some none)

pub some_placed : (k : Key) (l : List (Key × Entry)) (i : ℕ) → place_of l k ≡ Some i → is_some (lookup (same_key k) l) ≡ true
some_placed k l i at = sym (some_index (same_key k) l) ∙ ap is_some at

-- the age at a key's place
pub age_placed : (k : Key) (l : List (Key × Entry)) (i a : ℕ) → place_of l k ≡ Some i → slice_get (ages_of l) i ≡ Some a
    → (x : Entry) × (lookup (same_key k) l ≡ Some x) × (x.age ≡ a)
age_placed k l i a at age =
    let found = Found-position (same_key k) l i at in
    let p = some_from_test (slice_get l i) (is_some_within l i found.within) in
    let value : slice_get (values_of l) i ≡ Some p.0.1 = slice_get-map (λ (e : Key × Entry). e.1) l i ∙ ap (option_map (λ (e : Key × Entry). e.1)) p.1 in
    let same : Some p.0.1.age ≡ Some a = ap (option_map (λ (e : Key × Entry). e.1.age)) (sym p.1) ∙ sym (slice_get-map (λ (e : Key × Entry). e.1.age) l i)
    ∙ age in
    (p.0.1, found.value ∙ value, cc)

-- the ages of entries, as they lie beside them
pub ages_seen : (es : List (Key × Value)) (ages : List ℕ) (l : List (Key × Entry)) → length ages ≡ length es → beside es ages ≡ l → ages ≡ ages_of l
ages_seen es ages l same view = sym (ages-beside es ages same) ∙ ap ages_of view

-- none is over the limit up to an end, and none from there on
pub joined_within : (limit from end n : ℕ) (ages : List ℕ) → AllWithin (λ age. age ≤ limit) ages from end → AllWithin (λ age. age ≤ limit) ages end n
    → AllWithin (λ age. age ≤ limit) ages from n
joined_within limit from end n ages before behind k d low high = elim (cases_lt k end) [ inl below ↦ before k d low below | inr past ↦ behind k d past high ]

-- the last entry that is over the limit goes
pub last_goes : (limit end index : ℕ) (old new : List (Key × Entry)) (k : Key) → IsOverAt limit (ages_of old) end index → place_of old k ≡ Some index
    → Sets old new k None → (q : Key) → option_and_then (within limit) (lookup (same_key q) new) ≡ option_and_then (within limit) (lookup (same_key q) old)
last_goes limit end index old new k found at sets =
    let x = age_placed k old index found.age at found.here in
    over_goes limit old new k x.0 sets x.1 (subst (λ n. limit < n) (sym x.2) found.over)

-- ---- touches
