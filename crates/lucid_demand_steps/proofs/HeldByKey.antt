-- A store, seen by keys that have known tags, is what it holds by datons.
use Rattle.lucid_demand_steps.proofs.Common.{◌≡◌, ℕ, cond, List, [], ◌∷◌, Option, Some, None, refl, sym, ap, ◌∙◌, subst, true≢false, IsSome, is_some, Decides, lookup, Decides-eqb, Decides-and, Decides-like, PlainValue, plain, Value, Context, IsKnown, IsOneForOne, KeepsKnown, space_of, same_key, Key, Stored, held, entry_at, SetsOnly, fresh, Daton, same_daton, same-daton, DatonAt, plain_key, is_key_of, held_in, AreKeysKnown, is_daton, PutsDaton, same_from_decides}
use Rattle.std.proofs.Common.{Bool, true, false, ◌==◌, ◌&&◌}
use Rattle.std.specs.Prelude.{option_map}
use Rattle.lucid_lists.proofs.Options.{some_still, same_values}
use Rattle.lucid_tags.specs.Contexts.{same_context}
use Rattle.lucid_tags.specs.Known.{context_of}
use Rattle.lucid_tags.specs.EqualityDecides.{same_context_is_equality, same_key_is_equality, same_key_equiv}
use Rattle.lucid_store.specs.Stored.{Entry}
use Rattle.lucid_store.specs.Entries.{IsHeld}

-- the test of a daton's key decides whether the key is the daton's
pub key_of_decides : (known : List Context) (d : Daton) (s : ℕ) (k : Key) → Decides (is_key_of known d s k) (plain_key known k ≡ (d, s))
key_of_decides known d s k = Decides-like (is_key_of known d s k) there back
    (Decides-and (k.name == d.name) (same_context (context_of known k.tag) d.context && ((space_of k.tag == s) && (k.time == d.time)))
    (Decides-eqb k.name d.name)
    (Decides-and (same_context (context_of known k.tag) d.context) ((space_of k.tag == s) && (k.time == d.time))
    (same_context_is_equality (context_of known k.tag) d.context)
    (Decides-and (space_of k.tag == s) (k.time == d.time) (Decides-eqb (space_of k.tag) s) (Decides-eqb k.time d.time))))
  where
    there : (k.name ≡ d.name) × ((context_of known k.tag ≡ d.context) × ((space_of k.tag ≡ s) × (k.time ≡ d.time))) → plain_key known k ≡ (d, s)
    there e = λ i. (record { name = e.0 i; context = e.1.0 i; time = e.1.1.1 i }, e.1.1.0 i)

    back : plain_key known k ≡ (d, s) → (k.name ≡ d.name) × ((context_of known k.tag ≡ d.context) × ((space_of k.tag ≡ s) × (k.time ≡ d.time)))
    back e = (ap (λ q. q.0.name) e, (ap (λ q. q.0.context) e, (ap (λ q. q.1) e, ap (λ q. q.0.time) e)))

-- keys with known tags are equal exactly where their datons are
keys_alike : (known : List Context) → IsOneForOne known → (k q : Key) → IsKnown known k.tag → IsKnown known q.tag → plain_key known q ≡ plain_key known k
    → k ≡ q
keys_alike known one k q h j e =
    let tags = (one.tags k.tag q.tag h j).1 (sym (ap (λ z. z.0.context) e), sym (ap (λ z. z.1) e)) in
    λ i. record { name = ap (λ z. z.0.name) (sym e) i; tag = tags i; time = ap (λ z. z.0.time) (sym e) i }

-- each key of a list is found in it
itself : (q : Key) (e : Entry) (es : List (Key × Entry)) → IsSome (lookup (same_key q) ((q, e) ∷ es))
itself q e es = ap (λ t. is_some (cond t (Some e) (lookup (same_key q) es))) (same_key_equiv.refl q)

-- two tests that agree on all keys that are there find the same
lookup_alike : (f g : Key → Bool) (es : List (Key × Entry)) → ((q : Key) → IsSome (lookup (same_key q) es) → f q ≡ g q) → lookup f es ≡ lookup g es
lookup_alike f g [] same = refl
lookup_alike f g (e ∷ es) same =
    ap (λ t. cond t (Some e.1) (lookup f es)) (same e.0 (itself e.0 e.1 es))
    ∙ ap (λ o. cond (g e.0) (Some e.1) o) (lookup_alike f g es (λ q h. same q (some_still (same_key q e.0) e.1 (lookup (same_key q) es) h)))

-- what a test finds has a key that passes it and is found
record Found (f : Key → Bool) (es : List (Key × Entry)) : Type 0 where
  key : Key
  passes : f key ≡ true
  there : IsSome (lookup (same_key key) es)

found : (f : Key → Bool) (es : List (Key × Entry)) → IsSome (lookup f es) → Found f es
found f [] h = absurd (true≢false (sym h))
found f (e ∷ es) h =
    (elim (f e.0) as (λ t. f e.0 ≡ t → IsSome (cond t (Some e.1) (lookup f es)) → Found f (e ∷ es)) [
      | true ↦ λ passes i. record { key = e.0; passes = passes; there = itself e.0 e.1 es }
      | false ↦ λ fails i. let r = found f es i in record {
        key = r.key;
        passes = r.passes;
        there = some_still (same_key r.key e.0) e.1 (lookup (same_key r.key) es) r.there;
      }
    ]) refl h

map_twice : (o : Option Entry) → option_map (λ e. plain e.value) o ≡ option_map plain (option_map (λ e. e.value) o)
map_twice None = refl
map_twice (Some e) = refl

-- A store, seen by a key that has a known tag, is what it holds of the key's daton.
pub held_by_key :
    (known : List Context) (w : Stored) (k : Key) → IsOneForOne known → AreKeysKnown known w → IsKnown known k.tag
    → held_in known w (plain_key known k).0 (plain_key known k).1 ≡ held w k
held_by_key known w k one keys there =
    ap (option_map (λ (e : Entry). plain e.value)) (lookup_alike (is_key_of known (plain_key known k).0 (plain_key known k).1) (same_key k) w.entries same)
    ∙ map_twice (entry_at w k)
  where
    same : (q : Key) → IsHeld w q → is_key_of known (plain_key known k).0 (plain_key known k).1 q ≡ same_key k q
    same q h = same_from_decides (is_key_of known (plain_key known k).0 (plain_key known k).1 q) (same_key k q)
        (Decides-like (is_key_of known (plain_key known k).0 (plain_key known k).1 q) (keys_alike known one k q there (keys q h))
        (λ e. ap (plain_key known) (sym e)) (key_of_decides known (plain_key known k).0 (plain_key known k).1 q))
        (same_key_is_equality k q)

is_there : (o : Option Entry) (v : PlainValue) → option_map (λ e. plain e.value) o ≡ Some v → IsSome o
is_there None v e = cc
is_there (Some x) v e = refl

has_value : (o : Option Entry) → IsSome o → (v : PlainValue) × (option_map plain (option_map (λ e. e.value) o) ≡ Some v)
has_value None h = absurd (true≢false (sym h))
has_value (Some x) h = (plain x.value, refl)

is_held_of : (o : Option Entry) (v : PlainValue) → option_map plain (option_map (λ e. e.value) o) ≡ Some v → IsSome o
is_held_of None v e = cc
is_held_of (Some x) v e = refl

-- A daton that is held has a key, which has its value.
pub record HasKey (known : List Context) (w : Stored) (d : Daton) (s : ℕ) (v : PlainValue) : Type 0 where
  pub key : Key
  pub known_tag : IsKnown known key.tag
  pub is : plain_key known key ≡ (d, s)
  pub value : held w key ≡ Some v

pub key_of_held : (known : List Context) (w : Stored) (d : Daton) (s : ℕ) (v : PlainValue) → IsOneForOne known → AreKeysKnown known w
    → held_in known w d s ≡ Some v → HasKey known w d s v
key_of_held known w d s v one keys e =
    let r = found (is_key_of known d s) w.entries (is_there (lookup (is_key_of known d s) w.entries) v e) in
    let is = (key_of_decides known d s r.key).0 r.passes in
    let tag = keys r.key r.there in
    record { key = r.key; known_tag = tag; is = is; value = sym (held_by_key known w r.key one keys tag) ∙ ap (λ q. held_in known w q.0 q.1) is ∙ e }

-- and what a key has, its daton has
pub held_of_key : (known : List Context) (w : Stored) (d : Daton) (s : ℕ) (v : PlainValue) → IsOneForOne known → AreKeysKnown known w → HasKey known w d s v
    → held_in known w d s ≡ Some v
held_of_key known w d s v one keys k = ap (λ q. held_in known w q.0 q.1) (sym k.is) ∙ held_by_key known w k.key one keys k.known_tag ∙ k.value

-- What is dropped by keys is dropped by datons.
pub held_drops :
    (known : List Context) (old new : Stored) → IsOneForOne known → AreKeysKnown known old
    → ((k : Key) (v : PlainValue) → held new k ≡ Some v → held old k ≡ Some v)
    → AreKeysKnown known new × ((k : DatonAt) (v : PlainValue) → held_in known new k.0 k.1 ≡ Some v → held_in known old k.0 k.1 ≡ Some v)
held_drops known old new one keys drops = (now, λ k v e. went k v (key_of_held known new k.0 k.1 v one now e))
  where
    now : AreKeysKnown known new
    now k h = let v = has_value (entry_at new k) h in keys k (is_held_of (entry_at old k) v.0 (drops k v.0 v.1))

    went : (k : DatonAt) (v : PlainValue) → HasKey known new k.0 k.1 v → held_in known old k.0 k.1 ≡ Some v
    went k v r = held_of_key known old k.0 k.1 v one keys (record { key = r.key; known_tag = r.known_tag; is = r.is; value = drops r.key v r.value })

-- What stays by keys stays by datons.
pub held_stays :
    (known : List Context) (old new : Stored) → IsOneForOne known → AreKeysKnown known old → ((k : Key) → held new k ≡ held old k)
    → AreKeysKnown known new × ((k : DatonAt) → held_in known new k.0 k.1 ≡ held_in known old k.0 k.1)
held_stays known old new one keys same =
    let there = held_drops known old new one keys (λ k v e. sym (same k) ∙ e) in
    let back = held_drops known new old one there.0 (λ k v e. same k ∙ e) in
    (there.0, λ k. same_values (held_in known new k.0 k.1) (held_in known old k.0 k.1) (there.1 k) (back.1 k))

-- What is held stays the same where more contexts become known: each key's tag stands for what it stood for.
pub held_as_tags_grow :
    (old new : List Context) (w : Stored) → KeepsKnown old new → AreKeysKnown old w
    → AreKeysKnown new w × ((d : Daton) (s : ℕ) → held_in new w d s ≡ held_in old w d s)
held_as_tags_grow old new w keeps keys = (
  λ k h. keeps.known k.tag (keys k h),
  λ d s. ap (option_map (λ (e : Entry). plain e.value)) (lookup_alike (is_key_of new d s) (is_key_of old d s) w.entries (λ q h.
      ap (λ c. (q.name == d.name) && (same_context c d.context && ((space_of q.tag == s) && (q.time == d.time)))) (keeps.same q.tag (keys q h)))),
)

-- A put of a key is a put of its daton.
pub put_by_key :
    (known : List Context) (old new : Stored) (k : Key) (v : Value) → IsOneForOne known → AreKeysKnown known old → IsKnown known k.tag
    → SetsOnly old new k (Some (fresh v))
    → PutsDaton (held_in known old) (held_in known new) (plain_key known k) (plain v) × AreKeysKnown known new
put_by_key known old new k v one keys there sets = (λ q. puts q (is_daton (plain_key known k) q) refl, now)
  where
    now : AreKeysKnown known new
    now q h = by (same_key k q) refl (ap is_some (sym (sets q)) ∙ h)
      where
        by : (t : Bool) → same_key k q ≡ t → IsSome (cond t (Some (fresh v)) (entry_at old q)) → IsKnown known q.tag
        by true e i = subst (λ z. IsKnown known z.tag) ((same_key_is_equality k q).0 e) there
        by false e i = keys q i

    daton_decides : (q : DatonAt) → Decides (is_daton (plain_key known k) q) (plain_key known k ≡ q)
    daton_decides q = Decides-like (is_daton (plain_key known k) q) (λ e i. (e.0 i, e.1 i)) (λ e. (ap (λ z. z.0) e, ap (λ z. z.1) e))
        (Decides-and (same_daton (plain_key known k).0 q.0) ((plain_key known k).1 == q.1) (same-daton (plain_key known k).0 q.0)
        (Decides-eqb (plain_key known k).1 q.1))

    apart : (q : DatonAt) → is_daton (plain_key known k) q ≡ false → (x : Key) → plain_key known x ≡ (q.0, q.1) → held new x ≡ held old x
    apart q other x is = by (same_key k x) refl
      where
        by : (t : Bool) → same_key k x ≡ t → held new x ≡ held old x
        by true e = absurd (true≢false (sym ((daton_decides q).1 (ap (plain_key known) ((same_key_is_equality k x).0 e) ∙ is)) ∙ other))
        by false e = ap (λ o. option_map plain (option_map (λ z. z.value) o)) (sets x ∙ ap (λ t. cond t (Some (fresh v)) (entry_at old x)) e)

    puts : (q : DatonAt) (t : Bool) → is_daton (plain_key known k) q ≡ t → held_in known new q.0 q.1 ≡ cond t (Some (plain v)) (held_in known old q.0 q.1)
    puts q true e =
        ap (λ z. held_in known new z.0 z.1) (sym ((daton_decides q).0 e)) ∙ held_by_key known new k one now there
        ∙ ap (λ o. option_map plain (option_map (λ z. z.value) o)) (sets k ∙ ap (λ t. cond t (Some (fresh v)) (entry_at old k)) (same_key_equiv.refl k))
    puts q false e = same_values (held_in known new q.0 q.1) (held_in known old q.0 q.1) forth back
      where
        forth : (w : PlainValue) → held_in known new q.0 q.1 ≡ Some w → held_in known old q.0 q.1 ≡ Some w
        forth w h =
            let r = key_of_held known new q.0 q.1 w one now h in
            held_of_key known old q.0 q.1 w one keys (record { key = r.key; known_tag = r.known_tag; is = r.is; value = sym (apart q e r.key r.is) ∙ r.value })

        back : (w : PlainValue) → held_in known old q.0 q.1 ≡ Some w → held_in known new q.0 q.1 ≡ Some w
        back w h =
            let r = key_of_held known old q.0 q.1 w one keys h in
            held_of_key known new q.0 q.1 w one now (record { key = r.key; known_tag = r.known_tag; is = r.is; value = apart q e r.key r.is ∙ r.value })
