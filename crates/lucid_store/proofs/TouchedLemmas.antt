-- The key last touched is held after a change too.
use Rattle.lucid_store.proofs.Common.{◌≡◌, Bool, true, false, cond, List, Option, Some, None, IfSome, is_some, ◌∙◌, ap, refl, lookup, Key, Entry, same_key, not}
use Rattle.std.proofs.Common.{IsSome}
use Rattle.lucid_store.specs.Entries.{touched_if}

-- where the keys that pass the test stay held
pub touched_stays : (old new : List (Key × Entry)) (test : Key → Bool) (touched : Option Key)
    → ((k : Key) → test k ≡ true → IsSome (lookup (same_key k) old) → IsSome (lookup (same_key k) new))
    → IfSome touched (λ k. IsSome (lookup (same_key k) old)) → IfSome (touched_if test touched) (λ k. IsSome (lookup (same_key k) new))
touched_stays old new test None stays h = tt
touched_stays old new test (Some k) stays h = (elim
    (test k) as (λ t. test k ≡ t → IfSome (cond {A = Option Key} t (Some k) None) (λ k. IsSome (lookup (same_key k) new))) [
      | true ↦ λ e. stays k e h
      | false ↦ λ e. tt
    ]) refl

-- where exactly one key is taken out
pub touched_without : (old new : List (Key × Entry)) (key : Key) (touched : Option Key)
    → ((q : Key) → lookup (same_key q) new ≡ cond (same_key key q) None (lookup (same_key q) old))
    → IfSome touched (λ k. IsSome (lookup (same_key k) old)) → IfSome (touched_if (λ q. not (same_key key q)) touched) (λ k. IsSome (lookup (same_key k) new))
touched_without old new key touched same = touched_stays old new (λ q. not (same_key key q)) touched
    (λ k passes had. ap is_some (same k) ∙ other (same_key key k) (lookup (same_key k) old) passes had)
  where
    other : (t : Bool) (o : Option Entry) → not t ≡ true → is_some o ≡ true → is_some (cond t None o) ≡ true
    other true o p h = cc
    other false o p h = h
