-- A warehouse in which at most one key is touched between two turns of the policy that drops by age.
use Rattle.lucid_retire.proofs.Common.{◌≡◌, ℕ, zero, suc, ◌+◌, ◌-◌, ◌≤◌, ◌<◌, Bool, true, false, cond, ◌||◌, ◌⊎◌, inl, inr, List, [], ◌∷◌, length, Option, Some, None, is_some, refl, ap, sym, ◌∙◌, subst, arith, nat_le, MatchBool, option_map, option_and_then, lookup, keys_of, nat_tests, length-keys_of, is_some-lookup, length-le_from_is_member, Key, Entry, Stored, same_key, entry_at, count_of, older, aged, swept, IsSwept, IsOneForEach, same_key_is_equality, same_key_equiv, Aging, most_of, IsPaced, ◌*◌, ◌^◌, ◌++◌, length-append, ◌==◌, is_member, list_any-append}
use Rattle.lucid_store.specs.Entries.{age_at}
use Rattle.lucid_retire.specs.Aging.{is_sweeping, after_turn, IsAccounted, TouchesOne, IsSparingTurn}

or_true : (b : Bool) → (b || true) ≡ true
or_true true = refl
or_true false = refl

-- the keys touched at most n sweeps ago
abbrev all_touches : (ℕ → List Key) → ℕ → List Key
all_touches touches zero = touches 0
all_touches touches (suc n) = touches (suc n) ++ all_touches touches n

length-all : (touches : ℕ → List Key) (every n : ℕ) → ((k : ℕ) → length (touches k) ≤ every) → length (all_touches touches n) ≤ every * (n + 1)
length-all touches every zero few = let one = few 0 in grind arith
length-all touches every (suc n) few =
    longer (length (touches (suc n))) (length (all_touches touches n)) _ every n (length-append (touches (suc n)) (all_touches touches n)) (few (suc n))
    (length-all touches every n few)
  where
    longer : (x y z every n : ℕ) → z ≡ x + y → x ≤ every → y ≤ every * (n + 1) → z ≤ every * (suc n + 1)
    longer x y z every n e h k = omega arith

among_all : (touches : ℕ → List Key) (q : Key) (age n : ℕ) → age ≤ n → is_member same_key (touches age) q ≡ true
    → is_member same_key (all_touches touches n) q ≡ true
among_all touches q age zero le h = let at : age ≡ 0 = omega (arith, le) in subst (λ k. is_member same_key (touches k) q ≡ true) at h
among_all touches q age (suc n) le h = list_any-append (same_key q) (touches (suc n)) (all_touches touches n)
    ∙ by (age == suc n) refl (λ below. among_all touches q age n below h)
  where
    by : (t : Bool) → (age == suc n) ≡ t → (age ≤ n → is_member same_key (all_touches touches n) q ≡ true)
        → (is_member same_key (touches (suc n)) q || is_member same_key (all_touches touches n) q) ≡ true
    by true e among = let at : age ≡ suc n = grind (arith, nat_tests) in
        ap (λ b. b || is_member same_key (all_touches touches n) q) (subst (λ k. is_member same_key (touches k) q ≡ true) at h)
    by false e among = let below : age ≤ n = grind (arith, nat_tests) in
        ap (λ b. is_member same_key (touches (suc n)) q || b) (among below) ∙ or_true (is_member same_key (touches (suc n)) q)

abbrev age_of : Option Entry → Option ℕ
age_of e = option_map (λ x. x.age) e

-- ---- a touch

-- the key is touched since the last sweep too
abbrev with_touch : Key → (ℕ → List Key) → ℕ → List Key
with_touch key touches zero = key ∷ touches 0
with_touch key touches (suc n) = touches (suc n)

-- one sweep later
abbrev later : (ℕ → List Key) → ℕ → List Key
later touches zero = []
later touches (suc n) = touches n

module _ (a : Aging) (touches : ℕ → List Key) where
  listed_more : (key q : Key) (n : ℕ) → is_member same_key (touches n) q ≡ true → is_member same_key (with_touch key touches n) q ≡ true
  listed_more key q zero h = ap (λ b. same_key q key || b) h ∙ or_true (same_key q key)
  listed_more key q (suc n) h = h

  accounted_more : (key q : Key) (age : Option ℕ) → IsAccounted a touches q age → IsAccounted a (with_touch key touches) q age
  accounted_more key q None h = tt
  accounted_more key q (Some age) h = (h.0, listed_more key q age h.1)

  accounted_touch : (key : Key) (old new : Stored) → TouchesOne key old new → ((q : Key) → IsAccounted a touches q (age_at old q)) → (q : Key)
      → IsAccounted a (with_touch key touches) q (age_at new q)
  accounted_touch key old new one accounts q = by (same_key key q) refl
    where
      stays : (j : Key) → (entry_at new j ≡ None) ⊎ (entry_at new j ≡ entry_at old j) → IsAccounted a (with_touch key touches) j (age_at new j)
      stays j (inl none) = subst (λ e. IsAccounted a (with_touch key touches) j (age_of e)) (sym none) tt
      stays j (inr same) = subst (λ e. IsAccounted a (with_touch key touches) j (age_of e)) (sym same) (accounted_more key j (age_at old j) (accounts j))

      here : (entry_at new key ≡ None) ⊎ ((entry_at new key ≡ entry_at old key) ⊎ (age_at new key ≡ Some 0))
          → IsAccounted a (with_touch key touches) key (age_at new key)
      here (inl none) = stays key (inl none)
      here (inr (inl same)) = stays key (inr same)
      here (inr (inr young)) = subst (IsAccounted a (with_touch key touches) key) (sym young)
          (omega arith, ap (λ b. b || is_member same_key (touches 0) key) (same_key_equiv.refl key))

      by : (t : Bool) → same_key key q ≡ t → IsAccounted a (with_touch key touches) q (age_at new q)
      by true same = subst (λ j. IsAccounted a (with_touch key touches) j (age_at new j)) ((same_key_is_equality key q).0 same) (here one.touched)
      by false other = stays q (one.others q other)

  -- ---- a sweep

  one_older : (age : ℕ) → age ≤ a.limit → a.limit < 2 ^ 32 - 1 → older age ≡ suc age
  one_older age le small = omega (arith, le, small)

  accounted_swept : a.limit < 2 ^ 32 - 1 → (q : Key) (e : Option Entry) → IsAccounted a touches q (age_of e)
      → IsAccounted a (later touches) q (age_of (option_and_then (swept a.limit) e))
  accounted_swept small q None h = tt
  accounted_swept small q (Some e) h = by (nat_le (older e.age) a.limit) refl
    where
      by : (t : Bool) → nat_le (older e.age) a.limit ≡ t → IsAccounted a (later touches) q (age_of (cond {A = Option Entry} t (Some (aged e)) None))
      by true young = (
        let within : older e.age ≤ a.limit = grind (arith, nat_tests) in
            within,
        subst (λ n. is_member same_key (later touches n) q ≡ true) (sym (one_older e.age h.0 small)) h.1,
      )
      by false old = tt

  -- ---- how many are held

  count-accounted : (w : Stored) → IsOneForEach w → ((k : ℕ) → length (touches k) ≤ a.every) → ((q : Key) → IsAccounted a touches q (age_at w q))
      → count_of w ≤ most_of a
  count-accounted w one few accounts =
      let among = length-le_from_is_member same_key_equiv (keys_of w.entries) (all_touches touches a.limit) one
      (λ q h. listed q (entry_at w q) (is_some-lookup (same_key q) w.entries ∙ h) (accounts q)) in
      within (count_of w) (length (keys_of w.entries)) (length (all_touches touches a.limit)) (most_of a) (length-keys_of w.entries) among
      (length-all touches a.every a.limit few)
    where
      listed : (q : Key) (e : Option Entry) → is_some e ≡ true → IsAccounted a touches q (age_of e) → is_member same_key (all_touches touches a.limit) q ≡ true
      listed q None some h = cc
      listed q (Some e) some h = among_all touches q e.age a.limit h.0 h.1

      within : (n k l m : ℕ) → k ≡ n → k ≤ l → l ≤ m → n ≤ m
      within n k l m e h g = omega arith

-- a turn goes on at the pace, and leaves at most so many that nothing is emptied
module _ (a : Aging) (w old : Stored) (key : Key) (paced : IsPaced a w) (touches : TouchesOne key w old) (since : a.since < a.every)
    (small : a.limit < 2 ^ 32 - 1) where
  abbrev now_touched : ℕ → List Key
  now_touched = with_touch key paced.touches

  few_now : (n : ℕ) → length (now_touched n) ≤ a.every
  few_now zero = omega (arith, paced.latest, since)
  few_now (suc n) = paced.each (suc n)

  accounts_now : (q : Key) → IsAccounted a now_touched q (age_at old q)
  accounts_now = accounted_touch a paced.touches key w old touches paced.accounts

  few_later : (n : ℕ) → length (later now_touched n) ≤ a.every
  few_later zero = omega arith
  few_later (suc n) = few_now n

  accounts_later : (new : Stored) → IsSwept a.limit old new → (q : Key) → IsAccounted a (later now_touched) q (age_at new q)
  accounts_later new sweeps q = subst (λ e. IsAccounted a (later now_touched) q (age_of e)) (sym (sweeps.entries q))
      (accounted_swept a now_touched small q (entry_at old q) (accounts_now q))

  pub paced_swept : (new : Stored) → IsSwept a.limit old new → is_sweeping a ≡ true → IsPaced (after_turn a) new
  paced_swept new sweeps t = record {
    touches = later now_touched;
    latest = omega arith;
    each = few_later;
    accounts = accounts_later new sweeps;
  }

  pub within_swept : (new : Stored) → IsSwept a.limit old new → IsOneForEach new → count_of new ≤ most_of a
  within_swept new sweeps one = count-accounted a (later now_touched) new one few_later (accounts_later new sweeps)

  pub paced_kept : is_sweeping a ≡ false → IsPaced (after_turn a) old
  paced_kept t = record {
    touches = now_touched;
    latest = subst (λ b. suc (length (paced.touches 0)) ≤ cond b 0 (a.since + 1)) (sym t) (omega (arith, paced.latest));
    each = few_now;
    accounts = accounts_now;
  }

  pub within_kept : IsOneForEach old → count_of old ≤ most_of a
  within_kept one = count-accounted a now_touched old one few_now accounts_now

  pub paced_turn : (new : Stored) → IsSparingTurn a old new → IsOneForEach new → IsPaced (after_turn a) new × (count_of new ≤ most_of a)
  paced_turn new sparing one = by (is_sweeping a) refl sparing
    where
      by : (t : Bool) → is_sweeping a ≡ t → MatchBool t (IsSwept a.limit old new) (new ≡ old) → IsPaced (after_turn a) new × (count_of new ≤ most_of a)
      by true t sweeps = (paced_swept new sweeps t, within_swept new sweeps one)
      by false t same = subst (λ v. IsPaced (after_turn a) v × (count_of v ≤ most_of a)) (sym same) (paced_kept t, within_kept (subst IsOneForEach same one))

-- a policy that was just made, and an empty warehouse
pub paced_empty : (every limit : ℕ) (w : Stored) → count_of w ≡ 0 → IsPaced (record { every = every; limit = limit; since = 0 }) w
paced_empty every limit w none = record {
  touches = λ _. [];
  latest = omega arith;
  each = λ _. omega arith;
  accounts = λ q. subst (IsAccounted (record { every = every; limit = limit; since = 0 }) (λ _. []) q) (sym (free w.entries none q)) tt;
}
  where
    free : (es : List (Key × Entry)) → length es ≡ 0 → (q : Key) → age_of (lookup (same_key q) es) ≡ None
    free [] h q = refl
    free (e ∷ es) h q = absurd (omega (arith, h))
