-- Lists that are joined, and values in front of lists.
use Rattle.lucid_value.proofs.Common.{◌≡◌, ◌≤◌, refl, ap, ◌∙◌, map, arith, List, [], ◌∷◌, ◌++◌, IsTrue, ◌&&◌, Bool, true, false, ◌↔◌, nat_le, if◌then◌else◌, nat_tests, and_parts, leb-true, le-leb, both_true, PlainValue, list, fault, Items, no_items, item, weights, nestings, may_be_held, well_formed, all_well_formed, joined, onto, max, map-append}
use Rattle.std.proofs.Common.{◌+◌, ◌<◌}
use Rattle.lucid_value.specs.Lists.{limited_list, IsOverLimit, first_of, rest_of}

pub weights_joined : (us vs : Items) → weights (joined us vs) ≡ weights us + weights vs
weights_joined no_items vs = omega arith
weights_joined (item u us) vs = omega (arith, weights_joined us vs)

pub nestings_joined : (us vs : Items) → nestings (joined us vs) ≡ max (nestings us) (nestings vs)
nestings_joined no_items vs = omega arith
nestings_joined (item u us) vs = omega (arith, nestings_joined us vs)

pub formed_joined : (us vs : Items) → IsTrue (all_well_formed us) → IsTrue (all_well_formed vs) → IsTrue (all_well_formed (joined us vs))
formed_joined no_items vs h k = k
formed_joined (item u us) vs h k =
    let p = and_parts (may_be_held u && well_formed u) (all_well_formed us) h in
    both_true p.0 (formed_joined us vs p.1 k)

limited_list_over : (vs : Items) → 65536 < weights vs + 1 → limited_list vs ≡ fault
limited_list_over vs h = grind (arith, nat_tests)

limited_list_within : (vs : Items) → weights vs + 1 ≤ 65536 → nestings vs + 1 ≤ 64 → limited_list vs ≡ list vs
limited_list_within vs h k = grind (arith, nat_tests)

pub joined_over : (us vs : Items) → 65536 < weights us + weights vs + 1 → limited_list (joined us vs) ≡ fault
joined_over us vs h = limited_list_over (joined us vs) (omega (arith, weights_joined us vs))

pub joined_within : (us vs : Items) → weights us + weights vs + 1 ≤ 65536 → nestings us + 1 ≤ 64 → nestings vs + 1 ≤ 64
    → limited_list (joined us vs) ≡ list (joined us vs)
joined_within us vs h k l =
    limited_list_within (joined us vs) (omega (arith, weights_joined us vs)) (omega (arith, nestings_joined us vs))

-- `error` stands exactly where a limit is passed, and for the first item and the rest exactly where there is none
pub over_limit : (vs : Items) → (limited_list vs ≡ fault) ↔ IsOverLimit vs
over_limit vs = at (nat_le (weights vs + 1) 65536) (nat_le (nestings vs + 1) 64) refl refl
  where
    at : (m n : Bool) → nat_le (weights vs + 1) 65536 ≡ m → nat_le (nestings vs + 1) 64 ≡ n → ((if m && n then list vs else fault) ≡ fault) ↔ IsOverLimit vs
    at true true e f = (λ k. cc, λ k. absurd (k (leb-true _ _ e, leb-true _ _ f)))
    at true false e f = (λ k p. let g = le-leb _ _ p.1 in cc, λ k. refl)
    at false n e f = (λ k p. let g = le-leb _ _ p.0 in cc, λ k. refl)

pub first_missing : (vs : Items) → IsTrue (all_well_formed vs) → (first_of vs ≡ fault) ↔ (vs ≡ no_items)
first_missing no_items h = (λ k. refl, λ k. refl)
first_missing (item v vs) h =
    let p = and_parts (may_be_held v && well_formed v) (all_well_formed vs) h in
    let q = (and_parts (may_be_held v) (well_formed v) p.0).0 in
    (λ k. cc (ap may_be_held k), λ k. cc)

pub rest_missing : (vs : Items) → (rest_of vs ≡ fault) ↔ (vs ≡ no_items)
rest_missing no_items = (λ k. refl, λ k. refl)
rest_missing (item v vs) = (λ k. cc, λ k. cc)

pub onto_more : (us : List PlainValue) (v : PlainValue) (vs : Items) → onto (us ++ v ∷ []) vs ≡ onto us (item v vs)
onto_more [] v vs = refl
onto_more (u ∷ us) v vs = ap (item u) (onto_more us v vs)

pub onto_joined : (us : List PlainValue) (vs : Items) → joined (onto us no_items) vs ≡ onto us vs
onto_joined [] vs = refl
onto_joined (u ∷ us) vs = ap (item u) (onto_joined us vs)

pub onto_light : (us : List PlainValue) (vs : Items) → weights vs ≤ weights (onto us vs)
onto_light [] vs = omega arith
onto_light (u ∷ us) vs = omega (arith, onto_light us vs)

pub onto_flat : (us : List PlainValue) (vs : Items) → nestings vs ≤ nestings (onto us vs)
onto_flat [] vs = omega arith
onto_flat (u ∷ us) vs = omega (arith, onto_flat us vs)

pub onto_formed : (us : List PlainValue) (vs : Items) → IsTrue (all_well_formed (onto us vs)) → IsTrue (all_well_formed vs)
onto_formed [] vs h = h
onto_formed (u ∷ us) vs h =
    let p = and_parts (may_be_held u && well_formed u) (all_well_formed (onto us vs)) h in onto_formed us vs p.1

-- the last of the values goes in front of the items
pub taken : {A : Type 0} (f : A → PlainValue) (old new : List A) (x : A) (vs : Items) → old ≡ new ++ x ∷ []
    → onto (map f old) vs ≡ onto (map f new) (item (f x) vs)
taken f old new x vs e =
    ap (λ ws. onto (map f ws) vs) e ∙ ap (λ ws. onto ws vs) (map-append f new (x ∷ [])) ∙ onto_more (map f new) (f x) vs
