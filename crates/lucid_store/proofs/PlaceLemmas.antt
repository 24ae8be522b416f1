-- Places in the order of their touches.
use Rattle.lucid_store.proofs.Common.{◌≡◌, ℕ, ◌+◌, ◌<◌, ◌≤◌, ◌⊎◌, List, [], ◌∷◌, ◌++◌, Some, slice_get, refl, ap, sym, subst, ◌∙◌, arith}
use Rattle.std.proofs.Common.{◌≢◌, inl, inr, add-one}
use Rattle.std.proofs.lemmas.Bool.{cases_eq, cases_lt, cond-true, cond-false, lt-ltb, le-ltb, ne_eqb, not_from_false}
use Rattle.std.proofs.lemmas.Option.{none-some, same_Some}
use Rattle.std.specs.Prelude.{nat_lt}
use Rattle.futures.specs.LinkedLists.{without, IsIn, IsApart}
use Rattle.futures.proofs.LinkLemmas.{without_absent, without_head, IsIn-without}
use Rattle.lucid_store.specs.Touches.{Touches, IsOrderOf, last_item, place_to_end, touched_at, up_to}

-- ---- members

pub without_past : (p x : ℕ) (xs : List ℕ) → x ≢ p → without p (x ∷ xs) ≡ x ∷ without p xs
without_past p x xs other = cond-true _ _ _ (not_from_false _ (ne_eqb x p other))

IsIn-kept : (p q : ℕ) (ps : List ℕ) → IsIn q ps → q ≢ p → IsIn q (without p ps)
IsIn-kept p q [] found differs = absurd found
IsIn-kept p q (x ∷ xs) found differs =
    elim (cases_eq x p) [
      | inl same ↦
          subst (IsIn q) (sym (without_head p x xs same))
          (elim found [
            | inl here ↦ absurd (differs (sym here ∙ same))
            | inr there ↦ IsIn-kept p q xs there differs
          ])
      | inr apart ↦
          subst (IsIn q) (sym (without_past p x xs apart))
          (elim found [ inl here ↦ inl here | inr there ↦ inr (IsIn-kept p q xs there differs) ])
    ]

IsApart-kept : (p : ℕ) (ps : List ℕ) → IsApart ps → IsApart (without p ps)
IsApart-kept p [] apart = tt
IsApart-kept p (x ∷ xs) apart =
    elim (cases_eq x p) [
      | inl same ↦ subst IsApart (sym (without_head p x xs same)) (IsApart-kept p xs apart.1)
      | inr differs ↦
          subst IsApart (sym (without_past p x xs differs))
          (λ found. apart.0 (IsIn-without p x xs found).0, IsApart-kept p xs apart.1)
    ]

pub IsIn-push : (p q : ℕ) (ps : List ℕ) → IsIn q (ps ++ p ∷ []) → IsIn q ps ⊎ (p ≡ q)
IsIn-push p q [] found = elim found [ inl here ↦ inr here | inr nowhere ↦ absurd nowhere ]
IsIn-push p q (x ∷ xs) found =
    elim found [
      | inl here ↦ inl (inl here)
      | inr there ↦ elim (IsIn-push p q xs there) [ inl old ↦ inl (inr old) | inr new ↦ inr new ]
    ]

pub IsIn-push_kept : (p q : ℕ) (ps : List ℕ) → IsIn q ps → IsIn q (ps ++ p ∷ [])
IsIn-push_kept p q [] found = absurd found
IsIn-push_kept p q (x ∷ xs) found =
    elim found [ inl here ↦ inl here | inr there ↦ inr (IsIn-push_kept p q xs there) ]

pub IsIn-push_last : (p : ℕ) (ps : List ℕ) → IsIn p (ps ++ p ∷ [])
IsIn-push_last p [] = inl refl
IsIn-push_last p (x ∷ xs) = inr (IsIn-push_last p xs)

IsApart-push : (p : ℕ) (ps : List ℕ) → IsApart ps → ¬ IsIn p ps → IsApart (ps ++ p ∷ [])
IsApart-push p [] apart absent = (λ nowhere. nowhere, tt)
IsApart-push p (x ∷ xs) apart absent = (
  λ found. elim (IsIn-push p x xs found) [ inl old ↦ apart.0 old | inr new ↦ absent (inl (sym new)) ],
  IsApart-push p xs apart.1 (λ there. absent (inr there)),
)

-- the last of places that are apart is none of those before it
pub apart_front : (ps : List ℕ) (p : ℕ) → IsApart (ps ++ p ∷ []) → IsApart ps × (¬ IsIn p ps)
apart_front [] p apart = (tt, λ nowhere. nowhere)
apart_front (x ∷ xs) p apart =
    let rest = apart_front xs p apart.1 in (
      (λ found. apart.0 (IsIn-push_kept p x xs found), rest.0),
      λ found. elim found [ inl here ↦ apart.0 (subst (λ y. IsIn y (xs ++ p ∷ [])) (sym here) (IsIn-push_last p xs)) | inr there ↦ rest.1 there ],
    )

-- the last of places that are apart is taken out
pub without_last_of : (p : ℕ) (ps : List ℕ) → IsApart (ps ++ p ∷ []) → without p (ps ++ p ∷ []) ≡ ps
without_last_of p [] apart = without_head p p [] refl
without_last_of p (x ∷ xs) apart =
    let differs : x ≢ p = λ same. apart.0 (subst (λ y. IsIn y (xs ++ p ∷ [])) (sym same) (IsIn-push_last p xs)) in
    without_past p x (xs ++ p ∷ []) differs ∙ ap (λ l. x ∷ l) (without_last_of p xs apart.1)

-- ---- the last item

pub last_push : {X : Type 0} (xs : List X) (x : X) → last_item (xs ++ x ∷ []) ≡ Some x
last_push [] x = refl
last_push (y ∷ []) x = refl
last_push (y ∷ z ∷ zs) x = last_push (z ∷ zs) x

-- what has a last item ends with it
pub ends_with : (xs : List ℕ) (x : ℕ) → last_item xs ≡ Some x → (front : List ℕ) × (xs ≡ front ++ x ∷ [])
ends_with [] x h = absurd (none-some x h)
ends_with (y ∷ []) x h = ([], ap (λ z. z ∷ []) (same_Some y x h))
ends_with (y ∷ z ∷ zs) x h = let rest = ends_with (z ∷ zs) x h in (y ∷ rest.0, ap (λ l. y ∷ l) rest.1)

-- ---- orders

-- a place comes to the end
pub order_touched_place : (n p : ℕ) (ps : List ℕ) → IsOrderOf n ps → p < n → IsOrderOf n (place_to_end p ps)
order_touched_place n p ps o low = record {
  within = λ q found. elim (IsIn-push p q (without p ps) found) [
    | inl old ↦ o.within q (IsIn-without p q ps old).0
    | inr new ↦ subst (λ x. x < n) new low
  ];
  whole = λ q less. elim (cases_eq q p) [
    | inl same ↦ subst (λ x. IsIn x (without p ps ++ p ∷ [])) (sym same) (IsIn-push_last p (without p ps))
    | inr differs ↦ IsIn-push_kept p q (without p ps) (IsIn-kept p q ps (o.whole q less) differs)
  ];
  apart = IsApart-push p (without p ps) (IsApart-kept p ps o.apart) (λ found. (IsIn-without p p ps found).1 refl);
}

-- the next place is none of them
pub next_absent : (n : ℕ) (ps : List ℕ) → IsOrderOf n ps → ¬ IsIn n ps
next_absent n ps o found = let less = o.within n found in omega (arith, less)

pub next_to_end : (n : ℕ) (ps : List ℕ) → IsOrderOf n ps → place_to_end n ps ≡ ps ++ n ∷ []
next_to_end n ps o = ap (λ l. l ++ n ∷ []) (without_absent n ps (next_absent n ps o))

-- a place more
pub order_more : (n : ℕ) (ps : List ℕ) → IsOrderOf n ps → IsOrderOf (n + 1) (ps ++ n ∷ [])
order_more n ps o = record {
  within = λ q found. elim (IsIn-push n q ps found) [
    | inl old ↦ (let less = o.within q old in omega (arith, less))
    | inr new ↦ omega (arith, new)
  ];
  whole = λ q less. elim (cases_eq q n) [
    | inl same ↦ subst (λ x. IsIn x (ps ++ n ∷ [])) (sym same) (IsIn-push_last n ps)
    | inr differs ↦ IsIn-push_kept n q ps (o.whole q (omega (arith, less, differs)))
  ];
  apart = IsApart-push n ps o.apart (next_absent n ps o);
}

pub order_none : IsOrderOf 0 []
order_none = record {
  within = λ q found. absurd found;
  whole = λ q less. absurd (omega (arith, less));
  apart = tt;
}

-- the first place goes, and the last one takes its number
pub order_gone : (m p : ℕ) (others : List ℕ) → IsOrderOf (m + 1) (p ∷ others ++ m ∷ []) → IsOrderOf m (others ++ p ∷ [])
order_gone m p others o =
    let front = apart_front others m o.apart.1 in
    let first : p ≢ m = λ same. o.apart.0 (subst (λ x. IsIn x (others ++ m ∷ [])) (sym same) (IsIn-push_last m others)) in
    record {
      within = λ q found. elim (IsIn-push p q others found) [
        | inl old ↦
            let less = o.within q (inr (IsIn-push_kept m q others old)) in
            let other : q ≢ m = λ same. front.1 (subst (λ x. IsIn x others) same old) in
            omega (arith, less, other)
        | inr new ↦ (let less = o.within p (inl refl) in omega (arith, less, first, new))
      ];
      whole = λ q less. elim (o.whole q (omega (arith, less))) [
        | inl here ↦ subst (λ x. IsIn x (others ++ p ∷ [])) here (IsIn-push_last p others)
        | inr there ↦ elim (IsIn-push m q others there) [
          | inl old ↦ IsIn-push_kept p q others old
          | inr new ↦ absurd (omega (arith, less, new))
        ]
      ];
      apart = IsApart-push p others front.0 (λ found. o.apart.0 (IsIn-push_kept m p others found));
    }

-- where the only place goes, none is left
pub order_alone : (m p : ℕ) → IsOrderOf (m + 1) (p ∷ []) → m ≡ 0
order_alone m p o = elim (cases_lt 0 m) [
  | inl more ↦
      let low : p ≡ 0 = elim (o.whole 0 (omega arith)) [ inl here ↦ here | inr nowhere ↦ absurd nowhere ] in
      let high : p ≡ m = elim (o.whole m (omega arith)) [ inl here ↦ here | inr nowhere ↦ absurd nowhere ] in
      absurd (omega (arith, more, low, high))
  | inr none ↦ omega (arith, none)
]

-- what stands first and last
pub split_ends : (ps : List ℕ) (p q : ℕ) → slice_get ps 0 ≡ Some p → last_item ps ≡ Some q → ((ps ≡ p ∷ []) × (p ≡ q)) ⊎ ((others : List ℕ) × (ps ≡ p ∷ others ++ q ∷ []))
split_ends [] p q first last = absurd (none-some p first)
split_ends (x ∷ []) p q first last =
    let here = same_Some x p first in
    inl (ap (λ y. y ∷ []) here, sym here ∙ same_Some x q last)
split_ends (x ∷ y ∷ ys) p q first last =
    let here = same_Some x p first in
    let rest = ends_with (y ∷ ys) q last in
    inr (rest.0, (λ i. here i ∷ rest.1 i))

-- where there are none, none is listed
pub order_empty : (n : ℕ) (ps : List ℕ) → IsOrderOf n ps → n ≤ 0 → ps ≡ []
order_empty n [] o none = refl
order_empty n (p ∷ ps) o none = (let low = o.within p (inl refl) in absurd (omega (arith, low, none)))

-- ---- touches

pub touched_old : (p : ℕ) (t : Touches) → p < t.count → touched_at p t ≡ record t { places = place_to_end p t.places }
touched_old p t low = ap (λ n. let r : Touches = record { places = place_to_end p t.places; count = n; room = t.room } in r)
    (cond-true (nat_lt p t.count) t.count (t.count + 1) (lt-ltb p t.count low))

pub touched_new : (t : Touches) → touched_at t.count t ≡ record t { places = place_to_end t.count t.places; count = t.count + 1 }
touched_new t = ap (λ n. let r : Touches = record { places = place_to_end t.count t.places; count = n; room = t.room } in r)
    (cond-false (nat_lt t.count t.count) t.count (t.count + 1) (le-ltb t.count t.count (omega arith)))

-- the latest place is touched again
pub touched_latest : (p : ℕ) (t : Touches) → IsOrderOf t.count t.places → last_item t.places ≡ Some p → p < t.count → t ≡ touched_at p t
touched_latest p t o last low =
    let front = ends_with t.places p last in
    let stays : place_to_end p t.places ≡ t.places =
    ap (place_to_end p) front.1 ∙ ap (λ l. l ++ p ∷ []) (without_last_of p front.0 (subst IsApart front.1 o.apart)) ∙ sym front.1 in
    sym (touched_old p t low ∙ ap (λ ps. let r : Touches = record { places = ps; count = t.count; room = t.room } in r) stays)

-- the next place is touched, where all before it stand in their order
pub touched_next : (t u : Touches) (n : ℕ) → t.count ≡ n → t.places ≡ up_to n → IsOrderOf t.count t.places → u ≡ touched_at n t
    → (u.places ≡ up_to (n + 1)) × (u.count ≡ n + 1)
touched_next t u n count places o is =
    let all = is ∙ ap (λ m. touched_at m t) (sym count) ∙ touched_new t in (
      ap (λ (v : Touches). v.places) all ∙ next_to_end t.count t.places o ∙ (λ i. places i ++ count i ∷ []) ∙ sym (ap up_to (add-one n)),
      ap (λ (v : Touches). v.count) all ∙ ap (λ m. m + 1) count,
    )
