-- An order of places over the lists of the kit.
use Rattle.lucid_store.proofs.Common.{◌≡◌, ℕ, ◌+◌, ◌-◌, ◌<◌, ◌≤◌, ◌⊎◌, List, [], ◌∷◌, ◌++◌, length, drop, Option, Some, None, IfSome, length-append, refl, ap, sym, subst, ◌∙◌, arith}
use Rattle.std.proofs.Common.{◌≢◌, inl, inr}
use Rattle.std.proofs.lemmas.List.{append_cancel_right}
use Rattle.std.specs.Prelude.{nat_lt}
use Rattle.std.proofs.lemmas.Bool.{cases_eq, cases_lt, cond-true, cond-false, lt-ltb, le-ltb}
use Rattle.futures.specs.LinkedLists.{LinkedLists, items, list_of, key_limit, without, IsIn, IsApart, Moves}
use Rattle.futures.proofs.LinkLemmas.{without_absent, without_head}
use Rattle.futures.proofs.LinkedListsLemmas.{owned_within}
use Rattle.lucid_store.specs.Touches.{Touches, IsOrderOf, IsSoundOrder, IsFirstGone, last_item, place_to_end}
use Rattle.lucid_store.specs.Ordered.{IsFirstPlace}
use Rattle.lucid_store.proofs.PlaceLemmas.{without_last_of, IsIn-push_last, last_push, split_ends, order_touched_place, order_more, order_none, order_gone, order_alone}

-- what is listed is listed in the one list
pub listed_in : (lists : LinkedLists) (count latest place : ℕ) → IsSoundOrder lists count latest → place < count → list_of lists place ≡ Some 0
listed_in lists count latest place s low = s.owned place ∙ cond-true (nat_lt place count) (Some 0) None (lt-ltb place count low)

pub not_listed : (lists : LinkedLists) (count latest place : ℕ) → IsSoundOrder lists count latest → count ≤ place → list_of lists place ≡ None
not_listed lists count latest place s high = s.owned place ∙ cond-false (nat_lt place count) (Some 0) None (le-ltb place count high)

pub has_room_for : (lists : LinkedLists) (count latest place : ℕ) → IsSoundOrder lists count latest → place < count → place < key_limit lists
has_room_for lists count latest place s low = owned_within lists.owners place 0 (listed_in lists count latest place s low)

-- ---- lists of places

pub without_first_of : (p : ℕ) (ps : List ℕ) → IsApart (p ∷ ps) → without p (p ∷ ps) ≡ ps
without_first_of p ps apart = without_head p p ps refl ∙ without_absent p ps apart.0

-- ---- a place comes to the end

module _ (lists mid new : LinkedLists) (count latest place : ℕ) (s : IsSoundOrder lists count latest) (low : place < count)
    (left : items mid 0 ≡ without place (items lists 0)) (leaves : Moves lists mid place None)
    (joined : items new 0 ≡ items mid 0 ++ place ∷ []) (joins : Moves mid new place (Some 0)) where
  pub brought_places : items new 0 ≡ place_to_end place (items lists 0)
  brought_places = joined ∙ ap (λ l. l ++ place ∷ []) left

  pub brought_sound : IsSoundOrder new count place
  brought_sound = record {
    one = joins.count ∙ leaves.count ∙ s.one;
    owned = λ q. elim (cases_eq q place) [
      | inl same ↦ ap (list_of new) same ∙ joins.moved ∙ sym (cond-true (nat_lt q count) (Some 0) None (lt-ltb q count (subst (λ x. x < count) (sym same) low)))
      | inr differs ↦ joins.others q differs ∙ leaves.others q differs ∙ s.owned q
    ];
    order = subst (IsOrderOf count) (sym brought_places) (order_touched_place count place (items lists 0) s.order low);
    last_is = λ some. ap last_item joined ∙ last_push (items mid 0) place;
  }

-- ---- a place more

pub added_sound : (lists new : LinkedLists) (count latest : ℕ) → IsSoundOrder lists count latest → items new 0 ≡ items lists 0 ++ count ∷ []
    → Moves lists new count (Some 0) → IsSoundOrder new (count + 1) count
added_sound lists new count latest s joined joins = record {
  one = joins.count ∙ s.one;
  owned = λ q. elim (cases_eq q count) [
    | inl same ↦ ap (list_of new) same ∙ joins.moved ∙ sym (cond-true (nat_lt q (count + 1)) (Some 0) None (lt-ltb q (count + 1) (omega (arith, same))))
    | inr differs ↦ joins.others q differs ∙ s.owned q ∙ elim (cases_lt q count) [
      | inl low ↦ cond-true (nat_lt q count) (Some 0) None (lt-ltb q count low)
          ∙ sym (cond-true (nat_lt q (count + 1)) (Some 0) None (lt-ltb q (count + 1) (omega (arith, low))))
      | inr high ↦ cond-false (nat_lt q count) (Some 0) None (le-ltb q count high)
          ∙ sym (cond-false (nat_lt q (count + 1)) (Some 0) None (le-ltb q (count + 1) (omega (arith, high, differs))))
    ]
  ];
  order = subst (IsOrderOf (count + 1)) (sym joined) (order_more count (items lists 0) s.order);
  last_is = λ some. ap last_item joined ∙ last_push (items lists 0) count;
}

-- ---- the first place goes

-- where it is the only one
pub alone_gone : (lists new : LinkedLists) (m latest p : ℕ) → IsSoundOrder lists (m + 1) latest → items lists 0 ≡ p ∷ []
    → items new 0 ≡ without p (items lists 0) → Moves lists new p None → (items new 0 ≡ []) × IsSoundOrder new m latest
alone_gone lists new m latest p s one left leaves =
    let none : m ≡ 0 = order_alone m p (subst (IsOrderOf (m + 1)) one s.order) in
    let zero : p ≡ 0 = (let low = (subst (IsOrderOf (m + 1)) one s.order).within p (inl refl) in omega (arith, low, none)) in
    let empty : items new 0 ≡ [] = left ∙ ap (without p) one ∙ without_head p p [] refl in (
      empty,
      record {
        one = leaves.count ∙ s.one;
        owned = λ q. elim (cases_eq q p) [
          | inl same ↦ ap (list_of new) same ∙ leaves.moved ∙ sym (cond-false (nat_lt q m) (Some 0) None (le-ltb q m (omega (arith, none))))
          | inr differs ↦ leaves.others q differs ∙ not_listed lists (m + 1) latest q s (omega (arith, none, differs, zero))
              ∙ sym (cond-false (nat_lt q m) (Some 0) None (le-ltb q m (omega (arith, none))))
        ];
        order = subst (λ n. IsOrderOf n (items new 0)) (sym none) (subst (IsOrderOf 0) (sym empty) order_none);
        last_is = λ some. absurd (omega (arith, some, none));
      },
    )

-- where there are others, the last of which takes its number
module _ (lists mid cut new : LinkedLists) (m latest p : ℕ) (others : List ℕ) (s : IsSoundOrder lists (m + 1) latest)
    (are : items lists 0 ≡ p ∷ others ++ m ∷ [])
    (left : items mid 0 ≡ without p (items lists 0)) (leaves : Moves lists mid p None)
    (last_left : items cut 0 ≡ without m (items mid 0)) (last_leaves : Moves mid cut m None)
    (joined : items new 0 ≡ items cut 0 ++ p ∷ []) (joins : Moves cut new p (Some 0)) where
  ordered : IsOrderOf (m + 1) (p ∷ others ++ m ∷ [])
  ordered = subst (IsOrderOf (m + 1)) are s.order

  pub gone_places : items new 0 ≡ others ++ p ∷ []
  gone_places = joined ∙ ap (λ l. l ++ p ∷ [])
      (last_left ∙ ap (without m) (left ∙ ap (without p) are ∙ without_first_of p (others ++ m ∷ []) ordered.apart) ∙ without_last_of m others ordered.apart.1)

  pub gone_sound : IsSoundOrder new m p
  gone_sound =
      let first : p ≢ m = λ same. ordered.apart.0 (subst (λ x. IsIn x (others ++ m ∷ [])) (sym same) (IsIn-push_last m others)) in
      let before : p < m = (let low = ordered.within p (inl refl) in omega (arith, low, first)) in
      record {
        one = joins.count ∙ last_leaves.count ∙ leaves.count ∙ s.one;
        owned = λ q. elim (cases_eq q p) [
          | inl same ↦ ap (list_of new) same ∙ joins.moved ∙ sym (cond-true (nat_lt q m) (Some 0) None (lt-ltb q m (subst (λ x. x < m) (sym same) before)))
          | inr differs ↦ joins.others q differs ∙ elim (cases_eq q m) [
            | inl last ↦ ap (list_of cut) last ∙ last_leaves.moved ∙ sym (cond-false (nat_lt q m) (Some 0) None (le-ltb q m (omega (arith, last))))
            | inr other ↦ last_leaves.others q other ∙ leaves.others q differs ∙ elim (cases_lt q m) [
              | inl low ↦ listed_in lists (m + 1) latest q s (omega (arith, low)) ∙ sym (cond-true (nat_lt q m) (Some 0) None (lt-ltb q m low))
              | inr high ↦ not_listed lists (m + 1) latest q s (omega (arith, high, other)) ∙ sym (cond-false (nat_lt q m) (Some 0) None (le-ltb q m high))
            ]
          ]
        ];
        order = subst (IsOrderOf m) (sym gone_places) (order_gone m p others ordered);
        last_is = λ some. ap last_item joined ∙ last_push (items cut 0) p;
      }

-- ---- what a contract says of it

length_of_more : (p x : ℕ) (others : List ℕ) → length (p ∷ others ++ x ∷ []) ≡ length others + 2
length_of_more p x others = (let more = length-append others (x ∷ []) in omega (arith, more))

-- the first place is the only one, or stands before the last
pub ends_of : (place : ℕ) (t : Touches) → IsOrderOf t.count t.places → IsFirstPlace place t
    → ((t.places ≡ place ∷ []) × (place ≡ t.count - 1)) ⊎ ((others : List ℕ) × (t.places ≡ place ∷ others ++ (t.count - 1) ∷ []) × (place ≢ t.count - 1))
ends_of place t o first = elim (split_ends t.places place (t.count - 1) first.first first.last) [
  | inl one ↦ inl one
  | inr more ↦ inr (
    more.0,
    more.1,
    λ same.
        (subst (IsOrderOf t.count) more.1 o).apart.0 (subst (λ x. IsIn x (more.0 ++ (t.count - 1) ∷ [])) (sym same) (IsIn-push_last (t.count - 1) more.0)),
  )
]

pub gone_from_one : (t u : Touches) (place : ℕ) → u.count + 1 ≡ t.count → t.places ≡ place ∷ [] → u.places ≡ [] → IsFirstGone place t u
gone_from_one t u place count one none = record {
  count = count;
  places = λ others more.
      let short : length (place ∷ []) ≡ length (place ∷ others ++ u.count ∷ []) = ap length (sym one ∙ more) in
      let long = length_of_more place u.count others in
      absurd (omega (arith, short, long));
  alone = λ only. none;
}

pub gone_from_more : (t u : Touches) (place : ℕ) (others : List ℕ) → u.count + 1 ≡ t.count → t.places ≡ place ∷ others ++ u.count ∷ []
    → u.places ≡ others ++ place ∷ [] → IsFirstGone place t u
gone_from_more t u place others count are left = record {
  count = count;
  places = λ more also.
      let same : others ++ u.count ∷ [] ≡ more ++ u.count ∷ [] = ap (drop 1) (sym are ∙ also) in
      left ∙ ap (λ l. l ++ place ∷ []) (append_cancel_right others more (u.count ∷ []) same);
  alone = λ only.
      let short : length (place ∷ []) ≡ length (place ∷ others ++ u.count ∷ []) = ap length (sym only ∙ are) in
      let long = length_of_more place u.count others in
      absurd (omega (arith, short, long));
}

-- the lists as their order
abbrev pub order_in : LinkedLists → ℕ → Touches
order_in lists count = record { places = items lists 0; count = count; room = key_limit lists }

pub first_within : (place : ℕ) (t : Touches) → IsOrderOf t.count t.places → IsFirstPlace place t → place < t.count
first_within place t o first = elim (ends_of place t o first) [
  | inl one ↦ o.within place (subst (IsIn place) (sym one.0) (inl refl))
  | inr more ↦ o.within place (subst (IsIn place) (sym more.1) (inl refl))
]

-- what a place that is unlinked leaves
pub left_list : (lists new : LinkedLists) (place : ℕ) (from : Option ℕ) → list_of lists place ≡ Some 0 → from ≡ list_of lists place
    → IfSome from (λ list. items new list ≡ without place (items lists list)) → items new 0 ≡ without place (items lists 0)
left_list lists new place from listed is left = subst (λ o. IfSome o (λ list. items new list ≡ without place (items lists list))) (is ∙ listed) left

module _ (lists mid : LinkedLists) (count latest place : ℕ) (s : IsSoundOrder lists count latest) (first : IsFirstPlace place (order_in lists count))
    (left : items mid 0 ≡ without place (items lists 0)) (leaves : Moves lists mid place None) where
  more : count - 1 + 1 ≡ count
  more = (let some = first.some in omega (arith, some))

  sound : IsSoundOrder lists (count - 1 + 1) latest
  sound = subst (λ n. IsSoundOrder lists n latest) (sym more) s

  ends : ((items lists 0 ≡ place ∷ []) × (place ≡ count - 1))
      ⊎ ((others : List ℕ) × (items lists 0 ≡ place ∷ others ++ (count - 1) ∷ []) × (place ≢ count - 1))
  ends = ends_of place (order_in lists count) s.order first

  -- where it is the last place too
  module _ (only : place ≡ count - 1) where
    one : items lists 0 ≡ place ∷ []
    one = elim ends [ inl h ↦ h.0 | inr h ↦ absurd (h.2 only) ]

    pub only_sound : IsSoundOrder mid (count - 1) latest
    only_sound = (alone_gone lists mid (count - 1) latest place sound one left leaves).1

    pub only_gone : IsFirstGone place (order_in lists count) (order_in mid (count - 1))
    only_gone = gone_from_one (order_in lists count) (order_in mid (count - 1)) place more one
        (alone_gone lists mid (count - 1) latest place sound one left leaves).0

  -- where it isn't, the last place
  module _ (other : place ≢ count - 1) where
    rest : (others : List ℕ) × (items lists 0 ≡ place ∷ others ++ (count - 1) ∷ [])
    rest = elim ends [ inl h ↦ absurd (other h.1) | inr h ↦ (h.0, h.1) ]

    pub last_listed : list_of mid (count - 1) ≡ Some 0
    last_listed = leaves.others (count - 1) (λ same. other (sym same))
        ∙ listed_in lists count latest (count - 1) s (let some = first.some in omega (arith, some))

    module _ (cut new : LinkedLists) (last_left : items cut 0 ≡ without (count - 1) (items mid 0)) (last_leaves : Moves mid cut (count - 1) None) where
      pub first_has_room : place < key_limit cut
      first_has_room = (let low = has_room_for lists count latest place s (first_within place (order_in lists count) s.order first) in
          let cut_limit = last_leaves.limit in let mid_limit = leaves.limit in omega (arith, low, cut_limit, mid_limit))

      module _ (joined : items new 0 ≡ items cut 0 ++ place ∷ []) (joins : Moves cut new place (Some 0)) where
        pub others_sound : IsSoundOrder new (count - 1) place
        others_sound = gone_sound lists mid cut new (count - 1) latest place rest.0 sound rest.1 left leaves last_left last_leaves joined joins

        pub others_gone : IsFirstGone place (order_in lists count) (order_in new (count - 1))
        others_gone = gone_from_more (order_in lists count) (order_in new (count - 1)) place rest.0 more rest.1
            (gone_places lists mid cut new (count - 1) latest place rest.0 sound rest.1 left leaves last_left last_leaves joined joins)
