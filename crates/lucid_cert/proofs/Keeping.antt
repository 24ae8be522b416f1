-- Keys and their judgments.
use Rattle.lucid_cert.proofs.Common.{◌≡◌, ℕ, zero, suc, Bool, true, false, ◌||◌, List, [], ◌∷◌, ◌++◌, map, length, Some, refl, sym, ap, ◌∙◌, ◌⊎◌, inl, inr, subst, slice_get, list_any, map-append, slice_get-append_left, same_key, Key, PlainJudgment, Each, Spot, spot_of, spot_by, AreKeysOf, IsJudgmentAt}
use Rattle.lucid_tags.specs.EqualityDecides.{tag_from_parts, same_key_is_equality}
use Rattle.lucid_tags.proofs.ListLemmas.{fails-list_any, slice_get-push}
use Rattle.lucid_cert.specs.Makers.{AreSpotsApart}

-- each item of a list with one more
pub each_more : {X : Type 0} (P : X → Type 0) (xs : List X) (x : X) → Each P xs → P x → Each P (xs ++ x ∷ [])
each_more P xs x h k i y e = elim (slice_get-push xs x y i e) [ inl p ↦ h i y p | inr p ↦ subst P p.1 k ]

pub each_fewer : {X : Type 0} (P : X → Type 0) (xs ys : List X) → Each P (xs ++ ys) → Each P xs
each_fewer P xs ys h i y e = h i y (slice_get-append_left xs ys i y e)

-- an item of a list that is mapped
pub of_mapped : {A B : Type 0} (f : A → B) (xs : List A) (i : ℕ) (y : B) → slice_get (map f xs) i ≡ Some y → (x : A) × (slice_get xs i ≡ Some x) × (f x ≡ y)
of_mapped f [] i y e = absurd (cc)
of_mapped f (x ∷ xs) zero y e = (x, refl, cc)
of_mapped f (x ∷ xs) (suc i) y e = of_mapped f xs i y e

pub mapped : {A B : Type 0} (f : A → B) (xs : List A) (i : ℕ) (x : A) → slice_get xs i ≡ Some x → slice_get (map f xs) i ≡ Some (f x)
mapped f [] i x e = absurd (cc)
mapped f (y ∷ xs) zero x e = let s : y ≡ x = cc in ap (λ z. Some (f z)) s
mapped f (y ∷ xs) (suc i) x e = mapped f xs i x e

-- keys of one spot are the same
pub one_spot : (a b : Key) → spot_by a ≡ spot_by b → same_key a b ≡ true
one_spot a b e =
    let tag : a.tag ≡ b.tag = tag_from_parts a.tag b.tag (ap (λ (x : Spot). x.context) e) (ap (λ (x : Spot). x.space) e) in
    let node : a.name ≡ b.name = ap (λ (x : Spot). x.node) e in
    let time : a.time ≡ b.time = ap (λ (x : Spot). x.time) e in
    (same_key_is_equality a b).1 (λ i. record { name = node i; tag = tag i; time = time i })

pub same_spot : (a b : Key) → same_key a b ≡ true → spot_by a ≡ spot_by b
same_spot a b e = ap spot_by ((same_key_is_equality a b).0 e)

-- an item that passes
pub record Passes {X : Type 0} (test : X → Bool) (xs : List X) : Type 0 where
  pub number : ℕ
  pub item : X
  pub there : slice_get xs number ≡ Some item
  pub holds : test item ≡ true

passes_at : {X : Type 0} (test : X → Bool) (x : X) (xs : List X) (b : Bool) → test x ≡ b → (list_any test xs ≡ true → Passes test xs)
    → list_any test (x ∷ xs) ≡ true → Passes test (x ∷ xs)
passes_at test x xs true h further e = record { number = 0; item = x; there = refl; holds = h }
passes_at test x xs false h further e =
    let p = further (sym (ap (λ (b : Bool). b || list_any test xs) h) ∙ e) in record { number = suc p.number; item = p.item; there = p.there; holds = p.holds }

pub passes : {X : Type 0} (test : X → Bool) (xs : List X) → list_any test xs ≡ true → Passes test xs
passes test [] e = absurd (cc)
passes test (x ∷ xs) e = passes_at test x xs (test x) refl (passes test xs) e

module _ (keys : List Key) (js : List PlainJudgment) (of : AreKeysOf keys js) where
  -- the judgment of a key's number is of its spot, and the key of a judgment's
  pub judgment_of_key : (i : ℕ) (k : Key) → slice_get keys i ≡ Some k → IsJudgmentAt js (spot_by k) i
  judgment_of_key i k e =
      let p = of_mapped spot_of js i (spot_by k) (ap (λ (xs : List Spot). slice_get xs i) (sym of) ∙ mapped spot_by keys i k e) in
      record { judgment = p.0; there = p.1; its_spot = p.2 }

  pub key_of_judgment : (i : ℕ) (j : PlainJudgment) → slice_get js i ≡ Some j → (k : Key) × (slice_get keys i ≡ Some k) × (spot_by k ≡ spot_of j)
  key_of_judgment i j e = of_mapped spot_by keys i (spot_of j) (ap (λ (xs : List Spot). slice_get xs i) of ∙ mapped spot_of js i j e)

  -- a key that is there
  pub is_there : (key : Key) → list_any (same_key key) keys ≡ true → (i : ℕ) × IsJudgmentAt js (spot_by key) i
  is_there key h =
      let p = passes (same_key key) keys h in
      (p.number, subst (λ (s : Spot). IsJudgmentAt js s p.number) (sym (same_spot key p.item p.holds)) (judgment_of_key p.number p.item p.there))

  -- or isn't, so that no judgment is of its spot
  pub not_there : (key : Key) → list_any (same_key key) keys ≡ false → (i : ℕ) → IsJudgmentAt js (spot_by key) i → ⊥
  not_there key h i j =
      let k = key_of_judgment i j.judgment j.there in
      let same = one_spot key k.0 (sym (k.2 ∙ j.its_spot)) in
      let other = fails-list_any (same_key key) keys h i k.0 k.1 in absurd (cc)

  module _ (key : Key) (j : PlainJudgment) (spot : spot_of j ≡ spot_by key) where
    pub keys_more : AreKeysOf (keys ++ key ∷ []) (js ++ j ∷ [])
    keys_more =
        map-append spot_by keys (key ∷ [])
        ∙ (ap (λ (xs : List Spot). xs ++ spot_by key ∷ []) of ∙ (ap (λ (s : Spot). map spot_of js ++ s ∷ []) (sym spot) ∙ sym (map-append spot_of js (j ∷ []))))

    -- one more judgment, of another spot than the others
    pub apart_more : list_any (same_key key) keys ≡ false → AreSpotsApart js → AreSpotsApart (js ++ j ∷ [])
    apart_more absent apart i k x y e f same = by_ends (slice_get-push js j x i e) (slice_get-push js j y k f)
      where
        never : (n : ℕ) (z : PlainJudgment) → slice_get js n ≡ Some z → spot_of z ≡ spot_of j → ⊥
        never n z at is = not_there key absent n (record { judgment = z; there = at; its_spot = is ∙ spot })

        by_ends : (slice_get js i ≡ Some x) ⊎ ((i ≡ length js) × (j ≡ x)) → (slice_get js k ≡ Some y) ⊎ ((k ≡ length js) × (j ≡ y)) → i ≡ k
        by_ends (inl p) (inl q) = apart i k x y p q same
        by_ends (inl p) (inr q) = absurd (never i x p (same ∙ ap spot_of (sym q.1)))
        by_ends (inr p) (inl q) = absurd (never k y q (sym same ∙ ap spot_of (sym p.1)))
        by_ends (inr p) (inr q) = p.0 ∙ sym q.0
