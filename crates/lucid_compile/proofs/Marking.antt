-- Keys and their marks, one after another.
use Rattle.lucid_compile.proofs.Common.{◌≡◌, ℕ, zero, suc, ◌+◌, ◌<◌, Bool, true, false, cond, length, List, [], ◌∷◌, ◌++◌, map, get_or, Option, Some, nat_eq, inl, inr, refl, sym, ap, ◌∙◌, subst, arith, nat_tests, get_or_default, map-append, In, AllDiffer, in_left, in_right, Key, Mark, key_at, mark_by, AreMarked}
use Rattle.lucid_lists.proofs.Numbers.{below_or_last as at-last}

-- an item of a list stands in it
pub stands : (ks : List Key) (i : ℕ) (d : Key) → i < length ks → In (get_or ks i d).at (map key_at ks)
stands [] i d h = absurd (omega (arith, h))
stands (k ∷ ks) zero d h = inl refl
stands (k ∷ ks) (suc i) d h = inr (stands ks i d (omega (arith, h)))

apart : (ks : List Key) → AllDiffer (map key_at ks) → (i j : ℕ) (c d : Key) → i < j → j < length ks → (get_or ks i c).at ≡ (get_or ks j d).at → ⊥
apart [] h i j c d l b e = absurd (omega (arith, b))
apart (k ∷ ks) h i zero c d l b e = absurd (omega (arith, l))
apart (k ∷ ks) h zero (suc j) c d l b e = h.0 (subst (λ x. In x (map key_at ks)) (sym e) (stands ks j d (omega (arith, b))))
apart (k ∷ ks) h (suc i) (suc j) c d l b e = apart ks h.1 i j c d (omega (arith, l)) (omega (arith, b)) e

other-key : (at x : ℕ) (a b : Option Mark) → (at ≡ x → ⊥) → (t : Bool) → nat_eq at x ≡ t → cond t a b ≡ b
other-key at x a b ne true is = absurd (ne (grind (arith, nat_tests, is)))
other-key at x a b ne false is = refl

same-key : (at x : ℕ) (a b : Option Mark) → at ≡ x → (t : Bool) → nat_eq at x ≡ t → cond t a b ≡ a
same-key at x a b e true is = refl
same-key at x a b e false is = absurd (grind (arith, nat_tests, is, e))

pub record Marked (f before : ℕ → Option Mark) (start : ℕ) (ks : List Key) (i : ℕ) : Type 0 where
  pub marked : (k : ℕ) (d : Key) → k < i → f (get_or ks k d).at ≡ Some (mark_by (start + k) (get_or ks k d))
  pub others : (at : ℕ) → ((k : ℕ) (d : Key) → k < i → (get_or ks k d).at ≡ at → ⊥) → f at ≡ before at

-- one key more
pub mark-more : (before old new : ℕ → Option Mark) (start : ℕ) (ks : List Key) (i : ℕ) (x : Key) (m : Mark) → AllDiffer (map key_at ks) → i < length ks
    → x ≡ get_or ks i x → m ≡ mark_by (start + i) x
    → ((q : ℕ) → new q ≡ cond (nat_eq x.at q) (Some m) (old q)) → Marked old before start ks i → Marked new before start ks (i + 1)
mark-more before old new start ks i x m differ lt is mark updates b = record {
  marked = λ k d h. elim (at-last k i h) [
    | inl l ↦
        updates (get_or ks k d).at
        ∙ other-key x.at (get_or ks k d).at (Some m) (old (get_or ks k d).at) (λ e. apart ks differ k i d x l lt (sym e ∙ ap key_at is))
        (nat_eq x.at (get_or ks k d).at) refl
        ∙ b.marked k d l
    | inr e ↦
        let here : get_or ks k d ≡ x = ap (λ j. get_or ks j d) e ∙ get_or_default ks i d x lt ∙ sym is in
        updates (get_or ks k d).at
        ∙ same-key x.at (get_or ks k d).at (Some m) (old (get_or ks k d).at) (sym (ap key_at here)) (nat_eq x.at (get_or ks k d).at) refl
        ∙ ap Some mark ∙ (λ j. Some (mark_by (start + sym e j) (sym here j)))
  ];
  others = λ at no.
      updates at
      ∙ other-key x.at at (Some m) (old at) (λ e. no i x (omega arith) (ap key_at (sym is) ∙ e)) (nat_eq x.at at) refl
      ∙ b.others at (λ k d h. no k d (omega (arith, h)));
}

-- a place at which no key stands
pub none-there : (ks : List Key) (at : ℕ) → (In at (map key_at ks) → ⊥) → (k : ℕ) (d : Key) → k < length ks → (get_or ks k d).at ≡ at → ⊥
none-there ks at out k d h e = out (subst (λ x. In x (map key_at ks)) e (stands ks k d h))

differ-left : (xs ys : List ℕ) → AllDiffer (xs ++ ys) → AllDiffer xs
differ-left [] ys h = tt
differ-left (x ∷ xs) ys h = ((λ i. h.0 (in_left x xs ys i)), differ-left xs ys h.1)

differ-right : (xs ys : List ℕ) → AllDiffer (xs ++ ys) → AllDiffer ys
differ-right [] ys h = h
differ-right (x ∷ xs) ys h = differ-right xs ys h.1

differ-apart : (xs ys : List ℕ) → AllDiffer (xs ++ ys) → (x : ℕ) → In x xs → In x ys → ⊥
differ-apart [] ys h x i j = i
differ-apart (y ∷ xs) ys h x (inl e) j = h.0 (in_right y xs ys (subst (λ z. In z ys) e j))
differ-apart (y ∷ xs) ys h x (inr i) j = differ-apart xs ys h.1 x i j

pub front-differs : (a b : List Key) → AllDiffer (map key_at (a ++ b)) → AllDiffer (map key_at a)
front-differs a b h = differ-left (map key_at a) (map key_at b) (subst AllDiffer (map-append key_at a b) h)

pub rest-differs : (a b : List Key) → AllDiffer (map key_at (a ++ b)) → AllDiffer (map key_at b)
rest-differs a b h = differ-right (map key_at a) (map key_at b) (subst AllDiffer (map-append key_at a b) h)

-- marks stay where others are added
pub marks-stay : (f g : ℕ → Option Mark) (start : ℕ) (a b : List Key) → AllDiffer (map key_at (a ++ b)) → AreMarked f start a
    → ((at : ℕ) → (In at (map key_at b) → ⊥) → g at ≡ f at) → AreMarked g start a
marks-stay f g start a b h m others = λ i d l.
    others (get_or a i d).at (λ j. differ-apart (map key_at a) (map key_at b) (subst AllDiffer (map-append key_at a b) h) (get_or a i d).at (stands a i d l) j)
    ∙ m i d l
