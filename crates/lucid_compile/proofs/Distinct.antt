-- Counts of different items, under a function that is one for one on the list.
use Rattle.lucid_compile.proofs.Common.{◌≡◌, ℕ, ◌≤◌, length, List, [], ◌∷◌, map, refl, sym, ap, ◌∙◌, subst, inl, inr, arith, length-map, In, AllDiffer, in_map, HasDistinct, Inside, fewer}

module _ {A B : Type 0} (f : A → B) where
  pub from_map : (y : B) (xs : List A) → In y (map f xs) → (x : A) × In x xs × (y ≡ f x)
  from_map y [] h = absurd h
  from_map y (x ∷ xs) (inl e) = (x, inl refl, e)
  from_map y (x ∷ xs) (inr h) = let r : (x : A) × In x xs × (y ≡ f x) = from_map y xs h in (r.0, inr r.1, r.2)

  -- f is one for one on the list
  abbrev pub OneOn : List A → Type 0
  OneOn xs = (x y : A) → In x xs → In y xs → f x ≡ f y → x ≡ y

  map_once : (xs : List A) → OneOn xs → (us : List A) → Inside us xs → AllDiffer us → AllDiffer (map f us)
  map_once xs one [] h r = tt
  map_once xs one (u ∷ us) h r = (
    (λ i. let q : (x : A) × In x us × (f u ≡ f x) = from_map (f u) us i in
        r.0 (subst (λ z. In z us) (sym (one u q.0 (h u (inl refl)) (h q.0 (inr q.1)) q.2)) q.1)),
    map_once xs one us (λ x i. h x (inr i)) r.1,
  )

  once_before : (us : List A) → AllDiffer (map f us) → AllDiffer us
  once_before [] r = tt
  once_before (u ∷ us) r = ((λ i. r.0 (in_map f u us i)), once_before us r.1)

  -- what stands in the image, item by item
  picked : (xs : List A) (us : List B) → Inside us (map f xs) → (vs : List A) × (us ≡ map f vs) × Inside vs xs
  picked xs [] h = ([], refl, (λ x i. absurd i))
  picked xs (u ∷ us) h =
      let q : (x : A) × In x xs × (u ≡ f x) = from_map u xs (h u (inl refl)) in
      let more : (vs : List A) × (us ≡ map f vs) × Inside vs xs = picked xs us (λ x i. h x (inr i)) in
      (q.0 ∷ more.0, (λ i. q.2 i ∷ more.1 i), (λ x i. elim i [ inl e ↦ subst (λ z. In z xs) (sym e) q.1 | inr j ↦ more.2 x j ]))

  pub map-distinct : (xs : List A) (n : ℕ) → OneOn xs → HasDistinct xs n → HasDistinct (map f xs) n
  map-distinct xs n one h = record {
    items = map f h.items;
    once = map_once xs one h.items h.inside h.once;
    inside = λ y i. let q : (x : A) × In x h.items × (y ≡ f x) = from_map y h.items i in
        subst (λ z. In z (map f xs)) (sym q.2) (in_map f q.0 xs (h.inside q.0 q.1));
    outside = λ y i. let q : (x : A) × In x xs × (y ≡ f x) = from_map y xs i in
        subst (λ z. In z (map f h.items)) (sym q.2) (in_map f q.0 h.items (h.outside q.0 q.1));
    size = length-map h.items f ∙ h.size;
  }

  pub distinct-before_map : (xs : List A) (n : ℕ) → OneOn xs → HasDistinct (map f xs) n → HasDistinct xs n
  distinct-before_map xs n one h =
      let vs : (vs : List A) × (h.items ≡ map f vs) × Inside vs xs = picked xs h.items h.inside in
      record {
        items = vs.0;
        once = once_before vs.0 (subst AllDiffer vs.1 h.once);
        inside = vs.2;
        outside = λ x i. let q : (y : A) × In y vs.0 × (f x ≡ f y) = from_map (f x) vs.0 (subst (λ z. In (f x) z) vs.1 (h.outside (f x) (in_map f x xs i))) in
            subst (λ z. In z vs.0) (sym (one x q.0 i (vs.2 q.0 q.1) q.2)) q.1;
        size = sym (length-map vs.0 f) ∙ ap length (sym vs.1) ∙ h.size;
      }

-- an image has at most as many
pub image-fewer : {A B : Type 0} (f : A → B) (xs : List A) (n k : ℕ) → HasDistinct xs n → HasDistinct (map f xs) k → k ≤ n
image-fewer {A} f xs n k h g =
    let vs : (vs : List A) × (g.items ≡ map f vs) × Inside vs xs = picked f xs g.items g.inside in
    omega (
      arith,
      h.size,
      g.size,
      ap length vs.1,
      length-map vs.0 f,
      fewer vs.0 h.items (once_before f vs.0 (subst AllDiffer vs.1 g.once))
          (λ x i. h.outside x (vs.2 x i)),
    )
