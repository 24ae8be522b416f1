-- Rows that stand for things, one for one.
use Rattle.lucid_compile.proofs.Common.{◌≡◌, ℕ, zero, suc, ◌+◌, length, List, [], ◌∷◌, ◌++◌, map, Some, slice_get, refl, ap, subst, inl, inr, In, arith, none-some, OneForOne}

-- the row of a thing, and the thing of a row
pub record RowAt {A B : Type 0} (P : ℕ → A → B → Type 0) (rs : List A) (i j : ℕ) (s : B) : Type 0 where
  pub row : A
  pub there : slice_get rs j ≡ Some row
  pub is : P (i + j) row s

pub record ThingAt {A B : Type 0} (P : ℕ → A → B → Type 0) (ss : List B) (i j : ℕ) (r : A) : Type 0 where
  pub thing : B
  pub there : slice_get ss j ≡ Some thing
  pub is : P (i + j) r thing

module _ {A B : Type 0} (P : ℕ → A → B → Type 0) where
  pub pairs-join : (i : ℕ) (rs : List A) (ss : List B) (qs : List A) (ts : List B) → OneForOne P i rs ss → OneForOne P (i + length rs) qs ts
      → OneForOne P i (rs ++ qs) (ss ++ ts)
  pairs-join i [] [] qs ts h g =
      let e : i + 0 ≡ i = omega arith in
      subst (λ n. OneForOne P n qs ts) e g
  pairs-join i [] (_ ∷ ss) qs ts h g = absurd h
  pairs-join i (_ ∷ rs) [] qs ts h g = absurd h
  pairs-join i (r ∷ rs) (_ ∷ ss) qs ts h g =
      let e : i + length (r ∷ rs) ≡ suc i + length rs = omega arith in
      (h.0, pairs-join (suc i) rs ss qs ts h.1 (subst (λ n. OneForOne P n qs ts) e g))

  pub pairs-one : (i : ℕ) (rs : List A) (ss : List B) (r : A) (s : B) → OneForOne P i rs ss → P (i + length rs) r s
      → OneForOne P i (rs ++ r ∷ []) (ss ++ s ∷ [])
  pairs-one i rs ss r s h x = pairs-join i rs ss (r ∷ []) (s ∷ []) h (x, tt)

  pub pairs-count : (i : ℕ) (rs : List A) (ss : List B) → OneForOne P i rs ss → length rs ≡ length ss
  pairs-count i [] [] h = refl
  pairs-count i [] (_ ∷ ss) h = absurd h
  pairs-count i (_ ∷ rs) [] h = absurd h
  pairs-count i (_ ∷ rs) (_ ∷ ss) h = ap suc (pairs-count (suc i) rs ss h.1)

  pub row-at : (i : ℕ) (rs : List A) (ss : List B) (j : ℕ) (s : B) → OneForOne P i rs ss → slice_get ss j ≡ Some s → RowAt P rs i j s
  row-at i [] [] j s h e = absurd (none-some s e)
  row-at i [] (_ ∷ ss) j s h e = absurd h
  row-at i (_ ∷ rs) [] j s h e = absurd h
  row-at i (r ∷ rs) (t ∷ ss) zero s h e =
      let same : t ≡ s = cc in
      let n : i ≡ i + 0 = omega arith in
      record { row = r; there = refl; is = subst (λ m. P m r s) n (subst (P i r) same h.0) }
  row-at i (_ ∷ rs) (_ ∷ ss) (suc j) s h e =
      let f = row-at (suc i) rs ss j s h.1 e in
      let n : suc i + j ≡ i + suc j = omega arith in
      record { row = f.row; there = f.there; is = subst (λ m. P m f.row s) n f.is }

  pub thing-at : (i : ℕ) (rs : List A) (ss : List B) (j : ℕ) (r : A) → OneForOne P i rs ss → slice_get rs j ≡ Some r → ThingAt P ss i j r
  thing-at i [] [] j r h e = absurd (none-some r e)
  thing-at i [] (_ ∷ ss) j r h e = absurd h
  thing-at i (_ ∷ rs) [] j r h e = absurd h
  thing-at i (q ∷ rs) (s ∷ ss) zero r h e =
      let same : q ≡ r = cc in
      let n : i ≡ i + 0 = omega arith in
      record { thing = s; there = refl; is = subst (λ m. P m r s) n (subst (λ q. P i q s) same h.0) }
  thing-at i (_ ∷ rs) (_ ∷ ss) (suc j) r h e =
      let f = thing-at (suc i) rs ss j r h.1 e in
      let n : suc i + j ≡ i + suc j = omega arith in
      record { thing = f.thing; there = f.there; is = subst (λ m. P m r f.thing) n f.is }

  -- each row is made for its thing
  pub pairs-made : {X : Type 0} (f : X → A) (g : X → B) → ((i : ℕ) (x : X) → P i (f x) (g x)) → (i : ℕ) (xs : List X) → OneForOne P i (map f xs) (map g xs)
  pairs-made f g h i [] = tt
  pairs-made f g h i (x ∷ xs) = (h i x, pairs-made f g h (suc i) xs)

-- what follows of each
pub pairs-kept : {A B : Type 0} (P Q : ℕ → A → B → Type 0) → ((i : ℕ) (r : A) (s : B) → P i r s → Q i r s) → (i : ℕ) (rs : List A) (ss : List B)
    → OneForOne P i rs ss → OneForOne Q i rs ss
pairs-kept P Q f i [] [] h = tt
pairs-kept P Q f i [] (_ ∷ ss) h = absurd h
pairs-kept P Q f i (_ ∷ rs) [] h = absurd h
pairs-kept P Q f i (r ∷ rs) (s ∷ ss) h = (f i r s h.0, pairs-kept P Q f (suc i) rs ss h.1)

-- both of each
pub pairs-both : {A B : Type 0} (P Q : ℕ → A → B → Type 0) (i : ℕ) (rs : List A) (ss : List B) → OneForOne P i rs ss → OneForOne Q i rs ss
    → OneForOne (λ i r s. P i r s × Q i r s) i rs ss
pairs-both P Q i [] [] h g = tt
pairs-both P Q i [] (_ ∷ ss) h g = h
pairs-both P Q i (_ ∷ rs) [] h g = h
pairs-both P Q i (r ∷ rs) (s ∷ ss) h g = ((h.0, g.0), pairs-both P Q (suc i) rs ss h.1 g.1)

-- rows that are made of their things alone
pub rows-map : {A B : Type 0} (P : ℕ → A → B → Type 0) (f : B → A) (i : ℕ) (rs : List A) (ss : List B)
    → ((i : ℕ) (r : A) (s : B) → In s ss → P i r s → r ≡ f s) → OneForOne P i rs ss → rs ≡ map f ss
rows-map P f i [] [] h g = refl
rows-map P f i [] (_ ∷ ss) h g = absurd g
rows-map P f i (_ ∷ rs) [] h g = absurd g
rows-map P f i (r ∷ rs) (s ∷ ss) h g = λ j. h i r s (inl refl) g.0 j ∷ rows-map P f (suc i) rs ss (λ n q x v. h n q x (inr v)) g.1 j
