-- Items in the order of their numbers, each of which stands once: an item's place is how many have lesser numbers.
use Rattle.lucid_cycles.proofs.Common.{◌≡◌, ℕ, zero, suc, ◌+◌, ◌<◌, ◌≤◌, Bool, true, false, cond, List, [], ◌∷◌, length, get_or, map, ◌⊎◌, inl, inr, refl, sym, ap, subst, ◌∙◌, arith, nat_eq, All, count_by, filter, IsPermutation, IsNonDecreasingBy, nat_tests, get_or_default, sum_by-cons, lt-ltb, le-ltb, cases_lt, All-permutation, sum_by-IsPermutation, IsPermutation-sym, eq-eqb, eqb-true}
use Rattle.std.proofs.Common.{nat_lt}

eq-false : (x y : ℕ) → x < y → nat_eq x y ≡ false
eq-false x y h = grind (arith, nat_tests)

eq-false' : (x y : ℕ) → y < x → nat_eq x y ≡ false
eq-false' x y h = grind (arith, nat_tests)

-- a count, one item further
one-more : {X : Type 0} (p : X → Bool) (x : X) (xs : List X) → p x ≡ true → count_by p (x ∷ xs) ≡ 1 + count_by p xs
one-more p x xs e = sum_by-cons (λ z. cond (p z) 1 0) x xs ∙ ap (λ b. cond b 1 0 + count_by p xs) e

pub no-more : {X : Type 0} (p : X → Bool) (x : X) (xs : List X) → p x ≡ false → count_by p (x ∷ xs) ≡ count_by p xs
no-more p x xs e = omega (arith, sum_by-cons (λ z. cond (p z) 1 0) x xs, ap {B = ℕ} (λ b. cond b 1 0) e)

at-least : {X : Type 0} (p : X → Bool) (x : X) (xs : List X) → count_by p xs ≤ count_by p (x ∷ xs)
at-least p x xs = omega (arith, sum_by-cons (λ z. cond (p z) 1 0) x xs)

none-counted : {X : Type 0} (p : X → Bool) (xs : List X) → All (λ z. p z ≡ false) xs → count_by p xs ≡ 0
none-counted p [] h = refl
none-counted p (x ∷ xs) h = no-more p x xs (h 0 x (omega arith)) ∙ none-counted p xs (λ k d l. h (suc k) d (omega (arith, l)))

counted-at : {X : Type 0} (p : X → Bool) (xs : List X) (j : ℕ) (d : X) → j < length xs → p (get_or xs j d) ≡ true → 1 ≤ count_by p xs
counted-at p [] j d h e = absurd (omega (arith, h))
counted-at p (x ∷ xs) zero d h e = omega (arith, one-more p x xs e)
counted-at p (x ∷ xs) (suc j) d h e = omega (arith, counted-at p xs j d (omega (arith, h)) e, at-least p x xs)

-- each number stands at most once
abbrev pub Once : {X : Type 0} → (X → ℕ) → List X → Type 0
Once n xs = (x : ℕ) → count_by (λ z. nat_eq x (n z)) xs ≤ 1

-- the numbers rise
abbrev Rises : {X : Type 0} → (X → ℕ) → List X → Type 0
Rises n [] = Unit {0}
Rises n (x ∷ xs) = All (λ z. n x < n z) xs × Rises n xs

above-at : {X : Type 0} (n : X → ℕ) (x z : X) (xs : List X) (k : ℕ) (d : X) → k < length xs → z ≡ get_or xs k d → n x ≤ n z
    → count_by (λ y. nat_eq (n x) (n y)) (x ∷ xs) ≤ 1 → (n x < n z) ⊎ (n z ≤ n x) → n x < n z
above-at n x z xs k d l e a h (inl q) = q
above-at n x z xs k d l e a h (inr q) =
    let same : nat_eq (n x) (n (get_or xs k d)) ≡ true = eq-eqb (n x) (n (get_or xs k d)) (omega (arith, a, q, ap n e)) in
    let twice = counted-at (λ y. nat_eq (n x) (n y)) xs k d l same in
    let here = one-more (λ y. nat_eq (n x) (n y)) x xs (eq-eqb (n x) (n x) refl) in
    absurd (omega (arith, h, here, twice))

rises : {X : Type 0} (n : X → ℕ) (xs : List X) → IsNonDecreasingBy n xs → Once n xs → Rises n xs
rises n [] s o = tt
rises n (x ∷ xs) s o = (
  λ k d l. above-at n x (get_or xs k d) xs k d l refl (s 0 (suc k) d (omega arith) (omega (arith, l))) (o (n x)) (cases_lt (n x) (n (get_or xs k d))),
  rises n xs (λ i j d a b. s (suc i) (suc j) d (omega (arith, a)) (omega (arith, b))) (λ y. omega (arith, o y, at-least (λ z. nat_eq y (n z)) x xs)),
)

-- how many have lesser numbers than an item is its place
lesser-at : {X : Type 0} (n : X → ℕ) (xs : List X) → Rises n xs → (i : ℕ) (d : X) → i < length xs → count_by (λ z. nat_lt (n z) (n (get_or xs i d))) xs ≡ i
lesser-at n [] r i d h = absurd (omega (arith, h))
lesser-at n (x ∷ xs) r zero d h =
    no-more (λ z. nat_lt (n z) (n x)) x xs (le-ltb (n x) (n x) (omega arith))
    ∙ none-counted (λ z. nat_lt (n z) (n x)) xs (λ k e l. le-ltb (n (get_or xs k e)) (n x) (omega (arith, r.0 k e l)))
lesser-at n (x ∷ xs) r (suc i) d h =
    let l : i < length xs = omega (arith, h) in
    let y : ℕ = n (get_or xs i d) in
    let here = one-more (λ z. nat_lt (n z) y) x xs (lt-ltb (n x) y (r.0 i d l)) in
    omega (arith, here, lesser-at n xs r.1 i d l)

-- items that are numbered one by one from b on
abbrev Numbers : {X : Type 0} → (X → ℕ) → (b : ℕ) → List X → Type 0
Numbers {X} f b xs = (i : ℕ) (d : X) → i < length xs → f (get_or xs i d) ≡ b + i

further : {X : Type 0} (f : X → ℕ) (b : ℕ) (x : X) (xs : List X) → Numbers f b (x ∷ xs) → Numbers f (b + 1) xs
further f b x xs h i d l = omega (arith, h (suc i) d (omega (arith, l)))

counts-none : {X : Type 0} (f : X → ℕ) (b k : ℕ) (xs : List X) → Numbers f b xs → (k < b) ⊎ (b + length xs ≤ k) → count_by (λ z. nat_eq (f z) k) xs ≡ 0
counts-none f b k xs h (inl l) = none-counted (λ z. nat_eq (f z) k) xs (λ i d q. eq-false' (f (get_or xs i d)) k (omega (arith, h i d q, l)))
counts-none f b k xs h (inr l) = none-counted (λ z. nat_eq (f z) k) xs (λ i d q. eq-false (f (get_or xs i d)) k (omega (arith, h i d q, q, l)))

-- one of them has the number k: the first, or one of the others
one-first-or : {X : Type 0} (f : X → ℕ) (b k : ℕ) (x : X) (xs : List X) → Numbers f b (x ∷ xs) → b ≤ k → (b < k → count_by (λ z. nat_eq (f z) k) xs ≡ 1)
    → (b < k) ⊎ (k ≤ b) → count_by (λ z. nat_eq (f z) k) (x ∷ xs) ≡ 1
one-first-or f b k x xs h l others (inl q) =
    no-more (λ z. nat_eq (f z) k) x xs (eq-false (f x) k (omega (arith, h 0 x (omega arith), q))) ∙ others q
one-first-or f b k x xs h l others (inr q) =
    let here = one-more (λ z. nat_eq (f z) k) x xs (eq-eqb (f x) k (omega (arith, h 0 x (omega arith), q, l))) in
    omega (arith, here, counts-none f (b + 1) k xs (further f b x xs h) (inl (omega (arith, q))))

counts-one : {X : Type 0} (f : X → ℕ) (b k : ℕ) (xs : List X) → Numbers f b xs → b ≤ k → k < b + length xs → count_by (λ z. nat_eq (f z) k) xs ≡ 1
counts-one f b k [] h l m = absurd (omega (arith, l, m))
counts-one f b k (x ∷ xs) h l m =
    one-first-or f b k x xs h l (λ q. counts-one f (b + 1) k xs (further f b x xs h) (omega (arith, q)) (omega (arith, m))) (cases_lt b k)

-- what a filter leaves, by its count
none-on : {X : Type 0} (p : X → Bool) (x : X) (xs : List X) (b : Bool) → p x ≡ b → count_by p (x ∷ xs) ≡ 0 → (count_by p xs ≡ 0 → filter p xs ≡ [])
    → filter p (x ∷ xs) ≡ []
none-on p x xs true e h rest = absurd (omega (arith, one-more p x xs e, h))
none-on p x xs false e h rest = ap (λ b. cond b (x ∷ filter p xs) (filter p xs)) e ∙ rest (sym (no-more p x xs e) ∙ h)

none-left : {X : Type 0} (p : X → Bool) (xs : List X) → count_by p xs ≡ 0 → filter p xs ≡ []
none-left p [] h = refl
none-left p (x ∷ xs) h = none-on p x xs (p x) refl h (none-left p xs)

one-on : {X : Type 0} (p : X → Bool) (y x : X) (xs : List X) (b : Bool) → p x ≡ b → All (λ z. p z ≡ true → z ≡ y) (x ∷ xs) → count_by p (x ∷ xs) ≡ 1
    → (count_by p xs ≡ 1 → filter p xs ≡ y ∷ []) → filter p (x ∷ xs) ≡ y ∷ []
one-on p y x xs true e a h rest =
    ap (λ b. cond b (x ∷ filter p xs) (filter p xs)) e
    ∙ ap (λ l. x ∷ l) (none-left p xs (omega (arith, one-more p x xs e, h)))
    ∙ ap (λ z. z ∷ []) (a 0 x (omega arith) e)
one-on p y x xs false e a h rest = ap (λ b. cond b (x ∷ filter p xs) (filter p xs)) e ∙ rest (sym (no-more p x xs e) ∙ h)

one-left : {X : Type 0} (p : X → Bool) (y : X) (xs : List X) → All (λ z. p z ≡ true → z ≡ y) xs → count_by p xs ≡ 1 → filter p xs ≡ y ∷ []
one-left p y [] a h = absurd (omega (arith, h))
one-left p y (x ∷ xs) a h = one-on p y x xs (p x) refl a h (one-left p y xs (λ k d l. a (suc k) d (omega (arith, l))))

-- a count over numbers is one over the items
pub count-map : {X : Type 0} (n : X → ℕ) (p : ℕ → Bool) (xs : List X) → count_by p (map n xs) ≡ count_by (λ z. p (n z)) xs
count-map n p [] = refl
count-map n p (x ∷ xs) =
    sum_by-cons (λ z. cond (p z) 1 0) (n x) (map n xs) ∙ ap (λ k. cond (p (n x)) 1 0 + k) (count-map n p xs) ∙ sym (sum_by-cons (λ z. cond (p (n z)) 1 0) x xs)

same-place : {X : Type 0} (f : X → ℕ) (ys : List X) (k : ℕ) (d : X) → Numbers f 0 ys → All (λ z. nat_eq (f z) k ≡ true → z ≡ get_or ys k d) ys
same-place f ys k d h i e l q =
    let same : i ≡ k = omega (arith, h i e l, eqb-true (f (get_or ys i e)) k q) in
    subst (λ j. get_or ys i e ≡ get_or ys j d) same (get_or_default ys i e d l)

-- how many of these items have lesser numbers
abbrev lesser : {X : Type 0} → (X → ℕ) → List X → X → ℕ
lesser n xs z = count_by (λ x. nat_lt x (n z)) (map n xs)

-- Items xs that are put in order, as ys: how many have lesser numbers than an item is its place.
numbered : {X : Type 0} (n : X → ℕ) (xs ys : List X) → IsPermutation xs ys → IsNonDecreasingBy n ys → Once n xs → Numbers (lesser n xs) 0 ys
numbered n xs ys p s o i d l =
    let same = sum_by-IsPermutation (λ z. cond (nat_lt (n z) (n (get_or ys i d))) 1 0) xs ys p in
    let place = lesser-at n ys (rises n ys s (λ x. omega (arith, o x, sum_by-IsPermutation (λ z. cond (nat_eq x (n z)) 1 0) xs ys p))) i d l in
    omega (arith, count-map n (λ x. nat_lt x (n (get_or ys i d))) xs, same, place)

-- So the one with so many lesser ones is the one at that place,
pub one-at : {X : Type 0} (n : X → ℕ) (xs ys : List X) → IsPermutation xs ys → IsNonDecreasingBy n ys → Once n xs → (k : ℕ) (d : X) → k < length ys
    → filter (λ z. nat_eq (count_by (λ x. nat_lt x (n z)) (map n xs)) k) xs ≡ get_or ys k d ∷ []
one-at n xs ys p s o k d l =
    let h = numbered n xs ys p s o in
    one-left (λ z. nat_eq (lesser n xs z) k) (get_or ys k d) xs
    (All-permutation (λ z. nat_eq (lesser n xs z) k ≡ true → z ≡ get_or ys k d) ys xs (IsPermutation-sym xs ys p) (same-place (lesser n xs) ys k d h))
    (sym (sum_by-IsPermutation (λ z. cond (nat_eq (lesser n xs z) k) 1 0) xs ys p) ∙ counts-one (lesser n xs) 0 k ys h (omega arith) (omega (arith, l)))

-- and there is none where there is no such place.
pub none-at : {X : Type 0} (n : X → ℕ) (xs ys : List X) → IsPermutation xs ys → IsNonDecreasingBy n ys → Once n xs → (k : ℕ) → length ys ≤ k
    → filter (λ z. nat_eq (count_by (λ x. nat_lt x (n z)) (map n xs)) k) xs ≡ []
none-at n xs ys p s o k l =
    none-left (λ z. nat_eq (lesser n xs z) k) xs
    (sym (sum_by-IsPermutation (λ z. cond (nat_eq (lesser n xs z) k) 1 0) xs ys p)
    ∙ counts-none (lesser n xs) 0 k ys (numbered n xs ys p s o) (inr (omega (arith, l))))
