-- How often a number stands in a list: at most once exactly where the items differ.
use Rattle.lucid_tree.proofs.Common.{◌≡◌, ℕ, ◌+◌, ◌≤◌, List, [], ◌∷◌, ◌++◌, ◌⊎◌, inl, inr, refl, ap, ◌∙◌, sym, subst, arith, In, AllDiffer, cond, nat_eq, count_by, eqb-true, eq-eqb, sum_by-cons}
use Rattle.std.proofs.Common.{Bool, true, false}

abbrev pub times : ℕ → List ℕ → ℕ
times x [] = 0
times x (y ∷ ys) = cond (nat_eq x y) 1 0 + times x ys

pub times-append : (x : ℕ) (xs ys : List ℕ) → times x (xs ++ ys) ≡ times x xs + times x ys
times-append x [] ys = omega arith
times-append x (y ∷ xs) ys = omega (arith, times-append x xs ys)

-- as many as are counted
pub times-counted : (x : ℕ) (ys : List ℕ) → times x ys ≡ count_by (λ y. nat_eq x y) ys
times-counted x [] = refl
times-counted x (y ∷ ys) = ap (λ n. cond (nat_eq x y) 1 0 + n) (times-counted x ys) ∙ sym (sum_by-cons (λ z. cond (nat_eq x z) 1 0) y ys)

pub counts_one : (x y : ℕ) → x ≡ y → ◌≡◌ {A = ℕ} (cond (nat_eq x y) 1 0) 1
counts_one x y e = ap (λ (b : Bool). cond b 1 0) (eq-eqb x y e)

not_there : (x : ℕ) (ys : List ℕ) → times x ys ≡ 0 → In x ys → ⊥
not_there x [] e h = h
not_there x (y ∷ ys) e (inl q) = absurd (omega (arith, e, counts_one x y q))
not_there x (y ∷ ys) e (inr h) = not_there x ys (omega (arith, e)) h

pub once-differ : (xs : List ℕ) → ((x : ℕ) → times x xs ≤ 1) → AllDiffer xs
once-differ [] h = tt
once-differ (y ∷ ys) h = (not_there y ys (omega (arith, h y, counts_one y y refl)), once-differ ys (λ x. omega (arith, h x)))

absent-by : (x y : ℕ) (ys : List ℕ) (b : Bool) → nat_eq x y ≡ b → ((x ≡ y) ⊎ In x ys → ⊥) → times x ys ≡ 0 → cond (nat_eq x y) 1 0 + times x ys ≡ 0
absent-by x y ys true e h z = absurd (h (inl (eqb-true x y e)))
absent-by x y ys false e h z = rw e (omega (arith, z))

absent : (x : ℕ) (ys : List ℕ) → (In x ys → ⊥) → times x ys ≡ 0
absent x [] h = refl
absent x (y ∷ ys) h = absent-by x y ys (nat_eq x y) refl h (absent x ys (λ i. h (inr i)))

once-by : (x y : ℕ) (ys : List ℕ) (b : Bool) → nat_eq x y ≡ b → (In y ys → ⊥) → times x ys ≤ 1 → cond (nat_eq x y) 1 0 + times x ys ≤ 1
once-by x y ys true e h z = rw e (omega (arith, absent x ys (λ i. h (subst (λ v. In v ys) (eqb-true x y e) i))))
once-by x y ys false e h z = rw e (omega (arith, z))

pub differ-once : (xs : List ℕ) → AllDiffer xs → (x : ℕ) → times x xs ≤ 1
differ-once [] h x = omega arith
differ-once (y ∷ ys) h x = once-by x y ys (nat_eq x y) refl h.0 (differ-once ys h.1 x)
