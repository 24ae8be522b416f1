-- Bytes in front that pass a test, and the first byte.
use Rattle.lucid_scan.proofs.Common.{◌≡◌, ℕ, zero, suc, ◌+◌, ◌≤◌, ◌<◌, List, [], ◌∷◌, ◌++◌, length, take, drop, Bool, true, false, cond, inl, inr, refl, sym, ◌∙◌, ap, subst, arith, list_all, prefix_len, and_parts, and_from, first_passes, zero-le, one-add, cases_Bool}

module _ (p : ℕ → Bool) where
  pub run_grows : (x : ℕ) (xs : List ℕ) → p x ≡ true → prefix_len p (x ∷ xs) ≡ suc (prefix_len p xs)
  run_grows x xs h = ap (λ b. cond b (1 + prefix_len p xs) 0) h ∙ one-add (prefix_len p xs)

  pub run_ends : (x : ℕ) (xs : List ℕ) → p x ≡ false → prefix_len p (x ∷ xs) ≡ 0
  run_ends x xs h = ap (λ b. cond b (1 + prefix_len p xs) 0) h

  -- a front whose bytes all pass is at most as long as the run
  pub run_most : (xs : List ℕ) (m : ℕ) → m ≤ length xs → list_all p (take m xs) ≡ true → m ≤ prefix_len p xs
  run_most xs zero h e = zero-le
  run_most [] (suc m) h e = absurd (omega arith)
  run_most (x ∷ xs) (suc m) h e =
      let b = and_parts (p x) (list_all p (take m xs)) e in
      subst (λ n. suc m ≤ n) (sym (run_grows x xs b.0)) (let k : m ≤ prefix_len p xs = run_most xs m (omega arith) b.1 in omega (arith, k))

  pub run_passes : (xs : List ℕ) → list_all p (take (prefix_len p xs) xs) ≡ true
  run_passes [] = refl
  run_passes (x ∷ xs) = elim (cases_Bool (p x)) [
    | inl h ↦ ap (λ n. list_all p (take n (x ∷ xs))) (run_grows x xs h) ∙ and_from (p x) _ h (run_passes xs)
    | inr h ↦ ap (λ n. list_all p (take n (x ∷ xs))) (run_ends x xs h)
  ]

  -- the byte behind the run does not pass
  pub run_stops : (xs : List ℕ) → first_passes p (drop (prefix_len p xs) xs) ≡ false
  run_stops [] = refl
  run_stops (x ∷ xs) = elim (cases_Bool (p x)) [
    | inl h ↦ ap (λ n. first_passes p (drop n (x ∷ xs))) (run_grows x xs h) ∙ run_stops xs
    | inr h ↦ ap (λ n. first_passes p (drop n (x ∷ xs))) (run_ends x xs h) ∙ h
  ]

  pub run_some : (xs : List ℕ) → first_passes p xs ≡ true → 0 < prefix_len p xs
  run_some [] h = cc
  run_some (x ∷ xs) h = subst (λ n. 0 < n) (sym (run_grows x xs h)) (omega arith)

  pub run_inside : (xs : List ℕ) (m : ℕ) → m < prefix_len p xs → first_passes p (drop m xs) ≡ true
  run_inside [] m h = absurd (omega arith)
  run_inside (x ∷ xs) m h = elim (cases_Bool (p x)) [
    | inl e ↦ inside x xs m e (subst (λ n. m < n) (run_grows x xs e) h) (λ i k. run_inside xs i k)
    | inr e ↦ let none : m < 0 = subst (λ n. m < n) (run_ends x xs e) h in absurd (omega (arith, none))
  ]
    where
      inside : (y : ℕ) (ys : List ℕ) (i : ℕ) → p y ≡ true → i < suc (prefix_len p ys) → ((j : ℕ) → j < prefix_len p ys → first_passes p (drop j ys) ≡ true)
          → first_passes p (drop i (y ∷ ys)) ≡ true
      inside y ys zero e k rec = e
      inside y ys (suc i) e k rec = rec i (omega arith)

  -- a run that a byte ends
  pub run_is : (xs after : List ℕ) → list_all p xs ≡ true → first_passes p after ≡ false → prefix_len p (xs ++ after) ≡ length xs
  run_is [] [] h e = refl
  run_is [] (x ∷ after) h e = run_ends x after e
  run_is (x ∷ xs) after h e =
      let b = and_parts (p x) (list_all p xs) h in
      run_grows x (xs ++ after) b.0 ∙ ap suc (run_is xs after b.1 e)

  pub first-take : (xs : List ℕ) (m : ℕ) → 0 < m → first_passes p (take m xs) ≡ first_passes p xs
  first-take xs zero h = absurd (omega arith)
  first-take [] (suc m) h = refl
  first-take (x ∷ xs) (suc m) h = refl

pub first_more : (p q : ℕ → Bool) → ((b : ℕ) → p b ≡ true → q b ≡ true) → (xs : List ℕ) → first_passes p xs ≡ true → first_passes q xs ≡ true
first_more p q more [] h = cc
first_more p q more (b ∷ xs) h = more b h
