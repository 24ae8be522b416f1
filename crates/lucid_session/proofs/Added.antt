-- Added numbers: what holds from some number on, of several things at once.
use Rattle.lucid_session.proofs.Common.{◌≡◌, ℕ, zero, suc, ◌+◌, ◌<◌, Bool, List, ◌⊎◌, inl, inr, refl, sym, subst, arith, cases_lt, In, Added}
use Rattle.std.proofs.Common.{[], ◌∷◌}

module _ (empties : Bool) where
  pub at_once : (P : ℕ → Type 0) → ((d : ℕ) → P d) → Added empties P
  at_once P all = record { added = 0; none = λ e. refl; holds = λ d le. all d }

  pub so : (P Q : ℕ → Type 0) → ((d : ℕ) → P d → Q d) → Added empties P → Added empties Q
  so P Q f a = record { added = a.added; none = a.none; holds = λ d le. f d (a.holds d le) }

  pub both : (P Q : ℕ → Type 0) → Added empties P → Added empties Q → Added empties (λ d. P d × Q d)
  both P Q a b = record {
    added = a.added + b.added;
    none = λ e. omega (arith, a.none e, b.none e);
    holds = λ d le. (a.holds d (omega (arith, le)), b.holds d (omega (arith, le)));
  }

  -- of each item of a list
  pub of_items : {A : Type 0} (P : A → ℕ → Type 0) (xs : List A) → ((x : A) → In x xs → Added empties (P x)) → Added empties (λ d. (x : A) → In x xs → P x d)
  of_items P [] each = at_once (λ d. (x : _) → In x [] → P x d) (λ d x i. absurd i)
  of_items {A = A} P (y ∷ ys) each =
      so (λ d. P y d × ((x : A) → In x ys → P x d)) (λ d. (x : A) → In x (y ∷ ys) → P x d)
      (λ d p x i. elim i [ inl e ↦ subst (λ z. P z d) (sym e) p.0 | inr j ↦ p.1 x j ])
      (both (P y) (λ d. (x : A) → In x ys → P x d) (each y (inl refl)) (of_items P ys (λ x i. each x (inr i))))

  below_or_last : (k n : ℕ) → k < suc n → (k < n) ⊎ (k ≡ n)
  below_or_last k n lt = elim (cases_lt k n) [ inl lower ↦ inl lower | inr le ↦ inr (omega (arith, lt, le)) ]

  -- of each number below one
  pub of_numbers : (P : ℕ → ℕ → Type 0) (n : ℕ) → ((k : ℕ) → k < n → Added empties (P k)) → Added empties (λ d. (k : ℕ) → k < n → P k d)
  of_numbers P zero each = at_once (λ d. (k : ℕ) → k < 0 → P k d) (λ d k lt. absurd (omega (arith, lt)))
  of_numbers P (suc n) each =
      so (λ d. P n d × ((k : ℕ) → k < n → P k d)) (λ d. (k : ℕ) → k < suc n → P k d)
      (λ d p k lt. elim (below_or_last k n lt) [ inl lower ↦ p.1 k lower | inr e ↦ subst (λ z. P z d) (sym e) p.0 ])
      (both (P n) (λ d. (k : ℕ) → k < n → P k d) (each n (omega arith)) (of_numbers P n (λ k lt. each k (omega (arith, lt)))))
