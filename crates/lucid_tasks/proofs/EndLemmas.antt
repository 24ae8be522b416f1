-- Edits at the end of a list.
use Rattle.lucid_tasks.proofs.Common.{◌≡◌, ℕ, zero, suc, ◌+◌, List, [], ◌∷◌, ◌++◌, length, get_or, refl, sym, ap, subst, ◌∙◌, arith, length-append}
use Rattle.std.specs.List.{insert, remove}

module _ {X : Type 0} where
  pub removed_end : (xs : List X) (x : X) (i : ℕ) → i + 1 ≡ length (xs ++ x ∷ []) → remove (xs ++ x ∷ []) i ≡ xs
  removed_end [] x zero e = refl
  removed_end [] x (suc i) e = absurd (omega (arith, e))
  removed_end (y ∷ xs) x zero e = let len = length-append xs (x ∷ []) in absurd (omega (arith, e, len))
  removed_end (y ∷ xs) x (suc i) e = ap (λ l. y ∷ l) (removed_end xs x i (omega (arith, e)))

  pub last_at : (xs : List X) (x d : X) (i : ℕ) → i + 1 ≡ length (xs ++ x ∷ []) → get_or (xs ++ x ∷ []) i d ≡ x
  last_at [] x d zero e = refl
  last_at [] x d (suc i) e = absurd (omega (arith, e))
  last_at (y ∷ xs) x d zero e = let len = length-append xs (x ∷ []) in absurd (omega (arith, e, len))
  last_at (y ∷ xs) x d (suc i) e = last_at xs x d i (omega (arith, e))

  pub inserted_end : (xs : List X) (x : X) (i : ℕ) → i ≡ length xs → insert xs i x ≡ xs ++ x ∷ []
  inserted_end [] x zero e = refl
  inserted_end [] x (suc i) e = absurd (omega (arith, e))
  inserted_end (y ∷ xs) x zero e = absurd (omega (arith, e))
  inserted_end (y ∷ xs) x (suc i) e = ap (λ l. y ∷ l) (inserted_end xs x i (omega (arith, e)))

  -- what is left, and the one that left, of a list that ended in it
  pub last_of : (left items : List X) (x : X) (i : ℕ) → items ≡ left ++ x ∷ [] → i + 1 ≡ length items → (left ≡ remove items i) × (x ≡ get_or items i x)
  last_of left items x i e h =
      let end = subst (λ (ys : List X). i + 1 ≡ length ys) e h in
      (sym (ap (λ (ys : List X). remove ys i) e ∙ removed_end left x i end), sym (ap (λ (ys : List X). get_or ys i x) e ∙ last_at left x x i end))

  -- a list with a new end
  pub end_of : (items after : List X) (x : X) (i : ℕ) → i ≡ length items → after ≡ items ++ x ∷ [] → after ≡ insert items i x
  end_of items after x i h is = is ∙ sym (inserted_end items x i h)

  removed_before : (xs : List X) (x l : X) (i : ℕ) → i ≡ length xs → remove ((xs ++ x ∷ []) ++ l ∷ []) i ≡ xs ++ l ∷ []
  removed_before [] x l zero e = refl
  removed_before [] x l (suc i) e = absurd (omega (arith, e))
  removed_before (y ∷ xs) x l zero e = absurd (omega (arith, e))
  removed_before (y ∷ xs) x l (suc i) e = ap (λ ys. y ∷ ys) (removed_before xs x l i (omega (arith, e)))

  before_at : (xs : List X) (x l d : X) (i : ℕ) → i ≡ length xs → get_or ((xs ++ x ∷ []) ++ l ∷ []) i d ≡ x
  before_at [] x l d zero e = refl
  before_at [] x l d (suc i) e = absurd (omega (arith, e))
  before_at (y ∷ xs) x l d zero e = absurd (omega (arith, e))
  before_at (y ∷ xs) x l d (suc i) e = before_at xs x l d i (omega (arith, e))

  -- what is left, and the one that left, of a list whose last two left, and whose end came back
  pub before_last_of : (left middle items after : List X) (x l : X) (i : ℕ) → items ≡ middle ++ l ∷ [] → middle ≡ left ++ x ∷ [] → after ≡ left ++ l ∷ []
      → i + 2 ≡ length items → (after ≡ remove items i) × (x ≡ get_or items i x)
  before_last_of left middle items after x l i e m a h =
      let whole : items ≡ (left ++ x ∷ []) ++ l ∷ [] = e ∙ ap (λ ys. ys ++ l ∷ []) m in
      let here : i ≡ length left =
      (let all : length items ≡ length ((left ++ x ∷ []) ++ l ∷ []) = ap length whole in
      let outer = length-append (left ++ x ∷ []) (l ∷ []) in
      let inner = length-append left (x ∷ []) in
      omega (arith, h, all, outer, inner)) in
      (a ∙ sym (ap (λ ys. remove ys i) whole ∙ removed_before left x l i here), sym (ap (λ ys. get_or ys i x) whole ∙ before_at left x l x i here))

  inserted_before_end : (xs : List X) (x l : X) (i : ℕ) → i ≡ length xs → insert (xs ++ l ∷ []) i x ≡ (xs ++ x ∷ []) ++ l ∷ []
  inserted_before_end [] x l zero e = refl
  inserted_before_end [] x l (suc i) e = absurd (omega (arith, e))
  inserted_before_end (y ∷ xs) x l zero e = absurd (omega (arith, e))
  inserted_before_end (y ∷ xs) x l (suc i) e = ap (λ ys. y ∷ ys) (inserted_before_end xs x l i (omega (arith, e)))

  -- a list whose end left, and came back after another
  pub before_end_of : (left items middle after : List X) (l x : X) (i : ℕ) → items ≡ left ++ l ∷ [] → i + 1 ≡ length items → middle ≡ left ++ x ∷ []
      → after ≡ middle ++ l ∷ [] → after ≡ insert items i x
  before_end_of left items middle after l x i e h m a =
      let len = length-append left (l ∷ []) in
      let same : length items ≡ length (left ++ l ∷ []) = ap length e in
      a ∙ ap (λ ys. ys ++ l ∷ []) m ∙ sym (ap (λ ys. insert ys i x) e ∙ inserted_before_end left x l i (omega (arith, h, len, same)))
