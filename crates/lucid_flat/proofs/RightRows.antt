-- The first wrong row of a list, by going through its rows.
use Rattle.lucid_flat.proofs.SoundCommon.{◌≡◌, ℕ, ◌+◌, ◌<◌, ◌≤◌, List, length, get_or, Some, slice_get, sym, ◌∙◌, ap, subst, arith, inl, inr, cases_eq, same_Some, slice_get_within, slice_get-get_or, AllRight, IsFirstWrong}

-- the rows before a number are right
abbrev pub RightBefore : {A : Type 0} → (ℕ → A → Type 0) → List A → ℕ → Type 0
RightBefore {A = A} Right rows n = (id : ℕ) (r : A) → id < n → slice_get rows id ≡ Some r → Right id r

module _ {A : Type 0} (Right : ℕ → A → Type 0) (rows : List A) where
  -- one more row is right
  pub right-more : (n : ℕ) (d : A) → n < length rows → RightBefore Right rows n → Right n (get_or rows n d) → RightBefore Right rows (n + 1)
  right-more n d within before right id x low at =
      elim (cases_eq id n) [
        | inr h ↦ before id x (omega (arith, h, low)) at
        | inl h ↦
            let same : get_or rows n d ≡ x = same_Some (get_or rows n d) x (sym (slice_get-get_or rows n d within) ∙ (ap (slice_get rows) (sym h) ∙ at)) in
            let P : ℕ → Type 0 = λ i. Right i x in
            subst P (sym h) (subst (Right n) same right)
      ]

  -- all rows are right where those before the end are
  pub right-all : (n : ℕ) → length rows ≤ n → RightBefore Right rows n → AllRight Right rows
  right-all n end before id r at = let low = slice_get_within rows id r at in before id r (omega (arith, low, end)) at

  -- the first wrong row
  pub first-wrong : (n : ℕ) (d : A) → n < length rows → RightBefore Right rows n → (Right n (get_or rows n d) → ⊥) → IsFirstWrong Right rows n
  first-wrong n d within before wrong = record {
    row = get_or rows n d;
    there = slice_get-get_or rows n d within;
    wrong = wrong;
    before = before;
  }
