-- Equal or not: numbers and parts.
use Rattle.lucid_tasks.proofs.Common.{◌≡◌, ℕ, true, false, cond, ◌==◌, Some, None, ◌⊎◌, inl, inr, refl, ap, sym, ◌∙◌, arith, nat_tests, eqb-true, cases_eq, number_itself, Part}

pub numbers_differ : (a b : ℕ) → (a == b) ≡ false → a ≡ b → ⊥
numbers_differ a b h e = grind (arith, nat_tests)

-- what is chosen by equality of numbers
pub chosen : {X : Type 0} (q n : ℕ) (x a b : X) → (q ≡ n → x ≡ a) → ((q ≡ n → ⊥) → x ≡ b) → x ≡ cond (q == n) a b
chosen q n x a b same other = (elim (q == n) as (λ t. (q == n) ≡ t → x ≡ cond t a b) [
  | true ↦ λ t. same (eqb-true q n t)
  | false ↦ λ t. other (numbers_differ q n t)
]) refl

pub chosen_same : {X : Type 0} (q n : ℕ) (a b : X) → q ≡ n → cond (q == n) a b ≡ a
chosen_same q n a b e = ap (λ t. cond t a b) (ap (λ m. q == m) (sym e) ∙ number_itself q)

pub chosen_other : {X : Type 0} (q n : ℕ) (a b : X) → (q ≡ n → ⊥) → cond (q == n) a b ≡ b
chosen_other q n a b ne = (elim (q == n) as (λ t. (q == n) ≡ t → cond t a b ≡ b) [
  | true ↦ λ t. absurd (ne (eqb-true q n t))
  | false ↦ λ t. refl
]) refl

part_by : (p r : Part) → (p.slot ≡ r.slot) ⊎ (p.slot ≡ r.slot → ⊥) → (p.index ≡ r.index) ⊎ (p.index ≡ r.index → ⊥) → (p ≡ r) ⊎ (p ≡ r → ⊥)
part_by p r (inl s) (inl i) = inl (λ j. record { slot = s j; index = i j })
part_by p r (inl s) (inr i) = inr (λ e. i (ap (λ (part : Part). part.index) e))
part_by p r (inr s) i = inr (λ e. s (ap (λ (part : Part). part.slot) e))

pub part_cases : (p r : Part) → (p ≡ r) ⊎ (p ≡ r → ⊥)
part_cases p r = part_by p r (cases_eq p.slot r.slot) (cases_eq p.index r.index)

-- parts of one row that differ have other indices
pub other_index : (p r : Part) → (p ≡ r → ⊥) → p.slot ≡ r.slot → p.index ≡ r.index → ⊥
other_index p r ne s i = ne (λ j. record { slot = s j; index = i j })

pub some_is : {X : Type 0} (d a b : X) → Some a ≡ Some b → a ≡ b
some_is d a b e = ap (λ o. elim o as (λ _. _) [ None ↦ d | Some x ↦ x ]) e
