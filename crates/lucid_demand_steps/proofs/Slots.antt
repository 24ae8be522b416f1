-- A choice by whether two slots are the same.
use Rattle.lucid_demand_steps.proofs.Common.{◌≡◌, ◌⊎◌, inl, inr, ℕ, sym, ap, ◌∙◌, arith, nat_tests, cases_eq}
use Rattle.std.proofs.Common.{◌==◌, true, false}
use Rattle.std.specs.Prelude.{if◌then◌else◌}

eq_true : (q s : ℕ) → q ≡ s → (q == s) ≡ true
eq_true q s e = grind (arith, nat_tests, e)

eq_false : (q s : ℕ) → (q ≡ s → ⊥) → (q == s) ≡ false
eq_false q s n = grind (arith, nat_tests, n)

-- what the choice is at the slot, and elsewhere
pub at_it : {A : Type 0} (q s : ℕ) (a b : A) → q ≡ s → (if q == s then a else b) ≡ a
at_it q s a b e = ap (λ t. if t then a else b) (eq_true q s e)

pub at_another : {A : Type 0} (q s : ℕ) (a b : A) → (q ≡ s → ⊥) → (if q == s then a else b) ≡ b
at_another q s a b n = ap (λ t. if t then a else b) (eq_false q s n)

-- choices by one slot are the same where what is chosen there is
pub same_choice : {A : Type 0} (q s : ℕ) (a c b : A) → (q ≡ s → a ≡ c) → (if q == s then a else b) ≡ (if q == s then c else b)
same_choice q s a c b e = go (cases_eq q s)
  where
    go : (q ≡ s) ⊎ (q ≡ s → ⊥) → (if q == s then a else b) ≡ (if q == s then c else b)
    go (inl here) = at_it q s a b here ∙ e here ∙ sym (at_it q s c b here)
    go (inr other) = at_another q s a b other ∙ sym (at_another q s c b other)

-- and where what is chosen elsewhere is
pub choice_later : {A : Type 0} (q s : ℕ) (a b d : A) → ((q ≡ s → ⊥) → b ≡ d) → (if q == s then a else b) ≡ (if q == s then a else d)
choice_later q s a b d e = go (cases_eq q s)
  where
    go : (q ≡ s) ⊎ (q ≡ s → ⊥) → (if q == s then a else b) ≡ (if q == s then a else d)
    go (inl here) = at_it q s a b here ∙ sym (at_it q s a d here)
    go (inr other) = at_another q s a b other ∙ e other ∙ sym (at_another q s a d other)
