-- A defined approximation is the same at each greater limit, for any positions: once for trees and for nodes.
use Rattle.lucid_tree.proofs.Common.{◌≡◌, ℕ, zero, suc, ◌≤◌, Option, Some, None, subst, ◌⊎◌, inl, inr, arith, PlainValue, Target, element_of, goes_to, nowhere, Given, or_else, Below, below, approximation}
use Rattle.lucid_tree.proofs.Plans.{Keeps}

pub or_else-keeps : (o r r' : Option PlainValue) → Keeps r r' → Keeps (or_else o r) (or_else o r')
or_else-keeps None r r' h x e = h x e
or_else-keeps (Some v) r r' h x e = e

pub or_else-held : (o r : Option PlainValue) → Keeps o (or_else o r)
or_else-held None r x e = absurd (grind arith)
or_else-held (Some v) r x e = e

pub last_or_less : (m n : ℕ) → m ≤ suc n → (m ≤ n) ⊎ (m ≡ suc n)
last_or_less m n h = grind arith

module _ {K X : Type 0} (value : (m : ℕ) → Below K X → X → (time space : ℕ) → Option PlainValue) where
  -- at one more, with references that have at least the values that they had, a position keeps its value
  abbrev pub Grows : Type 0
  Grows = (m : ℕ) (b b' : Below K X) → ((a : Target K X) (s : ℕ) → Keeps (b a s) (b' a s)) → (x : X) (t s : ℕ)
      → Keeps (value m b x t s) (value (suc m) b' x t s)

  pub below-grows : Grows → (g : Given K) (m : ℕ) (a : Target K X) (s : ℕ) → Keeps (below value g m a s) (below value g (suc m) a s)
  below-grows w g zero (element_of n j) s x e = absurd (grind arith)
  below-grows w g zero (goes_to k y u) s x e = or_else-held (g.held k s) (value 0 (below value g 0) y u s) x e
  below-grows w g zero nowhere s x e = e
  below-grows w g (suc m) (element_of n j) s x e = e
  below-grows w g (suc m) (goes_to k y u) s x e =
      or_else-keeps (g.held k s) (value m (below value g m) y u s) (value (suc m) (below value g (suc m)) y u s)
      (w m (below value g m) (below value g (suc m)) (below-grows w g m) y u s) x e
  below-grows w g (suc m) nowhere s x e = e

  pub approximation-grows : Grows → (g : Given K) (m : ℕ) (x : X) (t s : ℕ) → Keeps (approximation value g m x t s) (approximation value g (suc m) x t s)
  approximation-grows w g m x t s = w m (below value g m) (below value g (suc m)) (below-grows w g m) x t s

  pub approximation-up : Grows → (g : Given K) (m n : ℕ) → m ≤ n → (x : X) (t s : ℕ) → Keeps (approximation value g m x t s) (approximation value g n x t s)
  approximation-up w g m zero h x t s v d =
      let z : m ≡ 0 = omega arith in subst (λ k. approximation value g k x t s ≡ Some v) z d
  approximation-up w g m (suc n) h x t s v d =
      elim (last_or_less m n h) [
        | inl l ↦ approximation-grows w g n x t s v (approximation-up w g m n l x t s v d)
        | inr z ↦ subst (λ k. approximation value g k x t s ≡ Some v) z d
      ]
