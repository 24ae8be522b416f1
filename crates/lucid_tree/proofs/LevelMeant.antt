-- Held values that are meant give only values that are meant, for any positions: once for trees and for nodes.
use Rattle.lucid_tree.proofs.Common.{◌≡◌, ℕ, zero, suc, Option, Some, None, ◌⊎◌, inl, inr, arith, PlainValue, Target, element_of, goes_to, nowhere, Elements, Given, nothing_held, or_else, Below, below, approximation}
use Rattle.lucid_tree.proofs.Plans.{Keeps}
use Rattle.lucid_tree.proofs.LevelGrowth.{Grows, below-grows}

one_of_two : (o r : Option PlainValue) (v : PlainValue) → or_else o r ≡ Some v → (o ≡ Some v) ⊎ (r ≡ Some v)
one_of_two None r v e = inr e
one_of_two (Some w) r v e = inl e

-- Positions that are reached, and what references there go on with.
module _ {K X : Type 0} (value : (m : ℕ) → Below K X → X → (time space : ℕ) → Option PlainValue) (Reached : X → Type 0) (GoneTo : Target K X → Type 0) where
  -- some approximation with nothing held gives the position the value
  abbrev pub IsMeant : Elements → X → (time space : ℕ) → PlainValue → Type 0
  IsMeant b x t s v = (n : ℕ) × (approximation value (nothing_held b) n x t s ≡ Some v)

  -- A position that is reached takes its value from the references there: where each value of these is one of a growing
  -- family's, so is the position's.
  abbrev pub Gathers : Type 0
  Gathers = (m : ℕ) (b : Below K X) (bs : ℕ → Below K X) → ((n : ℕ) (a : Target K X) (s : ℕ) → Keeps (bs n a s) (bs (suc n) a s))
      → ((a : Target K X) (s : ℕ) (v : PlainValue) → GoneTo a → b a s ≡ Some v → (n : ℕ) × (bs n a s ≡ Some v)) → (x : X) (t s : ℕ) (v : PlainValue) → Reached x
      → value m b x t s ≡ Some v → (n : ℕ) × (value n (bs n) x t s ≡ Some v)

  module _ (grows : Grows value) (gathers : Gathers) (reaches : (k : K) (x : X) (u : ℕ) → GoneTo (goes_to k x u) → Reached x) (g : Given K)
      (held_meant : (k : K) (x : X) (u s : ℕ) (v : PlainValue) → GoneTo (goes_to k x u) → g.held k s ≡ Some v → IsMeant g.element x u s v) where
    pub below-meant : (m : ℕ) (a : Target K X) (s : ℕ) (v : PlainValue) → GoneTo a → below value g m a s ≡ Some v
        → (n : ℕ) × (below value (nothing_held g.element) n a s ≡ Some v)
    below-meant zero (element_of i j) s v a d = absurd (grind arith)
    below-meant zero (goes_to k x u) s v a d = let h = held_meant k x u s v a d in (suc h.0, h.1)
    below-meant zero nowhere s v a d = absurd (grind arith)
    below-meant (suc m) (element_of i j) s v a d = (1, d)
    below-meant (suc m) (goes_to k x u) s v a d =
        elim (one_of_two (g.held k s) (value m (below value g m) x u s) v d) [
          | inl e ↦ (let h = held_meant k x u s v a e in (suc h.0, h.1))
          | inr e ↦ (
              let h = gathers m (below value g m) (below value (nothing_held g.element)) (below-grows value grows (nothing_held g.element)) (below-meant m) x u
              s v (reaches k x u a) e in
              (suc h.0, h.1)
              )
        ]
    below-meant (suc m) nowhere s v a d = absurd (grind arith)

    -- with held values that are meant, each value is meant
    pub approximation-meant : (m : ℕ) (x : X) (t s : ℕ) (v : PlainValue) → Reached x → approximation value g m x t s ≡ Some v → IsMeant g.element x t s v
    approximation-meant m x t s v a d =
        gathers m (below value g m) (below value (nothing_held g.element)) (below-grows value grows (nothing_held g.element)) (below-meant m) x t s v a d
