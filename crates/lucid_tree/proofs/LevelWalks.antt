-- What references meet, level by level, for any positions: once for trees and for nodes.
use Rattle.lucid_tree.proofs.Common.{◌≡◌, ℕ, zero, suc, ◌+◌, List, ◌∷◌, Option, Some, ap, refl, arith, PlainValue, Inside, Target, element_of, goes_to, nowhere, Elements, nothing_held, Below, below}
use Rattle.lucid_tree.specs.Levels.{Event, referred, deeper}
use Rattle.lucid_tree.proofs.Plans.{nat_le-suc}
use Rattle.lucid_tree.proofs.Members.{inside-cons}
use Rattle.lucid_tree.proofs.Traces.{TakesMore}

module _ {K X C : Type 0} (walk : (m d : ℕ) → (Target K X → ℕ → List (Event K X C)) → X → (time space : ℕ) → List (Event K X C)) where
  -- with one more in the limit or in the added number, and with references that meet at least what they met, a position
  -- meets at least what it met
  abbrev pub Widens : Type 0
  Widens = (m m' d d' : ℕ) → m' + d' ≡ suc (m + d) → TakesMore m m' → (deep deep' : Target K X → ℕ → List (Event K X C))
      → ((a : Target K X) (s : ℕ) → Inside (deep a s) (deep' a s)) → (x : X) (t s : ℕ) → Inside (walk m d deep x t s) (walk m' d' deep' x t s)

  -- one more in the added number
  pub deeper-wider : Widens → (m d : ℕ) (a : Target K X) (s : ℕ) → Inside (deeper walk m d a s) (deeper walk m (suc d) a s)
  deeper-wider w zero d a s x i = i
  deeper-wider w (suc m) d (element_of n j) s x i = i
  deeper-wider w (suc m) d (goes_to k y u) s x i =
      inside-cons (referred k y u s) (walk m d (deeper walk m d) y u s) (walk m (suc d) (deeper walk m (suc d)) y u s)
      (w m m d (suc d) (omega arith) (λ l h. h) (deeper walk m d) (deeper walk m (suc d)) (deeper-wider w m d) y u s) x i
  deeper-wider w (suc m) d nowhere s x i = i

  -- one more in the limit
  pub deeper-up : Widens → (m d : ℕ) (a : Target K X) (s : ℕ) → Inside (deeper walk m d a s) (deeper walk (suc m) d a s)
  deeper-up w zero d a s x i = absurd i
  deeper-up w (suc m) d (element_of n j) s x i = i
  deeper-up w (suc m) d (goes_to k y u) s x i =
      inside-cons (referred k y u s) (walk m d (deeper walk m d) y u s) (walk (suc m) d (deeper walk (suc m) d) y u s)
      (w m (suc m) d d (omega arith) (λ l h. nat_le-suc l m h) (deeper walk m d) (deeper walk (suc m) d) (deeper-up w m d) y u s) x i
  deeper-up w (suc m) d nowhere s x i = i

  pub walk-wider : Widens → (m d : ℕ) (x : X) (t s : ℕ) → Inside (walk m d (deeper walk m d) x t s) (walk m (suc d) (deeper walk m (suc d)) x t s)
  walk-wider w m d x t s = w m m d (suc d) (omega arith) (λ l h. h) (deeper walk m d) (deeper walk m (suc d)) (deeper-wider w m d) x t s

  pub walk-up : Widens → (m d : ℕ) (x : X) (t s : ℕ) → Inside (walk m d (deeper walk m d) x t s) (walk (suc m) d (deeper walk (suc m) d) x t s)
  walk-up w m d x t s = w m (suc m) d d (omega arith) (λ l h. nat_le-suc l m h) (deeper walk m d) (deeper walk (suc m) d) (deeper-up w m d) x t s

  module _ (value : (m : ℕ) → Below K X → X → (time space : ℕ) → Option PlainValue) (b : Elements) where
    -- the references at m when nothing is held
    abbrev pub bare : ℕ → Below K X
    bare m = below value (nothing_held b) m

    -- where a position has a value at m, and each reference that has one meets the same at one more, the position does
    abbrev pub Settles : Type 0
    Settles = (m : ℕ) (deep deep' : Target K X → ℕ → List (Event K X C))
        → ((a : Target K X) (s : ℕ) (v : PlainValue) → bare m a s ≡ Some v → deep a s ≡ deep' a s) → (x : X) (t s : ℕ) (v : PlainValue)
        → value m (bare m) x t s ≡ Some v → walk m 0 deep x t s ≡ walk (suc m) 0 deep' x t s

    pub deeper-same : Settles → (m : ℕ) (a : Target K X) (s : ℕ) (v : PlainValue) → bare m a s ≡ Some v → deeper walk m 0 a s ≡ deeper walk (suc m) 0 a s
    deeper-same w zero (element_of n j) s v d = absurd (grind arith)
    deeper-same w zero (goes_to k y u) s v d = absurd (grind arith)
    deeper-same w zero nowhere s v d = absurd (grind arith)
    deeper-same w (suc m) (element_of n j) s v d = refl
    deeper-same w (suc m) (goes_to k y u) s v d =
        ap (λ xs. referred k y u s ∷ xs) (w m (deeper walk m 0) (deeper walk (suc m) 0) (deeper-same w m) y u s v d)
    deeper-same w (suc m) nowhere s v d = refl

    -- what a defined approximation needs is the same at each greater limit
    pub walk-same : Settles → (m : ℕ) (x : X) (t s : ℕ) (v : PlainValue) → value m (bare m) x t s ≡ Some v
        → walk m 0 (deeper walk m 0) x t s ≡ walk (suc m) 0 (deeper walk (suc m) 0) x t s
    walk-same w m x t s v d = w m (deeper walk m 0) (deeper walk (suc m) 0) (deeper-same w m) x t s v d
