-- Rounds: they stay below all potentials, and where nothing rises there are potentials.
use Rattle.lucid_cycles.proofs.Common.{◌≡◌, ℕ, ◌+◌, ◌<◌, ◌≤◌, List, ◌⊎◌, inl, inr, Option, Some, arith, ℤ, pos, ◌+ℤ◌, ◌≤ℤ◌, All, ints, All-weaker, In, Edge, edge, potential, Falls, Raises, RaisesFrom, IsDue, IsRound}
use Rattle.std.proofs.Common.{None}
use Rattle.lucid_cycles.specs.Potentials.{FallsFrom}
use Rattle.lucid_cycles.proofs.Sums.{by}
use Rattle.lucid_cycles.proofs.Lists.{all-in}

abbrev pub Below : List ℕ → List ℕ → Type 0
Below p q = (x : ℕ) → potential p x ≤ potential q x

due-below : (p r q x : ℕ) (t : ℤ) → pos (p + 1) ≡ pos q +ℤ t → p ≤ r → pos (r + 1) ≤ℤ (pos x +ℤ t) → q ≤ x
due-below p r q x t e h f = omega (arith, ints)

due-or : (g : List Edge) (a : ℕ) (p r : List ℕ) → All (Falls a r) g → Below p r → (x q : ℕ) → (q ≡ potential p x) ⊎ IsDue g a p x q → q ≤ potential r x
due-or g a p r f h x q (inl e) = omega (arith, e, h x)
due-or g a p r f h x q (inr d) =
    due-below (potential p d.to) (potential r d.to) q (potential r x) (by a d.delay) d.is (h d.to) (all-in (Falls a r) (edge x d.to d.delay) g d.stands f)

-- a round stays below all potentials
pub round-below : (g : List Edge) (a : ℕ) (p q r : List ℕ) → IsRound g a p q → All (Falls a r) g → Below p r → Below q r
round-below g a p q r d f h x = due-or g a p r f h x (potential q x) (d.due x)

lower : (y x q : ℕ) (t : ℤ) → q ≤ x → pos (y + 1) ≤ℤ (pos q +ℤ t) → pos (y + 1) ≤ℤ (pos x +ℤ t)
lower y x q t l f = omega (arith, ints)

falls-from : (a : ℕ) (p q : List ℕ) → Below q p → (y : ℕ) (w : ℤ) (from : Option ℕ) → RaisesFrom a p q from y w → FallsFrom a p from y w
falls-from a p q h y w None f = tt
falls-from a p q h y w (Some x) f = lower (potential p y) (potential p x) (potential q x) (by a w) (h x) f

-- where nothing rises, they are potentials
pub settled : (g : List Edge) (a : ℕ) (p q : List ℕ) → IsRound g a p q → Below q p → All (Falls a p) g
settled g a p q d h = All-weaker (Raises a p q) (Falls a p) (λ e f. falls-from a p q h e.to e.delay e.from f) g d.raises

next-rises-by : (y z x w : ℕ) (t : ℤ) → pos (y + 1) ≤ℤ (pos x +ℤ t) → pos (z + 1) ≡ pos w +ℤ t → x < w → y < z
next-rises-by y z x w t h e l = omega (arith, ints)

-- the end of an edge that makes a name rise rose in the round before
pub next-rises : (g : List Edge) (a : ℕ) (p q : List ℕ) (x y : ℕ) (w : ℤ) (value : ℕ) → IsRound g a p q → In (edge x y w) g
    → pos (potential q y + 1) ≡ pos value +ℤ by a w → potential q x < value
    → potential p y < potential q y
next-rises g a p q x y w value d i e l = next-rises-by (potential p y) (potential q y) (potential q x) value (by a w)
    (all-in (Raises a p q) (edge x y w) g i d.raises) e l
