-- Potentials of a graph's names. The factor A is the number of the names, but at least 1.
use Rattle.std.specs.Prelude.{◌≡◌, ◌≤◌, ℕ, ◌+◌, List, get_or, length, All, Option, Some, None, ℤ, pos, ◌+ℤ◌, ◌*ℤ◌, ◌≤ℤ◌}
use Rattle.lucid_cycles.specs.declared.edge.Edge.{Edge}
use Rattle.lucid_cycles.specs.Graph.{factor_of}

-- the potential of a name
abbrev pub potential : (potentials : List ℕ) → (name : ℕ) → ℕ
potential p x = get_or p x 0

-- an edge from a name x to a name y with delay w asks that p(x) is at least p(y) + 1 - A * w
abbrev pub FallsFrom : (factor : ℕ) → (potentials : List ℕ) → (from : Option ℕ) → (to : ℕ) → (delay : ℤ) → Type 0
FallsFrom a p (Some x) y w = pos (potential p y + 1) ≤ℤ (pos (potential p x) +ℤ (pos a *ℤ w))
FallsFrom a p None y w = Unit {0}

abbrev pub Falls : (factor : ℕ) → (potentials : List ℕ) → Edge → Type 0
Falls a p e = FallsFrom a p e.from e.to e.delay

-- Potentials: a number of at least 0 for each name, such that each edge between names has what it asks.
pub record ArePotentials (g : List Edge) (names : ℕ) (p : List ℕ) : Type 0 where
  pub each : length p ≡ names
  pub fall : All (Falls (factor_of names) p) g

-- The least potentials, place by place.
pub record AreLeastPotentials (g : List Edge) (names : ℕ) (p : List ℕ) : Type 0 where
  pub are : ArePotentials g names p
  pub least : (q : List ℕ) → ArePotentials g names q → (x : ℕ) → potential p x ≤ potential q x

-- an edge from the program to a name y with delay w asks that the number added is at least 2 more than p(y) - A * w
abbrev pub AddsFrom : (factor : ℕ) → (potentials : List ℕ) → (add : ℕ) → (from : Option ℕ) → (to : ℕ) → (delay : ℤ) → Type 0
AddsFrom a p c (Some x) y w = Unit {0}
AddsFrom a p c None y w = pos (potential p y + 2) ≤ℤ (pos c +ℤ (pos a *ℤ w))

abbrev pub Adds : (factor : ℕ) → (potentials : List ℕ) → (add : ℕ) → Edge → Type 0
Adds a p c e = AddsFrom a p c e.from e.to e.delay

-- The number is at least 2 more than 0, and than p(y) - A * w for each edge from the program.
pub record IsEnoughAdded (g : List Edge) (names : ℕ) (p : List ℕ) (add : ℕ) : Type 0 where
  pub two : 2 ≤ add
  pub adds : All (Adds (factor_of names) p add) g

-- The number is 2 more than the greatest of 0 and these.
pub record IsLeastAdded (g : List Edge) (names : ℕ) (p : List ℕ) (add : ℕ) : Type 0 where
  pub enough : IsEnoughAdded g names p add
  pub least : (c : ℕ) → IsEnoughAdded g names p c → add ≤ c
