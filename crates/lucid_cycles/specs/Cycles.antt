-- Cycles of references.
use Rattle.std.specs.Prelude.{◌≤◌, ℕ, List, [], ◌∷◌, ◌≢◌, All, Some, ℤ, pos, ◌+ℤ◌, ◌<ℤ◌, ◌≤ℤ◌}
use Rattle.lucid_tree.specs.Members.{In, AllDiffer}
use Rattle.lucid_cycles.specs.declared.edge.Edge.{Edge}

-- an edge from a name to a name
abbrev pub edge : (from to : ℕ) → (delay : ℤ) → Edge
edge x y w = record { from = Some x; to = y; delay = w }

-- the first of the names, or else z
abbrev pub first_or : ℕ → List ℕ → ℕ
first_or z [] = z
first_or z (x ∷ xs) = x

-- Edges of the graph with these delays lead from each name to the next, and from the last one to z.
abbrev pub Leads : List Edge → (names : List ℕ) → (delays : List ℤ) → (z : ℕ) → Type 0
Leads g [] [] z = Unit {0}
Leads g [] (w ∷ ws) z = ⊥
Leads g (x ∷ xs) [] z = ⊥
Leads g (x ∷ xs) (w ∷ ws) z = In (edge x (first_or z xs) w) g × Leads g xs ws z

-- A cycle, by the names at which its edges begin and the delays of these edges: the edges lead end to start through the names and back
-- to the first, and no name comes twice.
pub record IsCycle (g : List Edge) (names : List ℕ) (delays : List ℤ) : Type 0 where
  pub some : names ≢ []
  pub leads : Leads g names delays (first_or 0 names)
  pub once : AllDiffer names

-- The sum of a cycle's delays.
abbrev pub total : List ℤ → ℤ
total [] = pos 0
total (w ∷ ws) = w +ℤ total ws

-- Every cycle has a sum of at least 1.
abbrev pub EveryCycleDelays : List Edge → Type 0
EveryCycleDelays g = (names : List ℕ) (delays : List ℤ) → IsCycle g names delays → pos 0 <ℤ total delays

-- A cycle whose sum is at most 0, begun at its least name.
pub record IsCycleWithoutDelay (g : List Edge) (names : List ℕ) (delays : List ℤ) : Type 0 where
  pub cycle : IsCycle g names delays
  pub sum : total delays ≤ℤ pos 0
  pub begins : All (λ x. first_or 0 names ≤ x) names
