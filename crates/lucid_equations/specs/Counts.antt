-- How many different items a list has; and what a table's root visits and enters over a list of points.
use Rattle.std.specs.Prelude.{◌≡◌, ℕ, List, length}
use Rattle.std.specs.List.{flat_map}
use Rattle.lucid_value.specs.Plain.{PlainValue}
use Rattle.lucid_tree.specs.Members.{AllDiffer, Inside}
use Rattle.lucid_tree.specs.Levels.{Elements}
use Rattle.lucid_tags.specs.Contexts.{Context}
use Rattle.lucid_equations.specs.Nodes.{Equations}
use Rattle.lucid_equations.specs.Datons.{Daton}
use Rattle.lucid_equations.specs.Visits.{visited_datons, visited_values, visited_contexts}

-- The list has n different items: a list of n items that all differ has the same items.
pub record HasDistinct {A : Type 0} (xs : List A) (n : ℕ) : Type 0 where
  pub items : List A
  pub once : AllDiffer items
  pub inside : Inside items xs
  pub outside : Inside xs items
  pub size : length items ≡ n

-- points: a time and a space
abbrev pub Points : Type 0
Points = List (ℕ × ℕ)

-- the datons that a table's root visits, and those with their values, over a list of points
abbrev pub datons : Equations → Elements → (m d : ℕ) → Points → List (Daton × ℕ)
datons p b m d points = flat_map (λ x. visited_datons p b m d x.0 x.1) points

abbrev pub valued_datons : Equations → Elements → ℕ → Points → List (Daton × ℕ × PlainValue)
valued_datons p b m points = flat_map (λ x. visited_values p b m x.0 x.1) points

-- the contexts that it enters
abbrev pub contexts : Equations → Elements → (m d : ℕ) → Points → List Context
contexts p b m d points = flat_map (λ x. visited_contexts p b m d x.0 x.1) points
