-- What is referred to and entered over a list of points, as counts of a table's datons and contexts are.
use Rattle.std.specs.Prelude.{ℕ, List}
use Rattle.std.specs.List.{flat_map}
use Rattle.lucid_value.specs.Plain.{PlainValue}
use Rattle.lucid_tree.specs.Tree.{PlainTree}
use Rattle.lucid_tree.specs.Levels.{Elements}
use Rattle.lucid_tree.specs.Env.{Env, empty, Referent}
use Rattle.lucid_tree.specs.Demand.{refers, refers_with_values, enters}
use Rattle.lucid_equations.specs.Counts.{Points}

-- the entries that a tree refers to in the empty environment, and those with their values, over a list of points
abbrev pub entries : Elements → (m d : ℕ) → PlainTree → Points → List (Referent × ℕ)
entries b m d e points = flat_map (λ x. refers b m d e empty x.0 x.1) points

abbrev pub valued_entries : Elements → ℕ → PlainTree → Points → List (Referent × ℕ × PlainValue)
valued_entries b m e points = flat_map (λ x. refers_with_values b m e empty x.0 x.1) points

-- the environments that it enters
abbrev pub environments : Elements → (m d : ℕ) → PlainTree → Points → List Env
environments b m d e points = flat_map (λ x. enters b m d e empty x.0 x.1) points
