-- What the calls answer.
use Rattle.std.specs.Prelude.{◌≡◌, ◌<◌, ℕ, List, [], length}
use Rattle.lucid_tree.specs.Tree.{PlainTree}
use Rattle.lucid_cycles.specs.Judged.{outside, plain_names, most_names, IsFirstOutside}
use Rattle.lucid_cycles.specs.Graph.{Bindings, graph, factor_of}
use Rattle.lucid_cycles.specs.Cycles.{EveryCycleDelays, IsCycleWithoutDelay}
use Rattle.lucid_cycles.specs.Potentials.{ArePotentials, AreLeastPotentials, IsEnoughAdded, IsLeastAdded}
use Rattle.lucid_cycles.specs.declared.edge.Edge.{Edge}
use Rattle.lucid_cycles.specs.declared.judgment.Judgment.{Judgment}
use Rattle.lucid_cycles.specs.declared.judgment.Judgment.TheVariants.{Enough, Cycle}
use Rattle.lucid_cycles.specs.declared.judgment.JudgeRefusal.{JudgeRefusal}
use Rattle.lucid_cycles.specs.declared.judgment.JudgeRefusal.TheVariants.{Outside, TooMany, NoMemory}

-- how many plain names the program has
abbrev pub names_of : PlainTree → ℕ
names_of e = length (plain_names e)

-- The depth A * t + C is enough by these potentials.
pub record IsEnough (e : PlainTree) (b : Bindings) (factor add : ℕ) (p : List ℕ) : Type 0 where
  pub factor_is : factor ≡ factor_of (names_of e)
  pub potentials : ArePotentials (graph e b) (names_of e) p
  pub added : IsEnoughAdded (graph e b) (names_of e) p add

-- The least such depth of a graph with so many names, by the least potentials; and each cycle has a sum of at least 1.
pub record IsLeastEnough (g : List Edge) (names : ℕ) (factor add : ℕ) (p : List ℕ) : Type 0 where
  pub delays : EveryCycleDelays g
  pub factor_is : factor ≡ factor_of names
  pub potentials : AreLeastPotentials g names p
  pub added : IsLeastAdded g names p add

-- The judgment is the graph's.
abbrev pub IsGraphJudgment : List Edge → (names : ℕ) → Judgment → Type 0
IsGraphJudgment g n (Enough f c p) = IsLeastEnough g n f c p
IsGraphJudgment g n (Cycle names delays) = IsCycleWithoutDelay g names delays

-- The judgment is the program's.
abbrev pub IsJudgment : PlainTree → Bindings → Judgment → Type 0
IsJudgment e b j = IsGraphJudgment (graph e b) (names_of e) j

-- The refusal is the program's; want of memory may come at any point.
abbrev pub IsJudgeRefusal : PlainTree → JudgeRefusal → Type 0
IsJudgeRefusal e (Outside at) = IsFirstOutside e at
IsJudgeRefusal e TooMany = (outside e ≡ []) × (most_names < names_of e)
IsJudgeRefusal e NoMemory = Unit {0}
