-- What the way back through the rounds gives.
use Rattle.std.specs.Prelude.{ℕ, List, ℤ, pos, ◌≤ℤ◌}
use Rattle.lucid_cycles.specs.declared.edge.Edge.{Edge}
use Rattle.lucid_cycles.specs.declared.judgment.Judgment.{Judgment}
use Rattle.lucid_cycles.specs.declared.judgment.Judgment.TheVariants.{Enough, Cycle}
use Rattle.lucid_cycles.specs.Cycles.{IsCycle, total, IsCycleWithoutDelay}

-- a cycle with a sum of at most 0, begun anywhere
pub record Closed (g : List Edge) (names : List ℕ) (delays : List ℤ) : Type 0 where
  pub cycle : IsCycle g names delays
  pub sum : total delays ≤ℤ pos 0

-- the judgment is a cycle of the graph
abbrev pub IsJudgedCycle : List Edge → Judgment → Type 0
IsJudgedCycle g (Enough f c p) = ⊥
IsJudgedCycle g (Cycle names delays) = IsCycleWithoutDelay g names delays
