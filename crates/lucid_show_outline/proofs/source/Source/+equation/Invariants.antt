use Rattle.std.proofs.Common.{◌≡◌, ◌+◌, ◌*◌, map, take}
use Rattle.lucid_show_outline.specs.Equations.{equation, plain_parts}
use Rattle.lucid_show_outline.specs.Views.{view_of}
use Rattle.lucid_show_outline.proofs.source.Source.+equation.Given as goal

abbrev pub decreases-equation : goal.decreases-equation
decreases-equation l = 5 * l.levels

abbrev pub decreases-equations : goal.decreases-equations
decreases-equations l = 5 * l.levels + 1

abbrev pub decreases-equation_by : goal.decreases-equation_by
decreases-equation_by l = 5 * l.levels + 2

abbrev pub decreases-equation_at : goal.decreases-equation_at
decreases-equation_at l = 5 * l.levels + 3

abbrev pub decreases-equation_of : goal.decreases-equation_of
decreases-equation_of l = 5 * l.levels + 4

-- the equations so far
abbrev pub invariant-equations-loop-number : goal.invariant-equations-loop-number
invariant-equations-loop-number l = plain_parts l.parts.items ≡ map (equation l.levels (view_of l.self)) (take l.number-index l.numbers)
