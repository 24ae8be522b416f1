-- What the evaluator asks of trees and environments: fewer than 2^31 nodes, on which its measure rests, and operators with as many
-- arguments as their arities say.
use Rattle.std.specs.Prelude.{◌≡◌, ℕ, ◌<◌, ◌^◌, Option, Some, None}
use Rattle.lucid_ops.specs.Arity.{arity}
use Rattle.lucid_tree.specs.Tree.{Head, apply, PlainTree, PlainTrees, PlainDefs}
use Rattle.lucid_tree.specs.Each.{EachForm, EachFormIn, EachFormInDefs}
use Rattle.lucid_tree.specs.Size.{count, nodes_in, nodes_in_defs}
use Rattle.lucid_tree.specs.Env.{Env, empty, scope, args}
use Rattle.lucid_test_programs.specs.declared.eval.Point.{Point}
use Rattle.lucid_test_programs.specs.View.{env_of}

abbrev pub FitsArity : Head → PlainTrees → Type 0
FitsArity (apply op n) es = count es ≡ arity op
FitsArity _ es = Unit {0}

-- each operator in the tree has as many arguments as its arity says
abbrev pub Applies : PlainTree → Type 0
Applies = EachForm FitsArity

abbrev pub AllApply : PlainTrees → Type 0
AllApply = EachFormIn FitsArity

abbrev pub DefsApply : PlainDefs → Type 0
DefsApply = EachFormInDefs FitsArity

abbrev pub IsTime : Option ℕ → Type 0
IsTime None = Unit {0}
IsTime (Some u) = u < 2 ^ 63

abbrev pub IsUsable : Env → Type 0
IsUsable empty = Unit {0}
IsUsable (scope ds z rest) = (nodes_in_defs ds < 2 ^ 31) × DefsApply ds × IsTime z × IsUsable rest
IsUsable (args ns ats es caller rest) = (nodes_in es < 2 ^ 31) × AllApply es × IsUsable caller × IsUsable rest

-- a point in such an environment, at a time and a space that there are: from 0 to 2^63 - 1
abbrev pub IsPoint : Point → Type 0
IsPoint at = IsUsable (env_of at.env.now) × (at.time < 2 ^ 63) × (at.space < 2 ^ 63)
