-- The laws that what trees mean is the least solution of their equations. Each is the contract of a function of `laws`.
use Rattle.std.specs.Prelude.{◌≡◌, ℕ, List, Option, ◌↔◌}
use Rattle.lucid_value.specs.Plain.{PlainValue}
use Rattle.lucid_tree.specs.Tree.{PlainTree, name, PlainDefs}
use Rattle.lucid_tree.specs.Levels.{Elements}
use Rattle.lucid_tree.specs.Env.{Env, scope, plain_def, definition}
use Rattle.lucid_tree.specs.Meaning.{Means}
use Rattle.lucid_fixed_point.specs.Equations.{Relation, IsClosed, IsFixed}
use Rattle.lucid_fixed_point.specs.Rules.{Derives}

-- What is meant is exactly what the rules derive.
abbrev pub RulesDeriveMeaning : Type 0
RulesDeriveMeaning = (b : Elements) (e : PlainTree) (env : Env) (t s : ℕ) (v : PlainValue) → Means b e env t s v ↔ Derives b e env t s v

-- What is meant is a solution: a tree means a value where and only where its equation gives it, of what the others mean.
abbrev pub MeaningIsFixed : Type 0
MeaningIsFixed = (b : Elements) → IsFixed b (Means b)

-- What is meant stands in the relation, where that is closed under the equations; so it is the least such relation.
abbrev pub LiesIn : Relation → Type 0
LiesIn R = (b : Elements) → IsClosed b R → (e : PlainTree) (env : Env) (t s : ℕ) (v : PlainValue) → Means b e env t s v → R e env t s v

-- A name whose right side is that name means nothing: other solutions give it any value, the least none.
abbrev pub LoopsMeanNothing : Type 0
LoopsMeanNothing =
    (b : Elements) (n : List ℕ) (ds : PlainDefs) (z : Option ℕ) (rest : Env) (at d c t s : ℕ) (v : PlainValue)
    → definition n ds ≡ plain_def d (name c n) → ¬ Means b (name at n) (scope ds z rest) t s v
