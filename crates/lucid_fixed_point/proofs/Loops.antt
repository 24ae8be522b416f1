-- A name whose right side is that name means nothing: what means nothing there is a relation that is closed under the equations.
use Rattle.lucid_fixed_point.proofs.RuleCommon.{◌≡◌, ℕ, List, Option, refl, subst, PlainValue, name, PlainDefs, Elements, goes_to, Env, scope, plain_def, definition, Referent, name_target, Means, Relation, AimHas, IsClosed}
use Rattle.lucid_fixed_point.proofs.Below.{means-has}

-- what a name goes on with is that name, there and then
abbrev GoesToItself : List ℕ → Env → Type 0
GoesToItself n env = (t : ℕ) → (k : Referent) × (c : ℕ) × (name_target n env t ≡ goes_to k (record { tree = name c n; env = env }) t)

abbrev IsNoLoop : Relation
IsNoLoop (name at n) env t s v = ¬ GoesToItself n env
IsNoLoop _ env t s v = Unit {0}

loops-are-out : (b : Elements) → IsClosed b IsNoLoop
loops-are-out b (name at n) env t s v h = λ l. subst (λ a. AimHas b IsNoLoop a s v) (l t).2 h l
loops-are-out b _ env t s v h = tt

pub loop-means-nothing : (b : Elements) (n : List ℕ) (ds : PlainDefs) (z : Option ℕ) (rest : Env) (at d c t s : ℕ) (v : PlainValue)
    → definition n ds ≡ plain_def d (name c n) → ¬ Means b (name at n) (scope ds z rest) t s v
loop-means-nothing b n ds z rest at d c t s v e h =
    means-has b IsNoLoop (loops-are-out b) (name at n) (scope ds z rest) t s v h (λ u. (record { at = d; env = scope ds z rest; time = u }, c, rw e refl))
