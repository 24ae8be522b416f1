-- What is meant stands in each relation that is closed under the equations.
use Rattle.lucid_fixed_point.proofs.RuleCommon.{◌≡◌, ℕ, zero, suc, Some, arith, PlainValue, PlainTree, form, name, call, block, PlainTrees, no_trees, tree, Elements, element_of, goes_to, nowhere, nothing_held, below, Env, scope, frozen_at, Referent, Aim, name_target, call_target, part_at, value, Means, Relation, PartHas, AimHas, IsClosed}
use Rattle.lucid_tree.specs.Levels.{Below}
use Rattle.lucid_tree.specs.Env.{Position}
use Rattle.lucid_tree.specs.Meaning.{value_at, val}

module _ (b : Elements) (R : Relation) (closed : IsClosed b R) where
  module _ (m : ℕ) (refs : Below Referent Position) (have : (a : Aim) (s : ℕ) (v : PlainValue) → refs a s ≡ Some v → AimHas b R a s v) where
    mutual
      value_at-has : (e : PlainTree) (env : Env) (t s : ℕ) (v : PlainValue) → value_at m refs e env t s ≡ Some v → R e env t s v
      value_at-has (form at f es) env t s v d =
          closed (form at f es) env t s v (record {
            limit = m;
            reader = λ i u r. part_at m refs es env i u r;
            reads = λ i u r w k. part_at-has es env i u r w k;
            value = d;
          })
      value_at-has (name at n) env t s v d = closed (name at n) env t s v (have (name_target n env t) s v d)
      value_at-has (call at n es) env t s v d = closed (call at n es) env t s v (have (call_target at n es env env t) s v d)
      value_at-has (block at e ds) env t s v d = closed (block at e ds) env t s v (value_at-has e (scope ds (frozen_at ds t) env) t s v d)

      part_at-has : (es : PlainTrees) (env : Env) (i t s : ℕ) (v : PlainValue) → part_at m refs es env i t s ≡ Some v → PartHas R es env i t s v
      part_at-has no_trees env i t s v d = absurd (grind arith)
      part_at-has (tree e es) env zero t s v d = value_at-has e env t s v d
      part_at-has (tree e es) env (suc i) t s v d = part_at-has es env i t s v d

  below-has : (m : ℕ) (a : Aim) (s : ℕ) (v : PlainValue) → below value (nothing_held b) m a s ≡ Some v → AimHas b R a s v
  below-has zero (element_of n j) s v d = absurd (grind arith)
  below-has zero (goes_to k x u) s v d = absurd (grind arith)
  below-has zero nowhere s v d = absurd (grind arith)
  below-has (suc m) (element_of n j) s v d = d
  below-has (suc m) (goes_to k x u) s v d = value_at-has m (below value (nothing_held b) m) (below-has m) x.tree x.env u s v d
  below-has (suc m) nowhere s v d = absurd (grind arith)

  pub val-has : (m : ℕ) (e : PlainTree) (env : Env) (t s : ℕ) (v : PlainValue) → val b m e env t s ≡ Some v → R e env t s v
  val-has m e env t s v d = value_at-has m (below value (nothing_held b) m) (below-has m) e env t s v d

  pub means-has : (e : PlainTree) (env : Env) (t s : ℕ) (v : PlainValue) → Means b e env t s v → R e env t s v
  means-has e env t s v h = val-has h.0 e env t s v h.1
