-- What is meant is exactly what the equations give of what is meant.
use Rattle.lucid_fixed_point.proofs.RuleCommon.{◌≡◌, ℕ, zero, suc, Option, Some, arith, PlainValue, form, name, call, block, PlainTrees, no_trees, tree, Elements, element_of, goes_to, nowhere, nothing_held, below, Env, Aim, name_target, call_target, part_at, value, Means, PartHas, AimHas, max}
use Rattle.lucid_tree.specs.Tree.{Head}
use Rattle.lucid_tree.specs.Rows.{plan, Reader}
use Rattle.lucid_tree.proofs.Plans.{Keeps, run-keeps}
use Rattle.lucid_tree.proofs.LevelGrowth.{below-grows}
use Rattle.lucid_tree.proofs.RunsMeant.{plan-up, reader-up, run-meant}
use Rattle.lucid_tree.proofs.Growth.{part_at-grows, value-grows}
use Rattle.lucid_fixed_point.specs.Equations.{RowGives, IsFixed}

module _ (b : Elements) where
  -- the parts at a limit
  abbrev parts : PlainTrees → Env → ℕ → Reader (Option PlainValue)
  parts es env n i u r = part_at n (below value (nothing_held b) n) es env i u r

  parts-grow : (es : PlainTrees) (env : Env) (n i u r : ℕ) → Keeps (parts es env n i u r) (parts es env (suc n) i u r)
  parts-grow es env n i u r =
      part_at-grows n (below value (nothing_held b) n) (below value (nothing_held b) (suc n)) (below-grows value value-grows (nothing_held b) n) es env i u r

  part-means : (m : ℕ) (es : PlainTrees) (env : Env) (i t s : ℕ) (v : PlainValue) → parts es env m i t s ≡ Some v → PartHas (Means b) es env i t s v
  part-means m no_trees env i t s v d = absurd (grind arith)
  part-means m (tree e es) env zero t s v d = (m, d)
  part-means m (tree e es) env (suc i) t s v d = part-means m es env i t s v d

  part-meant : (es : PlainTrees) (env : Env) (i t s : ℕ) (v : PlainValue) → PartHas (Means b) es env i t s v → (n : ℕ) × (parts es env n i t s ≡ Some v)
  part-meant no_trees env i t s v h = absurd h
  part-meant (tree e es) env zero t s v h = h
  part-meant (tree e es) env (suc i) t s v h = part-meant es env i t s v h

  aim-means : (m : ℕ) (a : Aim) (s : ℕ) (v : PlainValue) → below value (nothing_held b) m a s ≡ Some v → AimHas b (Means b) a s v
  aim-means zero (element_of n j) s v d = absurd (grind arith)
  aim-means zero (goes_to k x u) s v d = absurd (grind arith)
  aim-means zero nowhere s v d = absurd (grind arith)
  aim-means (suc m) (element_of n j) s v d = d
  aim-means (suc m) (goes_to k x u) s v d = (m, d)
  aim-means (suc m) nowhere s v d = absurd (grind arith)

  aim-meant : (a : Aim) (s : ℕ) (v : PlainValue) → AimHas b (Means b) a s v → (n : ℕ) × (below value (nothing_held b) n a s ≡ Some v)
  aim-meant (element_of n j) s v h = (1, h)
  aim-meant (goes_to k x u) s v h = (suc h.0, h.1)
  aim-meant nowhere s v h = absurd h

  row-means : (at : ℕ) (f : Head) (es : PlainTrees) (env : Env) (t s : ℕ) (v : PlainValue) → Means b (form at f es) env t s v
      → RowGives (Means b) f es env t s v
  row-means at f es env t s v h = record { limit = h.0; reader = parts es env h.0; reads = part-means h.0 es env; value = h.1 }

  row-meant : (at : ℕ) (f : Head) (es : PlainTrees) (env : Env) (t s : ℕ) (v : PlainValue) → RowGives (Means b) f es env t s v
      → Means b (form at f es) env t s v
  row-meant at f es env t s v h =
      let g = run-meant (parts es env) (parts-grow es env) h.reader (λ i u r w k. part-meant es env i u r w (h.reads i u r w k)) (plan h.limit f t s) v
      h.value in
      let n : ℕ = max h.limit g.0 in (
        n,
        run-keeps (plan-up h.limit n (omega arith) f t s) (parts es env g.0) (parts es env n)
            (reader-up (parts es env) (parts-grow es env) g.0 n (omega arith)) v g.1,
      )

  pub meaning-is-fixed : IsFixed b (Means b)
  meaning-is-fixed (form at f es) env t s v = (row-means at f es env t s v, row-meant at f es env t s v)
  meaning-is-fixed (name at n) env t s v = ((λ h. aim-means h.0 (name_target n env t) s v h.1), aim-meant (name_target n env t) s v)
  meaning-is-fixed (call at n es) env t s v =
      ((λ h. aim-means h.0 (call_target at n es env env t) s v h.1), aim-meant (call_target at n es env env t) s v)
  meaning-is-fixed (block at e ds) env t s v = ((λ h. h), (λ h. h))
