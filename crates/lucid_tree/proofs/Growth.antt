-- A defined approximation of a tree is the same at each greater limit.
use Rattle.lucid_tree.proofs.Common.{◌≡◌, ℕ, zero, suc, ◌≤◌, max, Some, arith, PlainValue, PlainTree, form, name, call, block, PlainTrees, no_trees, tree, Elements, Given, nothing_held, Below, Env, scope, frozen_at, Referent, Position, Aim, name_target, call_target, value_at, part_at, value, hval, val, Means}
use Rattle.lucid_tree.proofs.Plans.{Keeps, run-keeps, plan-grows}
use Rattle.lucid_tree.proofs.LevelGrowth.{Grows, approximation-up}

mutual
  pub value_at-grows : (m : ℕ) (b b' : Below Referent Position) → ((a : Aim) (s : ℕ) → Keeps (b a s) (b' a s)) → (e : PlainTree) (env : Env) (t s : ℕ)
      → Keeps (value_at m b e env t s) (value_at (suc m) b' e env t s)
  value_at-grows m b b' h (form at f es) env t s =
      run-keeps (plan-grows m f t s) (λ i u r. part_at m b es env i u r) (λ i u r. part_at (suc m) b' es env i u r)
      (λ i u r. part_at-grows m b b' h es env i u r)
  value_at-grows m b b' h (name at n) env t s = h (name_target n env t) s
  value_at-grows m b b' h (call at n es) env t s = h (call_target at n es env env t) s
  value_at-grows m b b' h (block at e ds) env t s = value_at-grows m b b' h e (scope ds (frozen_at ds t) env) t s

  pub part_at-grows : (m : ℕ) (b b' : Below Referent Position) → ((a : Aim) (s : ℕ) → Keeps (b a s) (b' a s)) → (es : PlainTrees) (env : Env) (i t s : ℕ)
      → Keeps (part_at m b es env i t s) (part_at (suc m) b' es env i t s)
  part_at-grows m b b' h no_trees env i t s x e = e
  part_at-grows m b b' h (tree e es) env zero t s x d = value_at-grows m b b' h e env t s x d
  part_at-grows m b b' h (tree e es) env (suc i) t s x d = part_at-grows m b b' h es env i t s x d

pub value-grows : Grows value
value-grows m b b' h x t s = value_at-grows m b b' h x.tree x.env t s

pub hval-up : (g : Given Referent) (m n : ℕ) → m ≤ n → (e : PlainTree) (env : Env) (t s : ℕ) → Keeps (hval g m e env t s) (hval g n e env t s)
hval-up g m n h e env t s = approximation-up value value-grows g m n h (record { tree = e; env = env }) t s

pub val-up : (b : Elements) (m n : ℕ) → m ≤ n → (e : PlainTree) (env : Env) (t s : ℕ) → Keeps (val b m e env t s) (val b n e env t s)
val-up b = hval-up (nothing_held b)

-- so at most one value is meant
pub meant-once : (b : Elements) (e : PlainTree) (env : Env) (t s : ℕ) (v w : PlainValue) → Means b e env t s v → Means b e env t s w → v ≡ w
meant-once b e env t s v w h g =
    let p : val b (max h.0 g.0) e env t s ≡ Some v = val-up b h.0 (max h.0 g.0) (omega arith) e env t s v h.1 in
    let q : val b (max h.0 g.0) e env t s ≡ Some w = val-up b g.0 (max h.0 g.0) (omega arith) e env t s w g.1 in
    cc
