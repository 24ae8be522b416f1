-- What a tree's approximation meets grows with the limit and with the added number.
use Rattle.lucid_tree.proofs.Common.{◌≡◌, ℕ, zero, suc, ◌+◌, [], PlainTree, form, name, call, block, PlainTrees, no_trees, tree, Inside, Elements, Given, nothing_held, below, Env, scope, frozen_at, Referent, Aim, name_target, call_target, part_at, value, Events, entry_of, frozen_entry, walk_at, walk_part, walk, seen}
use Rattle.lucid_tree.specs.Levels.{look_up_of}
use Rattle.lucid_tree.specs.Demand.{consults}
use Rattle.lucid_tree.proofs.Plans.{plan-grows}
use Rattle.lucid_tree.proofs.Members.{inside_itself, inside-after, inside-read}
use Rattle.lucid_tree.proofs.Traces.{TakesMore, trace-inside}
use Rattle.lucid_tree.proofs.LevelGrowth.{below-grows}
use Rattle.lucid_tree.proofs.LevelWalks.{Widens, walk-wider, walk-up}
use Rattle.lucid_tree.proofs.Growth.{part_at-grows, value-grows}

mutual
  walk_at-widens : (g : Given Referent) (m m' d d' : ℕ) → m' + d' ≡ suc (m + d) → TakesMore m m' → (deep deep' : Aim → ℕ → Events)
      → ((a : Aim) (s : ℕ) → Inside (deep a s) (deep' a s)) → (e : PlainTree) (env : Env) (t s : ℕ)
      → Inside (walk_at g m d deep e env t s) (walk_at g m' d' deep' e env t s)
  walk_at-widens g m m' d d' h l deep deep' k (form at f es) env t s =
      rw h (trace-inside m m' (plan-grows (m + d) f t s) (λ i u r. part_at (m + d) (below value g (m + d)) es env i u r)
      (λ i u r. part_at (suc (m + d)) (below value g (suc (m + d))) es env i u r) (λ i u r. walk_part g m d deep es env i u r)
      (λ i u r. walk_part g m' d' deep' es env i u r) l
      (λ i u r. part_at-grows (m + d) (below value g (m + d)) (below value g (suc (m + d))) (below-grows value value-grows g (m + d)) es env i u r)
      (λ i u r. walk_part-widens g m m' d d' h l deep deep' k es env i u r))
  walk_at-widens g m m' d d' h l deep deep' k (name at n) env t s = k (name_target n env t) s
  walk_at-widens g m m' d d' h l deep deep' k (call at n es) env t s =
      inside-after (entry_of (call_target at n es env env t)) _ _ (k (call_target at n es env env t) s)
  walk_at-widens g m m' d d' h l deep deep' k (block at e ds) env t s =
      inside-after (frozen_entry (frozen_at ds t) (scope ds (frozen_at ds t) env)) _ _
      (walk_at-widens g m m' d d' h l deep deep' k e (scope ds (frozen_at ds t) env) t s)

  walk_part-widens : (g : Given Referent) (m m' d d' : ℕ) → m' + d' ≡ suc (m + d) → TakesMore m m' → (deep deep' : Aim → ℕ → Events)
      → ((a : Aim) (s : ℕ) → Inside (deep a s) (deep' a s)) → (es : PlainTrees) (env : Env) (i t s : ℕ)
      → Inside (walk_part g m d deep es env i t s) (walk_part g m' d' deep' es env i t s)
  walk_part-widens g m m' d d' h l deep deep' k no_trees env i t s = inside_itself []
  walk_part-widens g m m' d d' h l deep deep' k (tree e es) env zero t s = walk_at-widens g m m' d d' h l deep deep' k e env t s
  walk_part-widens g m m' d d' h l deep deep' k (tree e es) env (suc i) t s = walk_part-widens g m m' d d' h l deep deep' k es env i t s

pub walk-widens : (g : Given Referent) → Widens (walk g)
walk-widens g m m' d d' h l deep deep' k x t s = walk_at-widens g m m' d d' h l deep deep' k x.tree x.env t s

-- all that is seen
pub seen-wider : (b : Elements) (m d : ℕ) (e : PlainTree) (env : Env) (t s : ℕ) → Inside (seen b m d e env t s) (seen b m (suc d) e env t s)
seen-wider b m d e env t s = walk-wider (walk (nothing_held b)) (walk-widens (nothing_held b)) m d (record { tree = e; env = env }) t s

pub seen-up : (b : Elements) (m d : ℕ) (e : PlainTree) (env : Env) (t s : ℕ) → Inside (seen b m d e env t s) (seen b (suc m) d e env t s)
seen-up b m d e env t s = walk-up (walk (nothing_held b)) (walk-widens (nothing_held b)) m d (record { tree = e; env = env }) t s

-- and what is consulted
pub consults-wider : (b : Elements) (m d : ℕ) (e : PlainTree) (env : Env) (t s : ℕ) → Inside (consults b m d e env t s) (consults b m (suc d) e env t s)
consults-wider b m d e env t s = inside-read look_up_of (seen b m d e env t s) (seen b m (suc d) e env t s) (seen-wider b m d e env t s)

pub consults-up : (b : Elements) (m d : ℕ) (e : PlainTree) (env : Env) (t s : ℕ) → Inside (consults b m d e env t s) (consults b (suc m) d e env t s)
consults-up b m d e env t s = inside-read look_up_of (seen b m d e env t s) (seen b (suc m) d e env t s) (seen-up b m d e env t s)
