-- The approximations of a tree, and what it means: the least fixed point of its equations, as the limit of its approximations
-- (Wadge and Ashcroft's equations, with this language's own rules for `upon`, `attime`, end of data, error, current names and
-- space).
use Rattle.std.specs.Prelude.{◌≡◌, ℕ, zero, suc, Option, Some, None}
use Rattle.lucid_value.specs.Plain.{PlainValue}
use Rattle.lucid_tree.specs.Tree.{PlainTree, form, name, call, block, PlainTrees, no_trees, tree}
use Rattle.lucid_tree.specs.Rows.{plan, run}
use Rattle.lucid_tree.specs.Levels.{Elements, Given, nothing_held, Below, approximation}
use Rattle.lucid_tree.specs.Env.{Env, scope, frozen_at, Referent, Position, name_target, call_target}

-- The value of a tree at m, where the references have the values `b`.
abbrev mutual
  pub value_at : (m : ℕ) → Below Referent Position → PlainTree → Env → (time space : ℕ) → Option PlainValue
  value_at m b (form at f es) env t s = run (plan m f t s) (λ i u r. part_at m b es env i u r)
  value_at m b (name at n) env t s = b (name_target n env t) s
  value_at m b (call at n es) env t s = b (call_target at n es env env t) s
  value_at m b (block at e ds) env t s = value_at m b e (scope ds (frozen_at ds t) env) t s

  -- that of a part, by its number
  pub part_at : (m : ℕ) → Below Referent Position → PlainTrees → Env → (part time space : ℕ) → Option PlainValue
  part_at m b no_trees env i t s = None
  part_at m b (tree e es) env zero t s = value_at m b e env t s
  part_at m b (tree e es) env (suc i) t s = part_at m b es env i t s

-- The value at a position.
abbrev pub value : (m : ℕ) → Below Referent Position → Position → (time space : ℕ) → Option PlainValue
value m b x t s = value_at m b x.tree x.env t s

-- The approximation m with held values: a reference that is held has its held value at any m, 0 too.
abbrev pub hval : Given Referent → ℕ → PlainTree → Env → (time space : ℕ) → Option PlainValue
hval g m e env t s = approximation value g m (record { tree = e; env = env }) t s

-- The approximation m: nothing is held.
abbrev pub val : Elements → ℕ → PlainTree → Env → (time space : ℕ) → Option PlainValue
val b m e env t s = hval (nothing_held b) m e env t s

-- The tree means the value at a point: some approximation gives it there. The approximations are those of every limit, and a search looks
-- at every number below its limit: also past the last time, which the limit of no engine reaches.
abbrev pub Means : Elements → PlainTree → Env → (time space : ℕ) → PlainValue → Type 0
Means b e env t s v = (m : ℕ) × (val b m e env t s ≡ Some v)
