-- The equations of programs as one step, without approximations: what a tree has where the others have what a relation says. A solution of
-- the equations is a relation that this step leaves as it is.
use Rattle.std.specs.Prelude.{◌≡◌, ℕ, zero, suc, Option, Some, ◌↔◌}
use Rattle.lucid_value.specs.Plain.{PlainValue}
use Rattle.lucid_tree.specs.Tree.{Head, PlainTree, form, name, call, block, PlainTrees, no_trees, tree}
use Rattle.lucid_tree.specs.Rows.{plan, run, Reader}
use Rattle.lucid_tree.specs.Levels.{Elements, element_of, goes_to, nowhere}
use Rattle.lucid_tree.specs.Env.{Env, scope, frozen_at, Aim, name_target, call_target}

-- A relation of trees, environments, points and values: which values a tree has at a point. `Means b` is one.
abbrev pub Relation : Type 1
Relation = PlainTree → Env → (time space : ℕ) → PlainValue → Type 0

-- The part of that number has the value.
abbrev pub PartHas : Relation → PlainTrees → Env → (part time space : ℕ) → PlainValue → Type 0
PartHas R no_trees env i t s v = ⊥
PartHas R (tree e es) env zero t s v = R e env t s v
PartHas R (tree e es) env (suc i) t s v = PartHas R es env i t s v

-- There is the value where a reference goes on: an element of an input, or a tree at a time.
abbrev pub AimHas : Elements → Relation → Aim → (space : ℕ) → PlainValue → Type 0
AimHas b R (element_of n j) s v = b n j ≡ Some v
AimHas b R (goes_to k x u) s v = R x.tree x.env u s v
AimHas b R nowhere s v = ⊥

-- The row of the form gives the value, at some limit, to a reader that reads of the parts only what they have. A reader has one value at
-- a point; where the relation has several, each reader takes one of them.
pub record RowGives (R : Relation) (f : Head) (es : PlainTrees) (env : Env) (t s : ℕ) (v : PlainValue) : Type 0 where
  pub limit : ℕ
  pub reader : Reader (Option PlainValue)
  pub reads : (i u r : ℕ) (w : PlainValue) → reader i u r ≡ Some w → PartHas R es env i u r w
  pub value : run (plan limit f t s) reader ≡ Some v

-- What the equations give in one step: a form what its row gives, a name and a call what is had where they go on, a block what its subject
-- has behind its definitions.
abbrev pub Gives : Elements → Relation → Relation
Gives b R (form at f es) env t s v = RowGives R f es env t s v
Gives b R (name at n) env t s v = AimHas b R (name_target n env t) s v
Gives b R (call at n es) env t s v = AimHas b R (call_target at n es env env t) s v
Gives b R (block at e ds) env t s v = R e (scope ds (frozen_at ds t) env) t s v

-- Whatever the equations give of the relation stands in it.
abbrev pub IsClosed : Elements → Relation → Type 0
IsClosed b R = (e : PlainTree) (env : Env) (t s : ℕ) (v : PlainValue) → Gives b R e env t s v → R e env t s v

-- Exactly what the equations give of the relation stands in it: it is a solution.
abbrev pub IsFixed : Elements → Relation → Type 0
IsFixed b R = (e : PlainTree) (env : Env) (t s : ℕ) (v : PlainValue) → R e env t s v ↔ Gives b R e env t s v
