-- A part by its number, and the tree of that number.
use Rattle.lucid_fixed_point.proofs.RuleCommon.{◌≡◌, ℕ, zero, suc, Option, Some, None, refl, subst, arith, PlainValue, PlainTree, PlainTrees, no_trees, tree, Env, tree_at, Relation, PartHas}

pub none_read : (o : Option PlainValue) → ((w : PlainValue) → o ≡ Some w → ⊥) → o ≡ None
none_read None h = refl
none_read (Some w) h = absurd (h w refl)

-- a part that is not there has no value
pub no_part : (R : Relation) (es : PlainTrees) (env : Env) (i t s : ℕ) (v : PlainValue) → tree_at es i ≡ None → PartHas R es env i t s v → ⊥
no_part R no_trees env i t s v e h = h
no_part R (tree x es) env zero t s v e h = absurd (grind arith)
no_part R (tree x es) env (suc i) t s v e h = no_part R es env i t s v e h

-- the part that is there has it
pub this_part : (R : Relation) (es : PlainTrees) (env : Env) (i t s : ℕ) (x : PlainTree) (v : PlainValue) → tree_at es i ≡ Some x → PartHas R es env i t s v
    → R x env t s v
this_part R no_trees env i t s x v e h = absurd h
this_part R (tree y es) env zero t s x v e h = let same : y ≡ x = cc in subst (λ z. R z env t s v) same h
this_part R (tree y es) env (suc i) t s x v e h = this_part R es env i t s x v e h

pub part_there : (R : Relation) (es : PlainTrees) (env : Env) (i t s : ℕ) (v : PlainValue) → (tree_at es i ≡ None → ⊥)
    → ((x : PlainTree) → tree_at es i ≡ Some x → R x env t s v) → PartHas R es env i t s v
part_there R no_trees env i t s v n h = n refl
part_there R (tree y es) env zero t s v n h = h y refl
part_there R (tree y es) env (suc i) t s v n h = part_there R es env i t s v n h
