-- All arguments of an operator.
use Rattle.lucid_test_programs.proofs.Common.{◌≡◌, ℕ, zero, suc, ◌+◌, ◌<◌, ◌≤◌, List, [], ◌∷◌, ◌++◌, length, get_or, drop, Option, Some, None, refl, ap, sym, ◌∙◌, arith, add-one, drop-cons, drop_of_length-le, PlainValue, algebra, apply, form, PlainTree, tree, no_trees, PlainTrees, trees_of, nodes, nodes_in, count, add_value, Env, nothing_held, below, value, val, Stream, elements_of, Applies, AllApply, each_value, append_assoc, append-nil}
use Rattle.lucid_ops.specs.declared.op.Op.{Op}
use Rattle.lucid_tree.specs.Rows.{arguments, all_values}
use Rattle.lucid_tree.specs.Meaning.{part_at}

-- an argument has no more nodes than all
pub nodes_at : (es : List PlainTree) (i : ℕ) (d : PlainTree) → i < length es → nodes (get_or es i d) ≤ nodes_in (trees_of es)
nodes_at [] i d h = absurd (omega arith)
nodes_at (e ∷ es) zero d h = omega arith
nodes_at (e ∷ es) (suc i) d h = omega (arith, nodes_at es i d (omega arith))

pub applies_at : (es : List PlainTree) (i : ℕ) (d : PlainTree) → i < length es → AllApply (trees_of es) → Applies (get_or es i d)
applies_at [] i d h k = absurd (omega arith)
applies_at (e ∷ es) zero d h k = k.0
applies_at (e ∷ es) (suc i) d h k = applies_at es i d (omega arith) k.1

-- the values of the first trees, before those of the others
abbrev pub before_all : List PlainValue → Option (List PlainValue) → Option (List PlainValue)
before_all vs None = None
before_all vs (Some ws) = Some (vs ++ ws)

pub next_all : (ws : List PlainValue) (v : PlainValue) (o : Option PlainValue) (r : Option (List PlainValue)) → Some v ≡ o
    → before_all ws (add_value o r) ≡ before_all (ws ++ v ∷ []) r
next_all ws v o None h = rw (← h) refl
next_all ws v o (Some us) h = rw (← h) (ap Some (sym (append_assoc ws (v ∷ []) us)))

module _ (vs : List Stream) (m : ℕ) (env : Env) (t s : ℕ) where
  pub each_one : (es : List PlainTree) (i : ℕ) (d : PlainTree) → i < length es → d ≡ get_or es i d
      → each_value vs m (trees_of (drop i es)) env t s ≡ add_value (val (elements_of vs) m d env t s) (each_value vs m (trees_of (drop (i + 1) es)) env t s)
  each_one es i d h is = rw (drop-cons es i d, ← is, add-one) refl

  -- the values of all trees are known once those of the first are, and none is left
  pub none_left : (ws : List PlainValue) (es : List PlainTree) (i : ℕ) → length es ≤ i
      → before_all ws (each_value vs m (trees_of (drop i es)) env t s) ≡ Some ws
  none_left ws es i h = rw (drop_of_length-le es h) (ap Some (append-nil ws))

  -- no value of one tree, none of all
  pub undefined_at : (ws : List PlainValue) (es : List PlainTree) (i : ℕ) (d : PlainTree) → i < length es → d ≡ get_or es i d
      → None ≡ val (elements_of vs) m d env t s → before_all ws (each_value vs m (trees_of (drop i es)) env t s) ≡ None
  undefined_at ws es i d h is none = rw (each_one es i d h is, ← none) refl

  abbrev reader : PlainTrees → ℕ → ℕ → ℕ → Option PlainValue
  reader es i u r = part_at m (below value (nothing_held (elements_of vs)) m) es env i u r

  shift : (e : PlainTree) (es : PlainTrees) (n i : ℕ) → all_values (reader (tree e es)) (arguments n (suc i) t s) ≡ all_values (reader es) (arguments n i t s)
  shift e es zero i = refl
  shift e es (suc n) i = ap (add_value (reader es i t s)) (shift e es n (suc i))

  pub args_all : (es : PlainTrees) → all_values (reader es) (arguments (count es) 0 t s) ≡ each_value vs m es env t s
  args_all no_trees = refl
  args_all (tree e es) = rw (add-one (count es)) (ap (add_value (val (elements_of vs) m e env t s)) (shift e es (count es) 0 ∙ args_all es))

  pub op_none : (at : ℕ) (op : Op) (es : PlainTrees) → None ≡ each_value vs m es env t s
      → None ≡ val (elements_of vs) m (form at (apply op (count es)) es) env t s
  op_none at op es h = rw (args_all es, ← h) refl

  pub op_some : (at : ℕ) (op : Op) (es : PlainTrees) (ws : List PlainValue) → Some ws ≡ each_value vs m es env t s
      → Some (algebra op ws) ≡ val (elements_of vs) m (form at (apply op (count es)) es) env t s
  op_some at op es ws h = rw (args_all es, ← h) refl

  -- as many values as trees
  pub each_count : (es : PlainTrees) (ws : List PlainValue) → Some ws ≡ each_value vs m es env t s → length ws ≡ count es
  each_count no_trees [] h = refl
  each_count no_trees (w ∷ ws) h = absurd (grind arith)
  each_count (tree e es) ws h = counted (val (elements_of vs) m e env t s) (each_value vs m es env t s) ws h (λ us k. each_count es us k)
    where
      counted : (o : Option PlainValue) (r : Option (List PlainValue)) (ws : List PlainValue) → Some ws ≡ add_value o r
          → ((us : List PlainValue) → Some us ≡ r → length us ≡ count es) → length ws ≡ count es + 1
      counted None r ws h k = absurd (grind arith)
      counted (Some v) None ws h k = absurd (grind arith)
      counted (Some v) (Some us) ws h k = let e : ws ≡ v ∷ us = grind arith in rw e (omega (arith, k us refl))
