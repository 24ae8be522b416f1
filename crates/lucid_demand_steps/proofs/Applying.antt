-- Why an operator's decisions are justified.
use Rattle.lucid_demand_steps.proofs.DecidingCommon.{ℕ, zero, suc, ◌+◌, inl, inr, List, [], ◌∷◌, Option, None, refl, sym, ap, ◌∙◌, subst, arith, is_none, nat_lt, slice_get, slice_index_or, nat_tests, same_Some, PlainValue, arity, Op, Context, apply, at_start, TaskRow, node_at, node_by, constant_at, Node, Table, PlainRow, value_of_part, plain_row, part_number, LookHas, Apply, AskAll, Justified, IsReadyRow}
use Rattle.std.proofs.Common.{◌≡◌, ◌<◌, ◌≤◌, Some}
use Rattle.std.specs.Prelude.{true, false, length}
use Rattle.lucid_tree.specs.Rests.{AllHave, and_then}
use Rattle.lucid_tree.specs.Rows.{arguments}
use Rattle.lucid_equations.specs.Rows.{row_at}
use Rattle.lucid_equations.specs.declared.rows.Node.TheVariants as node
use Rattle.lucid_equations.specs.declared.rows.Node.TheVariants.{Const}
use Rattle.lucid_demand_steps.specs.Ready.{argument_of}
use Rattle.lucid_demand_steps.specs.Justified.{argument_by, argument_at, HaveValues}
use Rattle.lucid_demand_steps.proofs.Got.{value_is_got}
use Rattle.lucid_demand_steps.proofs.OperatorParts.{argument_is_part}

-- An argument that has a value answers the look at it: by its part, or by a constant.
argument_has : (T : Table) (r : PlainRow) (op : Op) (total i n : ℕ) (v : PlainValue) → i < total → part_number T r.task.node i ≡ Some n
    → argument_at T r i n ≡ Some v
    → LookHas T (apply op total) r (record { part = i; time = r.task.time; space = r.task.space; least = 0 }) v
argument_has T r op total i n v low number has = go (row_at T n) refl (value_of_part r i) refl has
  where
    by_part : value_of_part r i ≡ Some v → LookHas T (apply op total) r (record { part = i; time = r.task.time; space = r.task.space; least = 0 }) v
    by_part h = inl (record { index = i; look = (let below : nat_lt i total ≡ true = grind (arith, low, nat_tests) in rw below refl); value = h })

    go : (o : Option Node) → row_at T n ≡ o → (p : Option PlainValue) → value_of_part r i ≡ p → argument_by T o p ≡ Some v
        → LookHas T (apply op total) r (record { part = i; time = r.task.time; space = r.task.space; least = 0 }) v
    go o at (Some w) part h = by_part (part ∙ h)
    go (Some (Const k)) at None part h = inr (record { part = n; number = number; constant = k; is = at; value = same_Some (constant_at T k) v h })
    go o at None part h = absurd (cc)

-- So the values of all arguments answer the looks at them.
arguments_have : (T : Table) (r : PlainRow) (op : Op) (total n i : ℕ) (args : List ℕ) (vs : List PlainValue) → length vs ≡ n → i + n ≤ total
    → ((j k : ℕ) → j < n → slice_get args j ≡ Some k → part_number T r.task.node (i + j) ≡ Some k) → HaveValues (argument_at T r) args i vs
    → AllHave (LookHas T (apply op total) r) (arguments n i r.task.time r.task.space) vs
arguments_have T r op total zero i args [] l low parts h = tt
arguments_have T r op total zero i args (v ∷ vs) l low parts h = absurd (omega (arith, l))
arguments_have T r op total (suc n) i args [] l low parts h = absurd (omega (arith, l))
arguments_have T r op total (suc n) i [] (v ∷ vs) l low parts h = absurd h
arguments_have T r op total (suc n) i (k ∷ args) (v ∷ vs) l low parts h =
    let here : i + 0 ≡ i = omega arith in (
      argument_has T r op total i k v (omega (arith, low)) (subst (λ j. part_number T r.task.node j ≡ Some k) here (parts 0 k (omega arith) refl)) h.0,
      arguments_have T r op total n (suc i) args vs (omega (arith, l)) (omega (arith, low))
          (λ j m lt e. let on : i + suc j ≡ suc i + j = omega arith in
          subst (λ q. part_number T r.task.node q ≡ Some m) on (parts (suc j) m (omega (arith, lt)) e)) h.1,
    )

-- an argument that has a value
pub record HasArgument (T : Table) (r : PlainRow) (i n : ℕ) : Type 0 where
  pub value : PlainValue
  pub has : argument_at T r i n ≡ Some value

module _ (f : ℕ → ℕ → Option PlainValue) where
  one_value : (args : List ℕ) → length args ≡ 3 → (a : PlainValue) → f 0 (slice_index_or args 0 0) ≡ Some a → HaveValues f args 0 (a ∷ [])
  one_value (n ∷ args) l a h = (h, tt)
  one_value args l a h = absurd (omega (arith, l))

  two_values : (args : List ℕ) → length args ≡ 3 → (a b : PlainValue) → f 0 (slice_index_or args 0 0) ≡ Some a → f 1 (slice_index_or args 1 0) ≡ Some b
      → HaveValues f args 0 (a ∷ b ∷ [])
  two_values (n ∷ m ∷ args) l a b h i = (h, (i, tt))
  two_values args l a b h i = absurd (omega (arith, l))

  three_values : (args : List ℕ) → length args ≡ 3 → (a b c : PlainValue) → f 0 (slice_index_or args 0 0) ≡ Some a → f 1 (slice_index_or args 1 0) ≡ Some b
      → f 2 (slice_index_or args 2 0) ≡ Some c
      → HaveValues f args 0 (a ∷ b ∷ c ∷ [])
  three_values (n ∷ m ∷ k ∷ args) l a b c h i j = (h, (i, (j, tt)))
  three_values args l a b c h i j = absurd (omega (arith, l))

module _ (T : Table) (known : List Context) (forest : List (Option TaskRow)) (slot : ℕ) (its : TaskRow) (is : IsReadyRow T known forest slot its.task its) where
  abbrev r : PlainRow
  r = plain_row known its

  argument_told : (i n : ℕ) → argument_at T (plain_row known its) i n ≡ argument_of T forest slot i n
  argument_told i n = ap (argument_by T (row_at T n)) (value_is_got known forest slot its i is.there)

  pub has_argument : (i n : ℕ) → is_none (argument_of T forest slot i n) ≡ false → HasArgument T (plain_row known its) i n
  has_argument i n h = go (argument_of T forest slot i n) (argument_told i n) h
    where
      go : (o : Option PlainValue) → argument_at T r i n ≡ o → is_none o ≡ false → HasArgument T r i n
      go None has n = absurd (cc)
      go (Some v) has n = record { value = v; has = has }

  lacks_argument : (i n : ℕ) → is_none (argument_of T forest slot i n) ≡ true → argument_at T r i n ≡ None
  lacks_argument i n h = go (argument_of T forest slot i n) (argument_told i n) h
    where
      go : (o : Option PlainValue) → argument_at T r i n ≡ o → is_none o ≡ true → argument_at T r i n ≡ None
      go None has n = has
      go (Some v) has n = absurd (cc)

  module _ (op : Op) (args : List ℕ) (there : row_at T its.task.node ≡ Some (node.Apply op args)) (e : node_at T its.task.node ≡ node_by T (node.Apply op args))
    where
      pub asks_all : (i n : ℕ) → i < arity op → slice_get args i ≡ Some n → is_none (argument_of T forest slot i n) ≡ true
          → Justified T known r (AskAll op args)
      asks_all i n low arg none = (there, (i, low, (n, arg, lacks_argument i n none)))

      pub applies : (vs : List PlainValue) → length vs ≡ arity op → HaveValues (argument_at T (plain_row known its)) args 0 vs
          → Justified T known r (Apply op args)
      applies vs l h = (
        there,
        (
          vs,
          l,
          h,
          record {
            form = apply op (arity op);
            nodes = _;
            is = e;
            along = and_then vs at_start (arguments_have T r op (arity op) (arity op) 0 args vs l (omega arith)
                (λ j k low arg. let own : j ≡ 0 + j = omega arith in
                subst (λ q. part_number T its.task.node q ≡ Some k) own (argument_is_part T its.task.node op args there j k low arg)) h);
          },
        ),
      )

      -- the same of one, two and three arguments
      pub applies_one : length args ≡ 3 → arity op ≡ 1 → HasArgument T (plain_row known its) 0 (slice_index_or args 0 0) → Justified T known r (Apply op args)
      applies_one three l a = applies (a.value ∷ []) (sym l) (one_value (argument_at T (plain_row known its)) args three a.value a.has)

      pub applies_two : length args ≡ 3 → arity op ≡ 2 → HasArgument T (plain_row known its) 0 (slice_index_or args 0 0)
          → HasArgument T (plain_row known its) 1 (slice_index_or args 1 0)
          → Justified T known r (Apply op args)
      applies_two three l a b = applies (a.value ∷ b.value ∷ []) (sym l)
          (two_values (argument_at T (plain_row known its)) args three a.value b.value a.has b.has)

      pub applies_three : length args ≡ 3 → arity op ≡ 3 → HasArgument T (plain_row known its) 0 (slice_index_or args 0 0)
          → HasArgument T (plain_row known its) 1 (slice_index_or args 1 0)
          → HasArgument T (plain_row known its) 2 (slice_index_or args 2 0) → Justified T known r (Apply op args)
      applies_three three l a b c =
          applies (a.value ∷ b.value ∷ c.value ∷ []) (sym l)
          (three_values (argument_at T (plain_row known its)) args three a.value b.value c.value a.has b.has c.has)
