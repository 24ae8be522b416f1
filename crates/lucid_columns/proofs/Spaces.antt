-- A column at its space is the name at space 0.
use Rattle.lucid_columns.proofs.Common.{◌≡◌, ℕ, zero, suc, ◌+◌, List, [], ◌∷◌, ◌++◌, Some, None, refl, sym, ap, ◌∙◌, append-nil, true≢false, slice_get, block, over_space, with_columns, Option, if◌then◌else◌, nat_le, filter_map}
use Rattle.lucid_lists.proofs.Numbers.{zero_le}
use Rattle.lucid_value.specs.Plain.{PlainValue}
use Rattle.lucid_tree.specs.Tree.{name}
use Rattle.lucid_tree.specs.Rows.{Reader, gives, add_value, with_values, single, run, trace}
use Rattle.lucid_tree.specs.Levels.{Elements, Below, Given, nothing_held, below, deeper, look_up_of}
use Rattle.lucid_tree.specs.Env.{Env, empty, scope, frozen_at, Referent, Position, Aim, name_target}
use Rattle.lucid_tree.specs.Meaning.{value, value_at}
use Rattle.lucid_tree.specs.Demand.{Events, walk, walk_at, frozen_entry, seen}
use Rattle.lucid_columns.specs.Columns.{column}
use Rattle.lucid_columns.specs.Laws.{ColumnsAreSpaces}

some_same : {A : Type 0} {x y : A} → ◌≡◌ {A = Option A} (Some x) (Some y) → x ≡ y
some_same e = cc

absent_some : {A : Type 0} {x : A} → ◌≡◌ {A = Option A} None (Some x) → ⊥
absent_some e = cc

-- the value of a part is the value
read_on : (p : Reader (Option PlainValue)) (o : Option PlainValue) → with_values (add_value o (Some [])) None (λ vs. run (single gives vs) p) ≡ o
read_on p None = refl
read_on p (Some v) = refl

-- and what is met there is what is met
met_on : (m : ℕ) (p : Reader (Option PlainValue)) (see : Reader Events) (xs : Events) (o : Option PlainValue)
    → ((if nat_le 0 m then xs else []) ++ []) ++ with_values (add_value o (Some [])) [] (λ vs. trace m (single gives vs) p see) ≡ xs
met_on m p see xs o = by o ∙ append-nil (if nat_le 0 m then xs else []) ∙ ap (λ c. if c then xs else []) (zero_le m)
  where
    by : (o : Option PlainValue) → ((if nat_le 0 m then xs else []) ++ []) ++ with_values (add_value o (Some [])) []
        (λ vs. trace m (single gives vs) p see) ≡ (if nat_le 0 m then xs else []) ++ []
    by None = append-nil ((if nat_le 0 m then xs else []) ++ [])
    by (Some v) = append-nil ((if nat_le 0 m then xs else []) ++ [])

module _ (m : ℕ) (b : Below Referent Position) (env : Env) (t : ℕ) where
  -- the value at the space of a name is that of the name at space 0
  value_beside : (base j : ℕ) (n : List ℕ) (ns : List (List ℕ)) (i : ℕ) (x : List ℕ) → slice_get (n ∷ ns) i ≡ Some x
      → value_at m b (over_space base j n ns) env t i ≡ b (name_target x env t) 0
  value_beside base j n [] zero x e = ap (λ y. b (name_target y env t) 0) (some_same e)
  value_beside base j n [] (suc i) x e = absurd (absent_some e)
  value_beside base j n (k ∷ ns) zero x e = read_on _ (b (name_target n env t) 0) ∙ ap (λ y. b (name_target y env t) 0) (some_same e)
  value_beside base j n (k ∷ ns) (suc i) x e = read_on _ (value_at m b (over_space base (suc j) k ns) env t i) ∙ value_beside base (suc j) k ns i x e

module _ (g : Given Referent) (m d : ℕ) (deep : Aim → ℕ → Events) (env : Env) (t : ℕ) where
  -- and so is what a walk meets
  walk_beside : (base j : ℕ) (n : List ℕ) (ns : List (List ℕ)) (i : ℕ) (x : List ℕ) → slice_get (n ∷ ns) i ≡ Some x
      → walk_at g m d deep (over_space base j n ns) env t i ≡ deep (name_target x env t) 0
  walk_beside base j n [] zero x e = ap (λ y. deep (name_target y env t) 0) (some_same e)
  walk_beside base j n [] (suc i) x e = absurd (absent_some e)
  walk_beside base j n (k ∷ ns) zero x e =
      met_on m _ _ (deep (name_target n env t) 0) (value_at (m + d) (below value g (m + d)) (name (base + j) n) env t 0)
      ∙ ap (λ y. deep (name_target y env t) 0) (some_same e)
  walk_beside base j n (k ∷ ns) (suc i) x e =
      met_on m _ _ (walk_at g m d deep (over_space base (suc j) k ns) env t i) (value_at (m + d) (below value g (m + d)) (over_space base (suc j) k ns) env t i)
      ∙ walk_beside base (suc j) k ns i x e

-- So each column at its space is what the program with that name as its subject is at space 0.
pub are_spaces : ColumnsAreSpaces
are_spaces (block at x ds) base [] i n e is = absurd (absent_some e)
are_spaces (block at x ds) base (k ∷ ks) i n e is = record {
  values = λ b m t. value_beside m (below value (nothing_held b) m) (scope ds (frozen_at ds t) empty) t base 0 k ks i n e;
  seen = met;
  consults = λ b m d t. ap (filter_map look_up_of) (met b m d t);
}
  where
    met : (b : Elements) (m d t : ℕ) → seen b m d (with_columns (block at x ds) base (k ∷ ks)) empty t i ≡ seen b m d (column (block at x ds) n) empty t 0
    met b m d t =
        ap (λ events. frozen_entry (frozen_at ds t) (scope ds (frozen_at ds t) empty) ++ events)
        (walk_beside (nothing_held b) m d (deeper (walk (nothing_held b)) m d) (scope ds (frozen_at ds t) empty) t base 0 k ks i n e)
are_spaces e base names i n f is = absurd (true≢false (sym is))
