-- What undoes what: `first` and `next` undo `fby`, `initial` and `succ` undo `sby`, and `asa` is `first` of `whenever`.
use Rattle.lucid_tree.proofs.Common.{◌≡◌, ℕ, suc, ◌<◌, [], Option, Some, None, refl, ◌∙◌, arith, nat_lt, nat_tests, PlainValue, PlainTree, first_of, next_of, fby_of, whenever_of, gives, run, Reader, single, add_value, with_values, last, Elements, Env, val}
use Rattle.std.proofs.Common.{true}
use Rattle.lucid_tree.specs.Tree.{asa_of, initial_of, succ_of, sby_of}

-- the value of one look alone
pub alone : (o : Option PlainValue) (r : Reader (Option PlainValue)) → with_values (add_value o (Some [])) None (λ vs. run (single gives vs) r) ≡ o
alone None r = refl
alone (Some v) r = refl

module _ (b : Elements) (env : Env) where
  pub first_is : (m i t s : ℕ) (x : PlainTree) → val b m (first_of i x) env t s ≡ val b m x env 0 s
  first_is m i t s x = alone (val b m x env 0 s) _

  pub first-fby : (m i j k t s : ℕ) (x y : PlainTree) → val b m (first_of i (fby_of j x y)) env t s ≡ val b m (first_of k x) env t s
  first-fby m i j k t s x y = rw (first_is m i t s (fby_of j x y), first_is m k t s x) (alone (val b m x env 0 s) _)

  pub next_is : (m i t s : ℕ) (x : PlainTree) → t < last → val b m (next_of i x) env t s ≡ val b m x env (suc t) s
  next_is m i t s x h = let e : nat_lt t last ≡ true = grind (arith, nat_tests) in rw e (alone (val b m x env (suc t) s) _)

  fby_later : (m j t s : ℕ) (x y : PlainTree) → val b m (fby_of j x y) env (suc t) s ≡ val b m y env t s
  fby_later m j t s x y = alone (val b m y env t s) _

  pub next-fby : (m i j t s : ℕ) (x y : PlainTree) → t < last → val b m (next_of i (fby_of j x y)) env t s ≡ val b m y env t s
  next-fby m i j t s x y h = next_is m i t s (fby_of j x y) h ∙ fby_later m j t s x y

  pub asa-whenever : (m i j k t s : ℕ) (x p : PlainTree) → val b m (asa_of i x p) env t s ≡ val b m (first_of j (whenever_of k x p)) env t s
  asa-whenever m i j k t s x p = rw (first_is m j t s (whenever_of k x p)) refl

  initial_is : (m i t s : ℕ) (x : PlainTree) → val b m (initial_of i x) env t s ≡ val b m x env t 0
  initial_is m i t s x = alone (val b m x env t 0) _

  pub initial-sby : (m i j k t s : ℕ) (x y : PlainTree) → val b m (initial_of i (sby_of j x y)) env t s ≡ val b m (initial_of k x) env t s
  initial-sby m i j k t s x y = rw (initial_is m i t s (sby_of j x y), initial_is m k t s x) (alone (val b m x env t 0) _)

  succ_is : (m i t s : ℕ) (x : PlainTree) → s < last → val b m (succ_of i x) env t s ≡ val b m x env t (suc s)
  succ_is m i t s x h = let e : nat_lt s last ≡ true = grind (arith, nat_tests) in rw e (alone (val b m x env t (suc s)) _)

  sby_later : (m j t s : ℕ) (x y : PlainTree) → val b m (sby_of j x y) env t (suc s) ≡ val b m y env t s
  sby_later m j t s x y = alone (val b m y env t s) _

  pub succ-sby : (m i j t s : ℕ) (x y : PlainTree) → s < last → val b m (succ_of i (sby_of j x y)) env t s ≡ val b m y env t s
  succ-sby m i j t s x y h = succ_is m i t s (sby_of j x y) h ∙ sby_later m j t s x y
