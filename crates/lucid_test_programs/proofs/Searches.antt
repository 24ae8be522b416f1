-- A search, one time further.
use Rattle.lucid_test_programs.proofs.Common.{◌≡◌, ◌≢◌, ℕ, zero, suc, ◌-◌, ◌<◌, ◌+◌, List, [], Option, Some, None, true, refl, ap, ◌∙◌, arith, sub-one, add-one, PlainValue, Stream, PlainTree, tree, no_trees, add_value, Env, nothing_held, below, value, val, elements_of, turn_of, found_by, counted_by}
use Rattle.lucid_value.specs.Plain.{truth}
use Rattle.lucid_tree.proofs.Undone.{alone}
use Rattle.lucid_tree.specs.Rows.{Plan, single, by_test, gives_part, Reader, with_values, run, find_true, count_true}
use Rattle.lucid_tree.specs.Meaning.{part_at as part_value}
use Rattle.lucid_test_programs.specs.Turns.{Turning, turns_on, turns_off, ends}

abbrev by_turning : Turning → Option PlainValue → Option PlainValue → Option PlainValue
by_turning turns_on a b = a
by_turning turns_off a b = b
by_turning (ends o) a b = o

tested : (o : Option PlainValue) (a b : Plan) (r : Reader (Option PlainValue))
    → with_values (add_value o (Some [])) None (λ vs. run (single (λ v. by_test v a b) vs) r) ≡ by_turning (turn_of o) (run a r) (run b r)
tested (Some (truth true)) a b r = refl
tested o a b r = refl

module _ (vs : List Stream) (m : ℕ) (x p : PlainTree) (env : Env) (s : ℕ) where
  abbrev reader : Reader (Option PlainValue)
  reader i u r = part_value m (below value (nothing_held (elements_of vs)) m) (tree x (tree p no_trees)) env i u r

  abbrev look_on : (k j n : ℕ) → Option PlainValue
  look_on k j zero = val (elements_of vs) m x env j s
  look_on k j (suc n) = found_by vs m x p env k (suc j) n s

  step : (k j n : ℕ) → found_by vs m x p env (suc k) j n s ≡ by_turning (turn_of (val (elements_of vs) m p env j s)) (look_on k j n)
      (found_by vs m x p env k (suc j) n s)
  step k j zero =
      tested (val (elements_of vs) m p env j s) (gives_part 0 j s) (find_true k (suc j) 0 s) reader
      ∙ ap (λ o. by_turning (turn_of (val (elements_of vs) m p env j s)) o (found_by vs m x p env k (suc j) 0 s))
      (alone (val (elements_of vs) m x env j s) reader)
  step k j (suc n) = tested (val (elements_of vs) m p env j s) (find_true k (suc j) n s) (find_true k (suc j) (suc n) s) reader

  step_at : (j n : ℕ) → j < m → found_by vs m x p env (m - j) j n s ≡ by_turning (turn_of (val (elements_of vs) m p env j s)) (look_on (m - (j + 1)) j n)
      (found_by vs m x p env (m - (j + 1)) (j + 1) n s)
  step_at j n h = let e : m - j ≡ suc (m - suc j) = omega arith in rw (add-one, e) (step (m - suc j) j n)

  pub off_at : (j n : ℕ) → j < m → turns_off ≡ turn_of (val (elements_of vs) m p env j s)
      → found_by vs m x p env (m - j) j n s ≡ found_by vs m x p env (m - (j + 1)) (j + 1) n s
  off_at j n h e = step_at j n h ∙ rw (← e) refl

  pub met_at : (j n : ℕ) → j < m → turns_on ≡ turn_of (val (elements_of vs) m p env j s) → n ≡ 0
      → found_by vs m x p env (m - j) j n s ≡ val (elements_of vs) m x env j s
  met_at j n h e z = step_at j n h ∙ rw (← e, z) refl

  pub on_at : (j n : ℕ) → j < m → turns_on ≡ turn_of (val (elements_of vs) m p env j s) → n ≢ 0
      → found_by vs m x p env (m - j) j n s ≡ found_by vs m x p env (m - (j + 1)) (j + 1) (n - 1) s
  on_at j zero h e z = absurd (z refl)
  on_at j (suc n) h e z = step_at j (suc n) h ∙ rw (← e, sub-one, add-one) refl

  pub ends_at : (j n : ℕ) (o : Option PlainValue) → j < m → ends o ≡ turn_of (val (elements_of vs) m p env j s) → found_by vs m x p env (m - j) j n s ≡ o
  ends_at j n o h e = step_at j n h ∙ rw (← e) refl

  step_count : (l k j n : ℕ) → counted_by vs m x p env l (suc k) j n s ≡ by_turning (turn_of (val (elements_of vs) m p env j s))
      (counted_by vs m x p env l k (suc j) (suc n) s) (counted_by vs m x p env l k (suc j) n s)
  step_count l k j n = tested (val (elements_of vs) m p env j s) (count_true k (suc j) (suc n) s l) (count_true k (suc j) n s l) reader

  count_at : (t j n : ℕ) → j < t → counted_by vs m x p env t (t - j) j n s ≡ by_turning (turn_of (val (elements_of vs) m p env j s))
      (counted_by vs m x p env t (t - (j + 1)) (j + 1) (n + 1) s) (counted_by vs m x p env t (t - (j + 1)) (j + 1) n s)
  count_at t j n h = let e : t - j ≡ suc (t - suc j) = omega arith in simp add-one (rw e (step_count t (t - suc j) j n))

  pub one_more : (t j n : ℕ) → j < t → turns_on ≡ turn_of (val (elements_of vs) m p env j s)
      → counted_by vs m x p env t (t - j) j n s ≡ counted_by vs m x p env t (t - (j + 1)) (j + 1) (n + 1) s
  one_more t j n h e = count_at t j n h ∙ rw (← e) refl

  pub no_more : (t j n : ℕ) → j < t → turns_off ≡ turn_of (val (elements_of vs) m p env j s)
      → counted_by vs m x p env t (t - j) j n s ≡ counted_by vs m x p env t (t - (j + 1)) (j + 1) n s
  no_more t j n h e = count_at t j n h ∙ rw (← e) refl

  pub count_ends : (t j n : ℕ) (o : Option PlainValue) → j < t → ends o ≡ turn_of (val (elements_of vs) m p env j s)
      → counted_by vs m x p env t (t - j) j n s ≡ o
  count_ends t j n o h e = count_at t j n h ∙ rw (← e) refl
