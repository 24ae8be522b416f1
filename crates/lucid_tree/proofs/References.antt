-- A reference at one more is what it goes on with, and means what that means.
use Rattle.lucid_tree.proofs.Common.{◌≡◌, ℕ, zero, suc, ◌+◌, List, Option, Some, None, refl, sym, ◌∙◌, arith, add-one, get_or, PlainValue, PlainTree, name, call, PlainTrees, PlainDefs, Elements, nothing_held, below, Env, empty, scope, args, plain_def, function_def, current_def, definition, param, tree_at, Referent, name_target, call_target, value, val, Means}
use Rattle.lucid_tree.specs.Env.{to_tree}
use Rattle.lucid_tree.specs.Find.{Outwards, stays, past_block, past_call}
use Rattle.lucid_tree.specs.Laws.{IsOneReference}

-- what a search outwards comes to decides
name-outwards : (n : List ℕ) {env f : Env} (t : ℕ) → Outwards n env f → name_target n env t ≡ name_target n f t
name-outwards n t stays = refl
name-outwards n t (past_block h o) = rw h (name-outwards n t o)
name-outwards n t (past_call h o) = rw h (name-outwards n t o)

call-outwards : (at : ℕ) (n : List ℕ) (es : PlainTrees) (caller : Env) {env f : Env} (t : ℕ) → Outwards n env f
    → call_target at n es caller env t ≡ call_target at n es caller f t
call-outwards at n es caller t stays = refl
call-outwards at n es caller t (past_block h o) = rw h (call-outwards at n es caller t o)
call-outwards at n es caller t (past_call h o) = rw h (call-outwards at n es caller t o)

module _ (b : Elements) where
  -- a tree whose value at each limit is that of a reference which goes on with x in f at u
  module _ (e : PlainTree) (env : Env) (t : ℕ) (k : Referent) (x : PlainTree) (f : Env) (u : ℕ)
      (is : (m s : ℕ) → val b m e env t s ≡ below value (nothing_held b) m (to_tree k x f u) s) where
    later : (m s : ℕ) → val b (m + 1) e env t s ≡ val b m x f u s
    later m s = rw (add-one m) (is (suc m) s)

    there : (s : ℕ) (v : PlainValue) (m : ℕ) → val b m e env t s ≡ Some v → Means b x f u s v
    there s v zero d = absurd (let n : None ≡ Some v = sym (is 0 s) ∙ d in grind arith)
    there s v (suc m) d = (m, sym (is (suc m) s) ∙ d)

    pub one_reference : IsOneReference b e env t x f u
    one_reference =
        record {
          undefined_at_zero = λ s. is 0 s;
          approximation = later;
          meaning = λ s v. ((λ h. there s v h.0 h.1), (λ h. (suc h.0, is (suc h.0) s ∙ h.1)));
        }

  pub plain_name : (n : List ℕ) (env rest : Env) (ds : PlainDefs) (z : Option ℕ) (at d : ℕ) (x : PlainTree) (t : ℕ) → Outwards n env (scope ds z rest)
      → definition n ds ≡ plain_def d x → IsOneReference b (name at n) env t x (scope ds z rest) t
  plain_name n env rest ds z at d x t o h =
      one_reference (name at n) env t (record { at = d; env = scope ds z rest; time = t }) x (scope ds z rest) t (λ m s. rw (name-outwards n t o, h) refl)

  pub called_function : (n : List ℕ) (env rest : Env) (ds : PlainDefs) (z : Option ℕ) (at d : ℕ) (ns : List (List ℕ)) (ats : List ℕ) (es : PlainTrees)
      (x : PlainTree) (t : ℕ) → Outwards n env (scope ds z rest) → definition n ds ≡ function_def d ns ats x
      → IsOneReference b (call at n es) env t x (args ns ats es env (scope ds z rest)) t
  called_function n env rest ds z at d ns ats es x t o h =
      let f : Env = args ns ats es env (scope ds z rest) in
      one_reference (call at n es) env t (record { at = at; env = f; time = t }) x f t (λ m s. rw (call-outwards at n es env t o, h) refl)

  pub parameter : (n : List ℕ) (env caller rest : Env) (ns : List (List ℕ)) (ats : List ℕ) (es : PlainTrees) (at i : ℕ) (x : PlainTree) (t : ℕ)
      → Outwards n env (args ns ats es caller rest) → param n ns ≡ Some i → tree_at es i ≡ Some x → IsOneReference b (name at n) env t x caller t
  parameter n env caller rest ns ats es at i x t o h g =
      one_reference (name at n) env t (record { at = get_or ats i 0; env = args ns ats es caller rest; time = t }) x caller t
      (λ m s. rw (name-outwards n t o, h, g) refl)

  pub current_name : (n : List ℕ) (env rest : Env) (ds : PlainDefs) (at d u : ℕ) (x : PlainTree) (t : ℕ) → Outwards n env (scope ds (Some u) rest)
      → definition n ds ≡ current_def d x → IsOneReference b (name at n) env t x rest u
  current_name n env rest ds at d u x t o h =
      one_reference (name at n) env t (record { at = d; env = scope ds (Some u) rest; time = 0 }) x rest u (λ m s. rw (name-outwards n t o, h) refl)

  pub free_name : (m : ℕ) (n : List ℕ) (env : Env) (at t s : ℕ) → Outwards n env empty
      → (val b 0 (name at n) env t s ≡ None) × (val b (m + 1) (name at n) env t s ≡ b n t)
  free_name m n env at t s o = (rw (name-outwards n t o) refl, rw (add-one m, name-outwards n t o) refl)
