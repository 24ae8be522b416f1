-- In a well made tree whose names have no fault each call passes an actual: a function has a parameter, and a call as many actuals.
use Rattle.lucid_compile.proofs.Common.{◌≡◌, ℕ, Bool, true, false, ◌&&◌, IsTrue, if◌then◌else◌, length, List, ◌++◌, Option, Some, None, nat_eq, nat_lt, inl, inr, refl, subst, arith, sym, nat_tests, none-some, PlainTree, form, name, call, block, PlainTrees, no_trees, tree, PlainDefs, no_defs, defines, defines_function, defines_current, count, In, is_shaped, are_shaped, defs_are_shaped, Found, absent, plain_def, function_def, current_def, definition, param, same_name, in_left, in_right, Meaning, free, plain_name, parameter, current_name, function, meaning, defined_in, parameter_in, sites, sites_in, outside_sites, inside_sites, Earlier, also, no_names, again_if, repeats, fault_of, call_fault, Arity, first_true, second_true, both_true}
use Rattle.lucid_scope.specs.Scope.{Static, outermost, in_block, in_function}
use Rattle.lucid_scope.specs.Sites.{Site as NameSite, called}

-- a call passes at least one actual
abbrev pub has_some : PlainTrees → Bool
has_some no_trees = false
has_some (tree e es) = true

-- every call in a tree passes at least one actual
abbrev mutual
  pub calls_pass_actuals : PlainTree → Bool
  calls_pass_actuals (form at f es) = all_pass_actuals es
  calls_pass_actuals (name at x) = true
  calls_pass_actuals (call at x es) = has_some es && all_pass_actuals es
  calls_pass_actuals (block at e ds) = calls_pass_actuals e && defs_pass_actuals ds

  pub all_pass_actuals : PlainTrees → Bool
  all_pass_actuals no_trees = true
  all_pass_actuals (tree e es) = calls_pass_actuals e && all_pass_actuals es

  pub defs_pass_actuals : PlainDefs → Bool
  defs_pass_actuals no_defs = true
  defs_pass_actuals (defines at x e ds) = calls_pass_actuals e && defs_pass_actuals ds
  defs_pass_actuals (defines_function at x ns ats e ds) = calls_pass_actuals e && defs_pass_actuals ds
  defs_pass_actuals (defines_current at x e ds) = calls_pass_actuals e && defs_pass_actuals ds

-- the functions in scope have a parameter
abbrev pub ScopesAreShaped : Static → Type 0
ScopesAreShaped outermost = Unit {0}
ScopesAreShaped (in_block ds k) = IsTrue (defs_are_shaped ds) × ScopesAreShaped k
ScopesAreShaped (in_function d ns ats k) = ScopesAreShaped k

abbrev FoundIsShaped : Found → Type 0
FoundIsShaped absent = Unit {0}
FoundIsShaped (plain_def at e) = Unit {0}
FoundIsShaped (function_def at ns ats e) = IsTrue (nat_lt 0 (length ns))
FoundIsShaped (current_def at e) = Unit {0}

abbrev MeaningIsShaped : Meaning → Type 0
MeaningIsShaped free = Unit {0}
MeaningIsShaped (plain_name d e h) = Unit {0}
MeaningIsShaped (parameter d i p h) = Unit {0}
MeaningIsShaped (current_name d e h o) = Unit {0}
MeaningIsShaped (function d ns ats e h) = IsTrue (nat_lt 0 (length ns))

either-shaped : (b : Bool) (x y : Found) → FoundIsShaped x → FoundIsShaped y → FoundIsShaped (if b then x else y)
either-shaped true x y a b = a
either-shaped false x y a b = b

found-shaped : (n : List ℕ) (ds : PlainDefs) → IsTrue (defs_are_shaped ds) → FoundIsShaped (definition n ds)
found-shaped n no_defs h = tt
found-shaped n (defines at x e ds) h = either-shaped (same_name n x) (plain_def at e) (definition n ds) tt (found-shaped n ds (second_true (is_shaped e) _ h))
found-shaped n (defines_function at x ns ats e ds) h =
    let front : IsTrue ((nat_lt 0 (length ns) && nat_eq (length ats) (length ns)) && is_shaped e) = first_true _ (defs_are_shaped ds) h in
    either-shaped (same_name n x) (function_def at ns ats e) (definition n ds) (first_true (nat_lt 0 (length ns)) _ (first_true _ (is_shaped e) front))
    (found-shaped n ds (second_true ((nat_lt 0 (length ns) && nat_eq (length ats) (length ns)) && is_shaped e) _ h))
found-shaped n (defines_current at x e ds) h = either-shaped (same_name n x) (current_def at e) (definition n ds) tt
    (found-shaped n ds (second_true (is_shaped e) _ h))

defined-shaped : (f : Found) (h k : Static) (m : Meaning) → FoundIsShaped f → MeaningIsShaped m → MeaningIsShaped (defined_in f h k m)
defined-shaped absent h k m a b = b
defined-shaped (plain_def at e) h k m a b = tt
defined-shaped (function_def at ns ats e) h k m a b = a
defined-shaped (current_def at e) h k m a b = tt

parameter-shaped : (o : Option ℕ) (d : ℕ) (ats : List ℕ) (h : Static) (m : Meaning) → MeaningIsShaped m → MeaningIsShaped (parameter_in o d ats h m)
parameter-shaped None d ats h m b = b
parameter-shaped (Some i) d ats h m b = tt

meaning-shaped : (x : List ℕ) (k : Static) → ScopesAreShaped k → MeaningIsShaped (meaning x k)
meaning-shaped x outermost h = tt
meaning-shaped x (in_block ds k) h = defined-shaped (definition x ds) (in_block ds k) k (meaning x k) (found-shaped x ds h.0) (meaning-shaped x k h.1)
meaning-shaped x (in_function d ns ats k) h = parameter-shaped (param x ns) d ats (in_function d ns ats k) (meaning x k) (meaning-shaped x k h)

given-some : (at n : ℕ) (m : Meaning) → call_fault at n m ≡ None → MeaningIsShaped m → IsTrue (nat_lt 0 n)
given-some at n free e h = absurd (none-some _ (sym e))
given-some at n (plain_name d t k) e h = absurd (none-some _ (sym e))
given-some at n (parameter d i p k) e h = absurd (none-some _ (sym e))
given-some at n (current_name d t k o) e h = absurd (none-some _ (sym e))
given-some at n (function d ns ats t k) e h = by-count (nat_eq (length ns) n) refl e
  where
    by-count : (b : Bool) → nat_eq (length ns) n ≡ b → (if b then None else Some (Arity at (length ns) n)) ≡ None → IsTrue (nat_lt 0 n)
    by-count true q z = subst (λ v. IsTrue (nat_lt 0 v)) (grind (arith, nat_tests, q)) h
    by-count false q z = absurd (none-some _ (sym z))

some-given : (es : PlainTrees) → IsTrue (nat_lt 0 (count es)) → IsTrue (has_some es)
some-given no_trees h = h
some-given (tree e es) h = refl

abbrev pub NoFaults : List NameSite → Type 0
NoFaults ss = (s : NameSite) → In s ss → fault_of s ≡ None

none-left : (xs ys : List NameSite) → NoFaults (xs ++ ys) → NoFaults xs
none-left xs ys h = λ s i. h s (in_left s xs ys i)

none-right : (xs ys : List NameSite) → NoFaults (xs ++ ys) → NoFaults ys
none-right xs ys h = λ s i. h s (in_right s xs ys i)

mutual
  pub passes : (k : Static) (e : PlainTree) → NoFaults (sites k e) → ScopesAreShaped k → IsTrue (is_shaped e) → IsTrue (calls_pass_actuals e)
  passes k (form at f es) n s t = all-pass k es n s (second_true _ (are_shaped es) t)
  passes k (name at x) n s t = refl
  passes k (call at x es) n s t =
      both_true (has_some es) _ (some-given es (given-some at (count es) (meaning x k) (n (called at x (count es) k) (inl refl)) (meaning-shaped x k s)))
      (all-pass k es (λ y i. n y (inr i)) s t)
  passes k (block at e ds) n s t =
      let q : Static = in_block ds k in
      let inside = none-right (outside_sites k ds) _ n in
      let rest : IsTrue (defs_are_shaped ds) = second_true (is_shaped e) _ t in
      both_true (calls_pass_actuals e) _ (passes q e (none-left (sites q e) _ inside) (rest, s) (first_true (is_shaped e) _ t))
      (defs-pass q k no_names ds (none-left (outside_sites k ds) _ n) (none-right (sites q e) _ inside) (rest, s) s rest)

  all-pass : (k : Static) (es : PlainTrees) → NoFaults (sites_in k es) → ScopesAreShaped k → IsTrue (are_shaped es) → IsTrue (all_pass_actuals es)
  all-pass k no_trees n s t = refl
  all-pass k (tree e es) n s t =
      both_true (calls_pass_actuals e) _ (passes k e (none-left (sites k e) _ n) s (first_true (is_shaped e) _ t))
      (all-pass k es (none-right (sites k e) _ n) s (second_true (is_shaped e) _ t))

  defs-pass : (k q : Static) (earlier : Earlier) (ds : PlainDefs) → NoFaults (outside_sites q ds) → NoFaults (inside_sites k earlier ds) → ScopesAreShaped k
      → ScopesAreShaped q → IsTrue (defs_are_shaped ds) → IsTrue (defs_pass_actuals ds)
  defs-pass k q earlier no_defs out n s u t = refl
  defs-pass k q earlier (defines at x e ds) out n s u t =
      let own = none-right (again_if (earlier x) at) _ n in
      both_true (calls_pass_actuals e) _ (passes k e (none-left (sites k e) _ own) s (first_true (is_shaped e) _ t))
      (defs-pass k q (also x earlier) ds out (none-right (sites k e) _ own) s u (second_true (is_shaped e) _ t))
  defs-pass k q earlier (defines_function at x ns ats e ds) out n s u t =
      let own = none-right (again_if (earlier x) at) _ n in
      let v : Static = in_function at ns ats k in
      let front : IsTrue ((nat_lt 0 (length ns) && nat_eq (length ats) (length ns)) && is_shaped e) = first_true _ (defs_are_shaped ds) t in
      let part = none-right (repeats no_names ns ats) (sites v e) (none-left _ (inside_sites k (also x earlier) ds) own) in
      both_true (calls_pass_actuals e) _ (passes v e part s (second_true (nat_lt 0 (length ns) && nat_eq (length ats) (length ns)) _ front))
      (defs-pass k q (also x earlier) ds out (none-right _ (inside_sites k (also x earlier) ds) own) s u
      (second_true ((nat_lt 0 (length ns) && nat_eq (length ats) (length ns)) && is_shaped e) _ t))
  defs-pass k q earlier (defines_current at x e ds) out n s u t =
      both_true (calls_pass_actuals e) _ (passes q e (none-left (sites q e) _ out) u (first_true (is_shaped e) _ t))
      (defs-pass k q (also x earlier) ds (none-right (sites q e) _ out) (none-right (again_if (earlier x) at) _ n) s u (second_true (is_shaped e) _ t))
