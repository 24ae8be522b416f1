-- The inputs of a program differ, and are no more than its places. A free name is among them, at its number.
use Rattle.lucid_scope.proofs.Common.{◌≡◌, ℕ, suc, ◌+◌, ◌≤◌, Bool, true, false, cond, List, [], ◌∷◌, ◌++◌, length, length-append, fold, sum_by, inl, inr, refl, sym, ap, subst, ◌∙◌, arith, list_any, position_or_len, length_permutation, Contains-permutation, PlainTree, same_name, places, contained, Static, outermost, Meaning, free, plain_name, parameter, current_name, function, meaning, Site, named, again, with_input, with_site, all_sites, IsResolved, Binding, if◌then◌else◌, props, ∥∥₁_elim, slice_get}
use Rattle.lucid_tree.specs.Members.{In, AllDiffer, AllDiffer-prop}
use Rattle.lucid_tree.proofs.Members.{in_left, in_right, one_more-differs, stands_at as stands}
use Rattle.lucid_scope.specs.Sites.{called}
use Rattle.lucid_scope.specs.Bindings.{AreInputs}
use Rattle.lucid_scope.proofs.Names.{same_itself, same_one}
use Rattle.lucid_scope.proofs.Weights.{sites-weight}
use Rattle.lucid_scope.proofs.Resolved.{sum-ones}
use Rattle.std.specs.Prelude.{Option, Some, not}

not_among : (x : List ℕ) (is : List (List ℕ)) → list_any (same_name x) is ≡ false → In x is → ⊥
not_among x [] e h = h
not_among x (i ∷ is) e (inl q) = absurd (grind (arith, e, same_itself x, ap (same_name x) q))
not_among x (i ∷ is) e (inr q) = not_among x is (grind (arith, e)) q

either-differs : (x : List ℕ) (is : List (List ℕ)) (b : Bool) → list_any (same_name x) is ≡ b → AllDiffer is → AllDiffer (if b then is else is ++ x ∷ [])
either-differs x is true e d = d
either-differs x is false e d = one_more-differs x is (not_among x is e) d

input-differs : (is : List (List ℕ)) (x : List ℕ) (m : Meaning) → AllDiffer is → AllDiffer (with_input is x m)
input-differs is x free d = either-differs x is (list_any (same_name x) is) refl d
input-differs is x (plain_name a e k) d = d
input-differs is x (parameter a i at k) d = d
input-differs is x (current_name a e k o) d = d
input-differs is x (function a ns ats e k) d = d

site-differs : (is : List (List ℕ)) (s : Site) → AllDiffer is → AllDiffer (with_site is s)
site-differs is (named at x k) d = input-differs is x (meaning x k) d
site-differs is (called at x n k) d = input-differs is x (meaning x k) d
site-differs is (again at) d = d

names-differ : (ss : List Site) (is : List (List ℕ)) → AllDiffer is → AllDiffer (fold with_site is ss)
names-differ [] is d = d
names-differ (s ∷ ss) is d = names-differ ss (with_site is s) (site-differs is s d)

pub inputs-differ : (e : PlainTree) (inputs : List (List ℕ)) (bindings : ℕ → Option Binding) → ∥ IsResolved e inputs bindings ∥₁ → AllDiffer inputs
inputs-differ e inputs bindings r =
    ∥∥₁_elim r (AllDiffer-prop inputs) (λ q. subst AllDiffer (sym q.inputs_are.names) (names-differ q.inputs_are.order [] tt))

either-grows : (b : Bool) (is : List (List ℕ)) (x : List ℕ) → length (if b then is else is ++ x ∷ []) ≤ length is + 1
either-grows true is x = omega arith
either-grows false is x = omega (arith, length-append is (x ∷ []))

input-grows : (is : List (List ℕ)) (x : List ℕ) (m : Meaning) → length (with_input is x m) ≤ length is + 1
input-grows is x free = either-grows (list_any (same_name x) is) is x
input-grows is x (plain_name a e k) = omega arith
input-grows is x (parameter a i at k) = omega arith
input-grows is x (current_name a e k o) = omega arith
input-grows is x (function a ns ats e k) = omega arith

site-grows : (is : List (List ℕ)) (s : Site) → length (with_site is s) ≤ length is + 1
site-grows is (named at x k) = input-grows is x (meaning x k)
site-grows is (called at x n k) = input-grows is x (meaning x k)
site-grows is (again at) = omega arith

names-grow : (ss : List Site) (is : List (List ℕ)) → length (fold with_site is ss) ≤ length is + length ss
names-grow [] is = omega arith
names-grow (s ∷ ss) is = omega (arith, names-grow ss (with_site is s), site-grows is s)

inputs-few-of : (e : PlainTree) (inputs : List (List ℕ)) → AreInputs e inputs → length inputs ≤ length (places e)
inputs-few-of e inputs a =
    let all : length a.order ≡ length (all_sites e) = length_permutation (all_sites e) a.order a.permutes in
    let ones : sum_by (λ (s : Site). 1) (all_sites e) ≡ length (all_sites e) = sum-ones (all_sites e) in
    let ones' : sum_by (λ (x : ℕ). 1) (places e) ≡ length (places e) = sum-ones (places e) in
    omega (arith, ap length a.names, names-grow a.order [], all, ones, ones', sites-weight (λ x. 1) outermost e)

pub inputs-few : (e : PlainTree) (inputs : List (List ℕ)) (bindings : ℕ → Option Binding) → ∥ IsResolved e inputs bindings ∥₁
    → length inputs ≤ length (places e)
inputs-few e inputs bindings r = ∥∥₁_elim r (hlevel props) (λ q. inputs-few-of e inputs q.inputs_are)

-- a free name is among the inputs, and its number leads to it

either-among : (x i : List ℕ) (is : List (List ℕ)) (b : Bool) → same_name x i ≡ b → list_any (same_name x) (i ∷ is) ≡ true
    → (list_any (same_name x) is ≡ true → In x is) → In x (i ∷ is)
either-among x i is true q e h = inl (same_one x i q)
either-among x i is false q e h = inr (h (grind (arith, e, q)))

any-among : (x : List ℕ) (is : List (List ℕ)) → list_any (same_name x) is ≡ true → In x is
any-among x [] e = absurd (grind (arith, e))
any-among x (i ∷ is) e = either-among x i is (same_name x i) refl e (any-among x is)

either-has : (x : List ℕ) (is : List (List ℕ)) (b : Bool) → list_any (same_name x) is ≡ b → In x (if b then is else is ++ x ∷ [])
either-has x is true e = any-among x is e
either-has x is false e = in_right x is (x ∷ []) (inl refl)

has-input : (x : List ℕ) (is : List (List ℕ)) (m : Meaning) → m ≡ free → In x (with_input is x m)
has-input x is m e = subst (λ z. In x (with_input is x z)) (sym e) (either-has x is (list_any (same_name x) is) refl)

either-keeps : (y x : List ℕ) (is : List (List ℕ)) (b : Bool) → In y is → In y (if b then is else is ++ x ∷ [])
either-keeps y x is true h = h
either-keeps y x is false h = in_left y is (x ∷ []) h

input-keeps : (y x : List ℕ) (is : List (List ℕ)) (m : Meaning) → In y is → In y (with_input is x m)
input-keeps y x is free h = either-keeps y x is (list_any (same_name x) is) h
input-keeps y x is (plain_name a e k) h = h
input-keeps y x is (parameter a i at k) h = h
input-keeps y x is (current_name a e k o) h = h
input-keeps y x is (function a ns ats e k) h = h

site-keeps : (y : List ℕ) (is : List (List ℕ)) (s : Site) → In y is → In y (with_site is s)
site-keeps y is (named at x k) h = input-keeps y x is (meaning x k) h
site-keeps y is (called at x n k) h = input-keeps y x is (meaning x k) h
site-keeps y is (again at) h = h

names-keep : (y : List ℕ) (ss : List Site) (is : List (List ℕ)) → In y is → In y (fold with_site is ss)
names-keep y [] is h = h
names-keep y (s ∷ ss) is h = names-keep y ss (with_site is s) (site-keeps y is s h)

free-among : (at : ℕ) (x : List ℕ) (k : Static) (ss : List Site) (is : List (List ℕ)) → In (named at x k) ss → meaning x k ≡ free → In x (fold with_site is ss)
free-among at x k [] is h e = absurd h
free-among at x k (s ∷ ss) is (inl q) e =
    names-keep x ss (with_site is s) (subst (λ z. In x (with_site is z)) q (has-input x is (meaning x k) e))
free-among at x k (s ∷ ss) is (inr q) e = free-among at x k ss (with_site is s) q e

number-leads-by : (x i : List ℕ) (is : List (List ℕ)) (b : Bool) → same_name x i ≡ b → In x (i ∷ is)
    → (In x is → slice_get is (position_or_len (same_name x) is) ≡ Some x)
    → slice_get (i ∷ is) (cond (not b) (1 + position_or_len (same_name x) is) 0) ≡ Some x
number-leads-by x i is true q h rest = ap Some (sym (same_one x i q))
number-leads-by x i is false q (inl e) rest = absurd (grind (arith, q, same_itself x, ap (same_name x) e))
number-leads-by x i is false q (inr h) rest =
    let next : 1 + position_or_len (same_name x) is ≡ suc (position_or_len (same_name x) is) = omega arith in
    ap (slice_get (i ∷ is)) next ∙ rest h

number-leads : (x : List ℕ) (is : List (List ℕ)) → In x is → slice_get is (position_or_len (same_name x) is) ≡ Some x
number-leads x [] h = absurd h
number-leads x (i ∷ is) h = number-leads-by x i is (same_name x i) refl h (number-leads x is)

pub free-leads : (e : PlainTree) (inputs : List (List ℕ)) → AreInputs e inputs → (at : ℕ) (x : List ℕ) (k : Static) → In (named at x k) (all_sites e)
    → meaning x k ≡ free → slice_get inputs (position_or_len (same_name x) inputs) ≡ Some x
free-leads e inputs a at x k h q =
    let c = Contains-permutation (all_sites e) a.order (named at x k) a.permutes (contained (named at x k) (all_sites e) h) in
    number-leads x inputs (subst (In x) (sym a.names) (free-among at x k a.order [] (stands (named at x k) a.order c.0 c.1 c.2) q))
