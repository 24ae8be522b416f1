-- A mark says what its site says; and marks that are put in order are those of the sites in some order.
use Rattle.lucid_scope.proofs.Common.{◌≡◌, ℕ, ◌<◌, List, [], ◌∷◌, length, map, fold, get_or, refl, sym, ap, ◌∙◌, arith, IsPermutation, get_or-map, length-map, IsPermutation-refl, Meaning, free, plain_name, parameter, current_name, function, meaning, Site, named, again, binding_for, fault_of, with_input, with_site, owner_of, mark, mark_fault, owner_binding, mark_binding, with_owner_input, with_mark, Mark, set, swap, IsPermutation-trans, IsPermutation-swap, IsPermutation-keeps}
use Rattle.std.proofs.Common.{Some}
use lib.Seq.{map-set}
use Rattle.lucid_scope.specs.Sites.{called}
use Rattle.lucid_scope.specs.Bindings.{binding_of, name_fault, call_fault}
use Rattle.lucid_scope.specs.Settled.{owner_fault, owner_call_fault}

same_fault : (at : ℕ) (m : Meaning) → owner_fault at (owner_of m) ≡ name_fault at m
same_fault at free = refl
same_fault at (plain_name d e k) = refl
same_fault at (parameter d i p k) = refl
same_fault at (current_name d e k o) = refl
same_fault at (function d ns ats e k) = refl

same_call_fault : (at g : ℕ) (m : Meaning) → owner_call_fault at g (owner_of m) ≡ call_fault at g m
same_call_fault at g free = refl
same_call_fault at g (plain_name d e k) = refl
same_call_fault at g (parameter d i p k) = refl
same_call_fault at g (current_name d e k o) = refl
same_call_fault at g (function d ns ats e k) = refl

pub mark-fault : (s : Site) → mark_fault (mark s) ≡ fault_of s
mark-fault (named at x k) = same_fault at (meaning x k)
mark-fault (called at x n k) = same_call_fault at n (meaning x k)
mark-fault (again at) = refl

same_binding : (is : List (List ℕ)) (x : List ℕ) (m : Meaning) → owner_binding is x (owner_of m) ≡ binding_of is x m
same_binding is x free = refl
same_binding is x (plain_name d e k) = refl
same_binding is x (parameter d i p k) = refl
same_binding is x (current_name d e k o) = refl
same_binding is x (function d ns ats e k) = refl

pub mark-binding : (is : List (List ℕ)) (s : Site) → mark_binding is (mark s) ≡ binding_for is s
mark-binding is (named at x k) = ap Some (same_binding is x (meaning x k))
mark-binding is (called at x n k) = ap Some (same_binding is x (meaning x k))
mark-binding is (again at) = refl

same_input : (is : List (List ℕ)) (x : List ℕ) (m : Meaning) → with_owner_input is x (owner_of m) ≡ with_input is x m
same_input is x free = refl
same_input is x (plain_name d e k) = refl
same_input is x (parameter d i p k) = refl
same_input is x (current_name d e k o) = refl
same_input is x (function d ns ats e k) = refl

mark-input : (is : List (List ℕ)) (s : Site) → with_mark is (mark s) ≡ with_site is s
mark-input is (named at x k) = same_input is x (meaning x k)
mark-input is (called at x n k) = same_input is x (meaning x k)
mark-input is (again at) = refl

pub marks-inputs : (ss : List Site) (is : List (List ℕ)) → fold with_mark is (map mark ss) ≡ fold with_site is ss
marks-inputs [] is = refl
marks-inputs (s ∷ ss) is = ap (λ l. fold with_mark l (map mark ss)) (mark-input is s) ∙ marks-inputs ss (with_site is s)

map-swap : (xs : List Site) (i j : ℕ) → i < length xs → j < length xs → map mark (swap xs i j) ≡ swap (map mark xs) i j
map-swap [] i j hi hj = refl
map-swap (x ∷ xs) i j hi hj =
    map-set mark (set (x ∷ xs) i (get_or (x ∷ xs) j x)) j (get_or (x ∷ xs) i x)
    ∙ ap (λ l. set l j (mark (get_or (x ∷ xs) i x))) (map-set mark (x ∷ xs) i (get_or (x ∷ xs) j x))
    ∙ ap (λ m. set (set (map mark (x ∷ xs)) i (mark (get_or (x ∷ xs) j x))) j m) (sym (get_or-map mark (x ∷ xs) i x (mark x) hi))
    ∙ ap (λ m. set (set (map mark (x ∷ xs)) i m) j (get_or (map mark (x ∷ xs)) i (mark x))) (sym (get_or-map mark (x ∷ xs) j x (mark x) hj))

-- sites in the order of these marks
pub record Ordered (ss : List Site) (ms : List Mark) : Type 0 where
  pub order : List Site
  pub marks : map mark order ≡ ms
  pub permutes : IsPermutation ss order

step : (ss : List Site) (l : List Mark) (i j : ℕ) → i < length l → j < length l → Ordered ss l → Ordered ss (swap l i j)
step ss l i j hi hj o =
    let long : length o.order ≡ length l = sym (length-map o.order mark) ∙ ap length o.marks in
    let hi' : i < length o.order = omega (arith, long, hi) in
    let hj' : j < length o.order = omega (arith, long, hj) in
    record {
      order = swap o.order i j;
      marks = map-swap o.order i j hi' hj' ∙ ap (λ x. swap x i j) o.marks;
      permutes = IsPermutation-trans ss o.order (swap o.order i j) o.permutes (IsPermutation-swap o.order (swap o.order i j) i j hi' hj' refl);
    }

pub ordered : (ss : List Site) (ms : List Mark) → IsPermutation (map mark ss) ms → Ordered ss ms
ordered ss ms p = IsPermutation-keeps (map mark ss) (λ l. Ordered ss l) (record { order = ss; marks = refl; permutes = IsPermutation-refl ss })
    (λ l i j hi hj o. step ss l i j hi hj o) ms p
