-- From the marks in the order of their places to the sites of the tree.
use Rattle.lucid_scope.proofs.Common.{◌≡◌, ℕ, ◌+◌, ◌<◌, ◌≤◌, ◌^◌, Bool, true, false, cond, List, [], ◌∷◌, ◌++◌, length, length-append, map, fold, sum_by, get_or, None, IsSome, nat_eq, ◌⊎◌, inl, inr, refl, sym, ap, subst, ◌∙◌, arith, zero, suc, All, list_any, IsPermutation, IsNonDecreasingBy, get_or-map, length-map, get_or_default, sum_by-cons, IsPermutation-sym, Contains-permutation, sum_by-IsPermutation, length_permutation, PlainTree, same_name, places, IsWellMade, outermost, Site, named, again, site_at, binding_for, fault_of, all_sites, HasNoFault, IsLeastFault, IsResolved, look, mark, marks, Walk, Fits, mark_fault, mark_binding, with_owner_input, with_mark, Binding, ScopeRefusal, Owner, Mark, Called, All-permutation, nat_eq_equiv}
use Rattle.std.proofs.Common.{Option, Some}
use Rattle.std.proofs.lemmas.Bool.{cases_lt as either_side}
use Rattle.lucid_lists.proofs.Numbers.{below_or_last as at-last}
use Rattle.lucid_tree.specs.WellMade.{In, AllDiffer}
use Rattle.lucid_tree.proofs.Times.{counts_one as counts}
use Rattle.lucid_scope.specs.Sites.{called}
use Rattle.lucid_scope.specs.Settled.{with_what, IsFirstFault, ArePlacesDifferent}
use Rattle.lucid_scope.specs.declared.marks.What.{What}
use Rattle.lucid_scope.specs.declared.marks.What.TheVariants.{Named, Again}
use Rattle.lucid_scope.proofs.Marked.{mark-fault, mark-binding, marks-inputs, Ordered, ordered}
use Rattle.lucid_scope.proofs.Weights.{sites-weight}
use Rattle.lucid_scope.proofs.Fitting.{sites-fit, each-all}
use Rattle.lucid_scope.proofs.Noting.{marks-sites}

pub mark-at : (s : Site) → (mark s).at ≡ site_at s
mark-at (named at x k) = refl
mark-at (called at x n k) = refl
mark-at (again at) = refl

-- what each mark says each site says
pub all-sites : (P : Mark → Type 0) (Q : Site → Type 0) (ss : List Site) (ms : List Mark) → Ordered ss ms → ((s : Site) → P (mark s) → Q s) → All P ms
    → All Q ss
all-sites P Q ss ms o turn h =
    All-permutation Q o.order ss (IsPermutation-sym ss o.order o.permutes)
    (λ k d lt.
    let long : length ms ≡ length o.order = ap length (sym o.marks) ∙ length-map o.order mark in
    let same : get_or ms k (mark d) ≡ mark (get_or o.order k d) = ap (λ l. get_or l k (mark d)) (sym o.marks) ∙ get_or-map mark o.order k d (mark d) lt in
    turn (get_or o.order k d) (subst P same (h k (mark d) (omega (arith, lt, long)))))

itself-true : (x : ℕ) → nat_eq x x ≡ true
itself-true x = nat_eq_equiv.refl x

-- one where the number is
pub itself : (x : ℕ) → ◌≡◌ {A = ℕ} (cond (nat_eq x x) 1 0) 1
itself x = rw (itself-true x) refl

counted : (at x : ℕ) (xs : List ℕ) (b : Bool) → nat_eq at x ≡ b → ((at ≡ x) ⊎ In at xs → ⊥) → sum_by (λ x. cond (nat_eq at x) 1 0) xs ≡ 0
    → cond b 1 0 + sum_by (λ x. cond (nat_eq at x) 1 0) xs ≡ 0
counted at x xs true is h zero_left = absurd (h (inl (grind (arith, is))))
counted at x xs false is h zero_left = omega (arith, zero_left)

absent : (at : ℕ) (xs : List ℕ) → (In at xs → ⊥) → sum_by (λ x. cond (nat_eq at x) 1 0) xs ≡ 0
absent at [] h = refl
absent at (x ∷ xs) h = sum_by-cons (λ x. cond (nat_eq at x) 1 0) x xs ∙ counted at x xs (nat_eq at x) refl h (absent at xs (λ i. h (inr i)))

once : (at x : ℕ) (xs : List ℕ) (b : Bool) → nat_eq at x ≡ b → (In x xs → ⊥) × AllDiffer xs → sum_by (λ x. cond (nat_eq at x) 1 0) xs ≤ 1
    → cond b 1 0 + sum_by (λ x. cond (nat_eq at x) 1 0) xs ≤ 1
once at x xs true is h le = omega (arith, absent at xs (λ i. h.0 (subst (λ y. In y xs) (grind (arith, is)) i)))
once at x xs false is h le = omega (arith, le)

sum-marks : (f : ℕ → ℕ) (ss : List Site) → sum_by (λ (m : Mark). f m.at) (map mark ss) ≡ sum_by (λ s. f (site_at s)) ss
sum-marks f [] = refl
sum-marks f (s ∷ ss) = omega (
  arith,
  sum_by-cons (λ (m : Mark). f m.at) (mark s) (map mark ss),
  sum_by-cons (λ s. f (site_at s)) s ss,
  ap f (mark-at s),
  sum-marks f ss,
)

pub sum-ones : {X : Type 0} (xs : List X) → sum_by (λ (x : X). 1) xs ≡ length xs
sum-ones [] = refl
sum-ones {X = X} (x ∷ xs) = omega (arith, sum_by-cons (λ (y : X). 1) x xs, sum-ones xs)

grown : (b : Bool) (is : List (List ℕ)) (x : List ℕ) → length (cond b is (is ++ x ∷ [])) ≤ length is + 1
grown true is x = omega arith
grown false is x = omega (arith, length-append is (x ∷ []))

pub none_some : (o : Option ScopeRefusal) → o ≡ None → IsSome o → ⊥
none_some None e h = absurd (grind (arith, h))
none_some (Some x) e h = grind (arith, e)

mapped : (P : Mark → Type 0) (Q : Site → Type 0) → ((s : Site) → Q s → P (mark s)) → (xs : List Site) → All Q xs → All P (map mark xs)
mapped P Q turn [] a k d lt = absurd (omega arith)
mapped P Q turn (x ∷ xs) a zero d lt = turn x (a 0 x (omega arith))
mapped P Q turn (x ∷ xs) a (suc k) d lt = mapped P Q turn xs (λ i e l. a (suc i) e (omega (arith, l))) k d (omega (arith, lt))

-- and what each site says each mark says
pub all-marks : (P : Mark → Type 0) (Q : Site → Type 0) (ss : List Site) (ms : List Mark) → Ordered ss ms → ((s : Site) → Q s → P (mark s)) → All Q ss
    → All P ms
all-marks P Q ss ms o turn h = subst (λ l. All P l) o.marks (mapped P Q turn o.order (All-permutation Q ss o.order o.permutes h))

-- the mark at an index is that of the site there
pub here : (ss : List Site) (ms : List Mark) (o : Ordered ss ms) (j : ℕ) (d : Mark) (e : Site) → j < length ms → get_or ms j d ≡ mark (get_or o.order j e)
here ss ms o j d e l =
    let long : length ms ≡ length o.order = ap length (sym o.marks) ∙ length-map o.order mark in
    ap (λ l. get_or l j d) (sym o.marks) ∙ get_or-map mark o.order j e d (omega (arith, l, long))

-- the first fault of marks in order is the one at the least place
pub least : (e : PlainTree) (ms : List Mark) (f : ScopeRefusal) → Ordered (all_sites e) ms → IsNonDecreasingBy (λ (m : Mark). m.at) ms → IsFirstFault ms f
    → IsLeastFault e f
least e ms f o rises h =
    let long : length ms ≡ length o.order = ap length (sym o.marks) ∙ length-map o.order mark in
    let d : Site = again 0 in
    let s : Site = get_or o.order h.index d in
    let lt : h.index < length o.order = omega (arith, h.within, long) in
    let the_mark : h.mark ≡ mark s = h.is_there ∙ here (all_sites e) ms o h.index h.mark d h.within in
    record {
      site = s;
      stands = Contains-permutation o.order (all_sites e) s (IsPermutation-sym (all_sites e) o.order o.permutes)
          (h.index, lt, get_or_default o.order h.index s d lt);
      is = sym (mark-fault s) ∙ ap mark_fault (sym the_mark) ∙ h.is;
      least = All-permutation (λ t. IsSome (fault_of t) → site_at s ≤ site_at t) o.order (all_sites e) (IsPermutation-sym (all_sites e) o.order o.permutes)
          (λ k g l some.
          let l' : k < length ms = omega (arith, l, long) in
          elim (either_side k h.index) [
            | inl before ↦ absurd (none_some (fault_of (get_or o.order k g))
                (sym (mark-fault (get_or o.order k g)) ∙ ap mark_fault (sym (here (all_sites e) ms o k (mark d) g l')) ∙ h.first k (mark d) before) some)
            | inr after ↦
                let rise = rises h.index k (mark d) after l' in
                let first : (get_or ms h.index (mark d)).at ≡ site_at s = ap (λ (m : Mark). m.at) (here (all_sites e) ms o h.index (mark d) d h.within)
                ∙ mark-at s in
                let later : (get_or ms k (mark d)).at ≡ site_at (get_or o.order k g) = ap (λ (m : Mark). m.at) (here (all_sites e) ms o k (mark d) g l')
                ∙ mark-at (get_or o.order k g) in
                omega (arith, rise, first, later)
          ]);
    }

-- no fault of the marks is none of the sites
pub no-fault : (e : PlainTree) (ms : List Mark) → Ordered (all_sites e) ms → All (λ m. mark_fault m ≡ None) ms → HasNoFault e
no-fault e ms o h = all-sites (λ m. mark_fault m ≡ None) (λ s. fault_of s ≡ None) (all_sites e) ms o (λ s is. sym (mark-fault s) ∙ is) h

-- no number stands twice in a list whose items all differ
pub at-most-one : (at : ℕ) (xs : List ℕ) → AllDiffer xs → sum_by (λ x. cond (nat_eq at x) 1 0) xs ≤ 1
at-most-one at [] h = omega arith
at-most-one at (x ∷ xs) h = omega (arith, sum_by-cons (λ x. cond (nat_eq at x) 1 0) x xs, once at x xs (nat_eq at x) refl h (at-most-one at xs h.1))

-- in a well-made tree no place has two sites
pub different : (e : PlainTree) (ms : List Mark) → IsWellMade e → Ordered (all_sites e) ms → ArePlacesDifferent ms
different e ms w o at =
    let f : ℕ → ℕ = λ x. cond (nat_eq at x) 1 0 in
    let marks : sum_by (λ (m : Mark). f m.at) ms ≡ sum_by (λ s. f (site_at s)) (all_sites e) =
    ap (λ l. sum_by (λ (m : Mark). f m.at) l) (sym o.marks) ∙ sum-marks f o.order
    ∙ sum_by-IsPermutation (λ s. f (site_at s)) (all_sites e) o.order o.permutes in
    omega (arith, marks, sites-weight f outermost e, at-most-one at (places e) w.placed)

-- the marks of a well-made tree fit their types
pub fit : (e : PlainTree) (ms : List Mark) → IsWellMade e → Ordered (all_sites e) ms → All Fits ms
fit e ms w o =
    all-marks Fits (λ s. Fits (mark s)) (all_sites e) ms o (λ s h. h)
    (each-all (λ s. Fits (mark s)) (all_sites e) (sites-fit outermost (λ n. tt) e w.shaped w.few))

input-grows : (is : List (List ℕ)) (x : List ℕ) (o : Option Owner) → length (with_owner_input is x o) ≤ length is + 1
input-grows is x (Some o) = omega arith
input-grows is x None = grown (list_any (same_name x) is) is x

mark-grows : (is : List (List ℕ)) (w : What) → length (with_what is w) ≤ length is + 1
mark-grows is (Named x o) = input-grows is x o
mark-grows is (Called x o n) = input-grows is x o
mark-grows is Again = omega arith

inputs-few : (ms : List Mark) (is : List (List ℕ)) → length (fold with_mark is ms) ≤ length is + length ms
inputs-few [] is = omega arith
inputs-few (m ∷ ms) is = omega (arith, inputs-few ms (with_mark is m), mark-grows is m.what)

-- the inputs of a well-made tree can be numbered
pub few : (e : PlainTree) (ms : List Mark) → IsWellMade e → Ordered (all_sites e) ms → length (fold with_mark [] ms) < 2 ^ 32
few e ms w o =
    let long : length ms ≡ length o.order = ap length (sym o.marks) ∙ length-map o.order mark in
    let all : length o.order ≡ length (all_sites e) = length_permutation (all_sites e) o.order o.permutes in
    let ones : sum_by (λ (s : Site). 1) (all_sites e) ≡ length (all_sites e) = sum-ones (all_sites e) in
    let ones' : sum_by (λ (x : ℕ). 1) (places e) ≡ length (places e) = sum-ones (places e) in
    grind (arith, inputs-few ms [], long, all, ones, ones', sites-weight (λ x. 1) outermost e, w.few)

-- all that is known of a tree without faults
pub resolved : (e : PlainTree) (ms : List Mark) (inputs : List (List ℕ)) (bindings : ℕ → Option Binding) → Ordered (all_sites e) ms
    → IsNonDecreasingBy (λ (m : Mark). m.at) ms
    → All (λ m. mark_fault m ≡ None) ms → inputs ≡ fold with_mark [] ms → All (λ (m : Mark). bindings m.at ≡ mark_binding inputs m) ms
    → ((at : ℕ) → All (λ (m : Mark). m.at ≡ at → ⊥) ms → bindings at ≡ None) → IsResolved e inputs bindings
resolved e ms inputs bindings o rises none names bound others = record {
  no_fault = no-fault e ms o none;
  inputs_are = record {
    order = o.order;
    permutes = o.permutes;
    rises = λ i j d le lt.
        let long : length ms ≡ length o.order = ap length (sym o.marks) ∙ length-map o.order mark in
        let j' : j < length ms = omega (arith, lt, long) in
        let first : (get_or ms i (mark d)).at ≡ site_at (get_or o.order i d) =
        ap (λ (m : Mark). m.at) (here (all_sites e) ms o i (mark d) d (omega (arith, le, j'))) ∙ mark-at (get_or o.order i d) in
        let later : (get_or ms j (mark d)).at ≡ site_at (get_or o.order j d) = ap (λ (m : Mark). m.at) (here (all_sites e) ms o j (mark d) d j')
        ∙ mark-at (get_or o.order j d) in
        omega (arith, rises i j (mark d) le j', first, later);
    names = names ∙ ap (λ l. fold with_mark [] l) (sym o.marks) ∙ marks-inputs o.order [];
  };
  bindings_are = record {
    bound = all-sites (λ (m : Mark). bindings m.at ≡ mark_binding inputs m) (λ s. bindings (site_at s) ≡ binding_for inputs s) (all_sites e) ms o
        (λ s is. ap bindings (sym (mark-at s)) ∙ is ∙ mark-binding inputs s) bound;
    others = λ at h. others at (all-marks (λ (m : Mark). m.at ≡ at → ⊥) (λ s. site_at s ≡ at → ⊥) (all_sites e) ms o (λ s no same. no (sym (mark-at s) ∙ same))
        h);
  };
}

-- the marks of a descent from the root are those of all sites
pub all_marked : (start end : Walk) (e : PlainTree) → ((n : List ℕ) → look start.table n ≡ None) → start.marks.items ≡ []
    → end.marks.items ≡ start.marks.items ++ marks (look start.table) e
    → end.marks.items ≡ map mark (all_sites e)
all_marked start end e empty none d = d ∙ ap (λ l. l ++ marks (look start.table) e) none ∙ ap (λ f. marks f e) (λ j n. empty n j) ∙ marks-sites outermost e

-- the sites in the order of the marks, once these are sorted
pub in_order : (e : PlainTree) (marks sorted ms : List Mark) → marks ≡ map mark (all_sites e) → IsPermutation marks sorted → ms ≡ sorted
    → Ordered (all_sites e) ms
in_order e marks sorted ms is p same = ordered (all_sites e) ms
    (subst (λ l. IsPermutation (map mark (all_sites e)) l) (sym same) (subst (λ l. IsPermutation l sorted) is p))

-- an index below another one has another place
one-there : (f : Mark → ℕ) (ms : List Mark) (i : ℕ) (d : Mark) → i < length ms → f (get_or ms i d) ≤ sum_by f ms
one-there f [] i d h = absurd (omega (arith, h))
one-there f (m ∷ ms) zero d h = omega (arith, sum_by-cons f m ms)
one-there f (m ∷ ms) (suc i) d h = omega (arith, sum_by-cons f m ms, one-there f ms i d (omega (arith, h)))

two-there : (f : Mark → ℕ) (ms : List Mark) (k i : ℕ) (c d : Mark) → k < i → i < length ms → f (get_or ms k c) + f (get_or ms i d) ≤ sum_by f ms
two-there f [] k i c d h l = absurd (omega (arith, l))
two-there f (m ∷ ms) k zero c d h l = absurd (omega (arith, h))
two-there f (m ∷ ms) zero (suc i) c d h l = omega (arith, sum_by-cons f m ms, one-there f ms i d (omega (arith, l)))
two-there f (m ∷ ms) (suc k) (suc i) c d h l = omega (arith, sum_by-cons f m ms, two-there f ms k i c d (omega (arith, h)) (omega (arith, l)))

pub apart : (ms : List Mark) → ArePlacesDifferent ms → (k i : ℕ) (c d : Mark) → k < i → i < length ms → (get_or ms k c).at ≡ (get_or ms i d).at → ⊥
apart ms differ k i c d h l same =
    let at : ℕ = (get_or ms i d).at in
    let most = differ at in
    let two = two-there (λ (m : Mark). cond (nat_eq at m.at) 1 0) ms k i c d h l in
    let a = counts at (get_or ms k c).at (sym same) in
    let b = counts at (get_or ms i d).at refl in
    omega (arith, most, two, a, b)

-- one binding more
pub record Bound (ms : List Mark) (inputs : List (List ℕ)) (i : ℕ) (bindings : ℕ → Option Binding) : Type 0 where
  pub bound : (k : ℕ) (d : Mark) → k < i → bindings (get_or ms k d).at ≡ mark_binding inputs (get_or ms k d)
  pub others : (at : ℕ) → ((k : ℕ) (d : Mark) → k < i → (get_or ms k d).at ≡ at → ⊥) → bindings at ≡ None

other-key : (at x : ℕ) (a b : Option Binding) → (at ≡ x → ⊥) → (t : Bool) → nat_eq at x ≡ t → cond t a b ≡ b
other-key at x a b ne true is = absurd (ne (grind (arith, is)))
other-key at x a b ne false is = refl

same-key : (at : ℕ) (a b : Option Binding) → cond (nat_eq at at) a b ≡ a
same-key at a b = rw (itself-true at) refl

pub bind-more : (ms : List Mark) (inputs : List (List ℕ)) (i : ℕ) (m : Mark) (old new : ℕ → Option Binding) → i < length ms → m ≡ get_or ms i m
    → ArePlacesDifferent ms
    → ((q : ℕ) → new q ≡ cond (nat_eq m.at q) (mark_binding inputs m) (old q)) → Bound ms inputs i old → Bound ms inputs (i + 1) new
bind-more ms inputs i m old new lt is differ updates b = record {
  bound = λ k d h. elim (at-last k i h) [
    | inl l ↦
        updates (get_or ms k d).at
        ∙ other-key m.at (get_or ms k d).at (mark_binding inputs m) (old (get_or ms k d).at)
        (λ e. apart ms differ k i d m l lt (sym e ∙ ap (λ (x : Mark). x.at) is)) (nat_eq m.at (get_or ms k d).at) refl
        ∙ b.bound k d l
    | inr e ↦
        let here : get_or ms k d ≡ m = ap (λ j. get_or ms j d) e ∙ get_or_default ms i d m lt ∙ sym is in
        rw here (updates m.at ∙ same-key m.at (mark_binding inputs m) (old m.at))
  ];
  others = λ at no.
      updates at
      ∙ other-key m.at at (mark_binding inputs m) (old at) (λ e. no i m (omega arith) (ap (λ (x : Mark). x.at) (sym is) ∙ e)) (nat_eq m.at at) refl
      ∙ b.others at (λ k d h. no k d (omega (arith, h)));
}

-- a mark without a binding binds nothing
pub bind-none : (ms : List Mark) (inputs : List (List ℕ)) (i : ℕ) (m : Mark) (old : ℕ → Option Binding) → i < length ms → m ≡ get_or ms i m
    → ArePlacesDifferent ms
    → mark_binding inputs m ≡ None → Bound ms inputs i old → Bound ms inputs (i + 1) old
bind-none ms inputs i m old lt is differ none b = record {
  bound = λ k d h. elim (at-last k i h) [
    | inl l ↦ b.bound k d l
    | inr e ↦
        let here : get_or ms k d ≡ m = ap (λ j. get_or ms j d) e ∙ get_or_default ms i d m lt ∙ sym is in
        rw here (b.others m.at (λ j g l same. apart ms differ j i g m l lt (same ∙ ap (λ (x : Mark). x.at) is)) ∙ sym none)
  ];
  others = λ at no. b.others at (λ k d h. no k d (omega (arith, h)));
}
