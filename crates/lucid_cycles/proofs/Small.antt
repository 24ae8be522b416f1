-- The edges of a program have small numbers.
use Rattle.lucid_cycles.proofs.Common.{◌≡◌, ℕ, suc, ◌+◌, ◌<◌, ◌≤◌, Bool, true, false, cond, List, [], ◌∷◌, ◌++◌, length, Option, Some, inl, inr, refl, sym, ap, subst, ◌∙◌, arith, length-append, ℤ, pos, All, ints, nat_tests, All-nil, All-cons, All-append, All-map, All-weaker, sum_by-cons, Head, first, next, fby, PlainTree, form, name, call, block, PlainTrees, no_trees, tree, PlainDefs, no_defs, defines, defines_function, defines_current, In, right_of, places, places_in, places_in_defs, in_left, in_right, Binding, Plain, Edge, outside, outside_in, outside_in_defs, plain_names, plain_names_in, plain_names_in_defs, Bindings, edge_to, edges, edges_in, edges_in_defs, first_delay, later_delay, number, graph, Fits, IsSmall, own_marks, marks, marks_in_defs, option_map, count_by-le-length}
use Rattle.std.proofs.Common.{None, nat_lt}
use Rattle.lucid_tree.specs.DefsView.{def_of, one_def}
use Rattle.lucid_tree.specs.declared.tree.Def.{Def}
use Rattle.lucid_tree.specs.declared.tree.DefKind.{DefKind}
use Rattle.lucid_tree.specs.declared.tree.DefKind.TheVariants.{Plain as DefPlain, Function as DefFunction, Current as DefCurrent}
use Rattle.lucid_tree.specs.WellMade.{IsWellMade}
use Rattle.lucid_scope.specs.declared.scoped.Binding.TheVariants.{Parameter, Current, Function, Input}
use Rattle.lucid_cycles.specs.Graph.{numbered}
use Rattle.lucid_cycles.specs.Rounds.{FromBelow}
use Rattle.lucid_cycles.proofs.Lists.{nil-left, nil-right}
use Rattle.lucid_cycles.specs.Walks.{both}

pub fits-part : (w : ℤ) (n m : ℕ) → m ≤ n → Fits w n → Fits w m
fits-part w n m h f = let l = f.low in let u = f.high in record { low = omega (arith, ints, l); high = omega (arith, ints, u) }

pub fits-zero : (n : ℕ) → n ≤ 4294967296 → Fits (pos 0) n
fits-zero n h = record { low = omega (arith, ints); high = omega (arith, ints) }

pub fits-under : (w : ℤ) (n : ℕ) → Fits w n → n ≤ 4294967296
fits-under w n f = let l = f.low in let u = f.high in omega (arith, ints, l, u)

-- the delay of parts fits the first of them, and those after it
pub fits-here : (w : ℤ) (e : PlainTree) (es : PlainTrees) → Fits w (length (places_in (tree e es))) → Fits w (length (places e))
fits-here w e es f = fits-part w (length (places e ++ places_in es)) (length (places e)) (omega (arith, length-append (places e) (places_in es))) f

pub fits-after : (w : ℤ) (e : PlainTree) (es : PlainTrees) → Fits w (length (places_in (tree e es))) → Fits w (length (places_in es))
fits-after w e es f = fits-part w (length (places e ++ places_in es)) (length (places_in es)) (omega (arith, length-append (places e) (places_in es))) f

-- the delays of a form's parts fit where its own does
pub fits-first : (f : Head) (w : ℤ) (n : ℕ) → Fits w (suc n) → Fits (first_delay f w) n
fits-first first w n h = fits-zero n (omega (arith, fits-under w (suc n) h))
fits-first next w n h = let l = h.low in let u = h.high in record { low = omega (arith, ints, l); high = omega (arith, ints, u) }
fits-first _ w n h = fits-part w (suc n) n (omega arith) h

pub fits-later : (f : Head) (w : ℤ) (n : ℕ) → Fits w (suc n) → Fits (later_delay f w) n
fits-later fby w n h = let l = h.low in let u = h.high in record { low = omega (arith, ints, l); high = omega (arith, ints, u) }
fits-later f w n h = fits-first f w n h

-- what is met in definitions is what is met in the first, and in those after it
marks-one : (b : Bindings) (at : ℕ) (n : List ℕ) (k : DefKind) (ds : PlainDefs)
    → marks_in_defs b (def_of at n k ds) ≡ both (own_marks at n k) (both (marks b (Some at) (pos 0) (right_of k)) (marks_in_defs b ds))
marks-one b at n (DefPlain e) ds = refl
marks-one b at n (DefFunction ps ats e) ds = refl
marks-one b at n (DefCurrent e) ds = refl

pub marks-def : (b : Bindings) (d : Def) (ds es : PlainDefs) → es ≡ one_def d ds
    → marks_in_defs b es ≡ both (own_marks d.at d.name d.kind) (both (marks b (Some d.at) (pos 0) (right_of d.kind)) (marks_in_defs b ds))
marks-def b d ds es e = ap (marks_in_defs b) e ∙ marks-one b d.at d.name d.kind ds

-- and those after it have no more places
places-one : (at : ℕ) (n : List ℕ) (k : DefKind) (ds : PlainDefs) → length (places_in_defs ds) ≤ length (places_in_defs (def_of at n k ds))
places-one at n (DefPlain e) ds = omega (arith, length-append (places e) (places_in_defs ds))
places-one at n (DefFunction ps ats e) ds = omega (arith, length-append (ats ++ places e) (places_in_defs ds))
places-one at n (DefCurrent e) ds = omega (arith, length-append (places e) (places_in_defs ds))

pub rest-places : (d : Def) (ds es : PlainDefs) → es ≡ one_def d ds → length (places_in_defs ds) ≤ length (places_in_defs es)
rest-places d ds es e = omega (arith, ap (λ z. length (places_in_defs z)) e, places-one d.at d.name d.kind ds)

-- the names from which edges go are among these
abbrev Known : List ℕ → Option ℕ → Type 0
Known ds None = Unit {0}
Known ds (Some d) = In d ds

record Good (ds : List ℕ) (e : Edge) : Type 0 where
  known : Known ds e.from
  fits : Fits e.delay 0

one-edge : (ds : List ℕ) (x : Option ℕ) (w : ℤ) (o : Option Binding) → Known ds x → Fits w 0 → All (Good ds) (edge_to x w o)
one-edge ds x w None k f = All-nil (Good ds)
one-edge ds x w (Some (Plain d)) k f = All-cons (Good ds) (record { from = x; to = d; delay = w }) [] (record { known = k; fits = f }) (All-nil (Good ds))
one-edge ds x w (Some (Parameter d i)) k f = All-nil (Good ds)
one-edge ds x w (Some (Current d)) k f = All-nil (Good ds)
one-edge ds x w (Some (Function d)) k f = All-nil (Good ds)
one-edge ds x w (Some (Input i)) k f = All-nil (Good ds)

abbrev Has : List ℕ → List ℕ → Type 0
Has ds xs = (d : ℕ) → In d xs → In d ds

module _ (b : Bindings) (ds : List ℕ) where
  mutual
    good-edges : (x : Option ℕ) (w : ℤ) (e : PlainTree) → outside e ≡ [] → Known ds x → Has ds (plain_names e) → Fits w (length (places e))
        → All (Good ds) (edges b x w e)
    good-edges x w (name at n) o k h f = one-edge ds x w (b at) k (fits-part w 1 0 (omega arith) f)
    good-edges x w (call at n es) o k h f = cc
    good-edges x w (block at e es) o k h f =
        let all = length-append (places e) (places_in_defs es) in
        All-append (Good ds) (edges b x w e) (edges_in_defs b es)
        (good-edges x w e (nil-left (outside e) (outside_in_defs es) o) k (λ d i. h d (in_left d (plain_names e) (plain_names_in_defs es) i))
        (fits-part w (suc (length (places e ++ places_in_defs es))) (length (places e)) (omega (arith, all)) f))
        (good-edges-of es (nil-right (outside e) (outside_in_defs es) o) (λ d i. h d (in_right d (plain_names e) (plain_names_in_defs es) i))
        (omega (arith, all, fits-under w _ f)))
    good-edges x w (form at l es) o k h f =
        good-edges-in x (first_delay l w) (later_delay l w) es (nil-right _ (outside_in es) o) k h (fits-first l w (length (places_in es)) f)
        (fits-later l w (length (places_in es)) f)

    good-edges-in : (x : Option ℕ) (w v : ℤ) (es : PlainTrees) → outside_in es ≡ [] → Known ds x → Has ds (plain_names_in es) → Fits w (length (places_in es))
        → Fits v
        (length (places_in es)) → All (Good ds) (edges_in b x w v es)
    good-edges-in x w v no_trees o k h f g = All-nil (Good ds)
    good-edges-in x w v (tree e es) o k h f g =
        let rest = fits-after v e es g in
        All-append (Good ds) (edges b x w e) (edges_in b x v v es)
        (good-edges x w e (nil-left (outside e) (outside_in es) o) k (λ d i. h d (in_left d (plain_names e) (plain_names_in es) i)) (fits-here w e es f))
        (good-edges-in x v v es (nil-right (outside e) (outside_in es) o) k (λ d i. h d (in_right d (plain_names e) (plain_names_in es) i)) rest rest)

    good-edges-of : (es : PlainDefs) → outside_in_defs es ≡ [] → Has ds (plain_names_in_defs es) → length (places_in_defs es) ≤ 4294967296
        → All (Good ds) (edges_in_defs b es)
    good-edges-of no_defs o h f = All-nil (Good ds)
    good-edges-of (defines at n e es) o h f =
        let all = length-append (places e) (places_in_defs es) in
        All-append (Good ds) (edges b (Some at) (pos 0) e) (edges_in_defs b es)
        (good-edges (Some at) (pos 0) e (nil-left (outside e) (outside_in_defs es) o) (h at (inl refl))
        (λ d i. h d (inr (in_left d (plain_names e) (plain_names_in_defs es) i))) (fits-zero (length (places e)) (omega (arith, all, f))))
        (good-edges-of es (nil-right (outside e) (outside_in_defs es) o) (λ d i. h d (inr (in_right d (plain_names e) (plain_names_in_defs es) i)))
        (omega (arith, all, f)))
    good-edges-of (defines_function at n ns ats e es) o h f = cc
    good-edges-of (defines_current at n e es) o h f = cc

-- a name's number is below how many names there are
lesser-not : (b : Bool) (n m : ℕ) → b ≡ false → n ≤ m → cond b 1 0 + n < suc m
lesser-not true n m e h = cc
lesser-not false n m e h = omega (arith, h)

not-itself : (x d : ℕ) → d ≡ x → nat_lt x d ≡ false
not-itself x d e = grind (arith, nat_tests)

less-more : (b : Bool) (n m : ℕ) → n < m → cond b 1 0 + n < suc m
less-more true n m h = omega (arith, h)
less-more false n m h = omega (arith, h)

number-more : (d x : ℕ) (ds : List ℕ) → number (x ∷ ds) d ≡ cond (nat_lt x d) 1 0 + number ds d
number-more d x ds = sum_by-cons (λ y. cond (nat_lt y d) 1 0) x ds

number-below : (d : ℕ) (ds : List ℕ) → In d ds → number ds d < length ds
number-below d [] i = absurd i
number-below d (x ∷ ds) (inl e) =
    subst (λ n. n < suc (length ds)) (sym (number-more d x ds))
    (lesser-not (nat_lt x d) (number ds d) (length ds) (not-itself x d e) (count_by-le-length (λ y. nat_lt y d) ds))
number-below d (x ∷ ds) (inr i) = subst (λ n. n < suc (length ds)) (sym (number-more d x ds))
    (less-more (nat_lt x d) (number ds d) (length ds) (number-below d ds i))

below-from : (ds : List ℕ) (x : Option ℕ) → Known ds x → FromBelow (length ds) (option_map (number ds) x)
below-from ds None k = tt
below-from ds (Some d) k = number-below d ds k

small : (ds : List ℕ) (e : Edge) → Good ds e → IsSmall (length ds) (numbered ds e)
small ds e g =
    let l = g.fits.low in
    let u = g.fits.high in
    record { from_below = below-from ds e.from g.known; low = omega (arith, ints, l); high = omega (arith, ints, u) }

pub graph-small : (e : PlainTree) (b : Bindings) → IsWellMade e → outside e ≡ [] → All (IsSmall (length (plain_names e))) (graph e b)
graph-small e b w o =
    let ds : List ℕ = plain_names e in
    let few = w.few in
    All-map (IsSmall (length ds)) (numbered ds) (edges b None (pos 0) e)
    (All-weaker (Good ds) (λ x. IsSmall (length ds) (numbered ds x)) (λ x g. small ds x g) (edges b None (pos 0) e)
    (good-edges b ds None (pos 0) e o tt (λ d i. i) (fits-zero (length (places e)) (omega (arith, few)))))
