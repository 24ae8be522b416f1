-- A well-made tree has one list of inputs: no two of its sites have one place, so one order alone has their places rise.
use Rattle.lucid_scope.proofs.Common.{◌≡◌, ℕ, suc, ◌+◌, ◌<◌, ◌≤◌, Bool, true, false, cond, List, [], ◌∷◌, get_or, fold, nat_eq, ◌⊎◌, inl, inr, refl, sym, ap, subst, ◌∙◌, arith, sum_by, IsPermutation, IsNonDecreasingBy, sum_by-cons, IsPermutation-sym, Contains-permutation, sum_by-IsPermutation, PlainTree, places, IsWellMade, contained, outermost, Site, site_at, all_sites, with_site}
use Rattle.lucid_tree.specs.Members.{In, Inside}
use Rattle.lucid_tree.proofs.Members.{number_in as index_of, stands_at as standing}
use Rattle.lucid_scope.specs.Laws.{InputsAreUnique}
use Rattle.lucid_scope.proofs.Weights.{sites-weight}
use Rattle.lucid_scope.proofs.Resolved.{itself, at-most-one}

-- one where the number is, and nothing elsewhere
abbrev at_number : ℕ → ℕ → ℕ
at_number at x = cond (nat_eq at x) 1 0

-- no place has two of the sites
abbrev HaveOwnPlaces : List Site → Type 0
HaveOwnPlaces ss = (at : ℕ) → sum_by (λ s. at_number at (site_at s)) ss ≤ 1

own_places : (e : PlainTree) (order : List Site) → IsWellMade e → IsPermutation (all_sites e) order → HaveOwnPlaces order
own_places e order w p at =
    let same : sum_by (λ s. at_number at (site_at s)) order ≡ sum_by (λ s. at_number at (site_at s)) (all_sites e) =
    sum_by-IsPermutation (λ s. at_number at (site_at s)) (all_sites e) order p in
    omega (arith, same, sites-weight (at_number at) outermost e, at-most-one at (places e) w.placed)

-- each site stands before those of greater places
abbrev Rise : List Site → Type 0
Rise [] = Unit {0}
Rise (s ∷ ss) = ((t : Site) → In t ss → site_at s < site_at t) × Rise ss

-- a place that some site of a list has
weighs : (t : Site) (ss : List Site) → In t ss → 1 ≤ sum_by (λ s. at_number (site_at t) (site_at s)) ss
weighs t [] i = absurd i
weighs t (s ∷ ss) (inl same) =
    let one : at_number (site_at t) (site_at s) ≡ 1 = subst (λ (x : Site). at_number (site_at t) (site_at x) ≡ 1) same (itself (site_at t)) in
    omega (arith, sum_by-cons (λ s. at_number (site_at t) (site_at s)) s ss, one)
weighs t (s ∷ ss) (inr later) = omega (arith, sum_by-cons (λ s. at_number (site_at t) (site_at s)) s ss, weighs t ss later)

later_places : (s : Site) (ss : List Site) → IsNonDecreasingBy site_at (s ∷ ss) → HaveOwnPlaces (s ∷ ss) → (t : Site) → In t ss → site_at s < site_at t
later_places s ss rises own t i =
    let k = index_of t s ss i in
    let le : site_at s ≤ site_at (get_or ss k.0 s) = rises 0 (suc k.0) s (omega arith) (omega (arith, k.1)) in
    let le' : site_at s ≤ site_at t = subst (λ (x : Site). site_at s ≤ site_at x) k.2 le in
    let cons = sum_by-cons (λ x. at_number (site_at t) (site_at x)) s ss in
    let most = own (site_at t) in
    let some = weighs t ss i in
    apart (site_at s) (site_at t) (nat_eq (site_at t) (site_at s)) refl le' (sum_by (λ x. at_number (site_at t) (site_at x)) ss) some
    (omega (arith, cons, most))
  where
    apart : (a b : ℕ) (same : Bool) → nat_eq b a ≡ same → a ≤ b → (rest : ℕ) → 1 ≤ rest → cond same 1 0 + rest ≤ 1 → a < b
    apart a b true is le rest some most = absurd (omega (arith, some, most))
    apart a b false is le rest some most = grind (arith, is, le)

tail_rises : (s : Site) (ss : List Site) → IsNonDecreasingBy site_at (s ∷ ss) → IsNonDecreasingBy site_at ss
tail_rises s ss rises i j d le lt = rises (suc i) (suc j) d (omega (arith, le)) (omega (arith, lt))

tail_own : (s : Site) (ss : List Site) → HaveOwnPlaces (s ∷ ss) → HaveOwnPlaces ss
tail_own s ss own at = omega (arith, sum_by-cons (λ x. at_number at (site_at x)) s ss, own at)

rise : (ss : List Site) → IsNonDecreasingBy site_at ss → HaveOwnPlaces ss → Rise ss
rise [] r o = tt
rise (s ∷ ss) r o = (later_places s ss r o, rise ss (tail_rises s ss r) (tail_own s ss o))

-- two lists that rise and have the same sites are one
heads : (s t : Site) (ss ts : List Site) → Rise (s ∷ ss) → Rise (t ∷ ts) → (s ≡ t) ⊎ In s ts → (t ≡ s) ⊎ In t ss → s ≡ t
heads s t ss ts r q (inl same) b = same
heads s t ss ts r q (inr later) (inl same) = sym same
heads s t ss ts r q (inr later) (inr later') = absurd (omega (arith, q.0 s later, r.0 t later'))

tails : (s t : Site) (ss ts : List Site) → s ≡ t → Rise (s ∷ ss) → Inside (s ∷ ss) (t ∷ ts) → Inside ss ts
tails s t ss ts same r inside x i = behind (inside x (inr i))
  where
    behind : (x ≡ t) ⊎ In x ts → In x ts
    behind (inr later) = later
    behind (inl here) =
        let place : site_at x ≡ site_at s = ap site_at (here ∙ sym same) in
        absurd (omega (arith, r.0 x i, place))

one_order : (ss ts : List Site) → Rise ss → Rise ts → Inside ss ts → Inside ts ss → ss ≡ ts
one_order [] [] r q a b = refl
one_order [] (t ∷ ts) r q a b = absurd (b t (inl refl))
one_order (s ∷ ss) [] r q a b = absurd (a s (inl refl))
one_order (s ∷ ss) (t ∷ ts) r q a b =
    let same : s ≡ t = heads s t ss ts r q (a s (inl refl)) (b t (inl refl)) in
    let rest : ss ≡ ts = one_order ss ts r.1 q.1 (tails s t ss ts same r a) (tails t s ts ss (sym same) q b) in
    ap (λ x. x ∷ ss) same ∙ ap (λ l. t ∷ l) rest

same_sites : (xs ys : List Site) → IsPermutation xs ys → Inside xs ys
same_sites xs ys p s i = let c = Contains-permutation xs ys s p (contained s xs i) in standing s ys c.0 c.1 c.2

pub one_list : InputsAreUnique
one_list e a b w x y =
    let to : Inside x.order y.order = λ s i. same_sites (all_sites e) y.order y.permutes s
    (same_sites x.order (all_sites e) (IsPermutation-sym (all_sites e) x.order x.permutes) s i) in
    let from : Inside y.order x.order = λ s i. same_sites (all_sites e) x.order x.permutes s
    (same_sites y.order (all_sites e) (IsPermutation-sym (all_sites e) y.order y.permutes) s i) in
    let same : x.order ≡ y.order = one_order x.order y.order (rise x.order x.rises (own_places e x.order w x.permutes))
    (rise y.order y.rises (own_places e y.order w y.permutes)) to from in
    x.names ∙ ap (λ ss. fold with_site [] ss) same ∙ sym y.names
