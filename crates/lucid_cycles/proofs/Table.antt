-- The table of names and the least place, from folds over the tree's lists.
use Rattle.lucid_cycles.proofs.Common.{◌≡◌, ℕ, ◌+◌, ◌<◌, ◌≤◌, Bool, true, false, cond, List, [], ◌∷◌, ◌++◌, length, fold, Option, Some, ◌⊎◌, inl, inr, refl, sym, ap, subst, ◌∙◌, arith, append_assoc, All, append-nil, nat_tests, All-nil, All-cons, All-head, All-tail, lt-ltb, le-ltb, PlainTree, In, Names, outside, IsFirstOutside, with_name, listed_names, set, length-set, take_more_set}
use Rattle.std.proofs.Common.{None, nat_lt}
use Rattle.lucid_cycles.specs.Judged.{most_names}
use Rattle.lucid_cycles.specs.Walks.{lesser}

-- a table in which all names have room
pub record Roomy (n m : Names) (ds : List ℕ) : Type 0 where
  pub count : m.count ≡ n.count + length ds
  pub listed : listed_names m ≡ listed_names n ++ ds

with-room : (n : Names) (d : ℕ) → n.count < 2000 → with_name n d ≡ record { places = set n.places n.count d; count = n.count + 1 }
with-room n d h = ap (λ b. cond b (record { places = set n.places n.count d; count = n.count + 1 }) (record { places = n.places; count = most_names + 1 }))
    (lt-ltb n.count 2000 h)

without-room : (n : Names) (d : ℕ) → 2000 ≤ n.count → with_name n d ≡ record { places = n.places; count = 2001 }
without-room n d h = ap (λ b. cond b (record { places = set n.places n.count d; count = n.count + 1 }) (record { places = n.places; count = most_names + 1 }))
    (le-ltb n.count 2000 h)

pub roomy : (ds : List ℕ) (n m : Names) → m ≡ fold with_name n ds → length n.places ≡ 2000 → n.count + length ds ≤ 2000 → Roomy n m ds
roomy [] n m e r h = record { count = omega (arith, ap (λ x. x.count) e); listed = ap listed_names e ∙ sym (append-nil (listed_names n)) }
roomy (d ∷ ds) n m e r h =
    let w : Names = record { places = set n.places n.count d; count = n.count + 1 } in
    let one = with-room n d (omega (arith, h)) in
    let rest : Roomy w m ds = roomy ds w m (e ∙ ap (λ x. fold with_name x ds) one) (length-set n.places n.count d ∙ r) (omega (arith, h)) in
    let here : n.count < length n.places = omega (arith, r, h) in
    record {
      count = omega (arith, rest.count);
      listed = rest.listed ∙ ap (λ l. l ++ ds) (take_more_set n.places n.count d here) ∙ append_assoc (listed_names n) (d ∷ []) ds;
    }

under : (x : ℕ) → (x < 2000) ⊎ (2000 ≤ x)
under x = elim (nat_lt x 2000) as (λ b. nat_lt x 2000 ≡ b → (x < 2000) ⊎ (2000 ≤ x))
    [ true ↦ (λ e. inl (grind (arith, nat_tests, e))) | false ↦ (λ e. inr (grind (arith, nat_tests, e))) ] refl

pub crowded : (ds : List ℕ) (n m : Names) → m ≡ fold with_name n ds → n.count ≤ 2001 → 2000 < n.count + length ds → m.count ≡ 2001
crowded [] n m e l h = omega (arith, ap (λ x. x.count) e, l, h)
crowded (d ∷ ds) n m e l h = elim (under n.count) [
  | inl u ↦ crowded ds (record { places = set n.places n.count d; count = n.count + 1 }) m (e ∙ ap (λ x. fold with_name x ds) (with-room n d u))
      (omega (arith, u)) (omega (arith, h))
  | inr u ↦ crowded ds (record { places = n.places; count = 2001 }) m (e ∙ ap (λ x. fold with_name x ds) (without-room n d u)) (omega arith) (omega arith)
]

-- the least place of a fold
pub record Least (xs : List ℕ) (y : ℕ) : Type 0 where
  pub stands : In y xs
  pub least : All (λ x. y ≤ x) xs

pub record Leads (o : Option ℕ) (xs : List ℕ) : Type 0 where
  pub place : ℕ
  pub is : o ≡ Some place
  pub least : Least xs place

least-on : (x z : ℕ) (xs : List ℕ) (o : Option ℕ) (b : Bool) → nat_lt z x ≡ b → Leads o ((cond b z x) ∷ xs) → Leads o (x ∷ z ∷ xs)
least-on x z xs o true e l =
    let h : z < x = grind (arith, nat_tests, e) in
    let y : ℕ = l.place in
    let tail : All (λ w. y ≤ w) xs = All-tail (λ w. y ≤ w) z xs l.least.least in
    let low : y ≤ z = All-head (λ w. y ≤ w) z xs l.least.least in
    record {
      place = y;
      is = l.is;
      least = record {
        stands = inr l.least.stands;
        least = All-cons (λ w. y ≤ w) x (z ∷ xs) (omega (arith, h, low)) (All-cons (λ w. y ≤ w) z xs low tail);
      };
    }
least-on x z xs o false e l =
    let h : x ≤ z = grind (arith, nat_tests, e) in
    let y : ℕ = l.place in
    let tail : All (λ w. y ≤ w) xs = All-tail (λ w. y ≤ w) x xs l.least.least in
    let low : y ≤ x = All-head (λ w. y ≤ w) x xs l.least.least in
    record {
      place = y;
      is = l.is;
      least = record {
        stands = elim l.least.stands [ inl q ↦ inl q | inr q ↦ inr (inr q) ];
        least = All-cons (λ w. y ≤ w) x (z ∷ xs) low (All-cons (λ w. y ≤ w) z xs (omega (arith, h, low)) tail);
      };
    }

some-of : (b : Bool) (z x : ℕ) → cond b (Some z) (Some x) ≡ Some (cond b z x)
some-of true z x = refl
some-of false z x = refl

fold-least : (xs : List ℕ) (x : ℕ) → Leads (fold lesser (Some x) xs) (x ∷ xs)
fold-least [] x = record { place = x; is = refl; least = record { stands = inl refl; least = All-cons (λ w. x ≤ w) x [] (omega arith) (All-nil (λ w. x ≤ w)) } }
fold-least (z ∷ xs) x =
    least-on x z xs (fold lesser (Some x) (z ∷ xs)) (nat_lt z x) refl
    (subst (λ o. Leads (fold lesser o xs) (cond (nat_lt z x) z x ∷ xs)) (sym (some-of (nat_lt z x) z x)) (fold-least xs (cond (nat_lt z x) z x)))

pub none-outside : (xs : List ℕ) → None ≡ fold lesser None xs → xs ≡ []
none-outside [] e = refl
none-outside (x ∷ xs) e = let l = fold-least xs x in let q = e ∙ l.is in cc

some-place : (xs : List ℕ) (at : ℕ) → Some at ≡ fold lesser None xs → Least xs at
some-place [] at e = cc
some-place (x ∷ xs) at e = let l = fold-least xs x in let q : at ≡ l.place = let s = e ∙ l.is in cc in subst (Least (x ∷ xs)) (sym q) l.least

pub first-outside : (e : PlainTree) (at : ℕ) → Some at ≡ fold lesser None (outside e) → IsFirstOutside e at
first-outside e at h = let l = some-place (outside e) at h in record { stands = l.stands; least = l.least }
