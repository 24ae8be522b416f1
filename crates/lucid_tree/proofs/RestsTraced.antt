-- What a plan traces at its rest: the looks that stand next, and, where it comes to a value, nothing but the looks on the way.
use Rattle.lucid_tree.proofs.Common.{◌≡◌, ℕ, suc, ◌+◌, ◌≤◌, List, [], ◌∷◌, Option, Some, sym, subst, nat_le, if◌then◌else◌, ◌⊎◌, inl, inr, arith, nat_tests, PlainValue, Head, In, Inside, Look, Plan, gives, looks, plan, Reader, all_values, with_values, gather, trace, Reads, ReadsAtSome, AllHave, LeadsTo, at_start, and_then}
use Rattle.std.proofs.Common.{Bool, true, false}
use Rattle.lucid_tree.proofs.Members.{in_left, in_right, in_either}
use Rattle.lucid_tree.proofs.Plans.{Within, same_looks, Keeps}
use Rattle.lucid_tree.proofs.Settled.{AllTaken, one_taken, Takes, takes_looks, takes_plan}
use Rattle.lucid_tree.proofs.RunsMeant.{plan-up, reader-up}
use Rattle.lucid_tree.proofs.Ways.{values_there, leads-maps, leads-within, one_reader_for_all}

-- each rest of a plan that m takes whole is taken whole
taken_on : (m : ℕ) (ls : List Look) (k : List PlainValue → Plan) (vs : List PlainValue) → Takes m (looks ls k) → Takes m (k vs)
taken_on m ls k vs (takes_looks f g) = g vs

pub rest_taken : (m : ℕ) (M : Look → PlainValue → Type 0) (p q : Plan) → Takes m p → LeadsTo M p q → Takes m q
rest_taken m M p q h at_start = h
rest_taken m M p q h (and_then {ls} {k} vs a n) = taken_on m ls k vs (rest_taken m M p (looks ls k) h a)

among_taken : (m : ℕ) (ls : List Look) → AllTaken m ls → (l : Look) → In l ls → nat_le l.least m ≡ true
among_taken m [] h l i = absurd i
among_taken m (k ∷ ls) (one_taken h hs) l (inl e) = subst (λ z. nat_le z.least m ≡ true) (sym e) h
among_taken m (k ∷ ls) (one_taken h hs) l (inr i) = among_taken m ls hs l i

looks_taken : (m : ℕ) (ls : List Look) (k : List PlainValue → Plan) → Takes m (looks ls k) → (l : Look) → In l ls → nat_le l.least m ≡ true
looks_taken m ls k (takes_looks f g) l i = among_taken m ls f l i

-- the looks that stand next in the plan of m are taken by m
pub next_taken : (M : Look → PlainValue → Type 0) (m : ℕ) (f : Head) (t s : ℕ) (ls : List Look) (k : List PlainValue → Plan)
    → LeadsTo M (plan m f t s) (looks ls k) → (l : Look) → In l ls → l.least ≤ m
next_taken M m f t s ls k a l i =
    let h : nat_le l.least m ≡ true = looks_taken m ls k (rest_taken m M (plan m f t s) (looks ls k) (takes_plan m f t s) a) l i in
    grind (arith, nat_tests)

module _ {A : Type 0} (m : ℕ) (decide : Reader (Option PlainValue)) (see : Reader (List A)) where
  -- what a rest sees, the plan sees
  pub rest_traced : (p q : Plan) → LeadsTo (Reads decide) p q → Inside (trace m q decide see) (trace m p decide see)
  rest_traced p q at_start x i = i
  rest_traced p q (and_then {ls} {k} vs a n) x i =
      let e : all_values decide ls ≡ Some vs = values_there decide ls vs n in
      let later : In x (with_values (all_values decide ls) [] (λ ws. trace m (k ws) decide see)) = rw e i in
      rest_traced p (looks ls k) a x (in_right x (gather m see ls) _ later)

  gather_has : (ls : List Look) (l : Look) → In l ls → nat_le l.least m ≡ true → Inside (see l.part l.time l.space) (gather m see ls)
  gather_has [] l j h x i = absurd j
  gather_has (k ∷ ls) l (inl e) h x i =
      let g : nat_le k.least m ≡ true = subst (λ z. nat_le z.least m ≡ true) e h in
      in_left x (if nat_le k.least m then see k.part k.time k.space else []) (gather m see ls) (rw g (subst (λ z. In x (see z.part z.time z.space)) e i))
  gather_has (k ∷ ls) l (inr j) h x i = in_right x (if nat_le k.least m then see k.part k.time k.space else []) (gather m see ls) (gather_has ls l j h x i)

  next_traced : (p : Plan) (ls : List Look) (k : List PlainValue → Plan) → LeadsTo (Reads decide) p (looks ls k) → (l : Look) → In l ls
      → nat_le l.least m ≡ true → Inside (see l.part l.time l.space) (trace m p decide see)
  next_traced p ls k a l i h x j =
      rest_traced p (looks ls k) a x (in_left x (gather m see ls) (with_values (all_values decide ls) [] (λ ws. trace m (k ws) decide see))
      (gather_has ls l i h x j))

  further_traced : (p : Plan) (ls : List Look) (k : List PlainValue → Plan) (q : Plan) → Within (looks ls k) q → LeadsTo (Reads decide) p q → (l : Look)
      → In l ls → nat_le l.least m ≡ true → Inside (see l.part l.time l.space) (trace m p decide see)
  further_traced p ls k q (same_looks {k' = c} h) a l i e = next_traced p ls c a l i e

  -- what a look that stands next sees, the plan of m sees where n at least m decides the choices
  pub next_seen : (n : ℕ) → m ≤ n → (f : Head) (t s : ℕ) (ls : List Look) (k : List PlainValue → Plan) → LeadsTo (Reads decide) (plan m f t s) (looks ls k)
      → (l : Look) → In l ls → Inside (see l.part l.time l.space) (trace m (plan n f t s) decide see)
  next_seen n h f t s ls k a l i =
      let g = leads-within (Reads decide) (plan m f t s) (plan n f t s) (looks ls k) (plan-up m n h f t s) a in
      let e : nat_le l.least m ≡ true = looks_taken m ls k (rest_taken m (Reads decide) (plan m f t s) (looks ls k) (takes_plan m f t s) a) l i in
      further_traced (plan n f t s) ls k g.rest g.within g.way l i e

  -- some look with the fact sees it
  abbrev pub SeenByOne : (Look → Type 0) → A → Type 0
  SeenByOne Q x = (l : Look) × Q l × In x (see l.part l.time l.space)

  gathered : (Q : Look → Type 0) (ls : List Look) (vs : List PlainValue) → AllHave (λ l w. Reads decide l w × Q l) ls vs → (x : A) → In x (gather m see ls)
      → SeenByOne Q x
  gathered Q [] vs a x i = absurd i
  gathered Q (l ∷ ls) [] a x i = absurd a
  gathered Q (l ∷ ls) (v ∷ vs) a x i =
      elim (in_either x (if nat_le l.least m then see l.part l.time l.space else []) (gather m see ls) i) [
        | inl j ↦ (l, a.0.1, shown (nat_le l.least m) j)
        | inr j ↦ gathered Q ls vs a.1 x j
      ]
    where
      shown : (b : Bool) → In x (if b then see l.part l.time l.space else []) → In x (see l.part l.time l.space)
      shown true j = j
      shown false j = absurd j

  all_read : (Q : Look → Type 0) (ls : List Look) (vs : List PlainValue) → AllHave (λ l w. Reads decide l w × Q l) ls vs → AllHave (Reads decide) ls vs
  all_read Q [] [] a = tt
  all_read Q [] (v ∷ vs) a = absurd a
  all_read Q (l ∷ ls) [] a = absurd a
  all_read Q (l ∷ ls) (v ∷ vs) a = (a.0.0, all_read Q ls vs a.1)

  way_or_rest : (Q : Look → Type 0) (p q : Plan) → LeadsTo (λ l w. Reads decide l w × Q l) p q → (x : A) → In x (trace m p decide see)
      → SeenByOne Q x ⊎ In x (trace m q decide see)
  way_or_rest Q p q at_start x i = inr i
  way_or_rest Q p q (and_then {ls} {k} vs a n) x i = on (way_or_rest Q p (looks ls k) a x i)
    where
      e : all_values decide ls ≡ Some vs
      e = values_there decide ls vs (all_read Q ls vs n)

      either_part : In x (gather m see ls) ⊎ In x (with_values (all_values decide ls) [] (λ ws. trace m (k ws) decide see))
          → SeenByOne Q x ⊎ In x (trace m (k vs) decide see)
      either_part (inl j) = inl (gathered Q ls vs n x j)
      either_part (inr j) = inr (subst (λ o. In x (with_values o [] (λ ws. trace m (k ws) decide see))) e j)

      on : SeenByOne Q x ⊎ In x (trace m (looks ls k) decide see) → SeenByOne Q x ⊎ In x (trace m (k vs) decide see)
      on (inl y) = inl y
      on (inr j) = either_part (in_either x (gather m see ls) _ j)

  -- what a plan that comes to a value sees, some look on the way saw
  pub seen_on_the_way : (Q : Look → Type 0) (p : Plan) (v : PlainValue) → LeadsTo (λ l w. Reads decide l w × Q l) p (gives v) → (x : A)
      → In x (trace m p decide see) → SeenByOne Q x
  seen_on_the_way Q p v a x i = elim (way_or_rest Q p (gives v) a x i) [ inl y ↦ y | inr j ↦ absurd j ]

-- where the values on the way are each of some limit: for each added number from some on
pub next_seen_on : {A : Type 0} (rs : ℕ → Reader (Option PlainValue)) → ((n i t s : ℕ) → Keeps (rs n i t s) (rs (suc n) i t s))
    → (see : Reader (List A)) (m : ℕ) (f : Head) (t s : ℕ) (ls : List Look) (k : List PlainValue → Plan) → LeadsTo (ReadsAtSome rs) (plan m f t s) (looks ls k)
    → (d : ℕ) × ((e : ℕ) → d ≤ e → (l : Look) → In l ls → Inside (see l.part l.time l.space) (trace m (plan (m + e) f t s) (rs (m + e)) see))
next_seen_on rs grows see m f t s ls k a =
    let one = one_reader_for_all rs grows (plan m f t s) (looks ls k) a in (
      one.0,
      λ e h l i. next_seen m (rs (m + e)) see (m + e) (omega arith) f t s ls k
          (leads-maps (Reads (rs one.0)) (Reads (rs (m + e))) (λ z v d. reader-up rs grows one.0 (m + e) (omega arith) z.part z.time z.space v d) (plan m f t s)
          (looks ls k) one.1) l i,
    )
