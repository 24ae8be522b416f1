-- Where a plan looks: whatever it sees some look sees, what a look sees the plan sees, and where it has a value its looks have.
use Rattle.lucid_equations.proofs.Common.{◌≡◌, ℕ, Bool, true, false, List, [], ◌∷◌, Option, Some, None, refl, sym, subst, if◌then◌else◌, inl, inr, PlainValue, In, Inside, Look, Plan, gives, looks, Reader, with_values, run, trace, in_left, in_right, in_either, nat_le}
use Rattle.lucid_tree.specs.Rows.{nothing, all_values, gather}
use Rattle.lucid_tree.proofs.Settled.{added, defined}

abbrev Point : Type 0
Point = ℕ × ℕ × ℕ

abbrev points : Reader (List Point)
points i t s = (i, t, s) ∷ []

module _ {A : Type 0} (m : ℕ) (decide : Reader (Option PlainValue)) (see : Reader (List A)) where
  one-inside : (c : Bool) (l : Look) (q : Point) → In q (if c then points l.part l.time l.space else [])
      → Inside (see q.0 q.1 q.2) (if c then see l.part l.time l.space else [])
  one-inside true l q (inl e) x i = subst (λ z. In x (see z.0 z.1 z.2)) e i
  one-inside true l q (inr j) x i = absurd j
  one-inside false l q j x i = absurd j

  gathered-inside : (ls : List Look) (q : Point) → In q (gather m points ls) → Inside (see q.0 q.1 q.2) (gather m see ls)
  gathered-inside [] q j x i = absurd j
  gathered-inside (l ∷ ls) q j x i =
      elim (in_either q (if nat_le l.least m then points l.part l.time l.space else []) (gather m points ls) j) [
        | inl a ↦ in_left x (if nat_le l.least m then see l.part l.time l.space else []) (gather m see ls) (one-inside (nat_le l.least m) l q a x i)
        | inr a ↦ in_right x (if nat_le l.least m then see l.part l.time l.space else []) (gather m see ls) (gathered-inside ls q a x i)
      ]

  later-inside : (o : Option (List PlainValue)) (f : List PlainValue → List Point) (g : List PlainValue → List A) (q : Point)
      → ((vs : List PlainValue) → In q (f vs) → Inside (see q.0 q.1 q.2) (g vs)) → In q (with_values o [] f) → Inside (see q.0 q.1 q.2) (with_values o [] g)
  later-inside None f g q h j x i = absurd j
  later-inside (Some vs) f g q h j x i = h vs j x i

  -- what a look sees, the plan sees
  pub looked-inside : (p : Plan) (q : Point) → In q (trace m p decide points) → Inside (see q.0 q.1 q.2) (trace m p decide see)
  looked-inside (gives v) q j x i = absurd j
  looked-inside nothing q j x i = absurd j
  looked-inside (looks ls k) q j x i =
      elim (in_either q (gather m points ls) (with_values (all_values decide ls) [] (λ vs. trace m (k vs) decide points)) j) [
        | inl a ↦ in_left x (gather m see ls) (with_values (all_values decide ls) [] (λ vs. trace m (k vs) decide see)) (gathered-inside ls q a x i)
        | inr a ↦ in_right x (gather m see ls) (with_values (all_values decide ls) [] (λ vs. trace m (k vs) decide see))
            (later-inside (all_values decide ls) (λ vs. trace m (k vs) decide points) (λ vs. trace m (k vs) decide see) q (λ vs. looked-inside (k vs) q) a x i)
      ]

  abbrev Found : List Point → A → Type 0
  Found ps x = (q : Point) × In q ps × In x (see q.0 q.1 q.2)

  one-found : (c : Bool) (l : Look) (x : A) → In x (if c then see l.part l.time l.space else []) → Found (if c then points l.part l.time l.space else []) x
  one-found true l x i = ((l.part, l.time, l.space), inl refl, i)
  one-found false l x i = absurd i

  gathered-found : (ls : List Look) (x : A) → In x (gather m see ls) → Found (gather m points ls) x
  gathered-found [] x i = absurd i
  gathered-found (l ∷ ls) x i =
      elim (in_either x (if nat_le l.least m then see l.part l.time l.space else []) (gather m see ls) i) [
        | inl a ↦ (let h = one-found (nat_le l.least m) l x a in
            (h.0, in_left h.0 (if nat_le l.least m then points l.part l.time l.space else []) (gather m points ls) h.1, h.2))
        | inr
            a ↦ (let h = gathered-found ls x a in
            (h.0, in_right h.0 (if nat_le l.least m then points l.part l.time l.space else []) (gather m points ls) h.1, h.2))
      ]

  later-found : (o : Option (List PlainValue)) (f : List PlainValue → List Point) (g : List PlainValue → List A) (x : A)
      → ((vs : List PlainValue) → In x (g vs) → Found (f vs) x) → In x (with_values o [] g) → Found (with_values o [] f) x
  later-found None f g x h i = absurd i
  later-found (Some vs) f g x h i = h vs i

  -- what the plan sees, a look sees
  pub look-found : (p : Plan) (x : A) → In x (trace m p decide see) → Found (trace m p decide points) x
  look-found (gives v) x i = absurd i
  look-found nothing x i = absurd i
  look-found (looks ls k) x i =
      elim (in_either x (gather m see ls) (with_values (all_values decide ls) [] (λ vs. trace m (k vs) decide see)) i) [
        | inl
            a ↦ (let h = gathered-found ls x a in
            (h.0, in_left h.0 (gather m points ls) (with_values (all_values decide ls) [] (λ vs. trace m (k vs) decide points)) h.1, h.2))
        | inr a ↦ (
            let h = later-found (all_values decide ls) (λ vs. trace m (k vs) decide points) (λ vs. trace m (k vs) decide see) x (λ vs. look-found (k vs) x) a in
            (h.0, in_right h.0 (gather m points ls) (with_values (all_values decide ls) [] (λ vs. trace m (k vs) decide points)) h.1, h.2)
            )
      ]

module _ (m : ℕ) (decide : Reader (Option PlainValue)) where
  abbrev HasIt : Point → Type 0
  HasIt q = (w : PlainValue) × (decide q.0 q.1 q.2 ≡ Some w)

  one-defined : (c : Bool) (l : Look) (w : PlainValue) → decide l.part l.time l.space ≡ Some w → (q : Point)
      → In q (if c then points l.part l.time l.space else []) → HasIt q
  one-defined true l w e q (inl h) = (w, subst (λ z. decide z.0 z.1 z.2 ≡ Some w) (sym h) e)
  one-defined true l w e q (inr j) = absurd j
  one-defined false l w e q j = absurd j

  gathered-defined : (ls : List Look) (vs : List PlainValue) → all_values decide ls ≡ Some vs → (q : Point) → In q (gather m points ls) → HasIt q
  gathered-defined [] vs e q j = absurd j
  gathered-defined (l ∷ ls) vs e q j =
      let h = added (decide l.part l.time l.space) (all_values decide ls) vs e in
      elim (in_either q (if nat_le l.least m then points l.part l.time l.space else []) (gather m points ls) j) [
        | inl a ↦ one-defined (nat_le l.least m) l h.0 h.2 q a
        | inr a ↦ gathered-defined ls h.1 h.3 q a
      ]

  -- where the plan has a value, each look has one
  pub looked-defined : (p : Plan) (v : PlainValue) → run p decide ≡ Some v → (q : Point) → In q (trace m p decide points) → HasIt q
  looked-defined (gives w) v e q j = absurd j
  looked-defined nothing v e q j = absurd j
  looked-defined (looks ls k) v e q j =
      let h = defined (all_values decide ls) (λ vs. run (k vs) decide) v e in
      elim (in_either q (gather m points ls) (with_values (all_values decide ls) [] (λ vs. trace m (k vs) decide points)) j) [
        | inl a ↦ gathered-defined ls h.0 h.1 q a
        | inr a ↦ looked-defined (k h.0) v h.2 q (subst (λ o. In q (with_values o [] (λ vs. trace m (k vs) decide points))) h.1 a)
      ]
