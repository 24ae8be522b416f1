-- A value of a plan, read from parts whose values are each given by some reader of a growing family, is given by one reader of
-- that family.
use Rattle.lucid_tree.proofs.Common.{◌≡◌, ℕ, zero, suc, ◌≤◌, max, List, [], ◌∷◌, Option, Some, refl, sym, ◌∙◌, subst, inl, inr, arith, PlainValue, Head, Look, Plan, gives, nothing, looks, plan, Reader, add_value, all_values, run}
use Rattle.lucid_tree.proofs.Plans.{Within, from_nothing, same_value, same_looks, within_itself, Keeps, all_values-keeps, run-keeps, plan-grows}
use Rattle.lucid_tree.proofs.Settled.{added, defined}
use Rattle.lucid_tree.proofs.LevelGrowth.{last_or_less}

within-trans : {p q r : Plan} → Within p q → Within q r → Within p r
within-trans from_nothing w = from_nothing
within-trans same_value same_value = same_value
within-trans (same_looks f) (same_looks g) = same_looks (λ vs. within-trans (f vs) (g vs))

pub plan-up : (m n : ℕ) → m ≤ n → (f : Head) (t s : ℕ) → Within (plan m f t s) (plan n f t s)
plan-up m zero h f t s = let z : m ≡ 0 = omega arith in subst (λ k. Within (plan m f t s) (plan k f t s)) z (within_itself (plan m f t s))
plan-up m (suc n) h f t s =
    elim (last_or_less m n h) [
      | inl l ↦ within-trans (plan-up m n l f t s) (plan-grows n f t s)
      | inr z ↦ subst (λ k. Within (plan m f t s) (plan k f t s)) z (within_itself (plan m f t s))
    ]

both_added : (o : Option PlainValue) (r : Option (List PlainValue)) (v : PlainValue) (vs : List PlainValue) → o ≡ Some v → r ≡ Some vs
    → add_value o r ≡ Some (v ∷ vs)
both_added o r v vs e f = rw (e, f) refl

-- some reader of the family gives the value
abbrev pub Sometime : (ℕ → Option PlainValue) → PlainValue → Type 0
Sometime o v = (n : ℕ) × (o n ≡ Some v)

module _ (rs : ℕ → Reader (Option PlainValue)) (grows : (n i t s : ℕ) → Keeps (rs n i t s) (rs (suc n) i t s)) where
  pub reader-up : (m n : ℕ) → m ≤ n → (i t s : ℕ) → Keeps (rs m i t s) (rs n i t s)
  reader-up m zero h i t s v d = let z : m ≡ 0 = omega arith in subst (λ k. rs k i t s ≡ Some v) z d
  reader-up m (suc n) h i t s v d =
      elim (last_or_less m n h) [
        | inl l ↦ grows n i t s v (reader-up m n l i t s v d)
        | inr z ↦ subst (λ k. rs k i t s ≡ Some v) z d
      ]

  module _ (r : Reader (Option PlainValue)) (meant : (i t s : ℕ) (v : PlainValue) → r i t s ≡ Some v → Sometime (λ n. rs n i t s) v) where
    values-meant : (ls : List Look) (vs : List PlainValue) → all_values r ls ≡ Some vs → (n : ℕ) × (all_values (rs n) ls ≡ Some vs)
    values-meant [] vs e = (0, e)
    values-meant (l ∷ ls) vs e =
        let p = added (r l.part l.time l.space) (all_values r ls) vs e in
        let here = meant l.part l.time l.space p.0 p.2 in
        let rest = values-meant ls p.1 p.3 in
        let n : ℕ = max here.0 rest.0 in
        let head : rs n l.part l.time l.space ≡ Some p.0 = reader-up here.0 n (omega arith) l.part l.time l.space p.0 here.1 in
        let tail : all_values (rs n) ls ≡ Some p.1 = all_values-keeps (rs rest.0) (rs n) (reader-up rest.0 n (omega arith)) ls p.1 rest.1 in
        let joined = both_added (r l.part l.time l.space) (all_values r ls) p.0 p.1 p.2 p.3 in
        (n, both_added (rs n l.part l.time l.space) (all_values (rs n) ls) p.0 p.1 head tail ∙ sym joined ∙ e)

    pub run-meant : (p : Plan) (v : PlainValue) → run p r ≡ Some v → (n : ℕ) × (run p (rs n) ≡ Some v)
    run-meant (gives w) v e = (0, e)
    run-meant nothing v e = absurd (grind arith)
    run-meant (looks ls k) v e =
        let p = defined (all_values r ls) (λ vs. run (k vs) r) v e in
        let first = values-meant ls p.0 p.1 in
        let later = run-meant (k p.0) v p.2 in
        let n : ℕ = max first.0 later.0 in
        let values : all_values (rs n) ls ≡ Some p.0 = all_values-keeps (rs first.0) (rs n) (reader-up first.0 n (omega arith)) ls p.0 first.1 in
        let value : run (k p.0) (rs n) ≡ Some v = run-keeps (within_itself (k p.0)) (rs later.0) (rs n) (reader-up later.0 n (omega arith)) v later.1 in
        (n, rw values value)
