-- Where a plan is defined by a reader that never differs from what is meant, so is its rest, and each look that stands next.
use Rattle.lucid_tree.proofs.Common.{◌≡◌, List, [], ◌∷◌, Option, Some, None, refl, sym, ap, ◌∙◌, subst, inl, inr, PlainValue, In, Look, Plan, nothing, looks, Reader, all_values, add_value, run, Reads, AllHave, LeadsTo, at_start, and_then}
use Rattle.lucid_tree.proofs.Settled.{added, defined}

module _ (M : Look → PlainValue → Type 0) (r : Reader (Option PlainValue)) (agree : (l : Look) (v w : PlainValue) → M l v → Reads r l w → v ≡ w) where
  values_agree : (ls : List Look) (vs ws : List PlainValue) → AllHave M ls vs → all_values r ls ≡ Some ws → vs ≡ ws
  values_agree [] [] ws m h = let e : [] ≡ ws = cc in e
  values_agree [] (v ∷ vs) ws m h = absurd m
  values_agree (l ∷ ls) [] ws m h = absurd m
  values_agree (l ∷ ls) (v ∷ vs) ws m h =
      let q = added (r l.part l.time l.space) (all_values r ls) ws h in
      let a : v ≡ q.0 = agree l v q.0 m.0 q.2 in
      let c : vs ≡ q.1 = values_agree ls vs q.1 m.1 q.3 in
      let one : add_value (Some q.0) (Some q.1) ≡ Some ws = sym (ap (λ o. add_value o (all_values r ls)) q.2 ∙ ap (λ os. add_value (Some q.0) os) q.3) ∙ h in
      let two : q.0 ∷ q.1 ≡ ws = cc in
      ap (λ z. z ∷ vs) a ∙ ap (λ zs. q.0 ∷ zs) c ∙ two

  -- so is its rest
  pub rest_defined : (p q : Plan) (x : PlainValue) → LeadsTo M p q → run p r ≡ Some x → run q r ≡ Some x
  rest_defined p q x at_start h = h
  rest_defined p q x (and_then {ls} {k} vs a m) h =
      let t = defined (all_values r ls) (λ ws. run (k ws) r) x (rest_defined p (looks ls k) x a h) in
      subst (λ us. run (k us) r ≡ Some x) (sym (values_agree ls vs t.0 m t.1)) t.2

  -- a plan of which nothing is left has no value
  pub nothing_left : (p : Plan) (x : PlainValue) → LeadsTo M p nothing → run p r ≡ Some x → ⊥
  nothing_left p x a h = let y : None ≡ Some x = rest_defined p nothing x a h in absurd (cc)

  pub nothing_undefined : (p : Plan) → LeadsTo M p nothing → run p r ≡ None
  nothing_undefined p a = no_value (run p r) (λ x h. nothing_left p x a h)
    where
      no_value : (o : Option PlainValue) → ((x : PlainValue) → o ≡ Some x → ⊥) → o ≡ None
      no_value None h = refl
      no_value (Some x) h = absurd (h x refl)

  one_defined : (ls : List Look) (vs : List PlainValue) → all_values r ls ≡ Some vs → (l : Look) → In l ls → (v : PlainValue) × Reads r l v
  one_defined [] vs h l i = absurd i
  one_defined (k ∷ ls) vs h l (inl e) =
      let q = added (r k.part k.time k.space) (all_values r ls) vs h in
      (q.0, ap (λ z. r z.part z.time z.space) e ∙ q.2)
  one_defined (k ∷ ls) vs h l (inr i) =
      let q = added (r k.part k.time k.space) (all_values r ls) vs h in
      one_defined ls q.1 q.3 l i

  -- and each look that stands next
  pub next_defined : (p : Plan) (ls : List Look) (k : List PlainValue → Plan) (x : PlainValue) → LeadsTo M p (looks ls k) → run p r ≡ Some x → (l : Look)
      → In l ls → (v : PlainValue) × Reads r l v
  next_defined p ls k x a h l i =
      let t = defined (all_values r ls) (λ ws. run (k ws) r) x (rest_defined p (looks ls k) x a h) in
      one_defined ls t.0 t.1 l i
