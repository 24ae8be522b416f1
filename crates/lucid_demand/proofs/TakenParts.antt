-- The values of an operator's arguments, to which it is applied.
use Rattle.lucid_demand.proofs.Common.{ℕ, zero, suc, ◌+◌, List, [], ◌∷◌, Option, refl, sym, ap, ◌∙◌, subst, arith, same_Some, IsErrAnd, ⊤, IsSome, slice_get, slice_index_or, Value, PlainValue, plain, Op, arity, Idle, Evaluating, gave, Applies, value_of, DemandFault, slice_set}
use Rattle.std.proofs.Common.{◌≡◌, ◌<◌, length, Some}
use Rattle.std.specs.Prelude.{Result, Ok, Err, IfOk, IfErr}
use Rattle.lucid_ops.specs.Algebra.{algebra}
use Rattle.lucid_tasks.specs.Rows as rows
use Rattle.lucid_demand_steps.specs.Justified.{HaveValues}

-- another part than the one that is set stands as it did
pub other_part : (ps : List rows.PartState) (i k : ℕ) (y : rows.PartState) → (k ≡ i → ⊥) → slice_index_or (slice_set ps i y) k Idle ≡ slice_index_or ps k Idle
other_part [] i k y n = refl
other_part (p ∷ ps) zero zero y n = absurd (n refl)
other_part (p ∷ ps) zero (suc k) y n = refl
other_part (p ∷ ps) (suc i) zero y n = refl
other_part (p ∷ ps) (suc i) (suc k) y n = other_part ps i k y (λ e. n (ap suc e))

-- What the arguments have, they have by each function that gives the same values.
pub values_alike : (f g : ℕ → ℕ → Option PlainValue) → ((i n : ℕ) → f i n ≡ g i n) → (args : List ℕ) (i : ℕ) (vs : List PlainValue) → HaveValues f args i vs
    → HaveValues g args i vs
values_alike f g same args i [] h = tt
values_alike f g same [] i (v ∷ vs) h = absurd h
values_alike f g same (n ∷ args) i (v ∷ vs) h = (sym (same i n) ∙ h.0, values_alike f g same args (suc i) vs h.1)

-- Each of them is there,
pub value_there : (f : ℕ → ℕ → Option PlainValue) (args : List ℕ) (i : ℕ) (vs : List PlainValue) → HaveValues f args i vs → (j n : ℕ) → j < length vs
    → slice_get args j ≡ Some n
    → IsSome (f (i + j) n)
value_there f args i [] h j n low arg = absurd (omega (arith, low))
value_there f [] i (v ∷ vs) h j n low arg = absurd h
value_there f (k ∷ args) i (v ∷ vs) h zero n low arg =
    let here : i ≡ i + 0 = omega arith in
    subst (λ q. IsSome (f q n)) here (subst (λ m. IsSome (f i m)) (same_Some k n arg) (subst (λ o. IsSome o) (sym h.0) refl))
value_there f (k ∷ args) i (v ∷ vs) h (suc j) n low arg =
    let on : suc i + j ≡ i + suc j = omega arith in
    subst (λ q. IsSome (f q n)) on (value_there f args (suc i) vs h.1 j n (omega (arith, low)) arg)

-- and they are the same.
same_values : (f : ℕ → ℕ → Option PlainValue) (args : List ℕ) (i : ℕ) (vs ws : List PlainValue) → length vs ≡ length ws → HaveValues f args i vs
    → HaveValues f args i ws → vs ≡ ws
same_values f args i [] [] l h g = refl
same_values f args i [] (w ∷ ws) l h g = absurd (omega (arith, l))
same_values f args i (v ∷ vs) [] l h g = absurd (omega (arith, l))
same_values f [] i (v ∷ vs) (w ∷ ws) l h g = absurd h
same_values f (n ∷ args) i (v ∷ vs) (w ∷ ws) l h g =
    let one : v ≡ w = same_Some v w (sym h.0 ∙ g.0) in
    ap (λ x. x ∷ vs) one ∙ ap (λ xs. w ∷ xs) (same_values f args (suc i) vs ws (omega (arith, l)) h.1 g.1)

-- What an operator gives for these values, it gives for those that its arguments have, where these stand in a list of three.
pub applied_three : {E : Type 0} (op : Op) (e : Evaluating) (slot : ℕ) (args : List ℕ) → length args ≡ 3 → (x y z : PlainValue)
    → value_of e slot 0 (slice_index_or args 0 0) ≡ Some x → value_of e slot 1 (slice_index_or args 1 0) ≡ Some y
    → value_of e slot 2 (slice_index_or args 2 0) ≡ Some z
    → (result : Result Value E) → IfOk result (λ v. plain v ≡ algebra op (x ∷ y ∷ z ∷ [])) → 3 ≡ arity op
    → IfOk result (Applies e slot op args)
applied_three op e slot [] l x y z f g h r is count = absurd (omega (arith, l))
applied_three op e slot (i ∷ []) l x y z f g h r is count = absurd (omega (arith, l))
applied_three op e slot (i ∷ j ∷ []) l x y z f g h r is count = absurd (omega (arith, l))
applied_three op e slot (i ∷ j ∷ k ∷ []) l x y z f g h (Ok v) is count = λ vs m got. is
    ∙ ap (algebra op) (sym (same_values (value_of e slot) (i ∷ j ∷ k ∷ []) 0 vs (x ∷ y ∷ z ∷ []) (m ∙ sym count) got (f, (g, (h, tt)))))
applied_three op e slot (i ∷ j ∷ k ∷ []) l x y z f g h (Err w) is count = tt
applied_three op e slot (i ∷ j ∷ k ∷ n ∷ rest) l x y z f g h r is count = absurd (omega (arith, l))

-- a refusal that is this one
pub err_is : {A E : Type 0} (r : Result A E) (x : E) → IsErrAnd r (λ e. e ≡ x) → r ≡ Err x
err_is (Ok a) x h = absurd h
err_is (Err e) x h = ap Err h

-- so it is where there is an answer beside it
pub gave_err : (r : Result ⊤ DemandFault) (answer : Option Value) (x : DemandFault) → IsErrAnd r (λ e. e ≡ x) → gave r answer ≡ Err x
gave_err r answer x h = ap (λ z. gave z answer) (err_is r x h)

-- what is so of a refusal that is this one
pub if_refused : {A E : Type 0} (r : Result A E) (x : E) (P : E → Type 0) → IsErrAnd r (λ e. e ≡ x) → P x → IfErr r P
if_refused (Ok a) x P h p = tt
if_refused (Err e) x P h p = subst (λ z. P z) (sym h) p
