-- A plan that is fed by uses has the same value where the parts have those of the uses, and at each greater limit.
use Rattle.lucid_cert_rules.proofs.FollowingCommon.{◌≡◌, ℕ, zero, suc, ◌+◌, ◌≤◌, ◌-◌, List, [], ◌∷◌, Option, Some, refl, ap, subst, arith, option_and_then_some, same_Some, PlainValue, Head, Look, Plan, gives, looks, plan, Uses, take_values, fed}
use Rattle.lucid_tree.specs.Rows.{nothing, Reader, all_values, run}
use Rattle.lucid_tree.proofs.Plans.{run-keeps, plan-grows}

-- the reader has what the uses have
abbrev pub Reads : Uses → Reader (Option PlainValue) → Type 0
Reads value r = (l : Look) (u : ℕ) (v : PlainValue) → value l u ≡ Some v → r l.part l.time l.space ≡ Some v

values_read : (value : Uses) (r : Reader (Option PlainValue)) → Reads value r → (ls : List Look) (us : List ℕ) (p : List PlainValue × List ℕ)
    → take_values value ls us ≡ Some p
    → all_values r ls ≡ Some p.0
values_read value r h [] us p e = ap (λ (q : List PlainValue × List ℕ). Some q.0) (same_Some ([], us) p e)
values_read value r h (l ∷ ls) [] p e = absurd (cc)
values_read value r h (l ∷ ls) (u ∷ us) p e =
    option_and_then_some _ (value l u) p e (λ v t k.
    option_and_then_some _ (take_values value ls us) p k (λ q s m.
    let a = h l u v t in
    let c = values_read value r h ls us q s in
    let d = ap (λ (q : List PlainValue × List ℕ). Some q.0) (same_Some (v ∷ q.0, q.1) p m) in
    rw (a, c) d))

pub fed_runs : (value : Uses) (r : Reader (Option PlainValue)) → Reads value r → (p : Plan) (us : List ℕ) (v : PlainValue) → fed value p us ≡ Some v
    → run p r ≡ Some v
fed_runs value r h (gives w) [] v e = e
fed_runs value r h (gives w) (u ∷ us) v e = absurd (cc)
fed_runs value r h nothing us v e = absurd (cc)
fed_runs value r h (looks ls k) us v e =
    option_and_then_some _ (take_values value ls us) v e (λ q s m.
    let c = values_read value r h ls us q s in rw c (fed_runs value r h (k q.0) q.1 v m))

-- so many more
runs_by : (more m n : ℕ) → n ≡ m + more → (f : Head) (t s : ℕ) (r : Reader (Option PlainValue)) (v : PlainValue) → run (plan m f t s) r ≡ Some v
    → run (plan n f t s) r ≡ Some v
runs_by zero m n e f t s r v h =
    let same : m ≡ n = omega (arith, e) in
    let P : ℕ → Type 0 = λ k. run (plan k f t s) r ≡ Some v in subst P same h
runs_by (suc more) m n e f t s r v h =
    let same : suc (m + more) ≡ n = omega (arith, e) in
    let P : ℕ → Type 0 = λ k. run (plan k f t s) r ≡ Some v in
    subst P same (run-keeps (plan-grows (m + more) f t s) r r (λ i u q x y. y) v (runs_by more m (m + more) refl f t s r v h))

pub runs_up : (m n : ℕ) → m ≤ n → (f : Head) (t s : ℕ) (r : Reader (Option PlainValue)) (v : PlainValue) → run (plan m f t s) r ≡ Some v
    → run (plan n f t s) r ≡ Some v
runs_up m n l f t s r v h = let e : n ≡ m + (n - m) = omega (arith, l) in runs_by (n - m) m n e f t s r v h
