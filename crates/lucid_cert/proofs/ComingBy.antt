-- A form's plan that has come to a look by values that are meant: where the form's approximation is defined, so is the look's, and the limit
-- takes it; and what a look that the limit takes sees, the form sees.
use Rattle.lucid_cert.proofs.Common.{◌≡◌, ℕ, ◌+◌, ◌≤◌, max, true, cond, List, [], ◌∷◌, ◌++◌, length, length-append, Option, Some, None, inl, refl, sym, ap, ◌∙◌, subst, arith, nat_le, if◌then◌else◌, option_and_then, le-leb, option_and_then_some, same_Some, PlainValue, In, Inside, Plan, Reader, run, Reads, points_of, Uses, fed, by_then, least_of, rest_plan, CanGoOn, Stands, Rest, plain_look, gone_on}
use Rattle.lucid_tree.specs.Rows.{Look, gives, nothing, looks, look, single, add_value, all_values, with_values}
use Rattle.lucid_tree.proofs.Members.{in_left, in_right}
use Rattle.lucid_tree.proofs.Plans.{Within, from_nothing, same_value, same_looks}
use Rattle.lucid_tree.proofs.Settled.{AllTaken, none_taken, one_taken, Takes, takes_looks, added}
use Rattle.lucid_cert_rules.specs.Fed.{take_values}
use Rattle.lucid_cert_rules.specs.RestPlans.{look_plan}
use Rattle.lucid_cert_rules.specs.declared.rest.Look.{Look as NextLook}
use Rattle.lucid_cert_rules.specs.declared.rest.Rest.TheVariants as rest
use Rattle.lucid_cert.specs.Wanted.{ComesTo, begun}

-- one use for each look, whatever their numbers
abbrev pub any_uses : List Look → List ℕ
any_uses [] = []
any_uses (l ∷ ls) = 0 ∷ any_uses ls

-- what the reader has of the looks that the limit takes
abbrev pub taken_by : (limit : ℕ) → Reader (Option PlainValue) → Uses
taken_by m r l u = cond (nat_le l.least m) (r l.part l.time l.space) None

-- The first look of a plan that is fed has a value.
pub record FedLook (value : Uses) (l : Look) (k : PlainValue → Plan) (us : List ℕ) (v : PlainValue) : Type 0 where
  pub number : ℕ
  pub others : List ℕ
  pub are : us ≡ number ∷ others
  pub first : PlainValue
  pub has : value l number ≡ Some first
  pub left : fed value (k first) others ≡ Some v

fed_look : (value : Uses) (i t s least : ℕ) (k : PlainValue → Plan) (us : List ℕ) (v : PlainValue) → fed value (look i t s least k) us ≡ Some v
    → FedLook value (record { part = i; time = t; space = s; least = least }) k us v
fed_look value i t s least k [] v e = absurd (cc)
fed_look value i t s least k (u ∷ us) v e = on (value (record { part = i; time = t; space = s; least = least }) u) refl e
  where
    on : (o : Option PlainValue) → value (record { part = i; time = t; space = s; least = least }) u ≡ o
        → option_and_then (λ (r : List PlainValue × List ℕ). fed value (single k r.0) r.1) (option_and_then (λ w. Some (w ∷ [], us)) o) ≡ Some v
        → FedLook value (record { part = i; time = t; space = s; least = least }) k (u ∷ us) v
    on None is h = absurd (cc)
    on (Some w) is h = record { number = u; others = us; are = refl; first = w; has = is; left = h }

-- A plan that goes on further is fed by the same uses.
pub fed_within : (value : Uses) (p q : Plan) → Within p q → (us : List ℕ) (v : PlainValue) → fed value p us ≡ Some v → fed value q us ≡ Some v
fed_within value p q from_nothing us v e = absurd (cc)
fed_within value p q same_value us v e = e
fed_within value p q (same_looks {ls = ls} {k = k} {k' = k'} h) us v e =
    option_and_then_some _ (take_values value ls us) v e (λ r there m.
    let n : fed value (k' r.0) r.1 ≡ Some v = fed_within value (k r.0) (k' r.0) (h r.0) r.1 v m in rw there n)

module _ (m : ℕ) (r : Reader (Option PlainValue)) where
  taken_one : (l : Look) (u : ℕ) (v : PlainValue) → nat_le l.least m ≡ true → r l.part l.time l.space ≡ Some v → taken_by m r l u ≡ Some v
  taken_one l u v a e = rw (a, e) refl

  taken_all : (ls : List Look) → AllTaken m ls → (vs : List PlainValue) → all_values r ls ≡ Some vs → (us : List ℕ)
      → take_values (taken_by m r) ls (any_uses ls ++ us) ≡ Some (vs, us)
  taken_all [] none_taken vs e us = let f : [] ≡ vs = same_Some [] vs e in ap (λ (ws : List PlainValue). Some (ws, us)) f
  taken_all (l ∷ ls) (one_taken a rest) vs e us =
      let q = added (r l.part l.time l.space) (all_values r ls) vs e in
      let first : taken_by m r l 0 ≡ Some q.0 = taken_one l 0 q.0 a q.2 in
      let others : take_values (taken_by m r) ls (any_uses ls ++ us) ≡ Some (q.1, us) = taken_all ls rest q.1 q.3 us in
      let is : ◌≡◌ {A = Option (List PlainValue)} (Some (q.0 ∷ q.1)) (Some vs) =
      sym (ap (λ (o : Option PlainValue). add_value o (all_values r ls)) q.2 ∙ ap (λ (o : Option (List PlainValue)). add_value (Some q.0) o) q.3) ∙ e in
      rw (first, others) (ap (λ (ws : List PlainValue). Some (ws, us)) (same_Some (q.0 ∷ q.1) vs is))

  -- A plan of looks that the limit takes is fed by them where it has a value.
  pub runs_fed : (p : Plan) → Takes m p → (v : PlainValue) → run p r ≡ Some v → (us : List ℕ) × (fed (taken_by m r) p us ≡ Some v)
  runs_fed (gives w) takes v e = ([], e)
  runs_fed nothing takes v e = absurd (cc)
  runs_fed (looks ls k) (takes_looks all each) v e = on (λ vs h. runs_fed (k vs) (each vs) v h) (all_values r ls) refl e
    where
      on : ((vs : List PlainValue) → run (k vs) r ≡ Some v → (us : List ℕ) × (fed (taken_by m r) (k vs) us ≡ Some v)) → (o : Option (List PlainValue))
          → all_values r ls ≡ o
          → with_values o None (λ vs. run (k vs) r) ≡ Some v → (us : List ℕ) × (fed (taken_by m r) (looks ls k) us ≡ Some v)
      on later None is h = absurd (cc)
      on later (Some vs) is h =
          let left = later vs h in
          let there = taken_all ls all vs is left.0 in (any_uses ls ++ left.0, rw there left.1)

-- as many looks as values
pub stands_after : (M : Look → PlainValue → Type 0) (p : ℕ → Plan) (time : ℕ) (vs : List PlainValue) (r : Rest) → ComesTo M p time vs r → Stands (length vs) r
stands_after M p time vs x (begun r a s) = s
stands_after M p time vs x (gone_on ws l v q before m a s) =
    let e : length ws + 1 ≡ length (ws ++ v ∷ []) = sym (length-append ws (v ∷ [])) in
    let P : ℕ → Type 0 = λ n. Stands n q in subst P e (s (length ws) (stands_after M p time ws (rest.Look l) before))

module _ (M : Look → PlainValue → Type 0) (p : ℕ → Plan) (time : ℕ) where
  -- What is left is fed, at each limit that is large enough.
  pub record FedFrom (value : Uses) (vs : List PlainValue) (r : Rest) (v : PlainValue) : Type 0 where
    pub least : ℕ
    pub uses : List ℕ
    pub fed_by : (n : ℕ) → least ≤ n → fed value (rest_plan n vs r) uses ≡ Some v

  module _ (value : Uses) (agree : (l : Look) (v w : PlainValue) (u : ℕ) → M l v → value l u ≡ Some w → v ≡ w) (v : PlainValue) (least : ℕ) (uses : List ℕ)
      (whole : (n : ℕ) → least ≤ n → fed value (p n) uses ≡ Some v) where
    -- where the whole plan is fed, what is left of it is,
    pub fed_from : (vs : List PlainValue) (r : Rest) → ComesTo M p time vs r → FedFrom value vs r v
    fed_from vs x (begun r a s) = record {
      least = max least (time + length uses);
      uses = uses;
      fed_by = λ n h. sym ((a n (length uses) (omega (arith, h))).fed value uses (omega arith)) ∙ whole n (omega (arith, h));
    }
    fed_from vs x (gone_on ws l w r before m a s) =
        let stands : CanGoOn (length ws) l = stands_after M p time ws (rest.Look l) before in
        let f = fed_from ws (rest.Look l) before in
        let one = fed_look value l.part l.time l.space (least_of l.then l.time) (by_then f.least ws l.then l.part l.time l.space) f.uses v
        (f.fed_by f.least (omega arith)) in
        let same : w ≡ one.first = agree (plain_look l) w one.first one.number m one.has in
        record {
          least = max f.least (length ws + 1 + length one.others);
          uses = one.others;
          fed_by = λ n h.
              let here = fed_look value l.part l.time l.space (least_of l.then l.time) (by_then n ws l.then l.part l.time l.space) f.uses v
              (f.fed_by n (omega (arith, h))) in
              let others : here.others ≡ one.others = tails here.number one.number here.others one.others (sym here.are ∙ one.are) in
              let again : w ≡ here.first = agree (plain_look l) w here.first here.number m here.has in
              let P : PlainValue → Type 0 = λ x. fed value (by_then n ws l.then l.part l.time l.space x) one.others ≡ Some v in
              let Q : List ℕ → Type 0 = λ us. fed value (by_then n ws l.then l.part l.time l.space here.first) us ≡ Some v in
              sym ((a n (length ws) (length one.others) ws stands (omega (arith, h))).fed value one.others (omega arith))
              ∙ subst P (sym again) (subst Q others here.left);
        }
      where
        tails : (x y : ℕ) (xs ys : List ℕ) → x ∷ xs ≡ y ∷ ys → xs ≡ ys
        tails x y xs ys e = cc

    -- and so the look that stands next has a value.
    pub next_has : (vs : List PlainValue) (l : NextLook) → ComesTo M p time vs (rest.Look l) → (u : ℕ) × (w : PlainValue) × (value (plain_look l) u ≡ Some w)
    next_has vs l comes =
        let f = fed_from vs (rest.Look l) comes in
        let one = fed_look value l.part l.time l.space (least_of l.then l.time) (by_then f.least vs l.then l.part l.time l.space) f.uses v
        (f.fed_by f.least (omega arith)) in
        (one.number, one.first, one.has)

  -- Where what is left looks, the plan looks, by readers that have the values on the way from some limit on.
  module _ (rs : ℕ → Reader (Option PlainValue)) (has : (l : Look) (v : PlainValue) → M l v → (n : ℕ) × ((k : ℕ) → n ≤ k → Reads (rs k) l v)) where
    look_seen : (m : ℕ) (r : Reader (Option PlainValue)) (i t s least : ℕ) (k : PlainValue → Plan) (v : PlainValue) → r i t s ≡ Some v
        → Inside (points_of m (k v) r) (points_of m (look i t s least k) r)
    look_seen m r i t s least k v e z h = rw e (in_right z ((if nat_le least m then (i, t, s) ∷ [] else []) ++ []) (points_of m (k v) r) h)

    pub looks_from : (vs : List PlainValue) (r : Rest) → ComesTo M p time vs r
        → (least : ℕ) × ((n : ℕ) → least ≤ n → (m : ℕ) → Inside (points_of m (rest_plan n vs r) (rs n)) (points_of m (p n) (rs n)))
    looks_from vs x (begun r a s) = (time + 1, λ n h m. (a n 1 h).look (omega arith) m (rs n))
    looks_from vs x (gone_on ws l w r before held a s) =
        let stands : CanGoOn (length ws) l = stands_after M p time ws (rest.Look l) before in
        let f = looks_from ws (rest.Look l) before in
        let from = has (plain_look l) w held in (
          max (max f.0 from.0) (length ws + 2),
          λ n h m z i.
              f.1 n (omega (arith, h)) m z (look_seen m (rs n) l.part l.time l.space (least_of l.then l.time) (by_then n ws l.then l.part l.time l.space) w
              (from.1 n (omega (arith, h))) z
              ((a n (length ws) 1 ws stands (omega (arith, h))).look (omega arith) m (rs n) z i)),
        )

    -- A look that stands next and that the limit takes is one of the plan's.
    pub next_looked : (vs : List PlainValue) (l : NextLook) → ComesTo M p time vs (rest.Look l) → (m : ℕ) → least_of l.then l.time ≤ m
        → (least : ℕ) × ((n : ℕ) → least ≤ n → In (l.part, l.time, l.space) (points_of m (p n) (rs n)))
    next_looked vs l comes m low =
        let f = looks_from vs (rest.Look l) comes in
        (f.0, λ n h. f.1 n h m (l.part, l.time, l.space) (first n))
      where
        first : (n : ℕ) → In (l.part, l.time, l.space) (points_of m (look_plan n vs l) (rs n))
        first n =
            in_left (l.part, l.time, l.space) ((if nat_le (least_of l.then l.time) m then (l.part, l.time, l.space) ∷ [] else []) ++ [])
            (with_values (add_value (rs n l.part l.time l.space) (Some [])) []
            (λ ws. points_of m (single (by_then n vs l.then l.part l.time l.space) ws) (rs n)))
            (rw (le-leb (least_of l.then l.time) m low) (inl refl))
