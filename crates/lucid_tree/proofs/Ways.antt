-- Ways from a plan to its rest: they go over by any map of facts, they join, and where a reader has the values on the way, the
-- plan and its rest have one value.
use Rattle.lucid_tree.proofs.Common.{◌≡◌, ℕ, suc, ◌≤◌, max, List, [], ◌∷◌, Option, Some, None, refl, ap, ◌∙◌, arith, PlainValue, Look, Plan, looks, Reader, all_values, with_values, run, Reads, ReadsAtSome, AllHave, LeadsTo, at_start, and_then}
use Rattle.lucid_tree.proofs.Plans.{Within, same_looks, Keeps}
use Rattle.lucid_tree.proofs.RunsMeant.{reader-up}

all-maps : (M N : Look → PlainValue → Type 0) → ((l : Look) (v : PlainValue) → M l v → N l v) → (ls : List Look) (vs : List PlainValue) → AllHave M ls vs
    → AllHave N ls vs
all-maps M N f [] [] a = tt
all-maps M N f [] (v ∷ vs) a = a
all-maps M N f (l ∷ ls) [] a = a
all-maps M N f (l ∷ ls) (v ∷ vs) a = (f l v a.0, all-maps M N f ls vs a.1)

-- a way goes over by a map of its facts
pub leads-maps : (M N : Look → PlainValue → Type 0) → ((l : Look) (v : PlainValue) → M l v → N l v) → (p q : Plan) → LeadsTo M p q → LeadsTo N p q
leads-maps M N f p q at_start = at_start
leads-maps M N f p q (and_then {ls} {k} vs a m) = and_then vs (leads-maps M N f p (looks ls k) a) (all-maps M N f ls vs m)

-- ways join
pub leads-join : (M : Look → PlainValue → Type 0) (p q x : Plan) → LeadsTo M p q → LeadsTo M q x → LeadsTo M p x
leads-join M p q x a at_start = a
leads-join M p q x a (and_then {ls} {k} vs b m) = and_then vs (leads-join M p q (looks ls k) a b) m

pub values_there : (r : Reader (Option PlainValue)) (ls : List Look) (vs : List PlainValue) → AllHave (Reads r) ls vs → all_values r ls ≡ Some vs
values_there r [] [] m = refl
values_there r [] (v ∷ vs) m = absurd m
values_there r (l ∷ ls) [] m = absurd m
values_there r (l ∷ ls) (v ∷ vs) m = rw (m.0, values_there r ls vs m.1) refl

-- where a reader has the values on the way, the plan and its rest have one value
pub leads-runs : (r : Reader (Option PlainValue)) (p q : Plan) → LeadsTo (Reads r) p q → run p r ≡ run q r
leads-runs r p q at_start = refl
leads-runs r p q (and_then {ls} {k} vs a m) = leads-runs r p (looks ls k) a ∙ ap (λ o. with_values o None (λ ws. run (k ws) r)) (values_there r ls vs m)

-- facts by a limit, each of which stays at greater limits
module _ (P : ℕ → Look → PlainValue → Type 0) (up : (m n : ℕ) → m ≤ n → (l : Look) (v : PlainValue) → P m l v → P n l v) where
  one_for_these : (ls : List Look) (vs : List PlainValue) → AllHave (λ l v. (m : ℕ) × P m l v) ls vs → (m : ℕ) × AllHave (P m) ls vs
  one_for_these [] [] a = (0, tt)
  one_for_these [] (v ∷ vs) a = absurd a
  one_for_these (l ∷ ls) [] a = absurd a
  one_for_these (l ∷ ls) (v ∷ vs) a =
      let rest = one_for_these ls vs a.1 in
      let n : ℕ = max a.0.0 rest.0 in
      (n, (up a.0.0 n (omega arith) l v a.0.1, all-maps (P rest.0) (P n) (up rest.0 n (omega arith)) ls vs rest.1))

  -- a way whose values are each of some limit is a way of one limit: the greatest
  pub one_for_all : (p q : Plan) → LeadsTo (λ l v. (m : ℕ) × P m l v) p q → (m : ℕ) × LeadsTo (P m) p q
  one_for_all p q at_start = (0, at_start)
  one_for_all p q (and_then {ls} {k} vs a m) =
      let before = one_for_all p (looks ls k) a in
      let here = one_for_these ls vs m in
      let n : ℕ = max before.0 here.0 in (
        n,
        and_then vs (leads-maps (P before.0) (P n) (up before.0 n (omega arith)) p (looks ls k) before.1)
            (all-maps (P here.0) (P n) (up here.0 n (omega arith)) ls vs here.1),
      )

-- so it is for readers
pub one_reader_for_all : (rs : ℕ → Reader (Option PlainValue)) → ((n i t s : ℕ) → Keeps (rs n i t s) (rs (suc n) i t s)) → (p q : Plan)
    → LeadsTo (ReadsAtSome rs) p q → (n : ℕ) × LeadsTo (Reads (rs n)) p q
one_reader_for_all rs grows = one_for_all (λ n. Reads (rs n)) (λ m n h l v d. reader-up rs grows m n h l.part l.time l.space v d)

-- a rest that goes on further
pub record GoesFurther (M : Look → PlainValue → Type 0) (p q : Plan) : Type 0 where
  pub rest : Plan
  pub within : Within q rest
  pub way : LeadsTo M p rest

-- a way along a plan is a way along each plan that goes on further, to a rest that goes on further
pub leads-within : (M : Look → PlainValue → Type 0) (p p' q : Plan) → Within p p' → LeadsTo M p q → GoesFurther M p' q
leads-within M p p' q w at_start = record { rest = p'; within = w; way = at_start }
leads-within M p p' q w (and_then {ls} {k} vs a m) = on (leads-within M p p' (looks ls k) w a)
  where
    on : GoesFurther M p' (looks ls k) → GoesFurther M p' (k vs)
    on g = step g.rest g.within g.way
      where
        step : (x : Plan) → Within (looks ls k) x → LeadsTo M p' x → GoesFurther M p' (k vs)
        step x (same_looks {k' = k'} h) b = record { rest = k' vs; within = h vs; way = and_then vs b m }
