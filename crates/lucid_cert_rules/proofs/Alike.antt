-- Plans that are alike: for the same uses, and where they look.
use Rattle.lucid_cert_rules.proofs.FollowingCommon.{◌≡◌, ℕ, zero, suc, ◌+◌, ◌-◌, ◌<◌, ◌≤◌, List, [], ◌∷◌, ◌++◌, length, Option, Some, None, refl, sym, ap, subst, arith, nat_le, option_and_then, PlainValue, arity, Op, Look, Plan, gives, looks, find_true, Uses, take_values, fed, look_plan, AreFedAlike, append_assoc, append-nil}
use Rattle.lucid_ops.specs.Algebra.{algebra}
use Rattle.std.proofs.Common.{inl, inr}
use Rattle.std.specs.Prelude.{if◌then◌else◌}
use Rattle.lucid_tree.specs.Members.{In}
use Rattle.lucid_tree.specs.PlanLaws.{points_of}
use Rattle.lucid_tree.specs.Rows.{single, look, arguments, Reader, all_values, add_value, with_values, gather}
use Rattle.lucid_tree.proofs.Members.{in_left, in_right, in_either}
use Rattle.lucid_cert_rules.specs.declared.rest.Then.TheVariants as then

-- one plan
pub alike : (most : ℕ) (p q : Plan) → p ≡ q → AreFedAlike most p q
alike most p q e = record {
  fed = λ value us l. ap (λ (x : Plan). fed value x us) e;
  look = λ some m r z i. subst (λ (x : Plan). In z (points_of m x r)) (sym e) i;
}

pub alike_then : (most : ℕ) (p q r : Plan) → p ≡ q → AreFedAlike most q r → AreFedAlike most p r
alike_then most p q r e h =
    let P : Plan → Type 0 = λ x. AreFedAlike most x r in subst P (sym e) h

alike_end : (most : ℕ) (p q r : Plan) → AreFedAlike most p q → q ≡ r → AreFedAlike most p r
alike_end most p q r h e =
    let P : Plan → Type 0 = λ x. AreFedAlike most p x in subst P e h

-- a search that has looks is one look, and what is done with it
none_found : (value : Uses) (x t w s : ℕ) → fed value (find_true x t w s) [] ≡ None
none_found value zero t w s = refl
none_found value (suc x) t w s = refl

search_looks : (m : ℕ) (vs : List PlainValue) (t w s : ℕ) → suc t ≤ m
    → find_true (m - t) t w s ≡ look_plan m vs (record { part = 1; time = t; space = s; then = then.Find w })
search_looks m vs t w s h =
    let e : m - t ≡ suc (m - suc t) = omega (arith, h) in ap (λ (x : ℕ). find_true x t w s) e

pub find_alike : (m most : ℕ) (vs : List PlainValue) (t w s : ℕ) → t + most ≤ m
    → AreFedAlike most (find_true (m - t) t w s) (look_plan m vs (record { part = 1; time = t; space = s; then = then.Find w }))
find_alike m most vs t w s h = record {
  fed = by_uses;
  look = λ some n r z i.
      subst (λ (x : Plan). In z (points_of n x r)) (sym (search_looks m vs t w s (omega (arith, h, some)))) i;
}
  where
    by_uses : (value : Uses) (us : List ℕ) → length us ≤ most
        → fed value (find_true (m - t) t w s) us ≡ fed value (look_plan m vs (record { part = 1; time = t; space = s; then = then.Find w })) us
    by_uses value [] l = none_found value (m - t) t w s
    by_uses value (u ∷ us) l = ap (λ (x : Plan). fed value x (u ∷ us)) (search_looks m vs t w s (omega (arith, h, l)))

pub find_next : (m most : ℕ) (vs : List PlainValue) (t w s : ℕ) → t + 1 + most ≤ m
    → AreFedAlike most (find_true (m - suc t) (suc t) w s) (look_plan m vs (record { part = 1; time = t + 1; space = s; then = then.Find w }))
find_next m most vs t w s h =
    let e : t + 1 ≡ suc t = omega arith in
    let P : ℕ → Type 0 = λ x. AreFedAlike most (find_true (m - x) x w s) (look_plan m vs (record { part = 1; time = t + 1; space = s; then = then.Find w })) in
    subst P e (find_alike m most vs (t + 1) w s h)

-- looks are one look and the others
pairs : (value : Uses) (k : List PlainValue → Plan) (v : PlainValue) (o : Option (List PlainValue × List ℕ))
    → option_and_then (λ (r : List PlainValue × List ℕ). fed value (k r.0) r.1) (option_and_then (λ (r : List PlainValue × List ℕ). Some (v ∷ r.0, r.1)) o)
    ≡ option_and_then (λ (r : List PlainValue × List ℕ). fed value (k (v ∷ r.0)) r.1) o
pairs value k v None = refl
pairs value k v (Some r) = refl

first_value : (value : Uses) (ls : List Look) (k : List PlainValue → Plan) (us : List ℕ) (o : Option PlainValue)
    → option_and_then (λ (r : List PlainValue × List ℕ). fed value (k r.0) r.1)
    (option_and_then (λ v. option_and_then (λ (r : List PlainValue × List ℕ). Some (v ∷ r.0, r.1)) (take_values value ls us)) o)
    ≡ option_and_then (λ (r : List PlainValue × List ℕ). fed value (single (λ v. looks ls (λ ws. k (v ∷ ws))) r.0) r.1)
    (option_and_then (λ v. Some (v ∷ [], us)) o)
first_value value ls k us None = refl
first_value value ls k us (Some v) = pairs value k v (take_values value ls us)

-- what the first of looks sees, and then the others, all of them see together
module _ (m : ℕ) (r : Reader (Option PlainValue)) (l : Look) (ls : List Look) (k : List PlainValue → Plan) (z : ℕ × ℕ × ℕ) where
  abbrev seen : List (ℕ × ℕ × ℕ)
  seen = if nat_le l.least m then (l.part, l.time, l.space) ∷ [] else []

  abbrev others : List (ℕ × ℕ × ℕ)
  others = gather m (λ i t s. (i, t, s) ∷ []) ls

  later_looks : (v : PlainValue) (o : Option (List PlainValue)) → In z (others ++ with_values o [] (λ ws. points_of m (k (v ∷ ws)) r))
      → In z ((seen ++ others) ++ with_values (add_value (Some v) o) [] (λ ws. points_of m (k ws) r))
  later_looks v None i =
      elim (in_either z others [] i) [
        | inl j ↦ in_left z (seen ++ others) [] (in_right z seen others j)
        | inr j ↦ absurd j
      ]
  later_looks v (Some ws) i =
      elim (in_either z others (points_of m (k (v ∷ ws)) r) i) [
        | inl j ↦ in_left z (seen ++ others) (points_of m (k (v ∷ ws)) r) (in_right z seen others j)
        | inr j ↦ in_right z (seen ++ others) (points_of m (k (v ∷ ws)) r) j
      ]

  first_look : (ys : List (ℕ × ℕ × ℕ)) → In z (seen ++ []) → In z ((seen ++ others) ++ ys)
  first_look ys i =
      elim (in_either z seen [] i) [
        | inl j ↦ in_left z (seen ++ others) ys (in_left z seen others j)
        | inr j ↦ absurd j
      ]

  looks_together : (o : Option PlainValue) → In z
      ((seen ++ []) ++ with_values (add_value o (Some [])) [] (λ vs. points_of m (single (λ v. looks ls (λ ws. k (v ∷ ws))) vs) r))
      → In z ((seen ++ others) ++ with_values (add_value o (all_values r ls)) [] (λ ws. points_of m (k ws) r))
  looks_together None i =
      elim (in_either z (seen ++ []) [] i) [
        | inl j ↦ first_look [] j
        | inr j ↦ absurd j
      ]
  looks_together (Some v) i =
      elim (in_either z (seen ++ []) (points_of m (looks ls (λ ws. k (v ∷ ws))) r) i) [
        | inl j ↦ first_look (with_values (add_value (Some v) (all_values r ls)) [] (λ ws. points_of m (k ws) r)) j
        | inr j ↦ later_looks v (all_values r ls) j
      ]

pub one_by_one : (most : ℕ) (l : Look) (ls : List Look) (k : List PlainValue → Plan)
    → AreFedAlike most (looks (l ∷ ls) k) (looks (l ∷ []) (single (λ v. looks ls (λ ws. k (v ∷ ws)))))
one_by_one most l ls k = record {
  fed = by_uses;
  look = λ some m r z i. looks_together m r l ls k z (r l.part l.time l.space) i;
}
  where
    by_uses : (value : Uses) (us : List ℕ) → length us ≤ most
        → fed value (looks (l ∷ ls) k) us ≡ fed value (looks (l ∷ []) (single (λ v. looks ls (λ ws. k (v ∷ ws))))) us
    by_uses value [] h = refl
    by_uses value (u ∷ us) h = first_value value ls k us (value l u)

-- no looks
pub no_looks : (most : ℕ) (k : List PlainValue → Plan) → AreFedAlike most (looks [] k) (k [])
no_looks most k = record { fed = λ value us h. refl; look = λ some m r z i. i }

-- The arguments of an operator from one on, behind some values: the first, and then the others,
module _ (op : Op) (t s : ℕ) where
  abbrev pub from_argument : (values : List PlainValue) → (left part : ℕ) → Plan
  from_argument vs n i = looks (arguments n i t s) (λ ws. gives (algebra op (vs ++ ws)))

  regrouped : (vs : List PlainValue) (n i : ℕ)
      → look i t s 0 (λ v. looks (arguments n (suc i) t s) (λ ws. gives (algebra op (vs ++ v ∷ ws)))) ≡ look i t s 0
      (λ v. from_argument (vs ++ v ∷ []) n (suc i))
  regrouped vs n i = λ j. look i t s 0 (λ v. looks (arguments n (suc i) t s) (λ ws. gives (algebra op (sym (append_assoc vs (v ∷ []) ws) j))))

  pub next_argument : (most m : ℕ) (vs : List PlainValue) (left i : ℕ) → left ≡ arity op - i → i < arity op
      → AreFedAlike most (from_argument vs left i) (look_plan m vs (record { part = i; time = t; space = s; then = then.Argument op }))
  next_argument most m vs left i e h =
      let n : left ≡ suc (arity op - suc i) = omega (arith, e, h) in
      alike_then most (from_argument vs left i) (from_argument vs (suc (arity op - suc i)) i)
      (look_plan m vs (record { part = i; time = t; space = s; then = then.Argument op }))
      (ap (λ (x : ℕ). from_argument vs x i) n)
      (alike_end most (from_argument vs (suc (arity op - suc i)) i)
      (look i t s 0 (λ v. looks (arguments (arity op - suc i) (suc i) t s) (λ ws. gives (algebra op (vs ++ v ∷ ws)))))
      (look_plan m vs (record { part = i; time = t; space = s; then = then.Argument op }))
      (one_by_one most (record { part = i; time = t; space = s; least = 0 }) (arguments (arity op - suc i) (suc i) t s) (λ ws. gives (algebra op (vs ++ ws))))
      (regrouped vs (arity op - suc i) i))

  pub argument_next : (most m : ℕ) (vs : List PlainValue) (i : ℕ) → i + 1 < arity op
      → AreFedAlike most (from_argument vs (arity op - suc i) (suc i)) (look_plan m vs (record { part = i + 1; time = t; space = s; then = then.Argument op }))
  argument_next most m vs i h =
      let e : i + 1 ≡ suc i = omega arith in
      let P : ℕ → Type 0 = λ x. AreFedAlike most (from_argument vs (arity op - suc i) x)
      (look_plan m vs (record { part = i + 1; time = t; space = s; then = then.Argument op })) in
      subst P e (next_argument most m vs (arity op - suc i) (i + 1) (omega arith) h)

  -- and with none left its value.
  pub last_argument : (most : ℕ) (vs : List PlainValue) (left i : ℕ) → left ≡ 0 → AreFedAlike most (from_argument vs left i) (gives (algebra op vs))
  last_argument most vs left i e =
      alike_then most (from_argument vs left i) (looks [] (λ ws. gives (algebra op (vs ++ ws)))) (gives (algebra op vs))
      (ap (λ (x : ℕ). from_argument vs x i) e)
      (alike_end most (looks [] (λ ws. gives (algebra op (vs ++ ws)))) (gives (algebra op (vs ++ []))) (gives (algebra op vs))
      (no_looks most (λ ws. gives (algebra op (vs ++ ws))))
      (ap (λ (x : List PlainValue). gives (algebra op x)) (append-nil vs)))
