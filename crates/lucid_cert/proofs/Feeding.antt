-- A plan that is fed use by use.
use Rattle.lucid_cert.proofs.CheckCommon.{◌≡◌, ℕ, ◌+◌, ◌<◌, ◌≤◌, List, [], ◌∷◌, map, length, Option, Some, None, get_or, refl, sym, ap, ◌∙◌, subst, arith, PlainValue, Head, plan, Context, row_at, Node, Table, PlainJudgment, Uses, fed, used, of_part, HasHead, told, Rest, ◌++◌, take, drop, add-one, length-drop, AllByRecursion, take-suc, drop-cons, take-length, drop-length, map-append}
use Rattle.lucid_cert_rules.specs.RestPlans.{by_then, look_plan, least_of, rest_plan, CanGoOn, Stands, AreFedAlike}
use Rattle.lucid_cert.specs.Uses.{gives_only, plain_look, FedTo, FeedsTo}
use Rattle.lucid_cert_rules.specs.declared.rest.Look.{Look}
use Rattle.lucid_cert_rules.specs.declared.rest.Rest.TheVariants as rest
use Rattle.lucid_cert.proofs.Using.{fed_on}

-- one more use: it feeds the look that stands next
pub feeds_on : (value : Uses) (o : Option PlainValue) (m most : ℕ) (vs : List PlainValue) (l : Look) (u : ℕ) (us : List ℕ) (v : PlainValue) (r : Rest)
    → o ≡ fed value (look_plan m vs l) (u ∷ us)
    → value (plain_look l) u ≡ Some v → AreFedAlike most (by_then m vs l.then l.part l.time l.space v) (rest_plan m (vs ++ v ∷ []) r) → length us ≤ most
    → o ≡ fed value (rest_plan m (vs ++ v ∷ []) r) us
feeds_on value o m most vs l u us v r e h a n = e
    ∙ (fed_on value l.part l.time l.space (least_of l.then l.time) (by_then m vs l.then l.part l.time l.space) u us v h ∙ a.fed value us n)

-- what gives a value takes no use more
abbrev pub IsNoLook : Rest → Type 0
IsNoLook (rest.Look l) = ⊥
IsNoLook _ = Unit {0}

pub one_too_many : (value : Uses) (m : ℕ) (vs : List PlainValue) (r : Rest) (u : ℕ) (us : List ℕ) → IsNoLook r → fed value (rest_plan m vs r) (u ∷ us) ≡ None
one_too_many value m vs (rest.Look l) u us h = absurd h
one_too_many value m vs (rest.Value v) u us h = refl
one_too_many value m vs (rest.Truth b) u us h = refl
one_too_many value m vs rest.End u us h = refl
one_too_many value m vs rest.Fault u us h = refl
one_too_many value m vs (rest.Apply op) u us h = refl

-- without a use left, a plan gives its value or none
pub gives_alone : (value : Uses) (m : ℕ) (vs : List PlainValue) (r : Rest) (v : PlainValue) → gives_only (rest_plan m vs r) v
    → fed value (rest_plan m vs r) [] ≡ Some v
gives_alone value m vs (rest.Look l) v h = absurd h
gives_alone value m vs (rest.Value w) v h = ap Some h
gives_alone value m vs (rest.Truth b) v h = ap Some h
gives_alone value m vs rest.End v h = ap Some h
gives_alone value m vs rest.Fault v h = ap Some h
gives_alone value m vs (rest.Apply op) v h = ap Some h

-- a rest that isn't a look
pub no_look : (r : Rest) → ((l : Look) → r ≡ rest.Look l → ⊥) → IsNoLook r
no_look (rest.Look l) h = h l refl
no_look (rest.Value v) h = tt
no_look (rest.Truth b) h = tt
no_look rest.End h = tt
no_look rest.Fault h = tt
no_look (rest.Apply op) h = tt

-- so a plan without uses is one whatever uses have
pub fed_alone : (value other : Uses) (m : ℕ) (vs : List PlainValue) (r : Rest) → fed value (rest_plan m vs r) [] ≡ fed other (rest_plan m vs r) []
fed_alone value other m vs (rest.Look l) = refl
fed_alone value other m vs (rest.Value w) = refl
fed_alone value other m vs (rest.Truth b) = refl
fed_alone value other m vs rest.End = refl
fed_alone value other m vs rest.Fault = refl
fed_alone value other m vs (rest.Apply op) = refl

module _ (T : Table) (cs : List (Option Context)) (js : List PlainJudgment) (i : ℕ) (node : Node) (c : Context) (j : PlainJudgment) where
  -- the values that its uses have for a row
  abbrev value_of : ℕ → Uses
  value_of id = of_part T (used cs js i) id c

  -- the limit of its plan
  abbrev most : ℕ
  most = j.time + length j.uses

  -- So many uses feed the plan of the form to this rest, which the others feed on; and they are earlier judgments.
  pub record FedSoFar (k : ℕ) (r : Rest) : Type 0 where
    pub plan : (id : ℕ) (f : Head) → row_at T id ≡ Some node → HasHead T node f
        → fed (value_of id) (plan most f j.time j.space) j.uses ≡ fed (value_of id) (rest_plan most (map (told js) (take k j.uses)) r) (drop k j.uses)
    pub stands : Stands k r
    pub earlier : AllByRecursion (λ u. u < i) (take k j.uses)

  -- none do at first;
  pub none_fed : (r : Rest) → ((f : Head) → HasHead T node f → (m most : ℕ) → j.time + most ≤ m → AreFedAlike most (plan m f j.time j.space) (rest_plan m [] r))
      → Stands 0 r → FedSoFar 0 r
  none_fed r begins stands = record {
    plan = λ id f there has. (begins f has most (length j.uses) (omega arith)).fed (value_of id) j.uses (omega arith);
    stands = stands;
    earlier = tt;
  }

  module _ (k : ℕ) (below : k < length j.uses) (next : ℕ) (is_next : next ≡ get_or j.uses k 0) where
    left : drop k j.uses ≡ next ∷ drop (k + 1) j.uses
    left = rw (add-one, is_next) (drop-cons j.uses k 0 below)

    taken_next : take (k + 1) j.uses ≡ take k j.uses ++ next ∷ []
    taken_next = rw (add-one, is_next) (take-suc j.uses k 0 below)

    -- one more use that the next look takes;
    module _ (l : Look) (s : FedSoFar k (rest.Look l)) (v : PlainValue) (r : Rest)
        (taken : (id : ℕ) → row_at T id ≡ Some node → Some v ≡ value_of id (plain_look l) next) (earlier : next < i) (is : v ≡ told js next) where
      told_next : map (told js) (take (k + 1) j.uses) ≡ map (told js) (take k j.uses) ++ v ∷ []
      told_next = ap (map (told js)) taken_next ∙ (map-append (told js) (take k j.uses) (next ∷ [])
          ∙ ap (λ x. map (told js) (take k j.uses) ++ x ∷ []) (sym is))

      pub one_more_fed : ((m k most : ℕ) (vs : List PlainValue) → CanGoOn k l → k + 1 + most ≤ m
          → AreFedAlike most (by_then m vs l.then l.part l.time l.space v) (rest_plan m (vs ++ v ∷ []) r)) → ((k : ℕ) → CanGoOn k l
          → Stands (k + 1) r) → FedSoFar (k + 1) r
      one_more_fed goes stands = record {
        plan = λ id f there has.
            let us = drop (k + 1) j.uses in
            let vs = map (told js) (take k j.uses) in
            let few : k + 1 + length us ≤ most = omega (arith, below, length-drop (k + 1) j.uses) in
            feeds_on (value_of id) (fed (value_of id) (plan most f j.time j.space) j.uses) most (length us) vs l next us v r
            (s.plan id f there has ∙ ap (λ (x : List ℕ). fed (value_of id) (look_plan most vs l) x) left) (sym (taken id there))
            (goes most k (length us) vs s.stands few) (omega arith)
            ∙ ap (λ (x : List PlainValue). fed (value_of id) (rest_plan most x r) us) (sym told_next);
        stands = stands k s.stands;
        earlier = subst (AllByRecursion (λ u. u < i)) (sym taken_next) (all_and (take k j.uses) s.earlier);
      }
        where
          all_and : (us : List ℕ) → AllByRecursion (λ u. u < i) us → AllByRecursion (λ u. u < i) (us ++ next ∷ [])
          all_and [] h = (earlier, tt)
          all_and (u ∷ us) h = (h.0, all_and us h.1)

    pub one_use_too_many : (r : Rest) → IsNoLook r → FedSoFar k r → FedTo T cs js i node c j None
    one_use_too_many r none s id f there has =
        s.plan id f there has ∙ (ap (λ (x : List ℕ). fed (value_of id) (rest_plan most (map (told js) (take k j.uses)) r) x) left
        ∙ one_too_many (value_of id) most (map (told js) (take k j.uses)) r next (drop (k + 1) j.uses) none)

  -- all do at last
  pub all_fed : (k : ℕ) (r : Rest) → k ≡ length j.uses → FedSoFar k r → FeedsTo T cs js i node c j r
  all_fed k r e h =
      let s = subst (λ n. FedSoFar n r) e h in
      record {
        plan = λ id f there has.
            s.plan id f there has
            ∙ (ap (λ (x : List ℕ). fed (value_of id) (rest_plan most (map (told js) x) r) (drop (length j.uses) j.uses)) (take-length j.uses)
            ∙ (ap (λ (x : List ℕ). fed (value_of id) (rest_plan most (map (told js) j.uses) r) x) (drop-length j.uses)
            ∙ fed_alone (value_of id) (λ l u. None) most (map (told js) j.uses) r));
        stands = s.stands;
        earlier = subst (AllByRecursion (λ u. u < i)) (take-length j.uses) s.earlier;
      }
