-- The test of two values decides whether they are one.
use Rattle.std.proofs.Common.{◌≡◌, true, false, refl, ap, subst}
use Rattle.std.specs.Bool.{Decides}
use Rattle.std.specs.Cmp.Derive.{both_true}
use Rattle.std.specs.Cmp.{signed_Decides, IsPartialEquivalence, partial_equiv_from_equiv, decided, on_per}
use Rattle.std.proofs.lemmas.Bool.Decides.{Decides-eqb}
use Rattle.std.proofs.lemmas.Slice.Eq.{slice_eq-Decides}
use Rattle.std.proofs.lemmas.Bool.{and_parts}
use Rattle.lucid_value.specs.Plain.{PlainValue, int, truth, word, text, list, eod, fault, Items, no_items, item}
use Rattle.lucid_value.specs.View.{plain}
use Rattle.lucid_value.specs.declared.Value.{Value}
use Rattle.lucid_value.specs.Equality.{same_value, same_items}

-- what the test calls one is one
mutual
  alike : (v w : PlainValue) → same_value v w ≡ true → v ≡ w
  alike (int m) (int n) h = ap int ((signed_Decides m n).0 h)
  alike (truth true) (truth true) h = refl
  alike (truth true) (truth false) h = cc
  alike (truth false) (truth true) h = cc
  alike (truth false) (truth false) h = refl
  alike (word bs) (word cs) h = ap word ((slice_eq-Decides Decides-eqb bs cs _ refl).0 h)
  alike (text bs) (text cs) h = ap text ((slice_eq-Decides Decides-eqb bs cs _ refl).0 h)
  alike (list vs) (list ws) h = ap list (all_alike vs ws h)
  alike eod eod h = refl
  alike fault fault h = refl
  alike (truth true) _ h = cc
  alike (truth false) _ h = cc
  alike _ _ h = cc

  all_alike : (vs ws : Items) → same_items vs ws ≡ true → vs ≡ ws
  all_alike no_items no_items h = refl
  all_alike no_items (item w ws) h = cc
  all_alike (item v vs) no_items h = cc
  all_alike (item v vs) (item w ws) h =
      let p = and_parts (same_value v w) (same_items vs ws) h in
      λ i. item (alike v w p.0 i) (all_alike vs ws p.1 i)

-- the test calls each value itself
mutual
  self_alike : (v : PlainValue) → same_value v v ≡ true
  self_alike (int m) = (signed_Decides m m).1 refl
  self_alike (truth true) = refl
  self_alike (truth false) = refl
  self_alike (word bs) = (slice_eq-Decides Decides-eqb bs bs _ refl).1 refl
  self_alike (text bs) = (slice_eq-Decides Decides-eqb bs bs _ refl).1 refl
  self_alike (list vs) = all_self_alike vs
  self_alike eod = refl
  self_alike fault = refl

  all_self_alike : (vs : Items) → same_items vs vs ≡ true
  all_self_alike no_items = refl
  all_self_alike (item v vs) = both_true (self_alike v) (all_self_alike vs)

-- the test says whether two plain values are equal
pub same_decides : (v w : PlainValue) → Decides (same_value v w) (v ≡ w)
same_decides v w = (alike v w, λ e. let P : PlainValue → Type 0 = λ x. same_value v x ≡ true in subst P e (self_alike v))

-- so `==` of values is symmetric and transitive
pub values_per : IsPartialEquivalence (λ (v w : Value). same_value (plain v) (plain w))
values_per = on_per plain (partial_equiv_from_equiv (decided same_value same_decides))
