-- The judgment of a tree has at most one refusal, and none where the tree is judged.
use Rattle.lucid_top.proofs.Common.{◌≡◌, ℕ, suc, ◌<◌, ◌≤◌, List, [], ◌∷◌, length, get_or, inl, inr, sym, subst, arith, All-contains, PlainTree, In, IsJudged, IsJudgeRefusal, JudgeRefusal, Refusal, judge_stop, RefusesJudging, Contains}
use Rattle.lucid_cycles.specs.Judged.{outside, IsFirstOutside}
use Rattle.lucid_cycles.specs.declared.judgment.JudgeRefusal.TheVariants as judge
use Rattle.lucid_report.specs.declared.stop.Stop.TheVariants as stop

index_of : (x d : ℕ) (xs : List ℕ) → In x xs → (i : ℕ) × (i < length xs) × (get_or xs i d ≡ x)
index_of x d [] h = absurd h
index_of x d (y ∷ ys) (inl same) = (0, omega arith, sym same)
index_of x d (y ∷ ys) (inr later) = let k = index_of x d ys later in (suc k.0, omega (arith, k.1), k.2)

contained : (x : ℕ) (xs : List ℕ) → In x xs → Contains xs x
contained x xs i = let k = index_of x x xs i in (k.0, k.1, k.2)

first_once : (e : PlainTree) (a b : ℕ) → IsFirstOutside e a → IsFirstOutside e b → a ≡ b
first_once e a b x y =
    let there : a ≤ b = All-contains (λ p. a ≤ p) (outside e) b x.least (contained b (outside e) y.stands) in
    let back : b ≤ a = All-contains (λ p. b ≤ p) (outside e) a y.least (contained a (outside e) x.stands) in omega (arith, there, back)

none_outside : (e : PlainTree) (a : ℕ) → IsFirstOutside e a → outside e ≡ [] → ⊥
none_outside e a x none = let there : In a [] = subst (In a) none x.stands in absurd there

one_why : (e : PlainTree) (f g : JudgeRefusal) (v w : Refusal) → judge_stop f ≡ stop.Refused v → judge_stop g ≡ stop.Refused w → IsJudgeRefusal e f
    → IsJudgeRefusal e g → v ≡ w
one_why e (judge.Outside a) (judge.Outside b) v w is js r s =
    let at : a ≡ b = first_once e a b r s in cc (is, js, at)
one_why e (judge.Outside a) judge.TooMany v w is js r s = absurd (none_outside e a r s.0)
one_why e judge.TooMany (judge.Outside b) v w is js r s = absurd (none_outside e b s r.0)
one_why e judge.TooMany judge.TooMany v w is js r s = cc (is, js)
one_why e judge.NoMemory g v w is js r s = absurd (cc is)
one_why e f judge.NoMemory v w is js r s = absurd (cc js)

pub one_judging_refusal : (e : PlainTree) (v w : Refusal) → RefusesJudging e v → RefusesJudging e w → v ≡ w
one_judging_refusal e v w x y = one_why e x.refusal y.refusal v w x.is y.is x.refused y.refused

refused_not : (e : PlainTree) (f : JudgeRefusal) (v : Refusal) → IsJudged e → judge_stop f ≡ stop.Refused v → IsJudgeRefusal e f → ⊥
refused_not e (judge.Outside a) v judged is r = none_outside e a r judged.inside
refused_not e judge.TooMany v judged is r = let few = judged.few in absurd (omega (arith, few, r.1))
refused_not e judge.NoMemory v judged is r = absurd (cc is)

pub judged_not_refused : (e : PlainTree) (v : Refusal) → IsJudged e → RefusesJudging e v → ⊥
judged_not_refused e v judged x = refused_not e x.refusal v judged x.is x.refused
