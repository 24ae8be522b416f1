-- From the descents through a tree to what is said of its graph.
use Rattle.lucid_cycles.proofs.Common.{◌≡◌, ℕ, zero, suc, ◌<◌, ◌≤◌, List, [], ◌++◌, length, map, take, fold, Option, Some, ◌⊎◌, inl, inr, sym, ap, subst, ◌∙◌, arith, pos, MatchOption, All, All-map, All-weaker, PlainTree, Edge, Names, Survey, outside, plain_names, IsFirstOutside, Bindings, edges, graph, factor_of, Falls, Adds, HasParts, EnoughIsEnough, with_name, listed_names, HasAsked, marks, HasNames, Result, IsOk, OnOk, Infallible, ∥∥₁_elim, props}
use Rattle.std.proofs.Common.{None}
use Rattle.std.specs.Prelude.{Ok, Err}
use Rattle.lucid_scope.specs.Bindings.{IsResolved}
use Rattle.lucid_cycles.specs.declared.judgment.Judgment.{Judgment}
use Rattle.lucid_cycles.specs.declared.judgment.Judgment.TheVariants.{Enough, Cycle}
use Rattle.lucid_cycles.specs.Graph.{numbered}
use Rattle.lucid_cycles.specs.Judgments.{names_of, IsEnough, IsGraphJudgment, IsJudgment}
use Rattle.lucid_cycles.specs.Laws.{IsDefinedAtDepth, IsDefinedAsJudged}
use Rattle.lucid_cycles.specs.Walks.{lesser}
use Rattle.lucid_cycles.specs.Readers.{Surveys, IsSurvey}
use Rattle.lucid_cycles.proofs.Lists.{all-both, all-unmap}
use Rattle.lucid_cycles.proofs.Table.{roomy, crowded, none-outside, first-outside}
use Rattle.lucid_cycles.proofs.Defined.{names-places}

le-or : (x n : ℕ) → (x ≤ n) ⊎ (n < x)
le-or zero n = inl (omega arith)
le-or (suc x) zero = inr (omega arith)
le-or (suc x) (suc n) = elim (le-or x n) [ inl h ↦ inl (omega (arith, h)) | inr h ↦ inr (omega (arith, h)) ]

-- what is outside, by the least place of it
outside-by : (e : PlainTree) (o : Option ℕ) → o ≡ fold lesser None (outside e) → MatchOption o (outside e ≡ []) (λ at. IsFirstOutside e at)
outside-by e None q = none-outside (outside e) q
outside-by e (Some at) q = first-outside e at q

-- a walk from nothing gives the survey
pub is-survey : (e : PlainTree) (b : Bindings) (s t : Survey) (r : Result (Unit {0}) Infallible) → s.names.count ≡ 0 → length s.names.places ≡ 2000
    → s.outside ≡ None → Surveys s (marks b None (pos 0) e) r t → IsSurvey e t
is-survey e b s t a z r o h =
    let f : t.names ≡ fold with_name s.names (plain_names e) = h.names ∙ ap (fold with_name s.names) (sym (names-places e)) in record {
      names = λ few. let q = roomy (plain_names e) s.names t.names f r (omega (arith, z, few)) in
          record { count = omega (arith, q.count, z); listed = q.listed ∙ ap (λ k. take k s.names.places ++ plain_names e) z };
      many = λ l. omega (arith, crowded (plain_names e) s.names t.names f (omega (arith, z)) (omega (arith, z, l)));
      outside = outside-by e t.outside (h.outside ∙ ap (λ x. fold lesser x (outside e)) o);
    }

-- names that are few by their count are
few-by : (e : PlainTree) (s : Survey) → IsSurvey e s → s.names.count ≤ 2000 → (names_of e ≤ 2000) ⊎ (2000 < names_of e) → names_of e ≤ 2000
few-by e s i h (inl l) = l
few-by e s i h (inr l) = let m = i.many l in absurd (omega (arith, m, h))

pub few-names : (e : PlainTree) (s : Survey) → IsSurvey e s → s.names.count ≤ 2000 → names_of e ≤ 2000
few-names e s i h = few-by e s i h (le-or (names_of e) 2000)

pub graph-is : (e : PlainTree) (b : Bindings) (m : Names) (es : List Edge) → HasNames e m → es ≡ map (numbered (listed_names m)) (edges b None (pos 0) e)
    → es ≡ graph e b
graph-is e b m es h q = q ∙ ap (λ ds. map (numbered ds) (edges b None (pos 0) e)) h.listed

pub judgment-is : (e : PlainTree) (b : Bindings) (es : List Edge) (n : ℕ) (j : Judgment) → es ≡ graph e b → n ≡ names_of e → IsGraphJudgment es n j
    → IsJudgment e b j
judgment-is e b es n j q r h = subst (λ k. IsGraphJudgment (graph e b) k j) r (subst (λ g. IsGraphJudgment g n j) q h)

-- what the edges ask, and what is enough
pub enough-from : (e : PlainTree) (b : Bindings) (m : Names) (factor add : ℕ) (p : List ℕ) → HasNames e m → length p ≡ m.count → factor ≡ factor_of m.count
    → 2 ≤ add
    → All (HasAsked (listed_names m) factor p add) (edges b None (pos 0) e) → IsEnough e b factor add p
enough-from e b m factor add p h l f t a =
    let ds : List ℕ = plain_names e in
    let same : factor ≡ factor_of (names_of e) = f ∙ ap factor_of h.count in
    let asked : All (HasAsked ds factor p add) (edges b None (pos 0) e) = subst (λ xs. All (HasAsked xs factor p add) (edges b None (pos 0) e)) h.listed a in
    let falls : All (Falls factor p) (graph e b) =
    All-map (Falls factor p) (numbered ds) (edges b None (pos 0) e)
    (All-weaker (HasAsked ds factor p add) (λ x. Falls factor p (numbered ds x)) (λ x k. k.falls) (edges b None (pos 0) e) asked) in
    let adds : All (Adds factor p add) (graph e b) =
    All-map (Adds factor p add) (numbered ds) (edges b None (pos 0) e)
    (All-weaker (HasAsked ds factor p add) (λ x. Adds factor p add (numbered ds x)) (λ x k. k.adds) (edges b None (pos 0) e) asked) in
    record {
      factor_is = same;
      potentials = record { each = l ∙ h.count; fall = subst (λ k. All (Falls k p) (graph e b)) same falls };
      added = record { two = t; adds = subst (λ k. All (Adds k p add) (graph e b)) same adds };
    }

pub enough-asks : (e : PlainTree) (b : Bindings) (m : Names) (factor add : ℕ) (p : List ℕ) → HasNames e m → IsEnough e b factor add p
    → All (HasAsked (listed_names m) factor p add) (edges b None (pos 0) e)
enough-asks e b m factor add p h q =
    let ds : List ℕ = plain_names e in
    let falls : All (λ (x : Edge). Falls factor p (numbered ds x)) (edges b None (pos 0) e) =
    all-unmap (Falls factor p) (numbered ds) (edges b None (pos 0) e) (subst (λ k. All (Falls k p) (graph e b)) (sym q.factor_is) q.potentials.fall) in
    let adds : All (λ (x : Edge). Adds factor p add (numbered ds x)) (edges b None (pos 0) e) =
    all-unmap (Adds factor p add) (numbered ds) (edges b None (pos 0) e) (subst (λ k. All (Adds k p add) (graph e b)) (sym q.factor_is) q.added.adds) in
    subst (λ xs. All (HasAsked xs factor p add) (edges b None (pos 0) e)) (sym h.listed)
    (all-both (λ (x : Edge). Falls factor p (numbered ds x)) (λ (x : Edge). Adds factor p add (numbered ds x)) (HasAsked ds factor p add)
    (λ x f g. record { falls = f; adds = g }) (edges b None (pos 0) e) falls adds)

-- a depth that is enough is enough for a program that was resolved
pub defined : EnoughIsEnough → (e : PlainTree) (inputs : List (List ℕ)) (b : Bindings) (factor add : ℕ) (p : List ℕ) → HasParts e → ∥ IsResolved e inputs b ∥₁
    → outside e ≡ [] → IsEnough e b factor add p → IsDefinedAtDepth e factor add
defined law e inputs b factor add p parts resolved inside q elements there t s =
    ∥∥₁_elim resolved (hlevel props) (λ r. law e inputs b factor add p parts r inside q elements there t s)

-- what holds on success holds where there is some
pub ok-on : {E : Type 0} (P : Type 0) (r : Result (Unit {0}) E) → IsOk r → OnOk r P → P
ok-on P (Ok x) o p = p
ok-on P (Err e) o p = absurd (let k = o in cc)

-- and so is the depth of a judgment
pub judged-defined : EnoughIsEnough → (e : PlainTree) (inputs : List (List ℕ)) (b : Bindings) (j : Judgment) → HasParts e → ∥ IsResolved e inputs b ∥₁
    → outside e ≡ [] → IsJudgment e b j → IsDefinedAsJudged e j
judged-defined law e inputs b (Enough f c p) parts resolved inside q =
    defined law e inputs b f c p parts resolved inside (record { factor_is = q.factor_is; potentials = q.potentials.are; added = q.added.enough })
judged-defined law e inputs b (Cycle names delays) parts resolved inside q = tt
