-- The scopes and the nodes of a table nest.
use Rattle.lucid_compile.proofs.Common.{◌≡◌, ℕ, zero, suc, ◌+◌, ◌<◌, List, [], ◌∷◌, Some, slice_get, sym, ap, ◌∙◌, subst, arith, none-some, ScopeKind, Root, ScopeRow, NodeRow, Table, parts, EachBelow, Sizes, sizes, NodeNames, NodesAreInRange, IsInRange, Numbered, Note, EachRow, IsOpen, IsScopeRow, ScopesHold, IsNodeRow, NodesHold, NodeFits, ScopesNest, NodesNest}
use Rattle.lucid_equations.specs.declared.rows.ScopeKind.TheVariants.{Called as CalledScope, Frozen as FrozenScope}
use Rattle.lucid_compile.specs.Static.{Static, outermost, in_block, in_function}
use Rattle.lucid_compile.proofs.Pairs.{thing-at}
use Rattle.lucid_compile.proofs.Depths.{scope-row}

frozen-no-root : (k : ScopeKind) → k ≡ FrozenScope → k ≡ Root → ⊥
frozen-no-root k e q =
    let f : FrozenScope ≡ Root = sym e ∙ q in
    cc

called-no-root : (k : ScopeKind) → k ≡ CalledScope → k ≡ Root → ⊥
called-no-root k e q =
    let f : CalledScope ≡ Root = sym e ∙ q in
    cc

nested : (ks : List Static) (i : ℕ) (r : ScopeRow) (s : Static) → 0 < i → IsScopeRow ks i r s → (r.parent < i) × (r.kind ≡ Root → ⊥)
nested ks i r outermost b h = absurd (omega (arith, b, h.0))
nested ks i r (in_block ds q) b h = (h.1, frozen-no-root r.kind h.0)
nested ks i r (in_function d ns ats q) b h = (h.1, called-no-root r.kind h.0)

pub scopes-nest : (t : Table) (ks : List Static) → IsOpen ks 0 outermost → ScopesHold ks t.scopes ks → ScopesNest t
scopes-nest t ks o h =
    let first = scope-row t.scopes ks h 0 outermost o in
    record {
      first = first.there ∙ ap Some first.is.1;
      others = λ s p k b e. (let f = thing-at (IsScopeRow ks) 0 t.scopes ks s (record { parent = p; kind = k }) h e in let n : 0 + s ≡ s = omega arith in
          nested ks s (record { parent = p; kind = k }) f.thing b (subst (λ y. IsScopeRow ks y (record { parent = p; kind = k }) f.thing) n f.is));
    }

-- a row of some
pub each-at : {A : Type 0} (P : A → Type 0) (rs : List A) (i : ℕ) (r : A) → EachRow P rs → slice_get rs i ≡ Some r → P r
each-at P [] i r h e = absurd (none-some r e)
each-at P (x ∷ rs) zero r h e =
    let same : x ≡ r = cc in
    subst P same h.0
each-at P (x ∷ rs) (suc i) r h e = each-at P rs i r h.1 e

there-at : (z : Sizes) (i : ℕ) (rs : List NodeRow) (j : ℕ) (r : NodeRow) → NodesAreInRange z i rs → slice_get rs j ≡ Some r → NodeNames z r.node
there-at z i [] j r h e = absurd (none-some r e)
there-at z i (x ∷ rs) zero r h e =
    let same : x ≡ r = cc in
    subst (λ y. NodeNames z y.node) same h.0.1
there-at z i (x ∷ rs) (suc j) r h e = there-at z (suc i) rs j r h.1 e

pub nodes-nest : (t : Table) (w : Numbered) (ks : List Static) (ss : List Note) → IsInRange t → NodesHold w ks t.nodes ss
    → EachRow (NodeFits t.scopes t.nodes) t.nodes → NodesNest t
nodes-nest t w ks ss ranged h f = λ id r e.
    let fit : NodeFits t.scopes t.nodes r = each-at (NodeFits t.scopes t.nodes) t.nodes id r f e in
    let n : 0 + id ≡ id = omega arith in
    let v = thing-at (IsNodeRow w ks) 0 t.nodes ss id r h e in
    record { lower = subst (λ y. EachBelow y (parts r.node)) n v.is.0; stand = fit.0; there = there-at (sizes t) 0 t.nodes id r ranged.2 e; filled = fit.1 }
