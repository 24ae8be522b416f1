-- Where exactly what is needed is held, the approximations with that held are those with all that the values before needed, each with its
-- value.
use Rattle.lucid_session.proofs.Common.{◌≡◌, ℕ, Option, refl, sym, ap, ◌∙◌, arith, IsSome, ◌↔◌, option_map, PlainValue, In, Elements, HoldsExactly, referred, valued_of, root, Daton, node_val, eqval, visits, visited_values, visited_datons, Points, valued_datons, equations_of, node-meant_once, needed-visited, reached, HoldsRight, table_counted, IsDefinedAt, Start, IsNeededSoFar}
use Rattle.std.proofs.Common.{Some}
use Rattle.lucid_lists.proofs.Options.{value_there as some_value, same_values}
use Rattle.lucid_tree.specs.Levels.{nothing_held, reference_of}
use Rattle.lucid_tree.proofs.Members.{in_read}
use Rattle.lucid_equations.specs.Values.{eqhval}
use Rattle.lucid_equations.proofs.NodeGrowth.{node_hval-up}
use Rattle.lucid_equations.proofs.Needs.{gone-to}
use Rattle.lucid_demand_steps.specs.Stands.{Holding}
use Rattle.lucid_demand_steps.proofs.MoreRead.{held_means}
use Rattle.lucid_session.proofs.Lists.{some_is, from_flat, in_flat}
use Rattle.lucid_session.proofs.Carrying.{went-to, goes_on, values_at}

some_like : {A : Type 0} (o : Option A) (x y : A) → o ≡ Some x → y ≡ x → o ≡ Some y
some_like o x y e f = e ∙ ap Some (sym f)

-- a value, read with its daton and its space
read_as : (k : Daton) (s : ℕ) (o : Option PlainValue) (v : PlainValue) → o ≡ Some v
    → option_map {U = Daton × ℕ × PlainValue} (λ w. (k, s, w)) o ≡ Some (k, s, v)
read_as k s o v e = ap (option_map {U = Daton × ℕ × PlainValue} (λ w. (k, s, w))) e

module _ (z : Start) (b : Elements) (D : (time space : ℕ) → Type 0) (h : Holding) (right : HoldsRight (equations_of z.table) b h)
    (holds : (k : Daton) (s : ℕ) → (IsSome (h k s) → IsNeededSoFar z b D (k, s)) × (IsNeededSoFar z b D (k, s) → IsSome (h k s)))
    (points : Points) (exactly : (t s : ℕ) → In (t, s) points ↔ D t s) (m : ℕ) (defined : IsDefinedAt (table_counted z.table) b m points) where
  module _ (held : Holding) (all : HoldsExactly (valued_datons (equations_of z.table) b m points) held) where
    -- a value that is listed is the one held
    forth : (k : Daton) (s : ℕ) (v : PlainValue) → held k s ≡ Some v → h k s ≡ Some v
    forth k s v e =
        let p = equations_of z.table in
        let x = from_flat (λ (q : ℕ × ℕ). visited_values (equations_of z.table) b m q.0 q.1) (k, s, v) points ((all k s v).0 e) in
        let y = some_value (eqval p b m x.item.0 x.item.1) (defined x.item.0 x.item.1 x.among) in
        let w = went-to p b m (visits p b m 0 x.item.0 x.item.1) k s v x.gives in
        let there : In (k, s) (visited_datons p b m 0 x.item.0 x.item.1) =
        in_read reference_of (referred k w.position w.time s) (k, s) (visits p b m 0 x.item.0 x.item.1) refl w.there in
        let o = some_value (h k s) ((holds k s).1 (x.item.0, x.item.1, (exactly x.item.0 x.item.1).0 x.among, (m, y.0, y.1, there))) in
        let aim = goes_on z.table b m x.item.0 x.item.1 y.0 y.1 k s v w in
        let means = held_means p b h right k w.position w.time s o.0 aim o.1 in
        some_like (h k s) o.0 v o.1 (node-meant_once p b w.position.node w.position.context w.time s v o.0 (m, w.value) means)

    -- a value that is held is listed
    back : (k : Daton) (s : ℕ) (v : PlainValue) → h k s ≡ Some v → held k s ≡ Some v
    back k s v e =
        let p = equations_of z.table in
        let n = (holds k s).0 (some_is (h k s) v e) in
        let i : In (n.0, n.1) points = (exactly n.0 n.1).1 n.2 in
        let y = some_value (eqval p b m n.0 n.1) (defined n.0 n.1 i) in
        let g = gone-to k s (visits p b m 0 n.0 n.1) (needed-visited p b m p.root root n.0 n.1 y.0 (k, s) y.1 n.3) in
        let r = reached p b k g.position g.time s m p.root root n.0 n.1 y.0 y.1 g.there in
        let has : node_val p b m g.position.node g.position.context g.time s ≡ Some r.value =
        node_hval-up p (nothing_held b) r.limit m (omega (arith, r.lower)) g.position.node g.position.context g.time s r.value r.has in
        let means = held_means p b h right k g.position g.time s v r.goes e in
        let same : v ≡ r.value = node-meant_once p b g.position.node g.position.context g.time s v r.value means (m, has) in
        let there : In (k, s, r.value) (visited_values p b m n.0 n.1) =
        in_read (valued_of (values_at p b m)) (referred k g.position g.time s) (k, s, r.value) (visits p b m 0 n.0 n.1)
        (read_as k s (node_val p b m g.position.node g.position.context g.time s) r.value has) g.there in
        some_like (held k s) r.value v
        ((all k s r.value).1 (in_flat (λ (q : ℕ × ℕ). visited_values (equations_of z.table) b m q.0 q.1) (k, s, r.value) (n.0, n.1) points i there)) same

    pub same_held_value : (limit time space : ℕ) → eqhval (equations_of z.table) (record { element = b; held = held }) limit time space ≡ eqhval
        (equations_of z.table) (record { element = b; held = h }) limit time space
    same_held_value limit time space = λ i. eqhval (equations_of z.table)
        (record { element = b; held = λ k s. same_values (held k s) (h k s) (forth k s) (back k s) i }) limit time space
