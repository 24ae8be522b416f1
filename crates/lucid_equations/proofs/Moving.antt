-- A form whose plan gives one part at one point reads and visits what that part does there.
use Rattle.lucid_equations.proofs.Common.{◌≡◌, ℕ, zero, suc, ◌+◌, Bool, true, false, List, [], ◌++◌, Option, Some, None, refl, sym, ap, ◌∙◌, subst, if◌then◌else◌, filter_map, append-nil, none-some, PlainValue, In, Head, Plan, Reader, gives, run, trace, with_values, Elements, Given, nothing_held, Below, below, deeper, reference_of, Context, frozen_frame, PlainNode, PlainNodes, no_nodes, node, row, freeze, part_of, Equations, Daton, NodePosition, NodeAim, node_hval, node_value, value_at, part_at, NodeEvents, node_visits, node_walk, walk_at, walk_part, IsNeeded, nat_lt}
use Rattle.lucid_lists.proofs.Numbers.{zero_le}
use Rattle.lucid_value.specs.Plain.{fault}
use Rattle.lucid_tree.specs.Tree.{first, next, fby, initial, succ, sby}
use Rattle.lucid_tree.specs.Rows.{gives_part, add_value, single, last}
use Rattle.lucid_equations.specs.Moving.{onward, OnlyMoves}
use Rattle.lucid_equations.specs.declared.step.PartAt.{PartAt}

-- a plan that gives a part gives the part's value, and sees what the part sees
part_runs : (r : Reader (Option PlainValue)) (i t s : ℕ) → run (gives_part i t s) r ≡ r i t s
part_runs r i t s = go (r i t s)
  where
    go : (o : Option PlainValue) → with_values (add_value o (Some [])) None (λ vs. run (single gives vs) r) ≡ o
    go None = refl
    go (Some v) = refl

part_sees : {A : Type 0} (m : ℕ) (decide : Reader (Option PlainValue)) (see : Reader (List A)) (i t s : ℕ) → trace m (gives_part i t s) decide see ≡ see i t s
part_sees m decide see i t s = ap (λ c. ((if c then see i t s else []) ++ []) ++ with_values (add_value (decide i t s) (Some [])) []
    (λ vs. trace m (single gives vs) decide see)) (zero_le m) ∙ go (decide i t s)
  where
    go : (o : Option PlainValue) → (see i t s ++ []) ++ with_values (add_value o (Some [])) [] (λ vs. trace m (single gives vs) decide see) ≡ see i t s
    go None = append-nil (see i t s ++ []) ∙ append-nil (see i t s)
    go (Some v) = append-nil (see i t s ++ []) ∙ append-nil (see i t s)

-- a part by its number
pub part-read : (p : Equations) (m : ℕ) (b : Below Daton NodePosition) (es : PlainNodes) (i : ℕ) (e : PlainNode) → part_of es i ≡ Some e
    → (c : Context) (t s : ℕ) → part_at p m b es c i t s ≡ value_at p m b e c t s
part-read p m b no_nodes i e h c t s = absurd (none-some e h)
part-read p m b (node x es) zero e h c t s = let q : x ≡ e = cc in ap (λ z. value_at p m b z c t s) q
part-read p m b (node x es) (suc i) e h c t s = part-read p m b es i e h c t s

pub part-walked : (p : Equations) (g : Given Daton) (m d : ℕ) (deep : NodeAim → ℕ → NodeEvents) (es : PlainNodes) (i : ℕ) (e : PlainNode)
    → part_of es i ≡ Some e → (c : Context) (t s : ℕ) → walk_part p g m d deep es c i t s ≡ walk_at p g m d deep e c t s
part-walked p g m d deep no_nodes i e h c t s = absurd (none-some e h)
part-walked p g m d deep (node x es) zero e h c t s = let q : x ≡ e = cc in ap (λ z. walk_at p g m d deep z c t s) q
part-walked p g m d deep (node x es) (suc i) e h c t s = part-walked p g m d deep es i e h c t s

module _ (p : Equations) (f : Head) (es : PlainNodes) (e : PlainNode) (t s : ℕ) (q : PartAt) (only : OnlyMoves f t s q) (is : part_of es q.part ≡ Some e) where
  pub moved-value : (g : Given Daton) (m : ℕ) (c : Context) → node_hval p g m (row f es) c t s ≡ node_hval p g m e c q.time q.space
  moved-value g m c =
      ap (λ z. run z (λ i u r. part_at p m (below (node_value p) g m) es c i u r)) (only m)
      ∙ part_runs (λ i u r. part_at p m (below (node_value p) g m) es c i u r) q.part q.time q.space
      ∙ part-read p m (below (node_value p) g m) es q.part e is c q.time q.space

  pub moved-visits : (b : Elements) (m d : ℕ) (c : Context) → node_visits p b m d (row f es) c t s ≡ node_visits p b m d e c q.time q.space
  moved-visits b m d c =
      ap (λ z. trace m z (λ i u r. part_at p (m + d) (below (node_value p) (nothing_held b) (m + d)) es c i u r)
      (λ i u r. walk_part p (nothing_held b) m d (deeper (node_walk p (nothing_held b)) m d) es c i u r)) (only (m + d))
      ∙ part_sees m (λ i u r. part_at p (m + d) (below (node_value p) (nothing_held b) (m + d)) es c i u r)
      (λ i u r. walk_part p (nothing_held b) m d (deeper (node_walk p (nothing_held b)) m d) es c i u r) q.part q.time q.space
      ∙ part-walked p (nothing_held b) m d (deeper (node_walk p (nothing_held b)) m d) es q.part e is c q.time q.space

  pub moved-needs : (b : Elements) (c : Context) (d : Daton × ℕ)
      → (IsNeeded p b (row f es) c t s d → IsNeeded p b e c q.time q.space d) × (IsNeeded p b e c q.time q.space d → IsNeeded p b (row f es) c t s d)
  moved-needs b c d = (
    λ n. (n.0, n.1, sym (moved-value (nothing_held b) n.0 c) ∙ n.2, subst (λ xs. In d (filter_map reference_of xs)) (moved-visits b n.0 0 c) n.3),
    λ n. (n.0, n.1, moved-value (nothing_held b) n.0 c ∙ n.2, subst (λ xs. In d (filter_map reference_of xs)) (sym (moved-visits b n.0 0 c)) n.3),
  )

pub frozen-needs : (p : Equations) (e : PlainNode) (b : Elements) (c : Context) (t s : ℕ) (d : Daton × ℕ)
    → (IsNeeded p b (freeze e) c t s d → IsNeeded p b e (frozen_frame t c) t s d) × (IsNeeded p b e (frozen_frame t c) t s d → IsNeeded p b (freeze e) c t s d)
frozen-needs p e b c t s d = (λ n. n, λ n. n)

-- the plans of the six forms
no_move : (q : PartAt) → ◌≡◌ {A = Option PartAt} None (Some q) → ⊥
no_move q e = cc

same_move : (x q : PartAt) → Some x ≡ Some q → gives_part x.part x.time x.space ≡ gives_part q.part q.time q.space
same_move x q e = let h : x ≡ q = cc in ap (λ z. gives_part z.part z.time z.space) h

where_below : (b : Bool) (x q : PartAt) (off : Plan) → (if b then Some x else None) ≡ Some q
    → (if b then gives_part x.part x.time x.space else off) ≡ gives_part q.part q.time q.space
where_below true x q off e = same_move x q e
where_below false x q off e = absurd (no_move q e)

pub six-move : (f : Head) (t s : ℕ) (q : PartAt) → onward f t s ≡ Some q → OnlyMoves f t s q
six-move first t s q e m = same_move (record { part = 0; time = 0; space = s }) q e
six-move next t s q e m = where_below (nat_lt t last) (record { part = 0; time = suc t; space = s }) q (gives fault) e
six-move fby zero s q e m = same_move (record { part = 0; time = 0; space = s }) q e
six-move fby (suc u) s q e m = same_move (record { part = 1; time = u; space = s }) q e
six-move initial t s q e m = same_move (record { part = 0; time = t; space = 0 }) q e
six-move succ t s q e m = where_below (nat_lt s last) (record { part = 0; time = t; space = suc s }) q (gives fault) e
six-move sby t zero q e m = same_move (record { part = 0; time = t; space = 0 }) q e
six-move sby t (suc r) q e m = same_move (record { part = 1; time = t; space = r }) q e
six-move _ t s q e m = absurd (no_move q e)
